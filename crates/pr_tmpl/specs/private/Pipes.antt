-- What the readers of pipes say of themselves.
use Rattle.std.specs.Prelude.{◌≡◌, ℕ, List, ◌∷◌, ◌++◌}
use Rattle.pr_labels.specs.pr_forms.Form.{Form, pair, token, rule}
use Rattle.pr_labels.specs.pr_forms.Carries.{Carries}
use Rattle.pr_tmpl.specs.declared.template.Operand.{Operand}
use Rattle.pr_tmpl.specs.declared.template.Call.{Call}
use Rattle.pr_tmpl.specs.declared.template.Part.{Part}
use Rattle.pr_tmpl.specs.declared.template.Part.TheVariants.{Pipe}
use Rattle.pr_tmpl.specs.Pieces.{Piece, pieces}
use Rattle.pr_tmpl.specs.private.Reader.{Hands}
use Rattle.pr_tmpl.specs.TemplateText.{Rule, TemplateValue, parts, piped, call, blanks, blank_at, second_of, gone_through, production, Text, First, FromOperand, ACall, After, Next}
use Rattle.pr_tmpl.specs.TemplateTable.{table}

-- one blank or more, and then a form; blanks, and then a pipe from its first piece on
abbrev pub after_gap : Form Piece Rule TemplateValue → Form Piece Rule TemplateValue
after_gap f = pair second_of (token blank_at) (pair second_of blanks f)

abbrev pub a_pipe : Form Piece Rule TemplateValue
a_pipe = pair second_of blanks (rule First)

-- what stands after a bar
abbrev pub after_bar : Form Piece Rule TemplateValue
after_bar = pair second_of blanks (pair gone_through (rule ACall) (rule After))

-- the pipe, and the parts after it
abbrev pub piped_before : Operand → List Call → List Part → TemplateValue
piped_before o cs ps = parts (Pipe o cs ∷ ps)

-- a call between bars, up to what follows its blanks
abbrev pub IsCall : List ℕ → Call → List ℕ → Type 0
IsCall text c rest = Hands after_bar text (gone_through (call c)) (rule Next) rest (λ v. v)

-- The calls are those before the text and those that it has up to the rest.
pub record CallsSoFar (before : List Call) (text : List ℕ) (calls : List Call) (rest : List ℕ) : Type 0 where
  pub more : List Call
  pub calls_are : calls ≡ before ++ more
  pub hands : Carries {X = List Call × List Part} production table (rule After) (pieces text) (λ x. piped (more ++ x.0) x.1) (rule Next) (pieces rest) (λ x. piped x.0 x.1)

-- They are all of the pipe, and the parts after it follow.
pub record IsCalls (before : List Call) (text : List ℕ) (calls : List Call) (rest : List ℕ) : Type 0 where
  pub more : List Call
  pub calls_are : calls ≡ before ++ more
  pub hands : Hands (rule After) text (piped more) (rule Text) rest parts

-- The text is a pipe from its operand on, with calls before it.
pub record IsFromOperand (before : List Call) (text : List ℕ) (operand : Operand) (calls : List Call) (rest : List ℕ) : Type 0 where
  pub more : List Call
  pub calls_are : calls ≡ before ++ more
  pub hands : Hands (production FromOperand) text (piped_before operand more) (rule Text) rest parts

abbrev pub IsPipe : Form Piece Rule TemplateValue → List ℕ → Operand → List Call → List ℕ → Type 0
IsPipe f text operand calls rest = Hands f text (piped_before operand calls) (rule Text) rest parts
