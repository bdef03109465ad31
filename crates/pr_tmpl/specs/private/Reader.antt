-- What the functions of the reader of templates say of themselves.
use Rattle.std.specs.Prelude.{ℕ, List, ◌++◌}
use Rattle.std.specs.Str.{IsUtf8}
use Rattle.pr_labels.specs.pr_forms.Form.{Form}
use Rattle.pr_labels.specs.pr_forms.Run.{Runs, ReaderOutcome}
use Rattle.pr_labels.specs.pr_forms.Carries.{Carries}
use Rattle.pr_labels.specs.pr_forms.Reader.{FailsBy}
use Rattle.pr_labels.specs.pr_forms.declared.reader.Fault.{Fault}
use Rattle.pr_labels.specs.pr_words.private.Reader.{KeepsText}
use Rattle.pr_tmpl.specs.declared.kind.TemplateByte.{TemplateByte}
use Rattle.pr_tmpl.specs.declared.kind.TemplateByte.TheVariants.{Other}
use Rattle.pr_tmpl.specs.Pieces.{Piece, pieces}
use Rattle.pr_tmpl.specs.TemplateText.{Rule, TemplateValue, production}
use Rattle.pr_tmpl.specs.TemplateTable.{table}

-- The reader of the form gives the outcome at the text; it fails at the fault's text.
abbrev pub Gives : Form Piece Rule TemplateValue → List ℕ → ReaderOutcome Piece TemplateValue → Type 0
Gives f text o = Runs production table f (pieces text) o

abbrev pub FailsAt : Form Piece Rule TemplateValue → List ℕ → Fault ℕ → Type 0
FailsAt f text e = FailsBy pieces production table f (pieces text) e

-- After a part the rest decides, with the value changed, and with the same value.
abbrev pub Hands : {X : Type 0} → Form Piece Rule TemplateValue → List ℕ → (X → TemplateValue) → Form Piece Rule TemplateValue → List ℕ → (X → TemplateValue) → Type 0
Hands f text made g rest given = Carries production table f (pieces text) made g (pieces rest) given

abbrev pub Leads : Form Piece Rule TemplateValue → List ℕ → Form Piece Rule TemplateValue → List ℕ → Type 0
Leads f text g rest = Carries production table f (pieces text) (λ v. v) g (pieces rest) (λ v. v)

-- Where a text is UTF-8, so is what follows a byte of this kind. A byte of no kind of its own may
-- be a part of a longer character.
abbrev pub KeepsTextBy : TemplateByte → List ℕ → List ℕ → Type 0
KeepsTextBy Other text rest = Unit {0}
KeepsTextBy k text rest = KeepsText text rest

-- Where a front and the text are UTF-8 together, so is each of them; so are the front and the rest.
abbrev pub BeginsText : List ℕ → Type 0
BeginsText text = (front : List ℕ) → IsUtf8 (front ++ text) → IsUtf8 front × IsUtf8 text

abbrev pub CutsText : List ℕ → List ℕ → Type 0
CutsText text rest = (front : List ℕ) → IsUtf8 (front ++ text) → IsUtf8 front × IsUtf8 rest
