-- What the reader of whole templates says of itself.
use Rattle.std.specs.Prelude.{◌≡◌, ℕ, Bool, true, false, List, [], ◌∷◌, ◌++◌}
use Rattle.pr_labels.specs.pr_forms.Form.{rule}
use Rattle.pr_labels.specs.pr_forms.Run.{good}
use Rattle.pr_tmpl.specs.declared.kind.TemplateByte.TheVariants.{Open}
use Rattle.pr_tmpl.specs.declared.letter.Letter.{Letter}
use Rattle.pr_tmpl.specs.declared.letter.Letter.TheVariants.{Plain}
use Rattle.pr_tmpl.specs.declared.template.Part.{Part}
use Rattle.pr_tmpl.specs.declared.template.Part.TheVariants.{Words}
use Rattle.pr_tmpl.specs.private.Letters.{IsLetter}
use Rattle.pr_tmpl.specs.private.Reader.{Gives, Hands}
use Rattle.pr_tmpl.specs.private.Pipes.{a_pipe}
use Rattle.pr_tmpl.specs.TemplateText.{parts, with_text, Text}

-- whether a letter is an opening brace
abbrev pub opens : Letter → Bool
opens (Plain Open b) = true
opens _ = false

-- parts with words before them, which may be none; the words alone
abbrev pub led_by : List ℕ → List Part → List Part
led_by [] ps = ps
led_by (b ∷ bs) ps = with_text (b ∷ bs) ps

abbrev pub words_part : List ℕ → List Part
words_part [] = []
words_part (b ∷ bs) = Words (b ∷ bs) ∷ []

-- There are only words up to the rest; up to the braces of a pipe, which follows; and in all of the
-- text.
pub record IsWords (text rest : List ℕ) : Type 0 where
  pub words : List ℕ
  pub bytes_are : text ≡ words ++ rest
  pub hands : Hands (rule Text) text (λ ps. parts (led_by words ps)) (rule Text) rest parts

abbrev pub IsOpened : List ℕ → List ℕ → List ℕ → Type 0
IsOpened text words rest = Hands (rule Text) text (λ ps. parts (led_by words ps)) a_pipe rest parts

abbrev pub IsAllWords : List ℕ → Type 0
IsAllWords text = Gives (rule Text) text (good (parts (led_by text [])) [])

-- A letter stands before the rest, which is an opening brace or none.
pub record IsStep (text : List ℕ) (brace : Bool) (rest : List ℕ) : Type 0 where
  pub letter : Letter
  pub is : IsLetter text letter rest
  pub so : opens letter ≡ brace

-- Two braces stand before the rest, and a pipe follows; or there are words before it.
abbrev pub IsTurn : List ℕ → Bool → List ℕ → Type 0
IsTurn text true rest = IsOpened text [] rest
IsTurn text false rest = IsWords text rest

-- The parts are those up to the rest.
abbrev pub HasPartsUpTo : List ℕ → List Part → List ℕ → Type 0
HasPartsUpTo text ps rest = Hands (rule Text) text (λ qs. parts (ps ++ qs)) (rule Text) rest parts
