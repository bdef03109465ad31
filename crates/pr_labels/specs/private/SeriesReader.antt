-- What the functions that read a series text say of themselves.
use Rattle.std.specs.Prelude.{◌≡◌, ℕ, List, [], ◌∷◌, ◌++◌, Bool, true, false, map}
use Rattle.pr_words.specs.pr_forms.Form.{Form, pair, rule}
use Rattle.pr_words.specs.pr_forms.Table.{is_next}
use Rattle.pr_words.specs.pr_forms.Run.{good, bad}
use Rattle.pr_words.specs.pr_forms.Language.{Language, Gives, Takes, Lacks, Carries}
use Rattle.pr_words.specs.declared.strings.kind.StringByte.{StringByte}
use Rattle.pr_words.specs.declared.strings.kind.StringByte.TheVariants.{Equal, Close}
use Rattle.pr_words.specs.Strings.{Letter, kind_of, letter_of, seen}
use Rattle.pr_labels.specs.declared.pair.Pair.{Pair}
use Rattle.pr_labels.specs.declared.series.series.Part.{Part}
use Rattle.pr_labels.specs.declared.series.series.Part.TheVariants.{MetricFirst, MetricNext, LabelFirst, LabelNext}
use Rattle.pr_labels.specs.SeriesGrammar.{production, Rule, SeriesValue, listed, mark, Listed, blanks, sign, second_of, is_letter_kind, is_label_kind, is_metric_letter_kind, is_metric_kind}
use Rattle.pr_labels.specs.SeriesTable.{table}

-- the language of series texts
abbrev pub series : Language ℕ Letter Rule SeriesValue
series = record { production = production; table = table; see = letter_of }

abbrev pub names_of : List Pair → List (List ℕ)
names_of = map (λ p. p.name)

-- The text begins with the name.
pub record BeginsWith (text : List ℕ) (name : List ℕ) : Type 0 where
  pub more : List ℕ
  pub is : text ≡ name ++ more

-- After these labels comes what the second form reads, and it decides.
abbrev pub Reaches : Form Letter Rule SeriesValue → List ℕ → List Pair → Form Letter Rule SeriesValue → List ℕ → Type 0
Reaches f text done g rest = Carries series f text (λ ps. listed (done ++ ps)) g rest listed

-- The form ends with a closing brace, or fails where there is none.
pub record CanClose (g : Form Letter Rule SeriesValue) (text : List ℕ) : Type 0 where
  pub closes : (rest : List ℕ) → Takes series (sign Close) text mark rest → Gives series g text (good (listed []) (seen rest))
  pub fails : Lacks series (sign Close) text → Gives series g text (bad (seen text))

-- whether a label list, or blanks before one, come next
abbrev pub starts_listed : List ℕ → Bool
starts_listed text = is_next {V = SeriesValue} table (rule Listed) (seen text)

-- the bytes of a part of a name
abbrev pub in_part : Part → StringByte → Bool
in_part MetricFirst k = is_metric_letter_kind k
in_part MetricNext k = is_metric_kind k
in_part LabelFirst k = is_letter_kind k
in_part LabelNext k = is_label_kind k

-- No byte of the part is at the front.
pub data IsOver (part : Part) : List ℕ → Type 0 where
  over_end : IsOver part []
  over_byte : {b : ℕ} {bytes : List ℕ} → in_part part (kind_of b) ≡ false → IsOver part (b ∷ bytes)

-- A byte of the part is at the front.
pub record IsPart (part : Part) (text : List ℕ) (b : ℕ) (rest : List ℕ) : Type 0 where
  pub is : text ≡ b ∷ rest
  pub has : in_part part (kind_of b) ≡ true

-- The bytes at the front that are of the part go on a name.
pub data GoesOn (part : Part) : List ℕ → List ℕ → List ℕ → List ℕ → Type 0 where
  name_over : {name text : List ℕ} → IsOver part text → GoesOn part name text name text
  name_more : {start text whole rest mid : List ℕ} {b : ℕ} → IsPart part text b mid → GoesOn part (start ++ b ∷ []) mid whole rest → GoesOn part start text whole rest

-- the sign between a name and a value, before what reads the value
abbrev pub equals : Form Letter Rule SeriesValue → Form Letter Rule SeriesValue
equals h = pair second_of blanks (pair second_of (sign Equal) (pair second_of blanks h))
