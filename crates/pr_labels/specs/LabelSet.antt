-- A label set is a list of pairs.
use Rattle.std.specs.Prelude.{◌≡◌, ◌≢◌, ℕ, Bool, true, List, [], ◌∷◌, codes, find, Option, unwrap_or}
use Rattle.std.specs.Option.{option_map}
use Rattle.std.specs.Cmp.Lexicographic.{slice_cmp}
use Rattle.std.specs.Ordering.{nat_cmp}
use Rattle.std.specs.declared.cmp.Ordering.TheVariants.{Less}
use Rattle.std.specs.Str.{bytes_eq}
use Rattle.pr_labels.specs.declared.pair.Pair.{Pair}
use Rattle.pr_labels.specs.Names.{is_label_name}

-- a name, and a value that is not empty
pub record IsLabel (p : Pair) : Type 0 where
  pub name : is_label_name p.name ≡ true
  pub value : p.value ≢ []

-- the name is below the first name of the pairs, by bytes
abbrev pub IsBelowFirst : List ℕ → List Pair → Type 0
IsBelowFirst name [] = Unit {0}
IsBelowFirst name (p ∷ ps) = slice_cmp nat_cmp name p.name ≡ Less

-- each pair is a label, and the names rise
abbrev pub IsLabelSet : List Pair → Type 0
IsLabelSet [] = Unit {0}
IsLabelSet (p ∷ ps) = IsLabel p × IsBelowFirst p.name ps × IsLabelSet ps

-- the name under which the metric's name stands
abbrev pub metric_label : List ℕ
metric_label = codes "__name__"

-- the pair of a name and a value
abbrev pub pair_of : List ℕ → List ℕ → Pair
pair_of name value = record { name = name; value = value }

-- the label set of a metric name alone
abbrev pub named : List ℕ → List Pair
named name = pair_of metric_label name ∷ []

-- whether the pair has the name
abbrev pub has_name : List ℕ → Pair → Bool
has_name name p = bytes_eq p.name name

-- the value of a name, where the set has the name
abbrev pub value_of : List Pair → List ℕ → Option (List ℕ)
value_of labels name = option_map (λ p. p.value) (find (has_name name) labels)

-- the value of a name, empty where the set has not the name
abbrev pub text_at : List Pair → List ℕ → List ℕ
text_at labels name = unwrap_or (value_of labels name) []
