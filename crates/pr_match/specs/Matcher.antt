-- What matchers ask of label sets.
use Rattle.std.specs.Prelude.{ℕ, Bool, true, false, not, List, filter, map, Option, None, Some}
use Rattle.std.specs.List.{list_all, enumerate_from}
use Rattle.std.specs.Str.{bytes_eq}
use Rattle.pr_labels.specs.declared.pair.Pair.{Pair}
use Rattle.pr_labels.specs.LabelSet.{text_at}
use Rattle.pr_match.specs.Pattern.{is_pattern, matches_whole}
use Rattle.pr_match.specs.declared.op.MatchOp.{MatchOp}
use Rattle.pr_match.specs.declared.op.MatchOp.TheVariants.{Equal, NotEqual, Like, NotLike}

-- a matcher as it is written: the name of a label, an operator, and a text
pub record LabelTest : Type 0 where
  pub name : List ℕ
  pub op : MatchOp
  pub text : List ℕ

abbrev pub label_test : List ℕ → MatchOp → List ℕ → LabelTest
label_test name op text = record { name = name; op = op; text = text }

-- the matcher that asks for a pair
abbrev pub equality : Pair → LabelTest
equality pair = label_test pair.name Equal pair.value

-- whether the text may stand after the operator
unfoldable pub may_follow : MatchOp → List ℕ → Bool
may_follow Equal text = true
may_follow NotEqual text = true
may_follow Like text = is_pattern text
may_follow NotLike text = is_pattern text

-- whether a value is what the operator and the text ask for
abbrev pub passes : MatchOp → List ℕ → List ℕ → Bool
passes Equal text value = bytes_eq value text
passes NotEqual text value = not (bytes_eq value text)
passes Like pattern value = matches_whole pattern value
passes NotLike pattern value = not (matches_whole pattern value)

-- whether a label set meets a matcher
unfoldable pub meets : LabelTest → List Pair → Bool
meets test labels = passes test.op test.text (text_at labels test.name)

-- whether it meets all of them
unfoldable pub meets_all : List LabelTest → List Pair → Bool
meets_all tests labels = list_all (λ test. meets test labels) tests

-- the same of a label set that may not be there
abbrev pub is_met : List LabelTest → Option (List Pair) → Bool
is_met tests None = false
is_met tests (Some labels) = meets_all tests labels

-- the places, counted from a first one, of the label sets that meet all matchers
unfoldable pub places_from : ℕ → List LabelTest → List (List Pair) → List ℕ
places_from first tests sets = map (λ x. x.0) (filter (λ x. meets_all tests x.1) (enumerate_from first sets))
