-- Series texts told without a grammar: a metric's name, pairs in braces, or both.
use Rattle.std.specs.Prelude.{◌≡◌, ℕ, true, List, [], ◌∷◌, ◌++◌, codes, None}
use Rattle.pr_words.specs.Bytes.{AreBlanks}
use Rattle.pr_words.specs.Strings.{IsString}
use Rattle.pr_labels.specs.declared.pair.Pair.{Pair}
use Rattle.pr_labels.specs.Edits.{first_fault}
use Rattle.pr_labels.specs.LabelSet.{metric_label, pair_of}
use Rattle.pr_labels.specs.Names.{is_label_name, is_metric_name}

-- The text before the rest is a pair: a name, an equals sign between blanks, and a string that
-- means the value.
pub record IsPair (text : List ℕ) (p : Pair) (rest : List ℕ) : Type 0 where
  pub before : List ℕ
  pub after : List ℕ
  pub quoted : List ℕ
  pub is : text ≡ p.name ++ (before ++ (codes "=" ++ (after ++ quoted)))
  pub name : is_label_name p.name ≡ true
  pub blank_before : AreBlanks before
  pub blank_after : AreBlanks after
  pub value : IsString quoted p.value rest

-- What stands after an opening brace, with the closing one: pairs with commas between, of which the
-- last one may have a comma too, and blanks anywhere between.
pub data AreListed : List ℕ → List Pair → List ℕ → Type 0 where
  no_pair : (blanks rest : List ℕ) → AreBlanks blanks → AreListed (blanks ++ (codes "}" ++ rest)) [] rest
  last_pair : (blanks text behind rest : List ℕ) (p : Pair) → AreBlanks blanks → IsPair text p (behind ++ (codes "}" ++ rest)) → AreBlanks behind →
      AreListed (blanks ++ text) (p ∷ []) rest
  one_pair : (blanks text behind next rest : List ℕ) (p : Pair) (ps : List Pair) → AreBlanks blanks → IsPair text p (behind ++ (codes "," ++ next)) → AreBlanks behind →
      AreListed next ps rest → AreListed (blanks ++ text) (p ∷ ps) rest

-- The parts of the text before the rest; the metric's name is the value of the label `__name__`.
pub data HasParts : List ℕ → List Pair → List ℕ → Type 0 where
  name_alone : (name rest : List ℕ) → is_metric_name name ≡ true → HasParts (name ++ rest) (pair_of metric_label name ∷ []) rest
  list_alone : (listed rest : List ℕ) (ps : List Pair) → AreListed listed ps rest → HasParts (codes "{" ++ listed) ps rest
  name_and_list : (name blanks listed rest : List ℕ) (ps : List Pair) → is_metric_name name ≡ true → AreBlanks blanks → AreListed listed ps rest →
      HasParts (name ++ (blanks ++ (codes "{" ++ listed))) (pair_of metric_label name ∷ ps) rest

-- A series text: its parts, among which no name stands twice, the metric's name being one.
pub record IsSeriesText (text : List ℕ) (pairs : List Pair) : Type 0 where
  pub parts : HasParts text pairs []
  pub once : first_fault pairs ≡ None
