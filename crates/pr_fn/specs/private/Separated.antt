-- Texts of labels behind a text.
use Rattle.std.specs.Prelude.{ℕ, List, ◌++◌, fold}
use Rattle.pr_match.specs.pr_labels.declared.pair.Pair.{Pair}
use Rattle.pr_match.specs.pr_labels.LabelSet.{text_at}

-- each after a separator
abbrev pub with_rest : List ℕ → List Pair → List ℕ → List (List ℕ) → List ℕ
with_rest separator labels before names = fold (λ text name. text ++ separator ++ text_at labels name) before names
