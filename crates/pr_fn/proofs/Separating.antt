-- Texts behind a text are separated.
use Rattle.std.proofs.Common.{◌≡◌, ℕ, suc, ◌≤◌, ◌-◌, List, [], ◌∷◌, ◌++◌, length, take, drop, get_or, refl, sym, ap, ◌∙◌, append_assoc, arith}
use Rattle.std.proofs.Math.Seq.{take-length}
use Rattle.pr_match.specs.pr_labels.declared.pair.Pair.{Pair}
use Rattle.pr_match.specs.pr_labels.LabelSet.{text_at}
use Rattle.spec_vectors.specs.LabelFunctions.{joined_text}
use Rattle.pr_fn.specs.private.Separated.{with_rest}

front_stays : (separator : List ℕ) (labels : List Pair) (a b : List ℕ) (names : List (List ℕ)) → with_rest separator labels (a ++ b) names ≡ a ++ with_rest separator labels b names
front_stays separator labels a b [] = refl
front_stays separator labels a b (name ∷ names) =
    ap (λ (x : List ℕ). with_rest separator labels x names) (ap (λ (x : List ℕ). x ++ text_at labels name) (append_assoc a b separator) ∙ append_assoc a (b ++ separator) (text_at labels name))
    ∙ front_stays separator labels a (b ++ separator ++ text_at labels name) names

pub rest_separated : (separator : List ℕ) (labels : List Pair) (first : List ℕ) (names : List (List ℕ)) → with_rest separator labels (text_at labels first) names ≡ joined_text separator (first ∷ names) labels
rest_separated separator labels first [] = refl
rest_separated separator labels first (name ∷ names) =
    front_stays separator labels (text_at labels first ++ separator) (text_at labels name) names
    ∙ ap (λ (x : List ℕ). text_at labels first ++ separator ++ x) (rest_separated separator labels name names)

-- a list by its first item and the others
pub first_and_rest : (names : List (List ℕ)) (first : List ℕ) → 1 ≤ length names → first ≡ get_or names 0 first → names ≡ first ∷ take (length names - 1) (drop 1 names)
first_and_rest [] first h e = absurd (omega arith)
first_and_rest (x ∷ names) first h e =
    let more : suc (length names) - 1 ≡ length names = omega arith in
    (λ i. sym e i ∷ sym (take-length names) i) ∙ ap (λ (n : ℕ). first ∷ take n names) (sym more)
