-- The labels of what a pair gives in one-to-one matching, by those of its key.
use Rattle.std.proofs.Common.{◌≡◌, Bool, true, false, not, cond, List, [], ◌∷◌, filter, refl, sym, ap, ◌∙◌}
use Rattle.spec_vectors.specs.pr_labels.declared.pair.Pair.{Pair}
use Rattle.spec_vectors.specs.pr_labels.declared.matching.Matching.{Matching}
use Rattle.spec_vectors.specs.pr_labels.Edits.{is_listed, key_labels, listed_labels, unlisted_labels}
use Rattle.spec_vectors.specs.pr_labels.LabelSet.{has_name, metric_label}
use Rattle.spec_vectors.specs.Matching.{name_kept, narrowed}

-- two filters give the same in either order
filters_turned : (p q : Pair → Bool) (xs : List Pair) → filter p (filter q xs) ≡ filter q (filter p xs)
filters_turned p q [] = refl
filters_turned p q (x ∷ xs) = by_tests (p x) (q x) refl refl (filters_turned p q xs) where
  by_tests : (b c : Bool) → p x ≡ b → q x ≡ c → filter p (filter q xs) ≡ filter q (filter p xs)
      → filter p (cond c (x ∷ filter q xs) (filter q xs)) ≡ filter q (cond b (x ∷ filter p xs) (filter p xs))
  by_tests true true e f h = rw (e, f) (ap (λ (ys : List Pair). x ∷ ys) h)
  by_tests true false e f h = rw f h
  by_tests false true e f h = rw e h
  by_tests false false e f h = h

pub narrowed_on : (how : Matching) (keep_name : Bool) (key labels : List Pair) → how.on ≡ true → key ≡ key_labels how.on labels how.names → name_kept keep_name key ≡ narrowed how (name_kept keep_name labels)
narrowed_on how true key labels on is =
    is ∙ (λ i. key_labels (on i) labels how.names) ∙ ap (λ (b : Bool). cond b (listed_labels labels how.names) (unlisted_labels labels how.names)) (sym on)
narrowed_on how false key labels on is =
    ap (λ (ls : List Pair). name_kept false ls) (is ∙ (λ i. key_labels (on i) labels how.names))
    ∙ filters_turned (λ p. not (has_name metric_label p)) (is_listed how.names) labels
    ∙ ap (λ (b : Bool). cond b (listed_labels (name_kept false labels) how.names) (unlisted_labels (name_kept false labels) how.names)) (sym on)

pub narrowed_kept : (how : Matching) (labels : List Pair) → how.on ≡ false → unlisted_labels labels how.names ≡ narrowed how (name_kept true labels)
narrowed_kept how labels on =
    ap (λ (b : Bool). cond b (listed_labels labels how.names) (unlisted_labels labels how.names)) (sym on)

pub narrowed_off : (how : Matching) (key labels : List Pair) → how.on ≡ false → key ≡ key_labels how.on labels how.names → key ≡ narrowed how (name_kept false labels)
narrowed_off how key labels on is =
    is ∙ (λ i. key_labels (on i) labels how.names)
    ∙ filters_turned (λ p. not (has_name metric_label p)) (λ p. not (is_listed how.names p)) labels
    ∙ ap (λ (b : Bool). cond b (listed_labels (name_kept false labels) how.names) (unlisted_labels (name_kept false labels) how.names)) (sym on)
