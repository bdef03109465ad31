-- What one more name does to the names that are known.
use Rattle.std.proofs.Common.{◌≡◌, ℕ, List, [], ◌∷◌, ◌++◌, Bool, true, false, cond, ◌||◌, ap, sym, ◌∙◌, refl}
use Rattle.std.proofs.lemmas.List.Folds.{list_any-append}
use Rattle.std.specs.BTreeSet.{BTreeSet, Updates}
use Rattle.std.specs.Cmp.Lexicographic.{slice_cmp, texts_ties}
use Rattle.std.specs.Ordering.{nat_cmp, is_eq}
use Rattle.std.specs.Str.{bytes_eq}
use Rattle.pr_labels.specs.declared.pair.Pair.{Pair}
use Rattle.pr_labels.specs.LabelSet.{has_name}
use Rattle.pr_expo.specs.Line.{has_label_named}
use Rattle.pr_expo.specs.private.KnownNames.{knows_name, KnowsNames}

one_more : (new old b : Bool) → new ≡ cond b true old → new ≡ (old || b)
one_more new true true e = e
one_more new false true e = e
one_more new true false e = e
one_more new false false e = e

pub more_known : (old new : BTreeSet (List ℕ)) (key name : List ℕ) → Updates (slice_cmp nat_cmp) old new key true → knows_name new name ≡ (knows_name old name || bytes_eq key name)
more_known old new key name u =
    let step : knows_name new name ≡ cond (is_eq (slice_cmp nat_cmp key name)) true (knows_name old name) = u.0 name in
    one_more (knows_name new name) (knows_name old name) (is_eq (slice_cmp nat_cmp key name)) step ∙ ap (λ b. knows_name old name || b) (sym (texts_ties key name))

-- what one more name does
abbrev pub IsMore : BTreeSet (List ℕ) → BTreeSet (List ℕ) → List ℕ → Type 0
IsMore old new key = (other : List ℕ) → knows_name new other ≡ (knows_name old other || bytes_eq key other)

or_assoc : (a b c : Bool) → ((a || b) || c) ≡ (a || (b || c))
or_assoc true b c = refl
or_assoc false b c = refl

or_none : (a b : Bool) → (a || b) ≡ (a || (b || false))
or_none true b = refl
or_none false true = refl
or_none false false = refl

-- the names so far and those of the labels that are left stay those of all
pub known_next : (old new : BTreeSet (List ℕ)) (label : Pair) (rest all : List Pair) (name : List ℕ) → IsMore old new label.name →
    (knows_name old name || has_label_named name (label ∷ rest)) ≡ has_label_named name all → (knows_name new name || has_label_named name rest) ≡ has_label_named name all
known_next old new label rest all name h k =
    (λ i. h name i || has_label_named name rest) ∙ or_assoc (knows_name old name) (bytes_eq label.name name) (has_label_named name rest) ∙ k

-- the names of labels and of one more
pub known_with : (old new : BTreeSet (List ℕ)) (labels : List Pair) (pair : Pair) → IsMore old new pair.name → KnowsNames old labels → KnowsNames new (labels ++ pair ∷ [])
known_with old new labels pair h k name =
    h name ∙ (λ i. k name i || bytes_eq pair.name name) ∙ or_none (has_label_named name labels) (bytes_eq pair.name name)
    ∙ sym (list_any-append (has_name name) labels (pair ∷ []))
