-- What one more name does to the names that are known.
use Rattle.std.proofs.Common.{◌≡◌, ℕ, List, [], ◌∷◌, refl, Bool, true, false, cond, ◌||◌, ap, sym, ◌∙◌}
use Rattle.std.specs.BTreeSet.{BTreeSet, Updates}
use Rattle.std.specs.Borrow.{Bor}
use Rattle.std.specs.Cmp.Lexicographic.{slice_cmp, texts_ties}
use Rattle.std.specs.Ordering.{nat_cmp, is_eq}
use Rattle.std.specs.declared.cmp.Ordering.{Ordering}
use Rattle.std.specs.Str.{bytes_eq}
use Rattle.std.proofs.lemmas.Cmp.{nat_list_eq_equiv}
use Rattle.pr_words.specs.Names.{is_among, knows}
use Rattle.pr_labels.specs.declared.pair.Pair.{Pair}
use Rattle.pr_labels.specs.Edits.{is_listed}

abbrev pub name_cmp : Bor (List ℕ) → Bor (List ℕ) → Ordering
name_cmp x y = slice_cmp nat_cmp x.now y.now

one_more : (new old b : Bool) → new ≡ cond b true old → new ≡ (old || b)
one_more new true true e = e
one_more new false true e = e
one_more new true false e = e
one_more new false false e = e

pub more_known : (old new : BTreeSet (Bor (List ℕ))) (key : Bor (List ℕ)) (name : List ℕ) → Updates name_cmp old new key true → knows new name ≡ (knows old name || bytes_eq key.now name)
more_known old new key name u =
    let asked : Bor (List ℕ) = record { ref_ptr = (0, 0); now = name } in
    let step : knows new name ≡ cond (is_eq (slice_cmp nat_cmp key.now name)) true (knows old name) = u.0 asked in
    one_more (knows new name) (knows old name) (is_eq (slice_cmp nat_cmp key.now name)) step ∙ ap (λ b. knows old name || b) (sym (texts_ties key.now name))

-- a name among others is one that they list
pub listed_among : (p : Pair) (names : List (List ℕ)) → is_among p.name names ≡ is_listed names p
listed_among p [] = refl
listed_among p (n ∷ ns) = λ i. nat_list_eq_equiv.symm n p.name i || listed_among p ns i
