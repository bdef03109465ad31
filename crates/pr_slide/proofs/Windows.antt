-- The windows of one range selector, by their places.
use Rattle.std.proofs.Common.{◌≡◌, ℕ, zero, suc, ◌+◌, ◌*◌, ◌<◌, ◌≤◌, true, cond, nat_eq, List, [], ◌∷◌, length, get_or, position, slice_get, Some, sym, ap, subst, ◌∙◌, arith}
use Rattle.std.specs.Cmp.{nat_eq_equiv}
use Rattle.std.specs.HashMap.{HashMap}
use Rattle.std.specs.Map.{keys_of, lookup, values_of}
use Rattle.std.proofs.lemmas.Grind.{common_steps}
use Rattle.std.proofs.lemmas.List.Quantifiers.{position-Some}
use Rattle.std.proofs.lemmas.Map.Entries.{hash_map_get_place}
use Rattle.std.proofs.lemmas.Option.{slice_get-get_or}
use borrow.Author.Tests.{eqb-true}
use Rattle.indexmap.specs.IndexMap.{IsUnique, with_value_at}
use Rattle.indexmap.proofs.CallerLemmas.{updates-with_value_at}
use Rattle.pr_range.specs.spec_vectors.declared.range.RangeFn.{RangeFn}
use Rattle.pr_slide.specs.declared.window.SeriesWindow.{SeriesWindow}
use Rattle.pr_slide.specs.private.Kinds.{saved_in, tells}
use Rattle.pr_slide.specs.private.Windows.{saved_by}

-- what stands at a place
entry_at : (windows : List (ℕ × SeriesWindow)) (i series : ℕ) (w : SeriesWindow) → slice_get (keys_of windows) i ≡ Some series → Some w ≡ slice_get (values_of windows) i → slice_get windows i ≡ Some (series, w)
entry_at [] i series w key value = absurd (cc)
entry_at (e ∷ windows) zero series w key value = let first : e.0 ≡ series = cc in let second : e.1 ≡ w = cc in (λ i. Some (first i, second i))
entry_at (e ∷ windows) (suc i) series w key value = entry_at windows i series w key value

-- The window at a place is what is found of its series, and what is written there is what is found
-- afterwards, while the others stay.
pub record IsThere {S : Type 0} (m : HashMap ℕ SeriesWindow S) (windows : List (ℕ × SeriesWindow)) (i series : ℕ) (w : SeriesWindow) : Type 0 where
  pub found : lookup (nat_eq series) windows ≡ Some w
  pub put : (v : SeriesWindow) (q : ℕ) → lookup (nat_eq q) (with_value_at m i v).entries ≡ cond (nat_eq series q) (Some v) (lookup (nat_eq q) windows)

pub there : {S : Type 0} (m : HashMap ℕ SeriesWindow S) (windows : List (ℕ × SeriesWindow)) (i series : ℕ) (w : SeriesWindow) → m.entries ≡ windows → IsUnique nat_eq m → i < length m.entries
    → (i < length windows → slice_get (keys_of windows) i ≡ Some series) → Some w ≡ slice_get (values_of m.entries) i → IsThere m windows i series w
there m windows i series w same unique inside named value =
    let key : slice_get (keys_of m.entries) i ≡ Some series = subst (λ l. slice_get (keys_of l) i ≡ Some series) (sym same) (named (subst (λ l. i < length l) same inside)) in
    let at : slice_get m.entries i ≡ Some (series, w) = entry_at m.entries i series w key value in
    record {
      found = subst (λ l. lookup (nat_eq series) l ≡ Some w) same (hash_map_get_place nat_eq_equiv m i series w unique at);
      put = λ v q. (updates-with_value_at m i v nat_eq_equiv unique series w at).0 q ∙ ap (λ l. cond (nat_eq series q) (Some v) (lookup (nat_eq q) l)) same;
    }

-- the place of a key has that key
pub key_found : (series : ℕ) (keys : List ℕ) (i : ℕ) → position (nat_eq series) keys ≡ Some i → slice_get keys i ≡ Some series
key_found series keys i h =
    let found = position-Some (nat_eq series) keys i series h in
    let same : series ≡ get_or keys i series = eqb-true series (get_or keys i series) found.1 in
    slice_get-get_or keys i series found.0 ∙ ap Some (sym same)

-- the looks of an ask at the window that is found
pub looks_there : (series : ℕ) (before after : List (ℕ × SeriesWindow)) (v v' w : SeriesWindow) (f : RangeFn) (reads reads' looks looks' : ℕ) → lookup (nat_eq series) before ≡ Some v
    → lookup (nat_eq series) after ≡ cond (nat_eq series series) (Some v') (lookup (nat_eq series) before) → lookup (nat_eq series) after ≡ Some w → tells f w.spots ≡ true
    → (tells f v'.spots ≡ true → looks' + saved_in v'.spots + 3 * reads ≤ looks + saved_in v.spots + 3 * reads' + 1)
    → looks' + saved_in w.spots + 3 * reads ≤ looks + saved_by (lookup (nat_eq series) before) + 3 * reads' + 1
looks_there series before after v v' w f reads reads' looks looks' found put at told few =
    let here : nat_eq series series ≡ true = grind (arith, common_steps) in
    let both : Some v' ≡ Some w = sym (put ∙ ap (λ b. cond b (Some v') (lookup (nat_eq series) before)) here) ∙ at in
    let same : v' ≡ w = cc in
    subst (λ o. looks' + saved_in w.spots + 3 * reads ≤ looks + saved_by o + 3 * reads' + 1) (sym found)
    (subst (λ (u : SeriesWindow). tells f u.spots ≡ true → looks' + saved_in u.spots + 3 * reads ≤ looks + saved_in v.spots + 3 * reads' + 1) same few told)
