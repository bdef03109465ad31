-- The places of range selectors stay true as more are noted, and as their windows go on.
use Rattle.std.proofs.Common.{◌≡◌, ℕ, zero, suc, ◌+◌, ◌<◌, ◌≤◌, Bool, true, false, cond, nat_eq, List, [], ◌∷◌, ◌++◌, length, get_or, set, slice_get, take, Option, Some, None, refl, sym, ap, subst, ◌∙◌, arith}
use Rattle.std.specs.Map.{lookup}
use Rattle.std.specs.Option.{option_map}
use Rattle.std.proofs.lemmas.Grind.{common_steps}
use Rattle.std.proofs.lemmas.Option.{slice_get-map}
use Rattle.std.proofs.lemmas.List.{get_or-map, length-append, length-map, length-take-le, map-append, take_all, take-append-le, take_more}
use Rattle.pr_slide.specs.private.Places.{AreApart, ArePlacesOf, IsAbsent, IsFoundIn, IsNodePlace, IsPlaceIn, noted, numbers_of}
use Rattle.pr_slide.specs.declared.window.SeriesWindow.{SeriesWindow}
use Rattle.pr_slide.specs.private.Windows.{Nodes}
use Rattle.pr_slide.proofs.Nodes.{Row}

-- one more number at the end
place_more : (numbers more : List ℕ) (k i : ℕ) → IsPlaceIn numbers k i → IsPlaceIn (numbers ++ more) k i
place_more [] more k i h = absurd h
place_more (n ∷ numbers) more k zero h = h
place_more (n ∷ numbers) more k (suc i) h = (h.0, place_more numbers more k i h.1)

place_last : (numbers : List ℕ) (n k i : ℕ) → IsAbsent numbers k → length numbers ≡ i → nat_eq k n ≡ true → IsPlaceIn (numbers ++ n ∷ []) k i
place_last [] n k zero h size e = e
place_last [] n k (suc i) h size e = absurd (omega arith)
place_last (m ∷ numbers) n k zero h size e = absurd (omega arith)
place_last (m ∷ numbers) n k (suc i) h size e = (h.0, place_last numbers n k i h.1 (omega arith) e)

absent_more : (numbers : List ℕ) (n k : ℕ) → IsAbsent numbers k → nat_eq k n ≡ false → IsAbsent (numbers ++ n ∷ []) k
absent_more [] n k h e = (e, tt)
absent_more (m ∷ numbers) n k h e = (h.0, absent_more numbers n k h.1 e)

-- what is noted of a number with it
found_more : (numbers : List ℕ) (n k i : ℕ) (before : Option ℕ) → length numbers ≡ i → IsFoundIn numbers k before → IsFoundIn (numbers ++ n ∷ []) k (noted i n k before)
found_more numbers n k i (Some j) size h = place_more numbers (n ∷ []) k j h
found_more numbers n k i None size h = by (nat_eq n k) refl where
  by : (b : Bool) → nat_eq n k ≡ b → IsFoundIn (numbers ++ n ∷ []) k (cond b (Some i) None)
  by true e = let same : nat_eq k n ≡ true = grind (arith, common_steps) in place_last numbers n k i h size same
  by false e = let other : nat_eq k n ≡ false = grind (arith, common_steps) in absent_more numbers n k h other

pub places_more : (before after : ℕ × List (ℕ × ℕ)) (nodes : Nodes) (n : ℕ) (d : Row) → ArePlacesOf before (numbers_of nodes) → before.0 < length nodes → n ≡ (get_or nodes before.0 d).0
    → after.0 ≡ before.0 + 1 → ((k : ℕ) → lookup (nat_eq k) after.1 ≡ noted before.0 n k (lookup (nat_eq k) before.1)) → ArePlacesOf after (numbers_of nodes)
places_more before after nodes n d h inside is more step =
    let short : before.0 < length (numbers_of nodes) = omega (arith, length-map nodes (λ (m : Row). m.0)) in
    let here : get_or (numbers_of nodes) before.0 n ≡ n = get_or-map (λ (m : Row). m.0) nodes before.0 d n inside ∙ sym is in
    let front : take (before.0 + 1) (numbers_of nodes) ≡ take before.0 (numbers_of nodes) ++ n ∷ [] =
    take_more (numbers_of nodes) before.0 n short ∙ ap (λ m. take before.0 (numbers_of nodes) ++ m ∷ []) here in
    record {
      within = omega arith;
      each = λ k. subst (λ l. IsFoundIn l k (lookup (nat_eq k) after.1)) (sym (ap (λ i. take i (numbers_of nodes)) more ∙ front))
          (subst (IsFoundIn (take before.0 (numbers_of nodes) ++ n ∷ []) k) (sym (step k))
          (found_more (take before.0 (numbers_of nodes)) n k before.0 (lookup (nat_eq k) before.1) (length-take-le before.0 (numbers_of nodes) h.within) (h.each k)));
    }

-- no place is noted at first
pub no_places : (numbers : List ℕ) → ArePlacesOf (0, []) numbers
no_places numbers = record { within = omega arith; each = λ k. tt }

-- windows that go on stand where they stood
pub numbers_kept : (nodes : Nodes) (i : ℕ) (row d : Row) → row.0 ≡ (get_or nodes i d).0 → numbers_of (set nodes i row) ≡ numbers_of nodes
numbers_kept [] i row d e = refl
numbers_kept (n ∷ nodes) zero row d e = ap (λ k. k ∷ numbers_of nodes) e
numbers_kept (n ∷ nodes) (suc i) row d e = ap (λ l. n.0 ∷ l) (numbers_kept nodes i row d e)

-- and so do all where one comes behind them
pub places_pushed : (places : ℕ × List (ℕ × ℕ)) (nodes : Nodes) (row : Row) → ArePlacesOf places (numbers_of nodes) → ArePlacesOf places (numbers_of (nodes ++ row ∷ []))
places_pushed places nodes row h =
    let all : numbers_of (nodes ++ row ∷ []) ≡ numbers_of nodes ++ row.0 ∷ [] = map-append (λ (n : Row). n.0) nodes (row ∷ []) in
    let front : take places.0 (numbers_of nodes ++ row.0 ∷ []) ≡ take places.0 (numbers_of nodes) = take-append-le places.0 (numbers_of nodes) (row.0 ∷ []) h.within in
    subst (ArePlacesOf places) (sym all) (record {
      within = let within = h.within in omega (arith, length-append (numbers_of nodes) (row.0 ∷ []));
      each = λ k. subst (λ l. IsFoundIn l k (lookup (nat_eq k) places.1)) (sym front) (h.each k);
    })

-- where all are noted, each is found
pub all_found : (places : ℕ × List (ℕ × ℕ)) (nodes : Nodes) (k : ℕ) → ArePlacesOf places (numbers_of nodes) → places.0 ≡ length nodes → IsFoundIn (numbers_of nodes) k (lookup (nat_eq k) places.1)
all_found places nodes k h size =
    let short : length (numbers_of nodes) ≤ places.0 = omega (arith, length-map nodes (λ (n : Row). n.0)) in
    subst (λ l. IsFoundIn l k (lookup (nat_eq k) places.1)) (take_all places.0 (numbers_of nodes) short) (h.each k)

eq_same : (n : ℕ) → nat_eq n n ≡ true
eq_same n = grind (arith, common_steps)

-- new windows stand at the end
pub node_last : (nodes : Nodes) (node i : ℕ) (windows : List (ℕ × SeriesWindow)) → IsAbsent (numbers_of nodes) node → length nodes ≡ i → IsNodePlace node i (nodes ++ (node, windows) ∷ [])
node_last nodes node i windows h size =
    let all : numbers_of (nodes ++ (node, windows) ∷ []) ≡ numbers_of nodes ++ node ∷ [] = map-append (λ (n : Row). n.0) nodes ((node, windows) ∷ []) in
    let long : length (numbers_of nodes) ≡ i = length-map nodes (λ (n : Row). n.0) ∙ size in
    subst (λ l. IsPlaceIn l node i) (sym all) (place_last (numbers_of nodes) node node i h long (eq_same node))

-- where numbers are apart, each stands first where it stands
stands_first : (numbers : List ℕ) (k i : ℕ) → AreApart numbers → slice_get numbers i ≡ Some k → IsPlaceIn numbers k i
stands_first [] k i h at = absurd (cc)
stands_first (n ∷ numbers) k zero h at = let same : k ≡ n = cc in ap (nat_eq k) (sym same) ∙ eq_same k
stands_first (n ∷ numbers) k (suc i) h at = (other numbers n k i h.0 at, stands_first numbers k i h.1 at) where
  other : (numbers : List ℕ) (n k i : ℕ) → IsAbsent numbers n → slice_get numbers i ≡ Some k → nat_eq k n ≡ false
  other [] n k i h at = absurd (cc)
  other (m ∷ numbers) n k zero h at = let same : m ≡ k = cc in let apart = h.0 in grind (arith, common_steps)
  other (m ∷ numbers) n k (suc i) h at = other numbers n k i h.1 at

pub node_first : (nodes : Nodes) (node i : ℕ) (row : Row) → AreApart (numbers_of nodes) → slice_get nodes i ≡ Some row → row.0 ≡ node → IsNodePlace node i nodes
node_first nodes node i row apart at number = stands_first (numbers_of nodes) node i apart (slice_get-map (λ (r : Row). r.0) nodes i ∙ ap (option_map (λ (r : Row). r.0)) at ∙ ap Some number)

-- one that stood nowhere is apart from the others
apart_more : (numbers : List ℕ) (n : ℕ) → AreApart numbers → IsAbsent numbers n → AreApart (numbers ++ n ∷ [])
apart_more [] n h absent = (tt, tt)
apart_more (m ∷ numbers) n h absent =
    let apart = absent.0 in
    let other : nat_eq m n ≡ false = grind (arith, common_steps) in
    (absent_more numbers n m h.0 other, apart_more numbers n h.1 absent.1)

pub apart_pushed : (nodes : Nodes) (row : Row) → AreApart (numbers_of nodes) → IsAbsent (numbers_of nodes) row.0 → AreApart (numbers_of (nodes ++ row ∷ []))
apart_pushed nodes row apart absent = subst AreApart (sym (map-append (λ (n : Row). n.0) nodes (row ∷ []))) (apart_more (numbers_of nodes) row.0 apart absent)
