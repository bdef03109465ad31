-- Tables that keep a list show its rows in the order of their numbers.
use Rattle.std.proofs.Common.{◌≡◌, ◌⊎◌, inl, inr, ℕ, zero, suc, ◌+◌, ◌-◌, ◌<◌, ◌≤◌, pos, List, [], ◌∷◌, map, length, false, All, Some, refl, sym, ap, subst, subst₂, ◌∙◌, arith, true≢false, slice_get, slice_index_or}
use Rattle.std.specs.List.{Contains}
use Rattle.std.specs.List.Sorted.{IsNonDecreasingBy, IsPermutation, IsSorted}
use Rattle.std.specs.Ordering.{is_lt}
use Rattle.std.specs.declared.cmp.Ordering.TheVariants.{Less}
use Rattle.std.proofs.lemmas.List.{get_or_default}
use Rattle.std.proofs.lemmas.List.Elements.{All-nil, All-cons}
use Rattle.std.proofs.lemmas.List.Sorted.{All-permutation, Contains-permutation, IsNonDecreasingBy-from_all_adjacent, IsPermutation-map, IsPermutation-trans, length_permutation}
use Rattle.sqlite.specs.declared.types.Value.TheVariants.{Int}
use Rattle.sqlite.specs.Order.{Row, column, value_cmp}
use Rattle.sqlite.specs.Query.{Output, output, output_cmp}
use Rattle.sqlite.specs.State.{Shown, State}
use Rattle.pr_outside.specs.spec_history.declared.row.Row.{Row as Line}
use Rattle.pr_keep_sql.specs.private.Tables.{HasOursFirst, stored, stored_from}
use Rattle.pr_keep_sql.specs.private.Kept.{number_in}
use Rattle.pr_keep_sql.specs.private.Found.{AreFound, IsFoundAt}
use Rattle.pr_keep_sql.specs.private.Texts.{rows_text}
use Rattle.pr_keep_sql.proofs.QueryLemmas.{env_of, rows_query, rows_sorted}
use Rattle.pr_keep_sql.proofs.TableLemmas.{less}

-- what the query makes of an element of the list
abbrev shows : ℕ → Line → Output
shows seq line = output rows_query (env_of (stored seq line))

abbrev shows_row : Row → Output
shows_row row = output rows_query (env_of row)

abbrev key : Output → ℕ
key o = number_in (column o.1 0)

pub record IsShown (lines : List Line) (o : Output) : Type 0 where
  pub seq : ℕ
  pub line : Line
  pub at : slice_get lines seq ≡ Some line
  pub is : o ≡ shows seq line

-- ---- what is shown of a list, before it is sorted
shown_from : (all lines : List Line) (k : ℕ) → ((i : ℕ) (x : Line) → slice_get lines i ≡ Some x → slice_get all (k + i) ≡ Some x) → All (IsShown all) (map shows_row (stored_from k lines))
shown_from all [] k h = All-nil (IsShown all)
shown_from all (x ∷ lines) k h =
    let here : slice_get all k ≡ Some x = (let z : k + 0 ≡ k = omega arith in rw z at (h 0 x refl)) in
    All-cons (IsShown all) (shows k x) (map shows_row (stored_from (k + 1) lines)) (record { seq = k; line = x; at = here; is = refl })
    (shown_from all lines (k + 1) (λ i y e. let next : k + 1 + i ≡ k + suc i = omega arith in rw next (h (suc i) y e)))

contains_from : (lines : List Line) (k i : ℕ) (x : Line) → slice_get lines i ≡ Some x → Contains (map shows_row (stored_from k lines)) (shows (k + i) x)
contains_from [] k i x e = absurd cc
contains_from (y ∷ lines) k zero x e = let same : y ≡ x = cc in let z : k + 0 ≡ k = omega arith in (0, omega arith, rw z (rw same refl))
contains_from (y ∷ lines) k (suc i) x e =
    let rest = contains_from lines (k + 1) i x e in
    let next : k + suc i ≡ k + 1 + i = omega arith in
    (suc rest.0, omega (arith, rest.1), rw next rest.2)

length_from : (lines : List Line) (k : ℕ) → length (map shows_row (stored_from k lines)) ≡ length lines
length_from [] k = refl
length_from (x ∷ lines) k = let rest = length_from lines (k + 1) in omega (arith, rest)

line_at : (lines : List Line) (i : ℕ) → i < length lines → (line : Line) × (slice_get lines i ≡ Some line)
line_at [] i low = absurd (omega (arith, low))
line_at (x ∷ lines) zero low = (x, refl)
line_at (x ∷ lines) (suc i) low = line_at lines i (omega (arith, low))

-- ---- the order
low_or_high : (a b : ℕ) → (a ≤ b) ⊎ (b < a)
low_or_high zero b = inl (omega arith)
low_or_high (suc a) zero = inr (omega arith)
low_or_high (suc a) (suc b) = by (low_or_high a b)
  where
    by : (a ≤ b) ⊎ (b < a) → (suc a ≤ suc b) ⊎ (suc b < suc a)
    by (inl h) = inl (omega (arith, h))
    by (inr h) = inr (omega (arith, h))

numbers_rise : (a b : ℕ) (x y : Line) → is_lt (output_cmp rows_query (shows b y) (shows a x)) ≡ false → a ≤ b
numbers_rise a b x y h = by (low_or_high a b)
  where
    by : (a ≤ b) ⊎ (b < a) → a ≤ b
    by (inl low) = low
    by (inr high) = let before : value_cmp (Int (pos b)) (Int (pos a)) ≡ Less = less b a high in absurd (true≢false (rw before at h))

keys_rise : (lines : List Line) (o p : Output) → IsShown lines o → IsShown lines p → is_lt (output_cmp rows_query p o) ≡ false → key o ≤ key p
keys_rise lines o p f s h =
    subst₂ (λ (a b : Output). key a ≤ key b) (sym f.is) (sym s.is)
    (numbers_rise f.seq s.seq f.line s.line (subst₂ (λ (b a : Output). is_lt (output_cmp rows_query b a) ≡ false) s.is f.is h))

module _ (lines : List Line) (out : List Output) (same : IsPermutation (map shows_row (stored_from 0 lines)) out) (sorted : IsSorted (output_cmp rows_query) out) where
  all_shown : All (IsShown lines) out
  all_shown = All-permutation (IsShown lines) (map shows_row (stored_from 0 lines)) out same (shown_from lines lines 0 (λ i x e. let z : 0 + i ≡ i = omega arith in rw z e))

  as_many : length out ≡ length lines
  as_many = length_permutation (map shows_row (stored_from 0 lines)) out same ∙ length_from lines 0

  rises : IsNonDecreasingBy key out
  rises = IsNonDecreasingBy-from_all_adjacent key out
      (λ k d low. keys_rise lines (slice_index_or out k d) (slice_index_or out (k + 1) d) (all_shown k d (omega (arith, low))) (all_shown (k + 1) d low) (sorted k d (omega arith) low))

  record Place (i : ℕ) : Type 0 where
    line : Line
    at : ℕ
    within : at < length out
    is : slice_index_or out at (shows i line) ≡ shows i line

  place : (i : ℕ) → i < length lines → Place i
  place i low =
      let it = line_at lines i low in
      let z : 0 + i ≡ i = omega arith in
      let has : Contains out (shows i it.0) = Contains-permutation (map shows_row (stored_from 0 lines)) out (shows i it.0) same (rw z at (contains_from lines 0 i it.0 it.1)) in
      record { line = it.0; at = has.0; within = has.1; is = has.2 }

  key_at : (i : ℕ) (p : Place i) (d : Output) → key (slice_index_or out p.at d) ≡ i
  key_at i p d = ap key (get_or_default out p.at d (shows i p.line) p.within ∙ p.is)

  follows : (i j : ℕ) (p : Place i) (q : Place j) → i < j → p.at < q.at
  follows i j p q low = by (low_or_high q.at p.at)
    where
      by : (q.at ≤ p.at) ⊎ (p.at < q.at) → p.at < q.at
      by (inl back) =
          let d = shows i p.line in
          let up = rises q.at p.at d back p.within in
          let wrong : j ≤ i = subst₂ (λ (a b : ℕ). a ≤ b) (key_at j q d) (key_at i p d) up in
          absurd (omega (arith, low, wrong))
      by (inr h) = h

  not_before : (i : ℕ) (low : i < length lines) → i ≤ (place i low).at
  not_before zero low = omega arith
  not_before (suc i) low =
      let less_low : i < length lines = omega (arith, low) in
      let step = follows i (suc i) (place i less_low) (place (suc i) low) (omega arith) in
      omega (arith, step, not_before i less_low)

  not_after : (d i : ℕ) (low : i < length lines) → i + suc d ≡ length lines → (place i low).at + d < length lines
  not_after zero i low end = omega (arith, (place i low).within, as_many)
  not_after (suc d) i low end =
      let next : suc i < length lines = omega (arith, end) in
      let step = follows i (suc i) (place i low) (place (suc i) next) (omega arith) in
      let rest = not_after d (suc i) next (omega (arith, end)) in
      omega (arith, step, rest)

  -- the element i stands at the place i
  placed : (i : ℕ) (low : i < length lines) → (place i low).at ≡ i
  placed i low = by (length lines - suc i) (omega (arith, low))
    where
      by : (d : ℕ) → i + suc d ≡ length lines → (place i low).at ≡ i
      by d end = let high = not_after d i low end in omega (arith, high, end, not_before i low)

  found_at : (i : ℕ) → i < length lines → (d : Output) → IsFoundAt i (slice_index_or out i d).1
  found_at i low d =
      let p = place i low in
      let here : slice_index_or out i d ≡ shows i p.line =
      sym (ap (λ (k : ℕ). slice_index_or out k d) (placed i low)) ∙ get_or_default out p.at d (shows i p.line) p.within ∙ p.is in
      subst (λ (o : Output). IsFoundAt i o.1) (sym here) (record { number = refl; series = (p.line.series, refl); time = (p.line.time, refl); point = (p.line.point, refl) })

  pub sorted_found : AreFound 0 (map (λ (o : Output). o.1) out)
  sorted_found = all_from out 0 (λ i low d. let z : 0 + i ≡ i = omega arith in rw z (found_at i (omega (arith, low, as_many)) d))
    where
      all_from : (xs : List Output) (k : ℕ) → ((i : ℕ) → i < length xs → (d : Output) → IsFoundAt (k + i) (slice_index_or xs i d).1) → AreFound k (map (λ (o : Output). o.1) xs)
      all_from [] k h = tt
      all_from (o ∷ xs) k h =
          let first : IsFoundAt k o.1 = (let z : k + 0 ≡ k = omega arith in rw z at (h 0 (omega arith) o)) in
          (first, all_from xs (k + 1) (λ i low d. let next : k + 1 + i ≡ k + suc i = omega arith in rw next (h (suc i) (omega (arith, low)) d)))

-- the rows of a table that keeps lines are found in order
pub rows_in_order : (old new : State) (lines : List Line) (rows : List Row) → HasOursFirst old.now.schema → Shown rows_text [] old new rows → IsPermutation (stored_from 0 lines) (old.now.trees 0) → AreFound 0 rows
rows_in_order old new lines rows has h table =
    let it = rows_sorted old new rows has h in
    let same = IsPermutation-trans (map shows_row (stored_from 0 lines)) (map shows_row (old.now.trees 0)) it.ordered (IsPermutation-map shows_row (stored_from 0 lines) (old.now.trees 0) table) it.same in
    subst (AreFound 0) (sym it.shown) (sorted_found lines it.ordered same it.sorted)
