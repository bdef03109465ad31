-- The rows of a table, in whatever order it has them, and the list that they are.
use Rattle.std.proofs.Common.{◌≡◌, ℕ, zero, suc, ◌+◌, ◌==◌, List, [], ◌∷◌, ◌++◌, length, slice_get, Some, Bool, true, false, All, refl, sym, ap, subst, ◌∙◌, arith, length-append, true≢false}
use Rattle.std.specs.Prelude.{if◌then◌else◌}
use Rattle.std.specs.List.{Contains}
use Rattle.std.specs.List.Sorted.{IsPermutation}
use Rattle.std.proofs.lemmas.List.Elements.{All-nil, All-cons, All-head, All-tail}
use Rattle.std.proofs.lemmas.List.Sorted.{All-permutation, Contains-permutation, length_permutation, IsPermutation-append_left}
use Rattle.std.proofs.lemmas.List.{append_assoc}
use Rattle.std.proofs.lemmas.Bool.{eqb-true, eq-eqb}
use Rattle.sqlite.specs.Order.{Row as Cells, column}
use Rattle.pr_outside.specs.spec_history.declared.row.Row.{Row}
use Rattle.pr_keep_sql.specs.private.Tables.{stored, stored_from}
use Rattle.pr_keep_sql.specs.private.Kept.{row_at, rows_from, number_in}

-- the cells of the element of a list, with its place
pub record IsElement (rows : List Row) (cells : Cells) : Type 0 where
  pub seq : ℕ
  pub row : Row
  pub at : slice_get rows seq ≡ Some row
  pub is : cells ≡ stored seq row

-- each element is stored with its place
stored_elements : (all rows : List Row) (k : ℕ) → ((i : ℕ) (x : Row) → slice_get rows i ≡ Some x → slice_get all (k + i) ≡ Some x) → All (IsElement all) (stored_from k rows)
stored_elements all [] k h = All-nil (IsElement all)
stored_elements all (x ∷ rows) k h =
    let here : slice_get all k ≡ Some x = (let z : k + 0 ≡ k = omega arith in rw z at (h 0 x refl)) in
    All-cons (IsElement all) (stored k x) (stored_from (k + 1) rows) (record { seq = k; row = x; at = here; is = refl })
    (stored_elements all rows (k + 1) (λ i y e. let next : k + 1 + i ≡ k + suc i = omega arith in rw next (h (suc i) y e)))

pub elements : (rows : List Row) (table : List Cells) → IsPermutation (stored_from 0 rows) table → All (IsElement rows) table
elements rows table p = All-permutation (IsElement rows) (stored_from 0 rows) table p (stored_elements rows rows 0 (λ i x e. let z : 0 + i ≡ i = omega arith in rw z e))

length_stored : (rows : List Row) (k : ℕ) → length (stored_from k rows) ≡ length rows
length_stored [] k = refl
length_stored (x ∷ rows) k = let rest = length_stored rows (k + 1) in omega (arith, rest)

contains_at : (rows : List Row) (k i : ℕ) (x : Row) → slice_get rows i ≡ Some x → Contains (stored_from k rows) (stored (k + i) x)
contains_at [] k i x e = absurd cc
contains_at (y ∷ rows) k zero x e = let same : y ≡ x = cc in let z : k + 0 ≡ k = omega arith in (0, omega arith, rw z (rw same refl))
contains_at (y ∷ rows) k (suc i) x e =
    let rest = contains_at rows (k + 1) i x e in
    let next : k + suc i ≡ k + 1 + i = omega arith in
    (suc rest.0, omega (arith, rest.1), rw next rest.2)

pub contains : (rows : List Row) (table : List Cells) → IsPermutation (stored_from 0 rows) table → (i : ℕ) (x : Row) → slice_get rows i ≡ Some x → Contains table (stored i x)
contains rows table p i x e =
    let z : 0 + i ≡ i = omega arith in
    Contains-permutation (stored_from 0 rows) table (stored i x) p (rw z at (contains_at rows 0 i x e))

-- the element is not the first one of a table whose first number is another
later : (k i : ℕ) (x : Row) (c : Cells) (table : List Cells) → number_in (column c 0) ≡ k → (k ≡ i → ⊥) → Contains (c ∷ table) (stored i x) → Contains table (stored i x)
later k i x c table number other (zero, low, is) = absurd (other (sym number ∙ ap (λ (d : Cells). number_in (column d 0)) is))
later k i x c table number other (suc at, low, is) = (at, omega (arith, low), is)

chosen : (rows : List Row) (i k : ℕ) (x y : Row) (table : List Cells) (b : Bool) → (k == i) ≡ b → slice_get rows i ≡ Some x → slice_get rows k ≡ Some y
    → ((k ≡ i → ⊥) → row_at table i ≡ x) → (if b then y else row_at table i) ≡ x
chosen rows i k x y table true same e at rest = let both : Some y ≡ Some x = sym at ∙ ap (slice_get rows) (eqb-true k i same) ∙ e in cc
chosen rows i k x y table false same e at rest = rest (λ eq. true≢false (sym (eq-eqb k i eq) ∙ same))

-- the row that is found by the number of an element is the element
row_at_is : (rows : List Row) (i : ℕ) (x : Row) → slice_get rows i ≡ Some x → (table : List Cells) → All (IsElement rows) table → Contains table (stored i x) → row_at table i ≡ x
row_at_is rows i x e [] all has = absurd (omega (arith, has.1))
row_at_is rows i x e (c ∷ table) all has =
    let it = All-head (IsElement rows) c table all in
    let rest = All-tail (IsElement rows) c table all in
    subst (λ (d : Cells). row_at (d ∷ table) i ≡ x) (sym it.is)
    (chosen rows i it.seq x it.row table _ refl e it.at
    (λ other. row_at_is rows i x e table rest (later it.seq i x c table (ap (λ (d : Cells). number_in (column d 0)) it.is) other has)))

at_end : (front rest : List Row) (x : Row) → slice_get (front ++ x ∷ rest) (length front) ≡ Some x
at_end [] rest x = refl
at_end (y ∷ front) rest x = at_end front rest x

list_by : (rows front rest : List Row) (table : List Cells) (k : ℕ) → k ≡ length front → All (IsElement rows) table → ((i : ℕ) (x : Row) → slice_get rows i ≡ Some x → Contains table (stored i x))
    → rows ≡ front ++ rest → rows_from table k (length rest) ≡ rest
list_by rows front [] table k at all has is = refl
list_by rows front (x ∷ rest) table k at all has is =
    let e : slice_get rows k ≡ Some x = rw (is, at) (at_end front rest x) in
    let here : row_at table k ≡ x = row_at_is rows k x e table all (has k x e) in
    let next : k + 1 ≡ length (front ++ x ∷ []) = omega (arith, at, length-append front (x ∷ [])) in
    let split : rows ≡ (front ++ x ∷ []) ++ rest = is ∙ sym (append_assoc front (x ∷ []) rest) in
    let tail : rows_from table (k + 1) (length rest) ≡ rest = list_by rows (front ++ x ∷ []) rest table (k + 1) next all has split in
    rw (here, tail) refl

-- a table that is a list of rows, in whatever order, tells this list
pub listed_rows : (rows : List Row) (table : List Cells) → IsPermutation (stored_from 0 rows) table → rows_from table 0 (length table) ≡ rows
listed_rows rows table p =
    let count : length table ≡ length rows = length_permutation (stored_from 0 rows) table p ∙ length_stored rows 0 in
    rw count (list_by rows [] rows table 0 refl (elements rows table p) (contains rows table p) refl)

stored_more : (rows : List Row) (k : ℕ) (e : Row) → stored_from k (rows ++ e ∷ []) ≡ stored_from k rows ++ stored (k + length rows) e ∷ []
stored_more [] k e = let z : k + 0 ≡ k = omega arith in rw z refl
stored_more (x ∷ rows) k e =
    let next : k + length (x ∷ rows) ≡ k + 1 + length rows = omega arith in
    rw next (ap (λ rest. stored k x ∷ rest) (stored_more rows (k + 1) e))

pub one_more : (rows : List Row) (table : List Cells) (e : Row) → IsPermutation (stored_from 0 rows) table → IsPermutation (stored_from 0 (rows ++ e ∷ [])) (table ++ stored (length rows) e ∷ [])
one_more rows table e p =
    let z : 0 + length rows ≡ length rows = omega arith in
    let more : stored_from 0 (rows ++ e ∷ []) ≡ stored_from 0 rows ++ stored (length rows) e ∷ [] = rw z at (stored_more rows 0 e) in
    subst (λ (xs : List Cells). IsPermutation xs (table ++ stored (length rows) e ∷ [])) (sym more)
    (IsPermutation-append_left (stored (length rows) e ∷ []) (stored_from 0 rows) table p)
