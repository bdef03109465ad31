-- A time before which no held sample stands, as samples come and go.
use Rattle.std.proofs.Common.{◌≡◌, ℕ, ℤ, zero, suc, ◌+◌, ◌-◌, ◌≤◌, ◌<◌, true, List, [], ◌∷◌, ◌++◌, length, get_or, map, slice_get, ◌⊎◌, inl, inr, ◌≢◌, None, Some, refl, sym, ap, subst, arith}
use Rattle.std.specs.List.{All}
use Rattle.std.specs.List.Sorted.{IsNonDecreasingBy}
use Rattle.std.proofs.lemmas.List.Elements.{All-append, All-cons, All-nil}
use Rattle.indexmap.specs.IndexMap.{set_value_at}
use Rattle.pr_labels.specs.declared.pair.Pair.{Pair}
use Rattle.spec_history.specs.Lookback.{is_after}
use Rattle.pr_head.specs.declared.timed.Timed.{Timed}
use Rattle.pr_head.specs.private.Stored.{Stored, after_push, after_trim, begun, held_after, stored, trimmed}
use Rattle.pr_head.specs.private.Holds.{sets_of}
use Rattle.pr_head.specs.private.Oldest.{AreSince, IsSince}
use Rattle.pr_head.proofs.Simulation.{at_last, value_at, value_same, written_at}
use Rattle.pr_head.proofs.Trimming.{all_later, later_up}

abbrev Series : Type 0
Series = List Pair × Stored

-- the first held sample is the oldest
pub first_oldest : (held : List Timed) (x : Timed) → IsNonDecreasingBy (λ y. y.time) held → Some x ≡ slice_get held 0 → All (λ y. x.time ≤ y.time) held
first_oldest [] x up at = cc
first_oldest (y ∷ held) x up at =
    let same : x ≡ y = cc in
    subst (λ (z : Timed). All (λ v. z.time ≤ v.time) (y ∷ held)) (sym same) (λ k d below. up 0 k d (omega arith) below)

pub none_oldest : (oldest : ℕ) (held : List Timed) → None ≡ slice_get held 0 → All (λ y. oldest ≤ y.time) held
none_oldest oldest [] at = λ k d below. absurd (omega arith)
none_oldest oldest (y ∷ held) at = cc

-- what is older still
pub since_less : (new old : ℕ) (s : Stored) → new ≤ old → IsSince old s → IsSince new s
since_less new old s less h = λ k d below. let one = h k d below in omega arith

pub none_since : (oldest : ℕ) → AreSince oldest []
none_since oldest = λ i e at. cc

pub since_new : (new old : ℕ) (head : List Series) (labels : List Pair) (x : Timed) → new ≤ old → new ≤ x.time → AreSince old head → AreSince new (head ++ (labels, begun x) ∷ [])
since_new new old head labels x less low h = λ i e at. by i e (at_last head (labels, begun x) i e at) where
  by : (i : ℕ) (e : Series) → (slice_get head i ≡ Some e) ⊎ ((labels, begun x) ≡ e) → IsSince new e.1
  by i e (inl at) = since_less new old e.1 less (h i e at)
  by i e (inr is) = subst (λ (y : Series). IsSince new y.1) is (All-cons (λ (y : Timed). new ≤ y.time) x [] low (All-nil (λ (y : Timed). new ≤ y.time)))

pub since_written : (new old : ℕ) (head : List Series) (n : ℕ) (w : Stored) → new ≤ old → IsSince new w → AreSince old head → AreSince new (set_value_at head n w)
since_written new old head n w less low h = λ i e at. by i e (written_at head n i w e at) where
  by : (i : ℕ) (e : Series) → ((i ≡ n) × (e.1 ≡ w) × (slice_get (sets_of head) n ≡ Some e.0)) ⊎ ((i ≢ n) × (slice_get head i ≡ Some e)) → IsSince new e.1
  by i e (inl k) = subst (IsSince new) (sym k.1) low
  by i e (inr k) = since_less new old e.1 less (h i e k.1)

pub since_pushed : (new old : ℕ) (head : List Series) (n : ℕ) (v : Stored) (x : Timed) → new ≤ old → new ≤ x.time → slice_get (map (λ e. e.1) head) n ≡ Some v → AreSince old head → IsSince new (after_push v x)
since_pushed new old head n v x less low at h =
    let found = value_at head n v at in
    All-append (λ (y : Timed). new ≤ y.time) v.held (x ∷ []) (since_less new old v less (h n (found.0, v) found.1)) (All-cons (λ (y : Timed). new ≤ y.time) x [] low (All-nil (λ (y : Timed). new ≤ y.time)))

pub since_next : (new old here n : ℕ) (head : List Series) (v : Stored) → new ≤ old → new ≤ here → IsSince here v → slice_get (map (λ e. e.1) head) n ≡ Some v
    → ((i : ℕ) (e : Series) → i < n → slice_get head i ≡ Some e → IsSince old e.1) → (i : ℕ) (e : Series) → i < n + 1 → slice_get head i ≡ Some e → IsSince new e.1
since_next new old here n head v less low one at h = λ i e below there. by i e there (parted i n below) where
  parted : (i n : ℕ) → i < n + 1 → (i < n) ⊎ (i ≡ n)
  parted zero zero below = inr refl
  parted zero (suc n) below = inl (omega arith)
  parted (suc i) zero below = absurd (omega arith)
  parted (suc i) (suc n) below = up (parted i n (omega arith)) where
    up : (i < n) ⊎ (i ≡ n) → (suc i < suc n) ⊎ (suc i ≡ suc n)
    up (inl k) = inl (omega arith)
    up (inr k) = inr (ap suc k)

  by : (i : ℕ) (e : Series) → slice_get head i ≡ Some e → (i < n) ⊎ (i ≡ n) → IsSince new e.1
  by i e there (inl k) = since_less new old e.1 less (h i e k there)
  by i e there (inr k) =
      let same : e.1 ≡ v = value_same head n v e at (subst (λ j. slice_get head j ≡ Some e) k there) in
      subst (IsSince new) (sym same) (since_less new here v low one)

-- where all are later than a moment, a trim at it leaves them
same_after : (before : ℤ) (oldest : ℕ) (s : Stored) → is_after before oldest ≡ true → IsSince oldest s → after_trim s before ≡ s
same_after before oldest s later h =
    let held : held_after s before ≡ s.held = all_later before s.held (λ k d below. later_up before oldest (get_or s.held k d).time later (h k d below)) in
    let size = ap length held in
    let first : s.first + (length s.held - length (held_after s before)) ≡ s.first = omega arith in
    (λ i. stored (first i) (held i) s.last)

pub untouched : (before : ℤ) (oldest : ℕ) (head : List Series) → is_after before oldest ≡ true → AreSince oldest head → trimmed before head ≡ head
untouched before oldest [] later h = refl
untouched before oldest (s ∷ head) later h =
    (λ i. (s.0, same_after before oldest s.1 later (h 0 s refl) i) ∷ untouched before oldest head later (λ j e at. h (suc j) e at) i)
