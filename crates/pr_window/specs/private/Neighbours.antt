-- What is kept of values one after another: the first and the last with their times, how many there
-- are, what stands before falls, how many falls and changes there are, and whether one is special.
use Rattle.std.specs.Prelude.{◌≡◌, ℕ, ◌+◌, ◌≤◌, max, Bool, true, false, ◌||◌, cond, List, ◌∷◌, length, map, filter, count_by}
use Rattle.std.proofs.Common.{arith, refl, ap, ◌∙◌}
use Rattle.pr_num.specs.declared.value.Num.{Num}
use Rattle.pr_num.proofs.Algebra.{joined_groups}
use Rattle.pr_num.specs.Total.{Tally, joined, no_values, one_value, total_of}
use Rattle.spec_vectors.specs.spec_history.declared.spot.Spot.{Spot}
use Rattle.spec_vectors.specs.Histogram.{is_special}
use Rattle.spec_vectors.specs.Ranges.{differ}
use Rattle.spec_vectors.specs.Spots.{falls, has_special, last_of, neighbours, numbers_of}
use Rattle.pr_window.specs.declared.folds.neighbours.Neighbours.{Neighbours}
use Rattle.pr_window.specs.private.Totals.{one_count}

-- the last value of a part and the first of the next one
abbrev pub meeting : Neighbours → Neighbours → Num × Num
meeting a b = (a.last.value, b.first.value)

-- what is lost at a fall, and one where a test holds
abbrev pub loss : Bool → Num → Tally
loss fell before = cond fell (one_value before) no_values

abbrev pub one_if : Bool → ℕ
one_if b = cond b 1 0

abbrev pub spot_alone : Spot → Neighbours
spot_alone s = record { first = s; last = s; count = 1; lost = no_values; resets = 0; changes = 0; special = is_special s.value }

-- two parts, one after the other
abbrev pub beside : Neighbours → Neighbours → Neighbours
beside a b = record {
  first = a.first;
  last = b.last;
  count = a.count + b.count;
  lost = joined a.lost (joined (loss (falls (meeting a b)) a.last.value) b.lost);
  resets = a.resets + one_if (falls (meeting a b)) + b.resets;
  changes = a.changes + one_if (differ (meeting a b)) + b.changes;
  special = a.special || b.special;
}

-- All of some values, which are at least one.
abbrev pub neighbours_of : Spot → List Spot → Neighbours
neighbours_of first rest = record {
  first = first;
  last = last_of first rest;
  count = length rest + 1;
  lost = total_of (map (λ p. p.0) (filter falls (neighbours (numbers_of (first ∷ rest)))));
  resets = count_by falls (neighbours (numbers_of (first ∷ rest)));
  changes = count_by differ (neighbours (numbers_of (first ∷ rest)));
  special = has_special (numbers_of (first ∷ rest));
}

-- Each number that is kept is at most the weight: those of falls and changes are below it.
abbrev pub weight_of : Neighbours → ℕ
weight_of s = max s.count (max (s.lost.count + 1) (max (s.resets + 1) (s.changes + 1)))

pub alone_weight : (s : Spot) → weight_of (spot_alone s) ≤ 1
alone_weight s = omega arith

loss_count : (fell : Bool) (before : Num) → (loss fell before).count ≤ 1
loss_count true before = one_count before
loss_count false before = omega arith

if_small : (b : Bool) → one_if b ≤ 1
if_small true = omega arith
if_small false = omega arith

pub beside_weight : (a b : Neighbours) → weight_of (beside a b) ≤ weight_of a + weight_of b
beside_weight a b =
    omega (arith, loss_count (falls (meeting a b)) a.last.value, if_small (falls (meeting a b)), if_small (differ (meeting a b)))

or_assoc : (a b c : Bool) → ((a || b) || c) ≡ (a || (b || c))
or_assoc true b c = refl
or_assoc false b c = refl

sums_assoc : (a m b n c : ℕ) → a + m + b + n + c ≡ a + m + (b + n + c)
sums_assoc a m b n c = omega arith

counts_assoc : (a b c : ℕ) → a + b + c ≡ a + (b + c)
counts_assoc a b c = omega arith

lost_assoc : (a m b n c : Tally) → joined (joined a (joined m b)) (joined n c) ≡ joined a (joined m (joined b (joined n c)))
lost_assoc a m b n c = joined_groups a (joined m b) (joined n c) ∙ ap (λ (t : Tally). joined a t) (joined_groups m b (joined n c))

pub beside_assoc : (a b c : Neighbours) → beside (beside a b) c ≡ beside a (beside b c)
beside_assoc a b c = λ i. record {
  first = a.first;
  last = c.last;
  count = counts_assoc a.count b.count c.count i;
  lost = lost_assoc a.lost (loss (falls (meeting a b)) a.last.value) b.lost (loss (falls (meeting b c)) b.last.value) c.lost i;
  resets = sums_assoc a.resets (one_if (falls (meeting a b))) b.resets (one_if (falls (meeting b c))) c.resets i;
  changes = sums_assoc a.changes (one_if (differ (meeting a b))) b.changes (one_if (differ (meeting b c))) c.changes i;
  special = or_assoc a.special b.special c.special i;
}
