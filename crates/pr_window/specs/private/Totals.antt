-- Totals as summaries.
use Rattle.std.specs.Prelude.{◌≡◌, ℕ, ◌+◌, ◌≤◌}
use Rattle.std.proofs.Common.{arith}
use Rattle.pr_num.specs.declared.value.Num.{Num}
use Rattle.pr_num.specs.declared.value.Num.TheVariants.{Finite, NaN, PosInf, NegInf}
use Rattle.pr_num.proofs.Algebra.{joined_groups}
use Rattle.pr_num.specs.Total.{Tally, joined, one_value}
use Rattle.spec_vectors.specs.spec_history.declared.spot.Spot.{Spot}

-- the total of one value
abbrev pub total_alone : Spot → Tally
total_alone s = one_value s.value

-- how many values a total has
abbrev pub tally_count : Tally → ℕ
tally_count t = t.count

pub one_count : (v : Num) → tally_count (one_value v) ≤ 1
one_count (Finite a) = omega arith
one_count NaN = omega arith
one_count PosInf = omega arith
one_count NegInf = omega arith

pub alone_count : (s : Spot) → tally_count (total_alone s) ≤ 1
alone_count s = one_count s.value

pub joined_count : (a b : Tally) → tally_count (joined a b) ≤ tally_count a + tally_count b
joined_count a b = omega arith

pub joined_assoc : (a b c : Tally) → joined (joined a b) c ≡ joined a (joined b c)
joined_assoc = joined_groups
