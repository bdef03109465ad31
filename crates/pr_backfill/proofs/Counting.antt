-- How many times there are.
use Rattle.std.proofs.Common.{ℕ, zero, suc, ◌+◌, ◌-◌, ◌*◌, ◌/◌, ◌<◌, ◌≤◌, ◌⊎◌, inl, inr, ◌↔◌, arith}
use Rattle.std.proofs.lemmas.Nat.{div_below, le-div}
use Rattle.pr_backfill.specs.Times.{count_of_times}

-- one number is not above another, or it is
either : (a b : ℕ) → (a ≤ b) ⊎ (b < a)
either zero b = inl (omega arith)
either (suc a) zero = inr (omega arith)
either (suc a) (suc b) = by (either a b) where
  by : (a ≤ b) ⊎ (b < a) → (suc a ≤ suc b) ⊎ (suc b < suc a)
  by (inl h) = inl (omega (arith, h))
  by (inr h) = inr (omega (arith, h))

pub counts_times : (start end step : ℕ) → 0 < step → start ≤ end → (i : ℕ) → (i < count_of_times start end step) ↔ (start + i * step ≤ end)
counts_times start end step some later i = (there, back) where
  there : i < (end - start) / step + 1 → start + i * step ≤ end
  there h = by (either (i * step) (end - start)) where
    by : (i * step ≤ end - start) ⊎ (end - start < i * step) → start + i * step ≤ end
    by (inl less) = omega (arith, less, later)
    by (inr more) = let below : (end - start) / step < i = div_below (end - start) step i some more in absurd (omega (arith, below, h))

  back : start + i * step ≤ end → i < (end - start) / step + 1
  back h = let less : i * step ≤ end - start = omega (arith, h) in let it : i ≤ (end - start) / step = le-div i (end - start) step some less in omega (arith, it)
