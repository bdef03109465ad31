-- What the limit comes to.
use Rattle.std.specs.Prelude.{◌≡◌, ℕ, true, false, ◌||◌, ◌==◌, cond, nat_le, Some, None}
use Rattle.std.proofs.Common.{sym, ◌∙◌, ap}
use Rattle.spec_rules.specs.spec_alerts.Records.{beyond}

pub within_beyond : (limit n m : ℕ) → n ≡ m → (limit == 0 || nat_le n limit) ≡ true → beyond limit m ≡ None
within_beyond limit n m e h = ap (beyond limit) (sym e) ∙ (λ i. cond (h i) None (Some n))

pub past_beyond : (limit n m : ℕ) → n ≡ m → (limit == 0 || nat_le n limit) ≡ false → beyond limit m ≡ Some n
past_beyond limit n m e h = ap (beyond limit) (sym e) ∙ (λ i. cond (h i) None (Some n))
