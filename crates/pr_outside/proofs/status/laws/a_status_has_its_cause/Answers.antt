use Rattle.std.proofs.Common.{◌≡◌, ℕ, true}
use Rattle.pr_outside.specs.Status.{IsTooLong}
use Rattle.pr_outside.proofs.Causes.{ending_cause}
use Rattle.pr_outside.proofs.status.laws.a_status_has_its_cause.Goals as goal

pub returns : goal.returns
returns c = λ bad before now ending e. ending_cause (λ index. bad index ≡ true) ((index : ℕ) × (bad index ≡ true)) (IsTooLong before.input now.input) before now ending (λ index is. (index, is)) (λ long. long.1) e
