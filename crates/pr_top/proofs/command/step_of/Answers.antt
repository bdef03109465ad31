use Rattle.std.proofs.Common.{◌≡◌, ℕ, List, None, subst}
use Rattle.pr_top.specs.Command.{step_of}
use Rattle.pr_top.proofs.WordTimes.{no_step}
use Rattle.pr_top.proofs.command.step_of.Goals as goal

pub returns-in-Err : goal.returns-in-Err
returns-in-Err c = subst (λ (w : List ℕ). None ≡ step_of w) c.as_bytes.ensures.value (no_step c.as_bytes.result.now c.in-Err.field-0 c.in-Err.ensures.only)
