use Rattle.std.proofs.Common.{◌≡◌, drop}
use Rattle.pr_head.proofs.series.drop_first.Given as goal

-- so many are gone
abbrev pub invariant-loop : goal.invariant-loop
invariant-loop l = l.samples.items ≡ drop l.counter l.fn.samples.items
