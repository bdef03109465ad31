use Rattle.std.proofs.Common.{◌≡◌, ◌++◌, filter}
use Rattle.pr_backfill.proofs.Recording.{records}
use Rattle.pr_backfill.proofs.fresh.recording_rules.Given as goal

-- the rules so far, and those of the rest
abbrev pub invariant-loop-rule : goal.invariant-loop-rule
invariant-loop-rule l = l.kept ++ filter records l.rule-iterator.rest.items ≡ filter records l.fn.rules
