use Rattle.std.proofs.Common.{◌≡◌}
use Rattle.pr_parse.specs.Seen.{seen, seen_tokens}
use Rattle.pr_parse.proofs.grammar.kind.with_kinds.Given as goal

abbrev pub invariant-loop-token : goal.invariant-loop-token
invariant-loop-token l = seen l.all.items ≡ seen_tokens l.yielded
