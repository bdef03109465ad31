use Rattle.std.proofs.Common.{arith}
use Rattle.pr_parse.proofs.Fronts.{early_front, late_front}
use Rattle.pr_parse.proofs.parsing.deep_fault.Goals as goal

pub returns-then-index-deep : goal.returns-then-index-deep
returns-then-index-deep c = λ rest.
    early_front c.args.end c.args.tokens.now rest c.args.deep _ c.in-Some.index c.fault_at.result c.requires (omega arith) (rw c.in-Some.is at c.first_bad_place.ensures) c.if-index-deep.true c.fault_at.ensures

pub returns-else-index-deep : goal.returns-else-index-deep
returns-else-index-deep c = λ rest.
    late_front c.args.end c.args.tokens.now rest c.args.deep _ c.in-Some.index c.deep_at.result c.requires (omega arith) (rw c.in-Some.is at c.first_bad_place.ensures) c.if-index-deep.false c.deep_at.ensures
