use Rattle.std.proofs.Common.{◌≡◌}
use Rattle.pr_match.specs.declared.fault.MatchError.TheVariants.{BadPattern}
use Rattle.pr_match.proofs.Reading.{readable_of_parse, unreadable_of_syntax}
use Rattle.pr_match.proofs.pattern.read.Goals as goal

pub returns-clause-good : goal.returns-clause-good
returns-clause-good c = readable_of_parse c.args.source.now c.in-Ok.parsed.hir _ (rw c.default.ensures at c.in-Ok.ensures.ok)

pub returns-in-Err-clause-bad : goal.returns-in-Err-clause-bad
returns-in-Err-clause-bad c e =
    let bad : c.syntax_fault.result ≡ BadPattern = cc in
    unreadable_of_syntax c.args.source.now c.in-Err.error.kind c.syntax_fault.result (rw c.default.ensures at c.in-Err.ensures.err) c.syntax_fault.ensures bad
