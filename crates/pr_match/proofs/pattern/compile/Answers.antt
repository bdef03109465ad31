use Rattle.std.proofs.Common.{◌≡◌}
use Rattle.pr_match.specs.declared.fault.MatchError.TheVariants.{BadPattern}
use Rattle.pr_match.proofs.Reading.{readable_of_read, unreadable_of_fault}
use Rattle.pr_match.proofs.pattern.compile.Goals as goal

pub returns-in-Ok-clause-good : goal.returns-in-Ok-clause-good
returns-in-Ok-clause-good c = readable_of_read c.args.source.now c.in-Ok.regex
    (record { is_source = c.in-Ok.ensures.source; is_default = c.in-Ok.ensures.config; is_read = c.in-Ok.ensures.read })

pub returns-in-Err-clause-bad : goal.returns-in-Err-clause-bad
returns-in-Err-clause-bad c e =
    let bad : c.fault_of.result ≡ BadPattern = cc in
    unreadable_of_fault c.args.source.now c.in-Err.error c.fault_of.result c.in-Err.ensures.by_grammar c.in-Err.ensures.kind c.fault_of.ensures bad
