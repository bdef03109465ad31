use Rattle.std.proofs.Common.{map}
use Rattle.pr_checks.specs.private.RulesTaken.{loaded_of}
use Rattle.pr_test.proofs.Sound.{shares_one}
use Rattle.pr_test.proofs.check.rule_groups.Goals as goal

pub loop-file-preserved : goal.loop-file-preserved
loop-file-preserved c =
    shares_one c.loop-file.rules.items c.push.new.self.items c.in_ok-new.field-0 c.in-Some.file c.loop-file.file-iterator.rest.items c.next.new.self.rest.items (map loaded_of c.args.files)
    c.in_ok-push.ensures.items c.in-Some.ensures.steps.0 c.in_ok-new.ensures.name c.in_ok-new.ensures.groups c.loop-file.invariant
