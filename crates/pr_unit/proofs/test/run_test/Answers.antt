use Rattle.std.proofs.Common.{map}
use Rattle.pr_group.specs.spec_rules.Replays.{unwaiting_groups}
use Rattle.spec_tests.specs.pr_testfile.Tests.{plain_test}
use Rattle.spec_tests.proofs.Beginning.{apart_at_first, new_at_first}
use Rattle.spec_tests.specs.Events.{by_names, last_check, settings_of}
use Rattle.pr_unit.specs.private.Loaded.{file_of}
use Rattle.pr_unit.specs.private.Run.{rounds_until}
use Rattle.pr_unit.proofs.Answers.{on_ok}
use Rattle.pr_unit.proofs.Filling.{verdict_is}
use Rattle.pr_unit.proofs.test.run_test.Goals as goal

pub returns : goal.returns
returns g c = λ told.
    let loaded = map file_of c.args.rules.now in
    let file = c.args.file.now in
    let t = plain_test c.args.test.now in
    let every = file.interval in
    let gs = by_names file.order (unwaiting_groups loaded) in
    let run = c.in_ok-run.ensures every gs (settings_of every t) (rounds_until every (last_check t)) 0 (new_at_first file.order loaded) (λ history. c.in_ok-groups.ensures history) in
    let filled = c.in_ok-slots.ensures gs (apart_at_first file.order loaded told) run in
    on_ok c.gather-2.result _ _
    (λ e. verdict_is every gs c.args.number t c.args.failures.now.items c.gather.new.failures.items c.gather-2.new.failures.items c.in_ok-slots.slots.alerts.items c.in_ok-slots.slots.exprs.items filled c.in_ok-gather.ensures e)
    c.gather-2.ensures
