use Rattle.std.proofs.Common.{map, subst, sym, ap, ◌∙◌}
use Rattle.pr_group.specs.spec_rules.Replays.{unwaiting_groups}
use Rattle.spec_tests.specs.pr_testfile.Tests.{plain_test}
use Rattle.spec_tests.specs.Events.{by_names, settings_of}
use Rattle.pr_unit.specs.private.Kept.{KeepsGroups, name_of}
use Rattle.pr_unit.specs.private.Loaded.{file_of}
use Rattle.pr_unit.specs.private.Ordered.{named_first}
use Rattle.pr_unit.proofs.Answers.{if_ok}
use Rattle.pr_unit.proofs.Keeping.{kept_by_names}
use Rattle.pr_unit.proofs.test.groups_in_order.Goals as goal

pub returns : goal.returns
returns g c = λ history.
    let loaded = map file_of c.args.rules.now in
    let s = settings_of c.args.file.now.interval (plain_test c.args.test.now) in
    let order = c.args.file.now.order in
    let kept = c.in_ok-groups.groups.items in
    let keeps = kept_by_names g.R.Ranges.fits g.R.Ranges.last g.R.Ranges.passed history s order kept (unwaiting_groups loaded) (c.in_ok-groups.ensures history) in
    if_ok c.in_order.result _ _
    (λ v e. subst (λ ks. KeepsGroups g.R.Ranges.fits g.R.Ranges.last g.R.Ranges.passed ks history s (by_names order (unwaiting_groups loaded))) (ap (λ names. named_first name_of names kept) (sym c.as_slice.ensures) ∙ sym e) keeps)
    c.in_order.ensures
