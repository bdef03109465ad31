use Rattle.std.proofs.Common.{◌≡◌, ◌++◌, List, [], map, arith, subst}
use Rattle.spec_rules.specs.Settings.{of_a_run}
use Rattle.pr_engine.proofs.ManagerLoaded.{AreKeptSoFar, empty, kept_all, kept_none, kept_one}
use Rattle.pr_backfill.specs.Filled.{group_of_file}
use Rattle.pr_backfill.specs.declared.stepped.FileGroup.{FileGroup}
use Rattle.pr_backfill.proofs.fresh.push_groups.Goals as goal

pub loop-group-preserved : goal.loop-group-preserved
loop-group-preserved g c = λ history all h.
    let fits = g.R.Ranges.fits in
    let last = g.R.Ranges.last in
    let passed = g.R.Ranges.passed in
    let at = c.loop-group in
    kept_one fits last passed of_a_run history at.kept.items c.push.new.self.items c.in_ok-fresh_group.field-0 (group_of_file c.in-Some.group) (map group_of_file c.next.new.self.rest.items) all
    c.in_ok-push.ensures.items (c.in_ok-fresh_group.ensures history)
    (subst (λ (l : List FileGroup). AreKeptSoFar fits last passed of_a_run history at.kept.items (map group_of_file l) all) c.in-Some.ensures.steps.0 (at.invariant history all h))

pub returns : goal.returns
returns g c = λ history gs each.
    let fits = g.R.Ranges.fits in
    let last = g.R.Ranges.last in
    let passed = g.R.Ranges.passed in
    let left = map group_of_file c.args.groups.items in
    let none : c.loop-group.group-iterator.rest.items ≡ [] = empty c.loop-group.group-iterator.rest.items (let fit = c.loop-group.group-iterator.rest.ok.0 in let few = c.in-None.ensures.steps.0 in omega (arith, fit, few)) in
    kept_all fits last passed of_a_run history c.loop-group.kept.items (gs ++ left)
    (subst (λ (l : List FileGroup). AreKeptSoFar fits last passed of_a_run history c.loop-group.kept.items (map group_of_file l) (gs ++ left)) none
    (c.loop-group.invariant history (gs ++ left) (kept_none fits last passed of_a_run history c.args.kept.now.items gs left each)))
