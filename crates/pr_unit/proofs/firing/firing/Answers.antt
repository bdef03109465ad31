use Rattle.std.proofs.Common.{◌≡◌, [], ◌≤◌, Some, length, slice_get, refl, ap, ◌∙◌, arith}
use Rattle.std.specs.List.{flat_map}
use Rattle.std.proofs.lemmas.Option.{slice_get_read}
use Rattle.spec_tests.specs.pr_rulefile.Order.{ordered}
use Rattle.pr_group.specs.spec_rules.Groups.{Group}
use Rattle.spec_tests.specs.pr_testfile.Alerts.{is_found_before}
use Rattle.spec_tests.specs.Verdict.{firing_of}
use Rattle.pr_unit.proofs.Alerts.{one_more_found}
use Rattle.pr_unit.proofs.Answers.{if_ok}
use Rattle.pr_unit.proofs.Lists.{take_whole}
use Rattle.pr_unit.proofs.Rounds.{group_there}
use Rattle.pr_unit.proofs.firing.firing.Goals as goal

pub groups-preserved : goal.groups-preserved
groups-preserved g c = λ history s gs h.
    let kept = c.args.groups.now in
    let n = c.groups.number in
    let k = c.index-groups-number.result in
    let at : slice_get kept n ≡ Some k = slice_get_read kept (length kept) n k refl c.groups-test.true c.index-groups-number.is in
    let x = group_there g.R.Ranges.fits g.R.Ranges.last g.R.Ranges.passed kept history s gs n k h at in
    let keeps = h.each n k x.element at x.there in
    one_more_found (λ (group : Group). flat_map (firing_of c.args.name.now) group.rules) [] c.groups.founds.items c.push_group.new.founds.items gs n x.element x.there
    (c.groups.invariant history s gs h) (c.in_ok-push_group.ensures history x.element keeps)

pub returns : goal.returns
returns g c = λ history s gs h.
    let kept = c.args.groups.now in
    let n = c.groups.number in
    let all : length gs ≤ n = let m : length kept ≡ length gs = h.many in let f : length kept ≤ n = c.groups-test.false in omega arith in
    let is : c.groups.founds.items ≡ flat_map (λ (group : Group). flat_map (firing_of c.args.name.now) group.rules) gs =
    c.groups.invariant history s gs h ∙ ap (flat_map (λ (group : Group). flat_map (firing_of c.args.name.now) group.rules)) (take_whole gs n all) in
    if_ok c.founds_in_order.result _ _ (λ list e. e ∙ ap (ordered is_found_before) is) c.founds_in_order.ensures
