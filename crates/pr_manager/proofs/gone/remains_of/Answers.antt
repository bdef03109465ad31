use Rattle.std.proofs.Common.{List, ◌++◌, ap, subst}
use Rattle.std.specs.Prelude.{flat_map}
use Rattle.pr_ast.specs.pr_labels.declared.pair.Pair.{Pair}
use Rattle.spec_world.specs.spec_rules.Reloads.{remains}
use Rattle.pr_manager.proofs.Remaining.{AreLeft, left_one, left_end}
use Rattle.pr_manager.proofs.gone.remains_of.Goals as goal

pub remaining-init : goal.remaining-init
remaining-init g c = λ s history groups each. record { groups = groups; each = each; parts = ap (λ (l : List (List Pair)). l ++ flat_map remains groups) c.new-sets.ensures.items }

pub remaining-preserved : goal.remaining-preserved
remaining-preserved g c = λ s history groups each.
    let fits = g.R.Ranges.fits in
    let last = g.R.Ranges.last in
    let passed = g.R.Ranges.passed in
    left_one fits last passed s history c.in-Some.group.now c.in-Some.after.now c.remaining.sets.items c.in_ok-remains.field-0.items c.push_all.new.sets.items (flat_map remains groups)
    (c.in_ok-remains.ensures history) c.in_ok-push_all.ensures
    (subst (λ l. AreLeft fits last passed s history l c.remaining.sets.items (flat_map remains groups)) c.in-Some.ensures.cases.0 (c.remaining.invariant s history groups each))

pub returns : goal.returns
returns g c = λ s history groups each.
    left_end g.R.Ranges.fits g.R.Ranges.last g.R.Ranges.passed s history c.remaining.rest.now c.remaining.sets.items (flat_map remains groups) c.in_default.ensures.cases (c.remaining.invariant s history groups each)
