use Rattle.std.proofs.Common.{◌++◌, List, map, ap, sym, subst, ◌∙◌}
use Rattle.std.specs.Prelude.{flat_map}
use Rattle.spec_world.specs.declared.report.AlertLine.{AlertLine}
use Rattle.spec_world.specs.Rounds.{alert_line, group_alerts}
use Rattle.pr_group.specs.private.Keeping.{KeptGroup}
use Rattle.pr_manager.specs.private.Keeping.{KeepEach, KeptManager, settings_in}
use Rattle.pr_manager.proofs.Listed.{GroupsLeft, groups_end, groups_then}
use Rattle.pr_manager.proofs.manager.Manager.alerts.Goals as goal

pub listing-init : goal.listing-init
listing-init g c = λ s history groups each.
    let is = c.deref-groups.ensures.value ∙ ap (λ (m : KeptManager g.row.R.Denot). m.groups) c.self.view_is in
    record {
      groups = groups;
      each = subst (λ l. KeepEach g.R.Ranges.fits g.R.Ranges.last g.R.Ranges.passed s history l groups) (sym is) each;
      told = ap (λ (l : List AlertLine). l ++ map alert_line (flat_map group_alerts groups)) c.empty-lines.ensures;
    }

pub listing-preserved : goal.listing-preserved
listing-preserved g c = λ s history groups each.
    let fits = g.R.Ranges.fits in
    let last = g.R.Ranges.last in
    let passed = g.R.Ranges.passed in
    let all = map alert_line (flat_map group_alerts groups) in
    groups_then fits last passed s history c.in-Some.group.now c.in-Some.after.now c.listing.lines c.push_group.new.lines all (λ it keeps. c.in_ok-push_group.ensures history it keeps)
    (subst (λ (l : List (KeptGroup g.row.R.Denot)). GroupsLeft fits last passed s history l c.listing.lines all) c.in-Some.ensures.cases.0 (c.listing.invariant s history groups each))

pub returns : goal.returns
returns g c = λ history groups reloaded keeps.
    let fits = g.R.Ranges.fits in
    let last = g.R.Ranges.last in
    let passed = g.R.Ranges.passed in
    let s = settings_in c.args.self.now in
    groups_end fits last passed s history c.listing.rest.now c.listing.lines (map alert_line (flat_map group_alerts groups)) c.in_default.ensures.cases
    (c.listing.invariant s history groups keeps.each)
