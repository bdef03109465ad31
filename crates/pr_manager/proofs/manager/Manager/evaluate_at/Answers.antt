use Rattle.std.proofs.Common.{◌≡◌, ◌+◌, ◌≤◌, get_or, ap, subst, sym, ◌∙◌}
use Rattle.pr_group.specs.private.Keeping.{passed_by}
use Rattle.pr_manager.specs.private.Keeping.{KeepsUnder, KeptManager, settings_in}
use Rattle.pr_manager.specs.private.Rounds.{cost_after}
use Rattle.pr_manager.proofs.Evaluated.{comes_at}
use Rattle.pr_manager.proofs.Places.{got}
use Rattle.pr_manager.proofs.manager.Manager.evaluate_at.Goals as goal

pub returns-clause-evaluated : goal.returns-clause-evaluated
returns-clause-evaluated g c = λ history k it at under may.
    let fits = g.R.Ranges.fits in
    let last = g.R.Ranges.last in
    let passed = g.R.Ranges.passed in
    let m = c.args.self.now in
    let s = settings_in m in
    let there = c.index_mut.result.now in
    let groups : c.self.inside.groups.items ≡ m.groups = ap (λ (x : KeptManager g.row.R.Denot). x.groups) c.self.view_is in
    let same : there ≡ k = c.index_mut.ensures.value ∙ ap (λ l. get_or l c.args.place there) groups ∙ got m.groups c.args.place k there at in
    comes_at fits last passed g.R.Ranges.keeps s it k there c.evaluate_group.new.group history c.args.time c.args.head.now c.evaluate_group.new.head m.groups c.self.inside.groups.items c.args.place c.args.reads.now
    c.evaluate_group.new.reads c.evaluate_group.result same groups
    (c.evaluate_group.ensures.comes s history it (subst (λ x. KeepsUnder fits last passed s history x it) (sym same) under) may)

pub returns-clause-reads : goal.returns-clause-reads
returns-clause-reads g c = λ history k it at under may.
    let fits = g.R.Ranges.fits in
    let last = g.R.Ranges.last in
    let passed = g.R.Ranges.passed in
    let m = c.args.self.now in
    let s = settings_in m in
    let there = c.index_mut.result.now in
    let groups : c.self.inside.groups.items ≡ m.groups = ap (λ (x : KeptManager g.row.R.Denot). x.groups) c.self.view_is in
    let same : there ≡ k = c.index_mut.ensures.value ∙ ap (λ l. get_or l c.args.place there) groups ∙ got m.groups c.args.place k there at in
    subst (λ x. c.evaluate_group.new.reads ≤ c.args.reads.now + cost_after it.last s it history c.args.time (passed_by passed x history)) same
    (c.evaluate_group.ensures.reads s history it (subst (λ x. KeepsUnder fits last passed s history x it) (sym same) under) may)
