use Rattle.std.proofs.Common.{ap, ◌∙◌}
use Rattle.spec_rules.specs.declared.definitions.GroupDef.{GroupDef}
use Rattle.spec_rules.specs.Evaluations.{group_step}
use Rattle.spec_rules.specs.Settings.{Settings}
use Rattle.pr_engine.proofs.ManagerEvaluated.{own_evaluated}
use Rattle.pr_backfill.proofs.Filling.{stepped_of}
use Rattle.pr_backfill.proofs.round.evaluate.Goals as goal

pub returns : goal.returns
returns g c = λ s history it under may after.
    let fits = g.R.Ranges.fits in
    let last = g.R.Ranges.last in
    let passed = g.R.Ranges.passed in
    let k = c.args.group.now in
    let kept = c.evaluate.new.self in
    let told = c.in_ok-report.report in
    let e = c.in_ok-report.ensures in
    let is = e.report history it may under.keeps after in
    stepped_of fits last passed g.R.Ranges.keeps s it k kept history c.args.time c.args.head.now c.evaluate.new.head c.args.reads.now c.evaluate.new.reads told c.in_ok-file.file c.in_ok-name.name under
    (is ∙ ap (λ (t : Settings). (group_step t it history c.args.time).report) under.told)
    (c.in_ok-file.ensures ∙ c.file.ensures) (c.in_ok-name.ensures ∙ ap (λ (d : GroupDef). d.name) c.def.ensures.same)
    (own_evaluated fits last passed g.R.Ranges.keeps s it k kept history c.args.time c.args.head.now c.evaluate.new.head c.args.reads.now c.evaluate.new.reads told under.told may.lawful
    is (e.head history it may under.keeps after) (e.keeps history it may under.keeps after) (e.reads history it may under.keeps after) (e.passed history it may under.keeps after) e.def e.file e.settings)
