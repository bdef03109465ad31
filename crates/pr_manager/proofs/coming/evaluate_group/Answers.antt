use Rattle.std.proofs.Common.{ap, sym, ◌∙◌}
use Rattle.spec_world.specs.declared.report.Report.TheVariants as report
use Rattle.pr_manager.specs.private.Coming.{too_late}
use Rattle.pr_manager.proofs.Evaluated.{comes_evaluated, few_group, own_evaluated}
use Rattle.pr_manager.proofs.coming.evaluate_group.Goals as goal

pub returns-in_ok-evaluate-in-None-clause-comes : goal.returns-in_ok-evaluate-in-None-clause-comes
returns-in_ok-evaluate-in-None-clause-comes g c = λ s history it under may.
    let fits = g.R.Ranges.fits in
    let last = g.R.Ranges.last in
    let passed = g.R.Ranges.passed in
    let k = c.args.group.now in
    let kept = c.evaluate.new.self in
    let told = c.in_ok-evaluate-in-None.field-0 in
    let e = c.in_ok-evaluate-in-None.ensures in
    comes_evaluated fits last passed g.R.Ranges.keeps s it k kept history c.args.time c.args.head.now c.evaluate.new.head c.args.reads.now c.evaluate.new.reads (report.Evaluated told) under
    (ap (λ o. too_late o c.args.time) (sym c.last.ensures) ∙ sym c.too_late.ensures ∙ c.in-None.is)
    (λ after.
    own_evaluated fits last passed g.R.Ranges.keeps s it k kept history c.args.time c.args.head.now c.evaluate.new.head c.args.reads.now c.evaluate.new.reads told under.told may.lawful
    (e.report history it may under.keeps after) (e.head history it may under.keeps after) (e.keeps history it may under.keeps after) (e.reads history it may under.keeps after)
    (e.passed history it may under.keeps after) e.def e.file e.settings)

pub returns-in_ok-evaluate-in-None-clause-reads : goal.returns-in_ok-evaluate-in-None-clause-reads
returns-in_ok-evaluate-in-None-clause-reads g c = λ s history it under may.
    few_group g.R.Ranges.fits g.R.Ranges.last g.R.Ranges.passed s it c.args.group.now history c.args.time c.args.reads.now c.evaluate.new.reads under
    (ap (λ o. too_late o c.args.time) (sym c.last.ensures) ∙ sym c.too_late.ensures ∙ c.in-None.is) (λ after. c.evaluate.ensures.reads history it may under.keeps after)

pub returns-in_err-evaluate-in-None-clause-reads : goal.returns-in_err-evaluate-in-None-clause-reads
returns-in_err-evaluate-in-None-clause-reads g c = λ s history it under may.
    few_group g.R.Ranges.fits g.R.Ranges.last g.R.Ranges.passed s it c.args.group.now history c.args.time c.args.reads.now c.evaluate.new.reads under
    (ap (λ o. too_late o c.args.time) (sym c.last.ensures) ∙ sym c.too_late.ensures ∙ c.in-None.is) (λ after. c.evaluate.ensures.reads history it may under.keeps after)
