use Rattle.std.proofs.Common.{IfOk, subst, sym}
use Rattle.spec_world.specs.spec_rules.declared.definitions.GroupDef.{GroupDef}
use Rattle.spec_world.specs.spec_rules.Definitions.{group_of_def}
use Rattle.spec_world.specs.spec_rules.Groups.{fresh}
use Rattle.pr_group.specs.pr_rule.private.Templates.{HaveTemplates}
use Rattle.pr_group.specs.private.Keeping.{waits_of}
use Rattle.pr_manager.specs.private.Keeping.{KeepsUnder, settings_with}
use Rattle.pr_manager.proofs.Loaded.{new_under, new_unpassed}
use Rattle.pr_manager.proofs.loading.fresh_group.Goals as goal

pub new-requires-2-clause-templates : goal.new-requires-2-clause-templates
new-requires-2-clause-templates g c = subst HaveTemplates (sym c.in_ok-def.ensures.ok) c.requires.templates

pub returns-clause-unpassed : goal.returns-clause-unpassed
returns-clause-unpassed g c = new_unpassed g.R.Ranges.passed c.new-2.result c.new-2.ensures.passed

pub returns-clause-fresh : goal.returns-clause-fresh
returns-clause-fresh g c = λ history.
    let s = settings_with c.args.making.now.step c.args.making.now.external.now in
    subst (λ (d : GroupDef). IfOk c.new-2.result (λ k. KeepsUnder g.R.Ranges.fits g.R.Ranges.last g.R.Ranges.passed s history k (fresh (waits_of c.args.making.now.waits) c.args.name.now (group_of_def d))))
    c.in_ok-def.ensures.ok
    (new_under g.R.Ranges.fits g.R.Ranges.last g.R.Ranges.passed history c.new-2.result (settings_with c.args.making.now.step c.in_ok-external.external) s (waits_of c.args.making.now.waits)
    c.in_ok-file.file c.args.name.now (group_of_def c.in_ok-def.def.value) (λ i. settings_with c.args.making.now.step (c.in_ok-external.ensures i)) c.in_ok-file.ensures (c.new-2.ensures.keeps history) c.new-2.ensures.settings)
