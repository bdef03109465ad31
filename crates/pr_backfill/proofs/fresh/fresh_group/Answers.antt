use Rattle.std.proofs.Common.{ap, subst, sym, ◌∙◌}
use Rattle.pr_engine.specs.pr_rule.private.Templates.{HaveTemplates}
use Rattle.spec_rules.specs.Settings.{of_a_run}
use Rattle.spec_rules.specs.Definitions.{group_of_def}
use Rattle.pr_backfill.specs.Filled.{recording_only}
use Rattle.pr_engine.specs.pr_manager.private.Keeping.{settings_with}
use Rattle.pr_backfill.proofs.Recording.{fresh_under, run_settings}
use Rattle.pr_backfill.proofs.fresh.fresh_group.Goals as goal

pub new-requires-2-clause-templates : goal.new-requires-2-clause-templates
new-requires-2-clause-templates g c = subst HaveTemplates (sym c.in_ok-def.ensures.ok) c.in_ok-recording.ensures.templates

pub returns : goal.returns
returns g c = λ history.
    fresh_under g.R.Ranges.fits g.R.Ranges.last g.R.Ranges.passed history c.new-2.result (settings_with c.minute.result c.no_external.result) of_a_run c.args.group.file (group_of_def c.in_ok-def.def.value) (recording_only (group_of_def c.args.group.def))
    (run_settings c.minute.result c.no_external.result c.minute.ensures c.no_external.ensures) (ap group_of_def c.in_ok-def.ensures.ok ∙ c.in_ok-recording.ensures.group) (c.new-2.ensures.keeps history) c.new-2.ensures.settings
