use Rattle.std.proofs.Common.{List, sym, subst}
use Rattle.std.specs.List.{All}
use Rattle.pr_engine.specs.pr_rule.private.Templates.{HasTemplates}
use Rattle.spec_rules.specs.declared.definitions.RuleDef.{RuleDef}
use Rattle.spec_rules.specs.Definitions.{rule_of_def}
use Rattle.pr_backfill.proofs.Recording.{group_recorded, have_templates}
use Rattle.pr_backfill.proofs.fresh.recording_group.Goals as goal

pub returns-clause-group : goal.returns-clause-group
returns-clause-group c = group_recorded c.args.def c.in_ok-recording_rules.field-0 c.in_ok-recording_rules.ensures

pub returns-clause-templates : goal.returns-clause-templates
returns-clause-templates c =
    subst (λ (l : List RuleDef). All (λ r. HasTemplates (rule_of_def r)) l) (sym c.in_ok-recording_rules.ensures) (have_templates c.args.def.rules)
