use Rattle.spec_world.proofs.RulefileSoundGroups.{all_rules}
use Rattle.pr_manager.proofs.TemplatesOfFiles.{defs_of_groups}
use Rattle.pr_manager.proofs.templates.rules_that_read_have_templates.Goals as goal

pub returns-clause-rules : goal.returns-clause-rules
returns-clause-rules c = all_rules (λ r h. h.templates)

pub returns-clause-file : goal.returns-clause-file
returns-clause-file c = λ text file h. defs_of_groups file.groups (all_rules (λ r h. h.templates) text _ h)
