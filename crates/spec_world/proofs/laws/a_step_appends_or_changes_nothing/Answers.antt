use Rattle.spec_world.proofs.Steps.{alerts_add_nothing, groups_stay, query_adds_nothing, step_refused, step_accepted, targets_stay}
use Rattle.spec_world.proofs.laws.a_step_appends_or_changes_nothing.Goals as goal

pub returns-clause-refused : goal.returns-clause-refused
returns-clause-refused c = step_refused

pub returns-clause-accepted : goal.returns-clause-accepted
returns-clause-accepted c = step_accepted

pub returns-clause-asked : goal.returns-clause-asked
returns-clause-asked c = query_adds_nothing

pub returns-clause-targets : goal.returns-clause-targets
returns-clause-targets c = targets_stay

pub returns-clause-alerts : goal.returns-clause-alerts
returns-clause-alerts c = alerts_add_nothing

pub returns-clause-groups : goal.returns-clause-groups
returns-clause-groups c = groups_stay
