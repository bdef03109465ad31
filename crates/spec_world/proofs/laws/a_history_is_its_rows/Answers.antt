use Rattle.spec_world.proofs.Steps.{history_is_rows, stays_lawful}
use Rattle.spec_world.proofs.laws.a_history_is_its_rows.Goals as goal

pub returns-clause-rows : goal.returns-clause-rows
returns-clause-rows c = history_is_rows

pub returns-clause-lawful : goal.returns-clause-lawful
returns-clause-lawful c = stays_lawful
