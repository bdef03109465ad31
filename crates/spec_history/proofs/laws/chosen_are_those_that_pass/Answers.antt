use Rattle.spec_history.proofs.Choosing.{chosen_rising, chosen_among}
use Rattle.spec_history.proofs.laws.chosen_are_those_that_pass.Goals as goal

pub returns-clause-rising : goal.returns-clause-rising
returns-clause-rising c = chosen_rising

pub returns-clause-exactly : goal.returns-clause-exactly
returns-clause-exactly c = chosen_among
