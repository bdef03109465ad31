use Rattle.spec_meaning.proofs.Selecting.{chosen_by_rising, selected_rising}
use Rattle.spec_meaning.proofs.laws.chosen_series_are_in_label_order.Goals as goal

pub returns-clause-chosen : goal.returns-clause-chosen
returns-clause-chosen c = chosen_by_rising

pub returns-clause-shown : goal.returns-clause-shown
returns-clause-shown c = selected_rising
