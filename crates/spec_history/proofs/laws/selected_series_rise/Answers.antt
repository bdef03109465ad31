use Rattle.spec_history.proofs.Selected.{selected_rising}
use Rattle.spec_history.proofs.laws.selected_series_rise.Goals as goal

pub returns : goal.returns
returns c = selected_rising
