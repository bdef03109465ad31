use Rattle.spec_history.proofs.Lawful.{times_rise}
use Rattle.spec_history.proofs.laws.times_of_a_series_rise.Goals as goal

pub returns : goal.returns
returns c = times_rise
