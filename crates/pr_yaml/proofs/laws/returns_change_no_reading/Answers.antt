use Rattle.pr_yaml.proofs.ReturnLines.{same_reading}
use Rattle.pr_yaml.proofs.laws.returns_change_no_reading.Goals as goal

pub returns : goal.returns
returns c = same_reading
