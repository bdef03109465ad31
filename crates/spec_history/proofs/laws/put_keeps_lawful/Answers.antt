use Rattle.spec_history.proofs.Lawful.{put_lawful}
use Rattle.spec_history.proofs.laws.put_keeps_lawful.Goals as goal

pub returns : goal.returns
returns c = put_lawful
