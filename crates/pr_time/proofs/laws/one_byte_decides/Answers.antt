use Rattle.pr_time.proofs.SpanTable.{known}
use Rattle.pr_time.proofs.laws.one_byte_decides.Goals as goal

pub returns : goal.returns
returns c = known
