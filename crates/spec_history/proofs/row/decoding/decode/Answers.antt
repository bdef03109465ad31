use Rattle.spec_history.proofs.RowLaws.{answer_bad}
use Rattle.spec_history.proofs.row.decoding.decode.Goals as goal

pub returns-clause-bad : goal.returns-clause-bad
returns-clause-bad c = answer_bad c.args.row.now c.decoded.result c.decoded.ensures
