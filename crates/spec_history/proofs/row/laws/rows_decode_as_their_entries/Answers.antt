use Rattle.spec_history.proofs.RowLaws.{entry_back, row_of_entry}
use Rattle.spec_history.proofs.row.laws.rows_decode_as_their_entries.Goals as goal

pub returns-clause-back : goal.returns-clause-back
returns-clause-back c = λ e s. entry_back e s

pub returns-clause-only : goal.returns-clause-only
returns-clause-only c = λ row e h. row_of_entry row e h
