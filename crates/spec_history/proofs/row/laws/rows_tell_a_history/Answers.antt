use Rattle.spec_history.proofs.HistoryLaws.{rows_go_on, row_goes_on, no_entry, no_addition, first_stays, told_is_lawful}
use Rattle.spec_history.proofs.row.laws.rows_tell_a_history.Goals as goal

pub returns-clause-lawful : goal.returns-clause-lawful
returns-clause-lawful c = told_is_lawful

pub returns-clause-added : goal.returns-clause-added
returns-clause-added c = rows_go_on

pub returns-clause-next : goal.returns-clause-next
returns-clause-next c = row_goes_on

pub returns-clause-no_entry : goal.returns-clause-no_entry
returns-clause-no_entry c = no_entry

pub returns-clause-refused : goal.returns-clause-refused
returns-clause-refused c = no_addition

pub returns-clause-first : goal.returns-clause-first
returns-clause-first c = first_stays
