use Rattle.pr_fn.proofs.CivilDates.{date_1900, date_1970, date_2000, date_2024, date_9999}
use Rattle.pr_fn.proofs.laws.dates_by_example.Goals as goal

pub returns-clause-epoch : goal.returns-clause-epoch
returns-clause-epoch c = date_1970

pub returns-clause-leap : goal.returns-clause-leap
returns-clause-leap c = date_2000

pub returns-clause-century : goal.returns-clause-century
returns-clause-century c = date_1900

pub returns-clause-late : goal.returns-clause-late
returns-clause-late c = date_2024

pub returns-clause-last : goal.returns-clause-last
returns-clause-last c = date_9999
