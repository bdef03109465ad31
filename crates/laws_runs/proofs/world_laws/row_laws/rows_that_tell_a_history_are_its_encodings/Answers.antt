use Rattle.pr_outside.proofs.StoredRows.{rows_of}
use Rattle.laws_runs.proofs.world_laws.row_laws.rows_that_tell_a_history_are_its_encodings.Goals as goal

pub returns : goal.returns
returns c = rows_of c.rows_decode_as_their_entries.ensures.only
