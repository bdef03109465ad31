use Rattle.spec_world.specs.World.{start}
use Rattle.laws_runs.proofs.KeptRows.{kept_rows_tell}
use Rattle.laws_runs.proofs.world_laws.row_laws.kept_rows_tell_the_history.Goals as goal

pub returns : goal.returns
returns c = λ s rows history events told are.
    let of_rows = c.rows_tell_a_history.ensures in
    let of_worlds = c.a_history_is_its_rows.ensures in
    kept_rows_tell s rows history events are (of_worlds.rows s (start history) events) (of_worlds.lawful s (start history) events (of_rows.lawful rows history told).0)
    (λ entries entries_are lawful. of_rows.added rows history entries told entries_are lawful)
