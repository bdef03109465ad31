-- What computes the events of a few turns, and the printed counts.
use Rattle.std.specs.Prelude.{⊤}
use Rattle.std.specs.Fmt.{digits}
use Rattle.pr_exercise.specs.Exercise.{exercise_events}

unfoldable pub computing : ⊤
unfolding digits exercise_events
computing = tt
