use Rattle.std.proofs.Common.{sym}
use Rattle.pr_expo.proofs.Sound.{sound_at}
use Rattle.pr_expo.proofs.expo_line.line.read_line.Goals as goal

pub returns-in-Ok-clause-sound : goal.returns-in-Ok-clause-sound
returns-in-Ok-clause-sound c = sound_at _ c.in_ok-place.place c.in-Ok.read c.in_ok-place.ensures (sym c.in-Ok.ensures)
