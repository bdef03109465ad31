use Rattle.pr_unit.proofs.Loading.{none_sound, read_is_sound}
use Rattle.pr_unit.proofs.rules.definitions.Goals as goal

pub returns-in-Ok-clause-sound : goal.returns-in-Ok-clause-sound
returns-in-Ok-clause-sound c = read_is_sound c.as_slice.result.now c.in-Ok.file.groups c.in-Ok.ensures.file

pub returns-in-Err-Problems-clause-sound : goal.returns-in-Err-Problems-clause-sound
returns-in-Err-Problems-clause-sound c = none_sound c.empty.result c.empty.ensures
