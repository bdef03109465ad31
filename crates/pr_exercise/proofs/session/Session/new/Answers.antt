use Rattle.std.proofs.Common.{◌+◌, ◌^◌, sym, subst, arith}
use Rattle.pr_exercise.specs.private.Tallies.{HasRoomForTexts, no_lines}
use Rattle.pr_exercise.proofs.Tallies.{room_at_first, texts_less}
use Rattle.pr_exercise.proofs.session.Session.new.Goals as goal

pub tell-requires : goal.tell-requires
tell-requires g c = subst (HasRoomForTexts 1) (sym c.new.ensures) (texts_less no_lines 1 (2 ^ 64 + 1) (omega arith) room_at_first)

pub returns-clause-room : goal.returns-clause-room
returns-clause-room g c = c.in_ok-tell.ensures.room (2 ^ 64) (subst (HasRoomForTexts (2 ^ 64 + 1)) (sym c.new.ensures) room_at_first)
