use Rattle.std.proofs.Common.{◌≡◌}
use Rattle.pr_slide.specs.private.Places.{ArePlacesOf, numbers_of}
use Rattle.pr_slide.proofs.places.Places.note_all.Given as goal

abbrev pub invariant-loop-place : goal.invariant-loop-place
invariant-loop-place l = record {
  places : ArePlacesOf l.self (numbers_of l.nodes);
  count : l.self.0 ≡ l.place;
}
