use Rattle.std.proofs.Common.{◌≡◌, drop}
use Rattle.pr_slide.specs.private.Later.{later}
use Rattle.pr_slide.specs.private.Successions.{changes_in, specials_in}
use Rattle.pr_slide.proofs.successive.uncount_leading.Given as goal

-- none so far is after the moment, and the others are counted
abbrev pub invariant-loop-place : goal.invariant-loop-place
invariant-loop-place l = record {
  none : later l.time (drop l.place l.spots) ≡ later l.time l.spots;
  fallen : l.counts.fallen ≡ l.fn.counts.fallen;
  changes : l.counts.changes ≡ changes_in (drop l.place l.spots);
  special : l.counts.special ≡ specials_in (drop l.place l.spots);
}
