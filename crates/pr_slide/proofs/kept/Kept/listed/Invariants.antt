use Rattle.std.proofs.Common.{◌≡◌, ◌+◌, ◌≤◌, length, take}
use Rattle.pr_slide.proofs.kept.Kept.listed.Given as goal

-- the values so far, each of which is a look
abbrev pub invariant-loop-place : goal.invariant-loop-place
invariant-loop-place g l = record {
  items : l.spots.items ≡ take l.place l.self-inside.window.items;
  within : l.place ≤ length l.self-inside.window.items;
  looks : l.looks ≡ l.fn.looks + l.place;
}
