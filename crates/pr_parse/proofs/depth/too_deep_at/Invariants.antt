use Rattle.std.proofs.Common.{◌≡◌, ◌≤◌, ◌-◌, [], ◌∷◌, false, take, length}
use Rattle.pr_parse.specs.Seen.{kinds_of}
use Rattle.pr_parse.specs.Deep.{fresh, after_kinds, depth}
use Rattle.pr_parse.specs.private.DeepReader.{parts_of}
use Rattle.pr_parse.proofs.depth.too_deep_at.Given as goal

abbrev pub invariant-loop-at : goal.invariant-loop-at
invariant-loop-at l = record {
  within : l.at ≤ length l.tokens;
  low : depth (take l.at (kinds_of l.tokens)) ≤ 100;
  parts : parts_of l.parts ≡ after_kinds (fresh false ∷ []) (take l.at (kinds_of l.tokens));
}

abbrev pub decreases-loop-at : goal.decreases-loop-at
decreases-loop-at l = length l.tokens - l.at
