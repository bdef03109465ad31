use Rattle.std.proofs.Common.{◌≡◌, ◌∷◌, take}
use Rattle.spec_vectors.specs.Spots.{numbers_of}
use Rattle.pr_range.proofs.values.numbers.Given as goal

-- the values so far
abbrev pub invariant-loop-spot : goal.invariant-loop-spot
invariant-loop-spot l = l.numbers.items ≡ l.first.value ∷ numbers_of (take l.spot-index l.rest)
