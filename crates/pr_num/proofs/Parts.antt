-- A wide number in two parts.
use Rattle.std.proofs.Common.{◌≡◌, ℕ, ◌+◌, ◌/◌, ◌%◌, ◌^◌, arith, ℤ, pos, ◌+ℤ◌}
use Rattle.std.proofs.lemmas.Int.{ints}
use Rattle.pr_num.specs.private.Parts.{number_of_parts}

-- the carry of the low parts goes to the high ones
pub parts_added : (h k : ℤ) (l m : ℕ) → number_of_parts (h +ℤ k +ℤ pos ((l + m) / 2 ^ 64)) ((l + m) % 2 ^ 64) ≡ number_of_parts h l +ℤ number_of_parts k m
parts_added h k l m = omega (arith, ints)
