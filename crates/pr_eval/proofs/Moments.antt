-- What a selector no longer sees is what lies as far back as it reads.
use Rattle.std.proofs.Common.{ℕ, ◌+◌, ◌≤◌, ℤ, pos, negsuc, ◌+ℤ◌, ◌-ℤ◌, ◌≤ℤ◌, refl, arith}
use Rattle.std.proofs.lemmas.Int.{ints}
use Rattle.std.proofs.lemmas.Grind.{common_steps}
use Rattle.pr_range.specs.pr_head.private.Reads.{IsPast}

pub past : (y x z : ℤ) → y ≤ℤ z → (z +ℤ pos 300000) ≤ℤ x → IsPast y x
past (negsuc b) x z h k = λ time u. cc
past (pos b) (negsuc n) z h k = λ time u. refl
past (pos b) (pos n) z h k = λ time u. let far : b + 300000 ≤ n = omega (arith, ints) in grind (arith, common_steps)

pub past_selector : (y : ℤ) (time offset : ℕ) → y ≤ℤ (pos time -ℤ pos (offset + 300000)) → IsPast y (pos time -ℤ pos offset)
past_selector y time offset h = past y (pos time -ℤ pos offset) (pos time -ℤ pos (offset + 300000)) h (omega (arith, ints))

-- a part reads no further back than the whole
pub back_part : (y : ℤ) (time a b : ℕ) → a ≤ b → y ≤ℤ (pos time -ℤ pos b) → y ≤ℤ (pos time -ℤ pos a)
back_part y time a b least h = omega (arith, ints)
