-- Facts of the reader's places.
use Rattle.std.proofs.Common.{◌≡◌, ℕ, suc, zero, ◌+◌, ◌≤◌, Bool, false, List, [], ◌∷◌, length, drop, arith}
use Rattle.pr_yaml.specs.Plain.{plain_ending, ending_of, plain_len}
use Rattle.pr_yaml.specs.declared.yaml_scan.plain.Ending.TheVariants.{AtColon}

colon_at : (here : List ℕ) (n : ℕ) → ending_of (drop n here) ≡ AtColon → n + 1 ≤ length here
colon_at [] zero e = absurd cc
colon_at [] (suc n) e = absurd cc
colon_at (b ∷ here) zero e = omega arith
colon_at (b ∷ here) (suc n) e = let h = colon_at here n e in omega (arith, h)

pub colon_within : (inside : Bool) (here : List ℕ) → plain_ending inside here ≡ AtColon → plain_len inside false here + 1 ≤ length here
unfolding plain_ending
colon_within inside here e = colon_at here (plain_len inside false here) e
