-- What holds where an object tells something, and how a command ends where nothing was refused.
use Rattle.std.proofs.Common.{◌≡◌, ℕ, ◌≤◌, ◌<◌, ◌^◌, Bool, true, false, List, length, Option, Some, None, IfSome, Ok, refl, subst, arith}
use Rattle.pr_outside.specs.Ends.{status_of}
use Rattle.pr_outside.specs.Status.{IsLong, verdict}

pub on_told : (a : Option (List ℕ)) (P : List ℕ → Type 0) → ((x : List ℕ) → a ≡ Some x → P x) → IfSome a P
on_told None P f = tt
on_told (Some x) P f = f x refl

pub at_told : (a : Option (List ℕ)) (P : List ℕ → Type 0) (x : List ℕ) → a ≡ Some x → IfSome a P → P x
at_told a P x is p = subst (λ (o : Option (List ℕ)). IfSome o P) is p

pub long_not_short : (bytes : List ℕ) (a : Option (List ℕ)) → a ≡ Some bytes → length bytes < 2 ^ 32 → IsLong a → ⊥
long_not_short bytes a is few long = omega (arith, few, at_told a (λ b. 2 ^ 32 ≤ length b) bytes is long)

pub status_is : (b : Bool) → status_of (Ok b) ≡ verdict b
status_is true = refl
status_is false = refl
