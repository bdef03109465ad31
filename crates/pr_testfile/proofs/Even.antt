-- Even steps that are too wide.
use Rattle.std.proofs.Common.{◌≡◌, ℕ, ℤ, ◌^◌, ◌<◌, ◌≤◌, Option, Some, None, Bool, true, false, refl, arith, nat_lt, ap, ◌∙◌}
use Rattle.std.specs.Prelude.{unsigned_abs, Ok, Err, cond}
use Rattle.std.specs.Result.{result_ok}
use Rattle.std.specs.Option.{option_map, SomeIff}
use Rattle.std.proofs.lemmas.Bool.Decides.{nat_tests}
use Rattle.pr_num.specs.declared.value.Num.TheVariants.{Finite}
use Rattle.pr_num.specs.Units.{IsNano}
use Rattle.pr_num.specs.Arithmetic.{fitted, too_wide}

pub too_wide_is_none : (z : ℤ) → 10 ^ 29 ≤ unsigned_abs z → None ≡ result_ok (fitted z)
too_wide_is_none z h = by (nat_lt (unsigned_abs z) (10 ^ 29)) refl where
  by : (b : Bool) → nat_lt (unsigned_abs z) (10 ^ 29) ≡ b → None ≡ result_ok (cond b (Ok (Finite z)) (Err too_wide))
  by true e = grind (arith, nat_tests)
  by false e = refl

pub fit_is_some : (z : ℤ) → unsigned_abs z < 10 ^ 29 → Some (Finite z) ≡ result_ok (fitted z)
fit_is_some z h = by (nat_lt (unsigned_abs z) (10 ^ 29)) refl where
  by : (b : Bool) → nat_lt (unsigned_abs z) (10 ^ 29) ≡ b → Some (Finite z) ≡ result_ok (cond b (Ok (Finite z)) (Err too_wide))
  by true e = refl
  by false e = grind (arith, nat_tests)

pub by_new : (o : Option ℤ) (z : ℤ) → SomeIff o (IsNano z) z → option_map (λ n. Finite n) o ≡ result_ok (fitted z)
by_new None z h = too_wide_is_none z (by_cases (unsigned_abs z) h) where
  by_cases : (n : ℕ) → (n < 10 ^ 29 → ⊥) → 10 ^ 29 ≤ n
  by_cases n h = omega arith
by_new (Some x) z h = ap (λ n. Some (Finite n)) h.1 ∙ fit_is_some z h.0
