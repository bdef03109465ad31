-- The grammar of numbers ends: each rule comes to a byte in a few steps.
use Rattle.std.proofs.Common.{◌≡◌, ℕ, suc, nat_le, true, refl}
use Rattle.pr_time.specs.pr_forms.Reading.{EndsIn, Ends}
use Rattle.pr_ast.specs.Number.{production, Rule, Number, Tail, Fraction, Power, Exponent, Digits}
use Rattle.pr_ast.specs.NumberTable.{table}

abbrev pub rank : Rule → ℕ
rank Number = 5
rank Tail = 4
rank Fraction = 5
rank Power = 3
rank Exponent = 4
rank Digits = 2

abbrev pub steps : ℕ
steps = 8

ends_known : (n : Rule) → EndsIn table rank steps (rank n) (production n)
ends_known Number = ((tt, refl), (refl, refl))
ends_known Tail = (refl, refl)
ends_known Fraction = ((tt, (tt, refl)), refl)
ends_known Power = ((tt, refl), tt)
ends_known Exponent = ((tt, refl), refl)
ends_known Digits = (tt, tt)

below_known : (n : Rule) → nat_le (suc (rank n)) steps ≡ true
below_known Number = refl
below_known Tail = refl
below_known Fraction = refl
below_known Power = refl
below_known Exponent = refl
below_known Digits = refl

pub ends : Ends production table rank steps
ends = record { some = refl; below = below_known; ends = ends_known }
