-- That there are values at all, as a fold.
use Rattle.std.specs.Prelude.{◌≡◌, ℕ, ◌+◌, ◌≤◌}
use Rattle.std.proofs.Common.{arith, refl}
use Rattle.pr_num.specs.declared.value.Num.{Num}

abbrev pub any : Num → Unit {0}
any v = tt

abbrev pub both : Unit {0} → Unit {0} → Unit {0}
both a b = tt

abbrev pub nothing : Unit {0} → ℕ
nothing a = 0

pub both_assoc : (a b c : Unit {0}) → both (both a b) c ≡ both a (both b c)
both_assoc a b c = refl

pub weighs_nothing : (v : Num) → nothing (any v) ≤ 1
weighs_nothing v = omega arith

pub both_weigh_nothing : (a b : Unit {0}) → nothing (both a b) ≤ nothing a + nothing b
both_weigh_nothing a b = omega arith
