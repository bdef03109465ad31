-- Values with their times, one after another.
use Rattle.std.specs.Prelude.{Bool, ℤ, pos, List, [], ◌∷◌, map, drop, Option, Some, None, Result, Ok, Err}
use Rattle.std.specs.List.{list_any, zip}
use Rattle.pr_num.specs.declared.value.Num.{Num}
use Rattle.pr_num.specs.declared.value.Num.TheVariants.{Finite, NaN, PosInf, NegInf}
use Rattle.pr_num.specs.declared.value.TooWide.{TooWide}
use Rattle.pr_num.specs.Order.{compared}
use Rattle.spec_history.specs.declared.spot.Spot.{Spot}
use Rattle.spec_vectors.specs.Histogram.{is_special}
use Rattle.spec_vectors.specs.Operators.{is_greater}

-- the values without their times
abbrev pub numbers_of : List Spot → List Num
numbers_of spots = map (λ s. s.value) spots

-- the last of a list that has a first
abbrev pub last_of : {X : Type 0} → X → List X → X
last_of x [] = x
last_of x (y ∷ ys) = last_of y ys

-- each value with the next one
abbrev pub neighbours : {X : Type 0} → List X → List (X × X)
neighbours xs = zip xs (drop 1 xs)

-- whether the second of two is below the first, as numbers
abbrev pub falls : Num × Num → Bool
falls p = is_greater (compared p.0 p.1)

-- the units of a finite value, and whether one of some values is not finite
abbrev pub units_in : Num → ℤ
units_in (Finite units) = units
units_in NaN = pos 0
units_in PosInf = pos 0
units_in NegInf = pos 0

abbrev pub has_special : List Num → Bool
has_special values = list_any is_special values

-- what a function gives is a value
abbrev pub some_value : Result Num TooWide → Result (Option Num) TooWide
some_value (Ok value) = Ok (Some value)
some_value (Err e) = Err e

-- a formula of two values at least: nothing of one
abbrev pub of_two : (Spot → List Spot → Result Num TooWide) → Spot → List Spot → Result (Option Num) TooWide
of_two formula first [] = Ok None
of_two formula first (second ∷ rest) = some_value (formula first (second ∷ rest))
