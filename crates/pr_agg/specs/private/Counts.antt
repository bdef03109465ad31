-- Counting as a fold, and that there are values at all.
use Rattle.std.specs.Prelude.{◌≡◌, ℕ, ◌+◌, ◌≤◌, pos, List, map}
use Rattle.std.proofs.Common.{arith}
use Rattle.pr_num.specs.declared.value.Num.{Num}
use Rattle.pr_num.specs.Arithmetic.{whole_of}
use Rattle.pr_window.specs.pr_labels.declared.pair.Pair.{Pair}
use Rattle.pr_window.specs.pr_labels.declared.item.Item.{Item}
use Rattle.pr_window.specs.spec_vectors.Vectors.{element}

-- one for each value, the number of two parts, and the number itself as the weight
abbrev pub one_each : Num → ℕ
one_each v = 1

abbrev pub both_parts : ℕ → ℕ → ℕ
both_parts a b = a + b

abbrev pub as_many : ℕ → ℕ
as_many n = n

pub both_assoc : (a b c : ℕ) → both_parts (both_parts a b) c ≡ both_parts a (both_parts b c)
both_assoc a b c = omega arith

pub one_weighs_one : (v : Num) → as_many (one_each v) ≤ 1
one_weighs_one v = omega arith

pub both_weigh : (a b : ℕ) → as_many (both_parts a b) ≤ as_many a + as_many b
both_weigh a b = omega arith

-- an element with a number as its value
abbrev pub numbered : List Pair × ℕ → Item Num
numbered e = element e.0 (whole_of (pos e.1))

abbrev pub numbered_all : List (List Pair × ℕ) → List (Item Num)
numbered_all entries = map numbered entries
