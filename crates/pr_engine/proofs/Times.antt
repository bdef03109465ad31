-- Moments, beside times that rise.
use Rattle.std.proofs.Common.{◌≡◌, ℕ, ℤ, pos, ◌-ℤ◌, ◌≤ℤ◌, ◌≤◌, false, List, Option, Some, None, arith}
use Rattle.std.specs.Prelude.{nat_lt}
use Rattle.std.proofs.lemmas.Grind.{common_steps}
use Rattle.std.proofs.lemmas.Int.{ints}
use Rattle.pr_head.specs.spec_history.declared.entry.Entry.{Entry}
use Rattle.pr_head.specs.private.Intake.{Series}
use Rattle.pr_manager.specs.spec_world.private.Laws.{IsNotBefore}
use Rattle.pr_engine.specs.private.Rows.{HoldsAll}
use Rattle.pr_engine.specs.private.Standing.{IsHeadOf}
use Rattle.pr_engine.specs.private.Times.{IsKeptAbove}

not_before : (time last : ℕ) → nat_lt time last ≡ false → last ≤ time
not_before time last h = grind (arith, common_steps)

pub not_before_itself : (time : ℕ) → IsNotBefore (Some time) time
not_before_itself time = grind (arith, common_steps)

-- what is kept above a moment at a time is kept above it later
pub kept_later : (last : Option ℕ) (time : ℕ) (x : ℤ) → IsNotBefore last time → IsKeptAbove (Some time) x → IsKeptAbove last x
kept_later None time x late above = tt
kept_later (Some last) time x late above = by (not_before time last late) above where
  by : last ≤ time → (pos time -ℤ pos 3888000000) ≤ℤ x → (pos last -ℤ pos 3888000000) ≤ℤ x
  by rises above = omega (arith, ints)

-- a head stands for a history later too
pub head_later : (head : Series) (last : Option ℕ) (time : ℕ) (history : List Entry) → IsNotBefore last time → IsHeadOf head last history → IsHeadOf head (Some time) history
head_later head last time history late h = record {
  holds = h.holds;
  whole = λ x above. h.whole x (kept_later last time x late above);
  lawful = h.lawful;
}

pub head_of_all : (head : Series) (last : Option ℕ) (history : List Entry) → HoldsAll head history → IsHeadOf head last history
head_of_all head last history h = record { holds = h.holds; whole = λ x above. h.whole x; lawful = h.lawful }

-- how far an expression looks back
pub back_enough : (time back : ℕ) → back ≤ 3888000000 → (pos time -ℤ pos 3888000000) ≤ℤ (pos time -ℤ pos back)
back_enough time back h = omega (arith, ints)
