-- What is known of the times of a subquery, one after another.
use Rattle.std.proofs.Common.{◌≡◌, ℕ, suc, ◌+◌, ◌≤◌, List, take, sum_by, slice_get, Some, Result, Ok, Err, arith}
use Rattle.spec_meaning.specs.declared.fault.Fault.{Fault}
use Rattle.spec_meaning.specs.declared.value.Value.{Value}
use Rattle.spec_meaning.specs.Answers.{fault}
use Rattle.spec_meaning.specs.Subqueries.{Taken, at_each}
use Rattle.pr_eval.specs.declared.values.error.EvalError.{EvalError}
use Rattle.pr_eval.specs.declared.values.error.EvalError.TheVariants as error
use Rattle.pr_eval.specs.private.Answers.{AnswersTo}
use Rattle.pr_eval.specs.private.Evaluated.{KeptOfRanges}
use Rattle.pr_eval.specs.private.Subqueries.{AreSeriesGathered, TakesInside}
use Rattle.pr_eval.proofs.EachTime.{each_ends, sum_next, sum_within}
use Rattle.pr_eval.proofs.Inside.{same_then_all}
use Rattle.pr_eval.proofs.Taking.{recast}

-- the fault of one time is that of all
pub each_fails : (expr : ℕ → Result Value Fault) (times : List ℕ) (i time : ℕ) (f : EvalError) (ts : List Taken) → slice_get times i ≡ Some time → at_each expr (take i times) ≡ Ok ts → AnswersTo (expr time) (Err f)
    → AreSeriesGathered (at_each expr times) (Err f)
each_fails expr times i time (error.Fault p k) ts at h is = each_ends expr times i time (fault p k) ts at h is
each_fails expr times i time error.Memory ts at h is = tt

module _ (f : ℕ → ℕ) (times : List ℕ) (i time : ℕ) (at : slice_get times i ≡ Some time) where
  -- one time more
  pub more_taken : {A B C : Type 0} (j : ℕ) (a b c : KeptOfRanges) (F G : Type 0) (r0 r1 r2 : ℕ) (x : A) (y : B) (res : Result C EvalError) → j ≡ suc i
      → TakesInside (sum_by f (take i times)) a b F r0 r1 (Ok x) → TakesInside (f time) b c G r1 r2 (Ok y) → TakesInside (sum_by f (take j times)) a c G r0 r2 res
  more_taken j a b c F G r0 r1 r2 x y res next first second =
      let one : r1 ≤ r0 + sum_by f (take i times) = first.few in
      let other : r2 ≤ r1 + f time = second.few in
      let all : sum_by f (take j times) ≡ sum_by f (take i times) + f time = sum_next f times i j time next at in
      record {
        few = omega (arith, one, other, all);
        fits = λ no. second.fits (λ e. cc);
        same = λ no. same_then_all a b c (first.same (λ e. cc)) (second.same (λ e. cc));
      }

  few_then : (r0 r1 r2 : ℕ) → r1 ≤ r0 + sum_by f (take i times) → r2 ≤ r1 + f time → r2 ≤ r0 + sum_by f times
  few_then r0 r1 r2 one other =
      let all : sum_by f (take i times) + f time ≤ sum_by f times = sum_within f times i time at in
      omega (arith, one, other, all)

  -- the last time that is taken
  pub last_taken : {A B C : Type 0} (a b c : KeptOfRanges) (F G : Type 0) (r0 r1 r2 : ℕ) (x : A) (e : EvalError) → TakesInside (sum_by f (take i times)) a b F r0 r1 (Ok x) → TakesInside {A = B} (f time) b c G r1 r2 (Err e)
      → TakesInside {A = C} (sum_by f times) a c G r0 r2 (Err e)
  last_taken {A} {B} {C} a b c F G r0 r1 r2 x e first second = record {
    few = few_then r0 r1 r2 first.few second.few;
    fits = λ no. second.fits (recast B C e no);
    same = λ no. same_then_all a b c (first.same (λ e. cc)) (second.same (recast B C e no));
  }

  pub last_taken_as : {A B C : Type 0} (a b c : KeptOfRanges) (F G : Type 0) (r0 r1 r2 : ℕ) (x : A) (y : B) (res : Result C EvalError) → TakesInside (sum_by f (take i times)) a b F r0 r1 (Ok x) → TakesInside (f time) b c G r1 r2 (Ok y)
      → TakesInside (sum_by f times) a c G r0 r2 res
  last_taken_as a b c F G r0 r1 r2 x y res first second = record {
    few = few_then r0 r1 r2 first.few second.few;
    fits = λ no. second.fits (λ e. cc);
    same = λ no. same_then_all a b c (first.same (λ e. cc)) (second.same (λ e. cc));
  }
