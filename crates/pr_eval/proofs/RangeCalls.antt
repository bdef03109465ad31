-- What calls of functions of ranges give.
use Rattle.std.proofs.Common.{◌≡◌, ℕ, true, false, List, [], ◌∷◌, ◌++◌, Option, Some, None, Result, Ok, Err, ap, subst, sym, refl, ◌∙◌}
use Rattle.pr_range.specs.spec_history.declared.entry.Entry.{Entry}
use Rattle.pr_ast.specs.declared.place.Place.{Place}
use Rattle.pr_ast.specs.declared.names.Func.{Func}
use Rattle.pr_ast.specs.declared.names.Func.TheVariants as fn
use Rattle.pr_ast.specs.Tree.{Tree, number, text, select, range, sub, neg, binary, call, aggregate, none, more}
use Rattle.spec_meaning.specs.pr_types.declared.kind.ValueType.TheVariants.{Range, Scalar}
use Rattle.spec_meaning.specs.pr_types.Typed.{typed}
use Rattle.spec_meaning.proofs.TypesParts.{node_tells}
use Rattle.spec_meaning.specs.declared.fault.Fault.{Fault}
use Rattle.spec_meaning.specs.declared.value.Value.{Value}
use Rattle.spec_meaning.specs.declared.value.Value.TheVariants.{Vector}
use Rattle.spec_meaning.specs.Answers.{go_on}
use Rattle.spec_meaning.specs.Calls.{value_of_call}
use Rattle.spec_meaning.specs.Given.{Given, Ranged}
use Rattle.spec_meaning.specs.Meaning.{given, meaning, operands, ranges}
use Rattle.pr_range.specs.private.Asks.{takes_argument}
use Rattle.pr_eval.specs.private.Asking.{asked_for, takes_range}
use Rattle.pr_eval.specs.private.Parts.{IsValued}
use Rattle.pr_eval.specs.declared.values.error.EvalError.{EvalError}
use Rattle.pr_eval.specs.declared.values.error.EvalError.TheVariants as error
use Rattle.pr_eval.specs.private.Answers.{AnswersTo}
use Rattle.pr_eval.specs.private.Taken.{ranged_of}
use Rattle.pr_eval.specs.declared.subquery.SubquerySeries.{SubquerySeries}
use Rattle.pr_eval.specs.private.Ranged.{AreSeries, HasItsArgument, call_in, made_of, prediction_by, quantile_by, use_alone}
use Rattle.pr_eval.proofs.Answering.{ends}
use Rattle.pr_eval.proofs.Operands.{chained, one_more}

-- a range is no value
pub no_value : (step : ℕ) (history : List Entry) (t : Tree) (time : ℕ) → typed t ≡ Ok Range → meaning step history t time ≡ Ok (Vector [])
no_value step history (range p s d) time h = refl
no_value step history (sub p u d i o) time h = refl
no_value step history (number p v) time h = let tells = node_tells (number p v) Range h in absurd cc
no_value step history (text p u) time h = let tells = node_tells (text p u) Range h in absurd cc
no_value step history (select p s) time h = let tells = node_tells (select p s) Range h in absurd cc
no_value step history (neg p u) time h = let tells = node_tells (neg p u) Range h in absurd cc
no_value step history (binary p o b m l r) time h = let tells = node_tells (binary p o b m l r) Range h in absurd cc
no_value step history (call p f ts) time h = let tells = node_tells (call p f ts) Range h in absurd cc
no_value step history (aggregate p o g ts) time h = let tells = node_tells (aggregate p o g ts) Range h in absurd cc
no_value step history none time h = let tells = node_tells none Range h in absurd cc
no_value step history (more ts u) time h = let tells = node_tells (more ts u) Range h in absurd cc

-- a range behind other arguments
range_behind : (step : ℕ) (history : List Entry) (ts t : Tree) (time : ℕ) → typed t ≡ Ok Range
    → operands step history (more ts t) time ≡ go_on (λ gs. go_on (λ r. Ok (gs ++ given r (Vector []) ∷ [])) (ranges step history t time)) (operands step history ts time)
range_behind step history ts t time h = λ i. go_on (λ gs. go_on (λ r. go_on (λ v. Ok (gs ++ given r v ∷ [])) (no_value step history t time h i)) (ranges step history t time)) (operands step history ts time)

-- a function of a range alone
made_alone : (history : List Entry) (p : Place) (f : Func) (ts : Tree) (time : ℕ) (r : Option Ranged) → takes_range f ≡ true → takes_argument (asked_for f) ≡ false
    → value_of_call history p f ts time (given r (Vector []) ∷ []) ≡ made_of (use_alone p f ts) r
made_alone history p fn.AbsentOverTime ts time None h k = refl
made_alone history p fn.AbsentOverTime ts time (Some r) h k = refl
made_alone history p fn.Rate ts time r h k = refl
made_alone history p fn.Increase ts time r h k = refl
made_alone history p fn.Delta ts time r h k = refl
made_alone history p fn.Irate ts time r h k = refl
made_alone history p fn.Idelta ts time r h k = refl
made_alone history p fn.Deriv ts time r h k = refl
made_alone history p fn.Changes ts time r h k = refl
made_alone history p fn.Resets ts time r h k = refl
made_alone history p fn.SumOverTime ts time r h k = refl
made_alone history p fn.AvgOverTime ts time r h k = refl
made_alone history p fn.MinOverTime ts time r h k = refl
made_alone history p fn.MaxOverTime ts time r h k = refl
made_alone history p fn.CountOverTime ts time r h k = refl
made_alone history p fn.LastOverTime ts time r h k = refl
made_alone history p fn.PresentOverTime ts time r h k = refl
made_alone history p _ ts time r h k = absurd cc

pub use_func : (p : Place) (f : Func) (ts : Tree) → takes_range f ≡ true → (call_in (use_alone p f ts)).func ≡ asked_for f
use_func p fn.AbsentOverTime ts h = refl
use_func p fn.Rate ts h = refl
use_func p fn.Increase ts h = refl
use_func p fn.Delta ts h = refl
use_func p fn.Irate ts h = refl
use_func p fn.Idelta ts h = refl
use_func p fn.Deriv ts h = refl
use_func p fn.PredictLinear ts h = refl
use_func p fn.Changes ts h = refl
use_func p fn.Resets ts h = refl
use_func p fn.SumOverTime ts h = refl
use_func p fn.AvgOverTime ts h = refl
use_func p fn.MinOverTime ts h = refl
use_func p fn.MaxOverTime ts h = refl
use_func p fn.CountOverTime ts h = refl
use_func p fn.LastOverTime ts h = refl
use_func p fn.PresentOverTime ts h = refl
use_func p fn.QuantileOverTime ts h = refl
use_func p _ ts h = absurd cc

pub use_argument : (p : Place) (f : Func) (ts : Tree) → takes_range f ≡ true → takes_argument (asked_for f) ≡ false → HasItsArgument (use_alone p f ts)
use_argument p fn.AbsentOverTime ts h k = refl
use_argument p fn.Rate ts h k = refl
use_argument p fn.Increase ts h k = refl
use_argument p fn.Delta ts h k = refl
use_argument p fn.Irate ts h k = refl
use_argument p fn.Idelta ts h k = refl
use_argument p fn.Deriv ts h k = refl
use_argument p fn.Changes ts h k = refl
use_argument p fn.Resets ts h k = refl
use_argument p fn.SumOverTime ts h k = refl
use_argument p fn.AvgOverTime ts h k = refl
use_argument p fn.MinOverTime ts h k = refl
use_argument p fn.MaxOverTime ts h k = refl
use_argument p fn.CountOverTime ts h k = refl
use_argument p fn.LastOverTime ts h k = refl
use_argument p fn.PresentOverTime ts h k = refl
use_argument p _ ts h k = absurd cc

pub call_alone : (step : ℕ) (history : List Entry) (p : Place) (f : Func) (t : Tree) (time : ℕ) → takes_range f ≡ true → takes_argument (asked_for f) ≡ false → typed t ≡ Ok Range
    → go_on (value_of_call history p f (more none t) time) (operands step history (more none t) time) ≡ go_on (made_of (use_alone p f (more none t))) (ranges step history t time)
call_alone step history p f t time h k is =
    ap (go_on (value_of_call history p f (more none t) time)) (range_behind step history none t time is)
    ∙ chained (λ r. Ok (given r (Vector []) ∷ [])) (value_of_call history p f (more none t) time) (ranges step history t time)
    ∙ (λ i. go_on (λ r. made_alone history p f (more none t) time r h k i) (ranges step history t time))

-- a scalar before a range
pub call_behind : (step : ℕ) (history : List Entry) (p : Place) (l t : Tree) (time : ℕ) → IsValued l → typed t ≡ Ok Range
    → go_on (value_of_call history p fn.QuantileOverTime (more (more none l) t) time) (operands step history (more (more none l) t) time) ≡ go_on (λ v. go_on (made_of (quantile_by p v)) (ranges step history t time)) (meaning step history l time)
call_behind step history p l t time valued is =
    ap (go_on next) (range_behind step history (more none l) t time is ∙ ap (go_on (λ gs. go_on (λ r. Ok (gs ++ given r (Vector []) ∷ [])) (ranges step history t time))) (one_more step history none l time valued))
    ∙ by (meaning step history l time) (ranges step history t time) where
      next : List Given → Result Value Fault
      next = value_of_call history p fn.QuantileOverTime (more (more none l) t) time

      by : (a : Result Value Fault) (b : Result (Option Ranged) Fault)
          → go_on next (go_on (λ gs. go_on (λ r. Ok (gs ++ given r (Vector []) ∷ [])) b) (go_on (λ gs. go_on (λ v. Ok (gs ++ given None v ∷ [])) a) (Ok []))) ≡ go_on (λ v. go_on (made_of (quantile_by p v)) b) a
      by (Ok v) (Ok r) = refl
      by (Ok v) (Err e) = refl
      by (Err e) b = refl

-- a scalar behind a range
pub call_before : (step : ℕ) (history : List Entry) (p : Place) (t r : Tree) (time : ℕ) → typed t ≡ Ok Range → IsValued r
    → go_on (value_of_call history p fn.PredictLinear (more (more none t) r) time) (operands step history (more (more none t) r) time) ≡ go_on (λ s. go_on (λ v. made_of (prediction_by p v) s) (meaning step history r time)) (ranges step history t time)
call_before step history p t r time is valued =
    ap (go_on next) (one_more step history (more none t) r time valued ∙ ap (go_on (λ gs. go_on (λ v. Ok (gs ++ given None v ∷ [])) (meaning step history r time))) (range_behind step history none t time is))
    ∙ by (ranges step history t time) (meaning step history r time) where
      next : List Given → Result Value Fault
      next = value_of_call history p fn.PredictLinear (more (more none t) r) time

      by : (a : Result (Option Ranged) Fault) (b : Result Value Fault)
          → go_on next (go_on (λ gs. go_on (λ v. Ok (gs ++ given None v ∷ [])) b) (go_on (λ gs. go_on (λ s. Ok (gs ++ given s (Vector []) ∷ [])) a) (Ok []))) ≡ go_on (λ s. go_on (λ v. made_of (prediction_by p v) s) b) a
      by (Ok s) (Ok v) = refl
      by (Ok s) (Err e) = refl
      by (Err e) b = refl

-- the faults of the operands, and their values
pub series_end : (next : Option Ranged → Result Value Fault) (meant : Result (Option Ranged) Fault) (e : EvalError) → AreSeries meant (Err e) → AnswersTo (go_on next meant) (Err e)
series_end next meant (error.Fault p k) h = ap (go_on next) h
series_end next meant error.Memory h = tt

pub predicted : (p : Place) (rs : Result (Option Ranged) Fault) (ms : Result Value Fault) (v : Value) (r : Result Value EvalError) → ms ≡ Ok v → AnswersTo (go_on (made_of (prediction_by p v)) rs) r
    → AnswersTo (go_on (λ s. go_on (λ w. made_of (prediction_by p w) s) ms) rs) r
predicted p rs ms v r is h = subst (λ m. AnswersTo (go_on (λ s. go_on (λ w. made_of (prediction_by p w) s) m) rs) r) (sym is) h

pub scalar_ends : (p : Place) (rs : Result (Option Ranged) Fault) (s : Option Ranged) (ms : Result Value Fault) (e : EvalError) → rs ≡ Ok s → AnswersTo ms (Err e)
    → AnswersTo (go_on (λ t. go_on (λ w. made_of (prediction_by p w) t) ms) rs) (Err e)
scalar_ends p rs s ms e is h = subst (λ q. AnswersTo (go_on (λ t. go_on (λ w. made_of (prediction_by p w) t) ms) q) (Err e)) (sym is) (ends (λ w. made_of (prediction_by p w) s) ms e h)

pub series_are : (meant : Result (Option Ranged) Fault) (g : SubquerySeries) → AreSeries meant (Ok g) → (s : Option Ranged) × (meant ≡ Ok s)
series_are meant g h = (Some (ranged_of g.range h.0), h.1.1.1)

pub scalar_valued : (t : Tree) → typed t ≡ Ok Scalar → IsValued t
scalar_valued t h = record { gives = Scalar; typed_so = h; no_range = refl }
