-- The first arguments of a call, as a front of all of them.
use Rattle.std.proofs.Common.{◌≡◌, ℕ, zero, suc, ◌+◌, ◌≤◌, max, Bool, true, false, ◌&&◌, List, [], ◌∷◌, ◌++◌, length, take, drop, map, slice_get, Some, Err, refl, sym, ap, subst, ◌∙◌, append_assoc, arith}
use Rattle.std.proofs.lemmas.List.{take_all}
use Rattle.pr_labels.specs.declared.pair.Pair.{Pair}
use Rattle.pr_range.specs.spec_history.declared.entry.Entry.{Entry}
use Rattle.pr_range.specs.pr_head.private.Stored.{Stored}
use Rattle.pr_ast.specs.declared.tree.Expr.{Expr}
use Rattle.pr_ast.specs.Tree.{Tree, more, more_from, none, tree_of, trees_of}
use Rattle.pr_ast.specs.Reach.{reads_back}
use Rattle.pr_ast.specs.private.Steps.{has_steps}
use Rattle.spec_meaning.specs.pr_types.declared.counting.SelectorCounts.{SelectorCounts}
use Rattle.spec_meaning.specs.pr_types.private.Built.{tests_in, patterns_in}
use Rattle.spec_meaning.specs.pr_types.private.Numbers.{ranges_in}
use Rattle.pr_range.specs.spec_vectors.declared.range.RangeFn.{RangeFn}
use Rattle.pr_eval.specs.private.Asking.{asks_in}
use Rattle.spec_meaning.specs.private.Cost.{PassedFor, cost}
use Rattle.pr_eval.specs.declared.values.error.EvalError.{EvalError}
use Rattle.pr_eval.specs.private.Evaluated.{AreAllAsked, AreReady, IsReadyFor, IsEvaluated, KeptOfRanges, MayTake, passed_outside}
use Rattle.pr_eval.specs.private.Parts.{AreTwo, IsPartAt, PatternsAt, StandAt}
use Rattle.pr_eval.proofs.Each.{front_each}
use Rattle.pr_eval.proofs.Asked.{asked_first}
use Rattle.pr_eval.proofs.Taking.{keeps_part, recast}
use Rattle.pr_eval.proofs.Trees.{more_of}

record IsBefore {A : Type 0} (front whole : List A) : Type 0 where
  rest : List A
  whole_is : whole ≡ front ++ rest

all_before : {A : Type 0} (xs : List A) → IsBefore xs xs
all_before xs = record { rest = []; whole_is = ended xs } where
  ended : {A : Type 0} (ys : List A) → ys ≡ ys ++ []
  ended [] = refl
  ended (y ∷ ys) = ap (λ zs. y ∷ zs) (ended ys)

before_then : {A : Type 0} (xs ys zs : List A) → IsBefore xs ys → IsBefore ys zs → IsBefore xs zs
before_then xs ys zs f g = record { rest = f.rest ++ g.rest; whole_is = g.whole_is ∙ ap (λ ws. ws ++ g.rest) f.whole_is ∙ append_assoc xs f.rest g.rest }

-- A tree of the first arguments.
record AreFirst (u t : Tree) : Type 0 where
  back : reads_back u ≤ reads_back t
  steps : has_steps t ≡ true → has_steps u ≡ true
  selectors : IsBefore (tests_in u) (tests_in t)
  ranges : ranges_in u ≤ ranges_in t
  patterns : IsBefore (patterns_in u) (patterns_in t)
  asks : (inside : Bool) (history : List Entry) (func : RangeFn) (time : ℕ) → IsBefore (asks_in inside history func u time) (asks_in inside history func t time)
  costs : (step : ℕ) (history : List Entry) (p : PassedFor) (node time : ℕ) → cost step history p u node time ≤ cost step history p t node time

left_true : (a b : Bool) → (a && b) ≡ true → a ≡ true
left_true true b h = refl
left_true false b h = h

first_of_two : (t l r : Tree) → AreTwo t l r → AreFirst l t
first_of_two t l r two = record {
  back = (let back : reads_back t ≡ max (reads_back l) (reads_back r) = two.back in omega (arith, back));
  steps = λ h. left_true (has_steps l) (has_steps r) (sym two.steps ∙ h);
  selectors = record { rest = tests_in r; whole_is = two.selectors };
  ranges = (let same : ranges_in t ≡ ranges_in l + ranges_in r = two.ranges in omega (arith, same));
  patterns = record { rest = patterns_in r; whole_is = two.patterns };
  asks = λ inside history func time. record { rest = asks_in inside history func r time; whole_is = two.asks inside history func time };
  costs = λ step history p node time.
      let both : cost step history p t node time ≡ cost step history p l node time + cost step history p r (node + ranges_in l) time = two.costs step history p node time in omega (arith, both);
}

first_then : (a b c : Tree) → AreFirst a b → AreFirst b c → AreFirst a c
first_then a b c f g = record {
  back = (let low : reads_back a ≤ reads_back b = f.back in let high : reads_back b ≤ reads_back c = g.back in omega (arith, low, high));
  steps = λ h. f.steps (g.steps h);
  selectors = before_then (tests_in a) (tests_in b) (tests_in c) f.selectors g.selectors;
  ranges = (let low : ranges_in a ≤ ranges_in b = f.ranges in let high : ranges_in b ≤ ranges_in c = g.ranges in omega (arith, low, high));
  patterns = before_then (patterns_in a) (patterns_in b) (patterns_in c) f.patterns g.patterns;
  asks = λ inside history func time. before_then (asks_in inside history func a time) (asks_in inside history func b time) (asks_in inside history func c time) (f.asks inside history func time) (g.asks inside history func time);
  costs = λ step history p node time.
      let low : cost step history p a node time ≤ cost step history p b node time = f.costs step history p node time in
      let high : cost step history p b node time ≤ cost step history p c node time = g.costs step history p node time in
      omega (arith, low, high);
}

all_first : (t : Tree) → AreFirst t t
all_first t = record {
  back = omega arith;
  steps = λ h. h;
  selectors = all_before (tests_in t);
  ranges = omega arith;
  patterns = all_before (patterns_in t);
  asks = λ inside history func time. all_before (asks_in inside history func t time);
  costs = λ step history p node time. omega arith;
}

first_from : (ts : List Tree) (before : Tree) → AreFirst before (more_from before ts)
first_from [] before = all_first before
first_from (t ∷ ts) before = first_then before (more before t) (more_from (more before t) ts) (first_of_two (more before t) before t (more_of (more before t) before t refl)) (first_from ts (more before t))

pub split_from : (k : ℕ) (es : List Expr) (before : Tree) → more_from before (map tree_of es) ≡ more_from (more_from before (map tree_of (take k es))) (map tree_of (drop k es))
split_from zero es before = refl
split_from (suc k) [] before = refl
split_from (suc k) (e ∷ es) before = split_from k es (more before (tree_of e))

first_args : (k : ℕ) (es : List Expr) → AreFirst (trees_of (take k es)) (trees_of es)
first_args k es = subst (AreFirst (trees_of (take k es))) (sym (split_from k es none)) (first_from (map tree_of (drop k es)) (trees_of (take k es)))

-- what is known of all is known of the first
pub args_part : (whole : Tree) (n : SelectorCounts) (k : ℕ) (es : List Expr) → IsPartAt whole n (trees_of es) → IsPartAt whole n (trees_of (take k es))
args_part whole n k es h =
    let f = first_args k es in
    let u = trees_of (take k es) in
    record {
      selectors = front_each (λ i x. slice_get (tests_in whole) i ≡ Some x) n.selectors (tests_in u) f.selectors.rest (subst (StandAt (tests_in whole) n.selectors) f.selectors.whole_is h.selectors);
      ranges = (let less : ranges_in u ≤ ranges_in (trees_of es) = f.ranges in let within : n.ranges + ranges_in (trees_of es) ≤ ranges_in whole = h.ranges in omega (arith, less, within));
      patterns = front_each (λ i x. slice_get (patterns_in whole) i ≡ Some x) n.patterns (patterns_in u) f.patterns.rest (subst (PatternsAt (patterns_in whole) n.patterns) f.patterns.whole_is h.patterns);
      steps = f.steps h.steps;
    }

pub args_may : (head : List (List Pair × Stored)) (inside : Bool) (history : List Entry) (func : RangeFn) (k : ℕ) (es : List Expr) (time n : ℕ) (F : Type 0) (a : KeptOfRanges) → MayTake head inside history func (trees_of es) time n F a.last
    → MayTake head inside history func (trees_of (take k es)) time n F a.last
args_may head inside history func k es time n F a may =
    let f = first_args k es in
    let u = trees_of (take k es) in
    record {
      keeps = keeps_part head history (trees_of es) u time f.back may.keeps;
      fits = may.fits;
      ready = front_each (IsReadyFor a.last) n (asks_in inside history func u time) (f.asks inside history func time).rest (subst (AreReady a.last n) (f.asks inside history func time).whole_is may.ready);
    }

-- a fault among the first ends the evaluation of all
pub args_taken : {A B : Type 0} (keeps inside : Bool) (step : ℕ) (history : List Entry) (func : RangeFn) (k : ℕ) (es : List Expr) (time n : ℕ) (a b : KeptOfRanges) (F : Type 0) (r0 r1 : ℕ) (e : EvalError)
    → IsEvaluated {A = A} keeps inside step history func (trees_of (take k es)) time n a b F r0 r1 (Err e) → IsEvaluated {A = B} keeps inside step history func (trees_of es) time n a b F r0 r1 (Err e)
args_taken {A} {B} keeps inside step history func k es time n a b F r0 r1 e h =
    let f = first_args k es in
    let u = trees_of (take k es) in
    let xs = asks_in inside history func u time in
    let before = f.asks inside history func time in
    let few : r1 ≤ r0 + cost step history (passed_outside inside history a.passed) u n time = h.few in
    let less : cost step history (passed_outside inside history a.passed) u n time ≤ cost step history (passed_outside inside history a.passed) (trees_of es) n time = f.costs step history (passed_outside inside history a.passed) n time in
    record {
      few = omega (arith, few, less);
      fits = λ no. h.fits (recast A B e no);
      asked = λ no. subst (λ ys. AreAllAsked keeps history false ys n a b) (sym before.whole_is) (asked_first keeps history xs before.rest n (n + length xs) refl a b (h.asked (recast A B e no)));
    }

-- all of them, at the end
pub all_args : (k : ℕ) (es : List Expr) → length es ≤ k → trees_of (take k es) ≡ trees_of es
all_args k es le = ap trees_of (take_all k es le)
