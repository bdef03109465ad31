-- What an expression asks is what its range selectors are asked.
use Rattle.std.proofs.Common.{◌≡◌, ℕ, zero, suc, Bool, true, false, List, [], ◌∷◌, ◌++◌, map, slice_get, Option, Some, None, refl, subst}
use Rattle.pr_rule.specs.spec_history.declared.entry.Entry.{Entry}
use Rattle.pr_ast.specs.Tree.{Tree, number, text, select, range, sub, neg, binary, call, aggregate, none, more}
use Rattle.pr_rule.specs.spec_vectors.declared.range.RangeFn.{RangeFn}
use Rattle.pr_rule.specs.spec_meaning.Selection.{chosen_by}
use Rattle.pr_rule.specs.pr_eval.private.RangeCallsAsking.{series_number}
use Rattle.pr_rule.specs.pr_eval.private.Asking.{Sought, asked_for, asks_in}
use Rattle.pr_group.specs.private.Asked.{RangeSelector, ask_of, selectors_under}

-- what a range selector is asked at a time, of the series that it chooses
pub record IsSoughtAt (history : List Entry) (time : ℕ) (q : Sought) (r : RangeSelector) : Type 0 where
  pub ask : q.ask ≡ ask_of r time
  pub numbers : q.numbers ≡ map (series_number history) (chosen_by r.selector history)

-- nothing is asked, or that
abbrev pub IsAskAt : List Entry → ℕ → Option Sought → RangeSelector → Type 0
IsAskAt history time None r = Unit {0}
IsAskAt history time (Some q) r = IsSoughtAt history time q r

abbrev pub AreAsksAt : List Entry → ℕ → List (Option Sought) → List RangeSelector → Type 0
AreAsksAt history time [] [] = Unit {0}
AreAsksAt history time [] (r ∷ rs) = ⊥
AreAsksAt history time (a ∷ asks) [] = ⊥
AreAsksAt history time (a ∷ asks) (r ∷ rs) = IsAskAt history time a r × AreAsksAt history time asks rs

both_asks : (history : List Entry) (time : ℕ) (xs ys : List (Option Sought)) (rs ss : List RangeSelector) → AreAsksAt history time xs rs → AreAsksAt history time ys ss → AreAsksAt history time (xs ++ ys) (rs ++ ss)
both_asks history time [] ys [] ss h k = k
both_asks history time [] ys (r ∷ rs) ss h k = absurd h
both_asks history time (a ∷ xs) ys [] ss h k = absurd h
both_asks history time (a ∷ xs) ys (r ∷ rs) ss h k = (h.0, both_asks history time xs ys rs ss h.1 k)

pub asks_are : (inside : Bool) (history : List Entry) (func : RangeFn) (t : Tree) (time : ℕ) → AreAsksAt history time (asks_in inside history func t time) (selectors_under func t)
asks_are true history func (range p s d) time = (tt, tt)
asks_are false history func (range p s d) time = (record { ask = refl; numbers = refl }, tt)
asks_are inside history func (sub p t d i o) time = asks_are true history func t time
asks_are inside history func (neg p t) time = asks_are inside history func t time
asks_are inside history func (binary p o b m l r) time =
    both_asks history time (asks_in inside history func l time) (asks_in inside history func r time) (selectors_under func l) (selectors_under func r) (asks_are inside history func l time) (asks_are inside history func r time)
asks_are inside history func (call p f ts) time = asks_are inside history (asked_for f) ts time
asks_are inside history func (aggregate p o g ts) time = asks_are inside history func ts time
asks_are inside history func (more ts t) time =
    both_asks history time (asks_in inside history func ts time) (asks_in inside history func t time) (selectors_under func ts) (selectors_under func t) (asks_are inside history func ts time) (asks_are inside history func t time)
asks_are inside history func (number p v) time = tt
asks_are inside history func (text p t) time = tt
asks_are inside history func (select p s) time = tt
asks_are inside history func none time = tt

-- the range selector of an ask
pub record AskAt (history : List Entry) (time : ℕ) (a : Option Sought) (rs : List RangeSelector) (k : ℕ) : Type 0 where
  pub selector : RangeSelector
  pub named : slice_get rs k ≡ Some selector
  pub is : IsAskAt history time a selector

pub ask_at : (history : List Entry) (time : ℕ) (asks : List (Option Sought)) (rs : List RangeSelector) (k : ℕ) (a : Option Sought) → AreAsksAt history time asks rs → slice_get asks k ≡ Some a → AskAt history time a rs k
ask_at history time [] [] zero a h at = absurd (cc)
ask_at history time [] [] (suc k) a h at = absurd (cc)
ask_at history time [] (r ∷ rs) k a h at = absurd h
ask_at history time (b ∷ asks) [] k a h at = absurd h
ask_at history time (b ∷ asks) (r ∷ rs) zero a h at = let same : b ≡ a = cc in record { selector = r; named = refl; is = subst (λ x. IsAskAt history time x r) same h.0 }
ask_at history time (b ∷ asks) (r ∷ rs) (suc k) a h at = let rest = ask_at history time asks rs k a h.1 at in record { selector = rest.selector; named = rest.named; is = rest.is }
