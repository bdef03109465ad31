-- Inside a subquery nothing that stays is asked.
use Rattle.std.proofs.Common.{◌≡◌, ℕ, ◌+◌, ◌-◌, ◌<◌, ◌≤◌, ◌⊎◌, inl, inr, nat_lt, Bool, true, false, List, length, get_or, slice_get, Option, Some, None, Result, is_ok, refl, sym, subst, ltb-true, ltb-false, arith}
use Rattle.std.proofs.lemmas.Option.{slice_get-get_or}
use Rattle.pr_labels.specs.declared.pair.Pair.{Pair}
use Rattle.pr_range.specs.spec_history.declared.entry.Entry.{Entry}
use Rattle.pr_range.specs.pr_head.private.Stored.{Stored}
use Rattle.pr_range.specs.spec_vectors.declared.range.RangeFn.{RangeFn}
use Rattle.pr_range.specs.private.Asks.{LastAsks}
use Rattle.pr_ast.specs.Tree.{Tree, number, text, select, range, sub, neg, binary, call, aggregate, none, more}
use Rattle.spec_meaning.specs.private.Cost.{cost, nothing_passed}
use Rattle.pr_eval.specs.declared.values.error.EvalError.{EvalError}
use Rattle.pr_eval.specs.private.Asking.{Sought, asked_for, asks_in}
use Rattle.pr_eval.specs.private.Each.{EachAt}
use Rattle.pr_eval.specs.private.Evaluated.{AreAllAsked, AreReady, IsAsked, IsReadyFor, IsSame, IsEvaluated, KeptOfRanges, MayTake, HasEvaluated}
use Rattle.pr_eval.specs.private.Looks.{KeepsFor}
use Rattle.pr_eval.specs.private.Subqueries.{AreSame, TakesInside}
use Rattle.pr_eval.proofs.Asked.{same_then, still}
use Rattle.pr_eval.proofs.Each.{both_each, map_each, none_each, one_each}

abbrev IsNone : ℕ → Option Sought → Type 0
IsNone k q = q ≡ None

none_asked : (history : List Entry) (func : RangeFn) (t : Tree) (time n : ℕ) → EachAt IsNone n (asks_in true history func t time)
none_asked history func (range p s d) time n = one_each IsNone n None refl
none_asked history func (sub p t d i o) time n = none_asked history func t time n
none_asked history func (neg p t) time n = none_asked history func t time n
none_asked history func (binary p o b m l r) time n =
    let left = asks_in true history func l time in
    both_each IsNone n (n + length left) left (asks_in true history func r time) refl (none_asked history func l time n) (none_asked history func r time (n + length left))
none_asked history func (call p f ts) time n = none_asked history (asked_for f) ts time n
none_asked history func (aggregate p o g ts) time n = none_asked history func ts time n
none_asked history func (more ts t) time n =
    let left = asks_in true history func ts time in
    both_each IsNone n (n + length left) left (asks_in true history func t time) refl (none_asked history func ts time n) (none_asked history func t time (n + length left))
none_asked history func (number p v) time n = none_each IsNone n
none_asked history func (text p x) time n = none_each IsNone n
none_asked history func (select p s) time n = none_each IsNone n
none_asked history func none time n = none_each IsNone n

-- it may always be asked
ready_inside : (history : List Entry) (func : RangeFn) (t : Tree) (time n : ℕ) (last : LastAsks) → AreReady last n (asks_in true history func t time)
ready_inside history func t time n last =
    map_each IsNone (IsReadyFor last) n (asks_in true history func t time) (λ k q low high is. subst (IsReadyFor last k) (sym is) tt) (none_asked history func t time n)

-- where a number stands among some
abbrev Stands : ℕ → ℕ → ℕ → Type 0
Stands n count k = ((k < n) ⊎ (n + count ≤ k)) ⊎ ((i : ℕ) × ((n + i ≡ k) × (i < count)))

stands : (n count k : ℕ) → Stands n count k
stands n count k = low (nat_lt k n) refl where
  high : n ≤ k → (b : Bool) → nat_lt k (n + count) ≡ b → Stands n count k
  high from true e = let within : k < n + count = ltb-true k (n + count) e in inr (k - n, (omega arith, omega arith))
  high from false e = inl (inr (ltb-false k (n + count) e))

  low : (b : Bool) → nat_lt k n ≡ b → Stands n count k
  low true e = inl (inl (ltb-true k n e))
  low false e = high (ltb-false k n e) (nat_lt k (n + count)) refl

module _ (keeps : Bool) (history : List Entry) (whole : Bool) (xs : List (Option Sought)) (n : ℕ) (a b : KeptOfRanges) where
  pub all_same : EachAt IsNone n xs → AreAllAsked keeps history whole xs n a b → AreSame a b
  all_same nothing asked = λ k. by k (stands n (length xs) k) where
    own : (k i : ℕ) → n + i ≡ k → i < length xs → IsSame k a b
    own k i at within =
        let here : slice_get xs i ≡ Some (get_or xs i None) = slice_get-get_or xs i None within in
        subst (λ j. IsSame j a b) at (subst (IsAsked keeps history whole a b (n + i)) (nothing i (get_or xs i None) here) (asked.own i (get_or xs i None) here))

    by : (k : ℕ) → Stands n (length xs) k → IsSame k a b
    by k (inl h) = asked.others k h
    by k (inr h) = own k h.0 h.1.0 h.1.1

  pub asked_none : EachAt IsNone n xs → AreSame a b → AreAllAsked keeps history whole xs n a b
  asked_none nothing same = record {
    others = λ k h. same k;
    own = map_each IsNone (IsAsked keeps history whole a b) n xs (λ k q low high is. subst (IsAsked keeps history whole a b k) (sym is) (same k)) nothing;
  }

-- what may be evaluated inside a subquery, and what is known after it
pub inside_may : (head : List (List Pair × Stored)) (history : List Entry) (func : RangeFn) (t : Tree) (time n : ℕ) (F : Type 0) (last : LastAsks) → KeepsFor head history t time → F → MayTake head true history func t time n F last
inside_may head history func t time n F last keeps fits = record { keeps = keeps; fits = fits; ready = ready_inside history func t time n last }

pub inside_taken : {A : Type 0} (keeps : Bool) (step : ℕ) (history : List Entry) (func : RangeFn) (t : Tree) (time n : ℕ) (a b : KeptOfRanges) (F : Type 0) (r0 r1 : ℕ) (res : Result A EvalError)
    → IsEvaluated keeps true step history func t time n a b F r0 r1 res → TakesInside (cost step history nothing_passed t n time) a b F r0 r1 res
inside_taken keeps step history func t time n a b F r0 r1 res h = record {
  few = h.few;
  fits = h.fits;
  same = λ other. all_same keeps history (is_ok res) (asks_in true history func t time) n a b (none_asked history func t time n) (h.asked other);
}

pub outside_taken : {A : Type 0} (keeps : Bool) (history : List Entry) (func : RangeFn) (t : Tree) (time n most : ℕ) (a b : KeptOfRanges) (F : Type 0) (r0 r1 : ℕ) (res : Result A EvalError)
    → TakesInside most a b F r0 r1 res → HasEvaluated keeps history (asks_in true history func t time) n most a b F r0 r1 res
outside_taken keeps history func t time n most a b F r0 r1 res h = record {
  few = h.few;
  fits = h.fits;
  asked = λ other. asked_none keeps history (is_ok res) (asks_in true history func t time) n a b (none_asked history func t time n) (h.same other);
}

pub same_all : (a : KeptOfRanges) → AreSame a a
same_all a = λ k. still k a

pub same_then_all : (a b c : KeptOfRanges) → AreSame a b → AreSame b c → AreSame a c
same_then_all a b c f g = λ k. same_then k a b c (f k) (g k)
