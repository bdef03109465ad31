-- Parts that are evaluated one after another: what is known after both.
use Rattle.std.proofs.Common.{◌≡◌, ◌≢◌, ℕ, ◌+◌, ◌<◌, ◌≤◌, ◌⊎◌, inl, inr, max, Bool, true, cond, List, [], ◌++◌, length, Option, Result, Ok, Err, is_ok, sym, ap, subst, ◌∙◌, arith}
use Rattle.pr_labels.specs.declared.pair.Pair.{Pair}
use Rattle.pr_range.specs.spec_history.declared.entry.Entry.{Entry}
use Rattle.pr_range.specs.pr_head.private.Stored.{Stored}
use Rattle.pr_range.specs.spec_vectors.declared.range.RangeFn.{RangeFn}
use Rattle.pr_num.specs.declared.value.Num.{Num}
use Rattle.pr_ast.specs.declared.place.Place.{Place}
use Rattle.pr_ast.specs.declared.names.Func.TheVariants.{Timestamp}
use Rattle.pr_ast.specs.declared.selector.Selector.{Selector}
use Rattle.pr_ast.specs.Tree.{Tree, number, text, select, call, none, more}
use Rattle.spec_meaning.specs.Selection.{chosen_by}
use Rattle.pr_ast.specs.Reach.{reads_back}
use Rattle.spec_meaning.specs.pr_types.private.Numbers.{ranges_in}
use Rattle.spec_meaning.specs.private.Cost.{cost}
use Rattle.pr_eval.specs.declared.values.error.EvalError.{EvalError}
use Rattle.pr_eval.specs.declared.values.error.EvalError.TheVariants as error
use Rattle.pr_eval.specs.private.RangeCallsAsking.{series_number}
use Rattle.pr_eval.specs.private.Asking.{Sought, asks_in}
use Rattle.pr_eval.specs.private.Looks.{KeepsFor}
use Rattle.pr_eval.specs.private.Parts.{AreTwo, IsOne}
use Rattle.pr_eval.specs.private.Evaluated.{AreReady, IsEvaluated, KeptOfRanges, MayTake, HasEvaluated, passed_outside}
use Rattle.pr_eval.proofs.Moments.{back_part}
use Rattle.pr_eval.proofs.Asked.{asked_both, asked_first, asked_second, asked_turned, nothing_asked, ready_first, ready_moved, ready_second, weaker_all}
use Rattle.pr_eval.proofs.Costs.{asks_length, cost_same}

abbrev fault_of : {A : Type 0} → Result A EvalError → EvalError
fault_of (Ok x) = error.Memory
fault_of (Err e) = e

-- a fault that is handed on
abbrev pub IsOther : (A : Type 0) → EvalError → Type 0
IsOther A e = let r : Result A EvalError = Err e in r ≢ Err error.Memory

pub recast : (A B : Type 0) (e : EvalError) → IsOther B e → IsOther A e
recast A B e other = λ h. other (ap (λ r. Err (fault_of r)) h)

module _ (keeps : Bool) (history : List Entry) where
  pub took_as : {A B : Type 0} (xs : List (Option Sought)) (n most : ℕ) (a b : KeptOfRanges) (F : Type 0) (r0 r1 : ℕ) (x : A) (r : Result B EvalError) → HasEvaluated keeps history xs n most a b F r0 r1 (Ok x) → HasEvaluated keeps history xs n most a b F r0 r1 r
  took_as xs n most a b F r0 r1 x r h = record { few = h.few; fits = λ other. h.fits (λ e. cc); asked = λ other. weaker_all keeps history (is_ok r) xs n a b (h.asked (λ e. cc)) }

  pub took_fault : {A B : Type 0} (xs : List (Option Sought)) (n most : ℕ) (a b : KeptOfRanges) (F : Type 0) (r0 r1 : ℕ) (e : EvalError) → HasEvaluated {A = A} keeps history xs n most a b F r0 r1 (Err e) → HasEvaluated {A = B} keeps history xs n most a b F r0 r1 (Err e)
  took_fault {A} {B} xs n most a b F r0 r1 e h = record { few = h.few; fits = λ other. h.fits (recast A B e other); asked = λ other. h.asked (recast A B e other) }

  pub took_nothing : {A : Type 0} (n most : ℕ) (a : KeptOfRanges) (F : Type 0) (r0 r1 : ℕ) (r : Result A EvalError) → F → r1 ≤ r0 + most → HasEvaluated keeps history [] n most a a F r0 r1 r
  took_nothing n most a F r0 r1 r fits few = record { few = few; fits = λ other. fits; asked = λ other. nothing_asked keeps history (is_ok r) n a }

  module _ (xs ys : List (Option Sought)) (n m : ℕ) (is : m ≡ n + length xs) (p q : ℕ) where
    pub took_both : {A B : Type 0} (a b c : KeptOfRanges) (F G : Type 0) (r0 r1 r2 : ℕ) (x : A) (r : Result B EvalError) → HasEvaluated keeps history xs n p a b F r0 r1 (Ok x) → HasEvaluated keeps history ys m q b c G r1 r2 r
        → HasEvaluated keeps history (xs ++ ys) n (p + q) a c G r0 r2 r
    took_both a b c F G r0 r1 r2 x r first second =
        let one : r1 ≤ r0 + p = first.few in
        let other : r2 ≤ r1 + q = second.few in
        record { few = omega (arith, one, other); fits = second.fits; asked = λ no. asked_both keeps history xs ys n m is (is_ok r) a b c (first.asked (λ e. cc)) (second.asked no) }

    pub took_turned : {A B : Type 0} (a b c : KeptOfRanges) (F G : Type 0) (r0 r1 r2 : ℕ) (x : A) (r : Result B EvalError) → HasEvaluated keeps history ys m q a b F r0 r1 (Ok x) → HasEvaluated keeps history xs n p b c G r1 r2 r
        → HasEvaluated keeps history (xs ++ ys) n (p + q) a c G r0 r2 r
    took_turned a b c F G r0 r1 r2 x r first second =
        let one : r1 ≤ r0 + q = first.few in
        let other : r2 ≤ r1 + p = second.few in
        record { few = omega (arith, one, other); fits = second.fits; asked = λ no. asked_turned keeps history xs ys n m is (is_ok r) a b c (first.asked (λ e. cc)) (second.asked no) }

    pub took_first : {A B : Type 0} (a b : KeptOfRanges) (F : Type 0) (r0 r1 : ℕ) (e : EvalError) → HasEvaluated {A = A} keeps history xs n p a b F r0 r1 (Err e) → HasEvaluated {A = B} keeps history (xs ++ ys) n (p + q) a b F r0 r1 (Err e)
    took_first {A} {B} a b F r0 r1 e first =
        let one : r1 ≤ r0 + p = first.few in
        record { few = omega (arith, one); fits = λ no. first.fits (recast A B e no); asked = λ no. asked_first keeps history xs ys n m is a b (first.asked (recast A B e no)) }

    pub took_second : {A B : Type 0} (a b : KeptOfRanges) (F : Type 0) (r0 r1 : ℕ) (e : EvalError) → HasEvaluated {A = A} keeps history ys m q a b F r0 r1 (Err e) → HasEvaluated {A = B} keeps history (xs ++ ys) n (p + q) a b F r0 r1 (Err e)
    took_second {A} {B} a b F r0 r1 e second =
        let one : r1 ≤ r0 + q = second.few in
        record { few = omega (arith, one); fits = λ no. second.fits (recast A B e no); asked = λ no. asked_second keeps history xs ys n m is a b (second.asked (recast A B e no)) }

-- A part of an expression reads no further back than the whole.
pub keeps_part : (head : List (List Pair × Stored)) (history : List Entry) (t u : Tree) (time : ℕ) → reads_back u ≤ reads_back t → KeepsFor head history t time → KeepsFor head history u time
keeps_part head history t u time least k =
    record { lawful = k.lawful; holds = k.holds; forgotten = k.forgotten; whole = k.whole; back = back_part k.forgotten time (reads_back u) (reads_back t) least k.back }

-- A tree of two parts.
module _ (keeps inside : Bool) (step : ℕ) (history : List Entry) (func : RangeFn) (t l r : Tree) (two : AreTwo t l r) (n m time : ℕ) (is : m ≡ n + ranges_in l) where
  behind : m ≡ n + length (asks_in inside history func l time)
  behind = is ∙ ap (λ k. n + k) (sym (asks_length inside history func l time))

  left_back : reads_back l ≤ reads_back t
  left_back = let back : reads_back t ≡ max (reads_back l) (reads_back r) = two.back in omega (arith, back)

  right_back : reads_back r ≤ reads_back t
  right_back = let back : reads_back t ≡ max (reads_back l) (reads_back r) = two.back in omega (arith, back)

  pub first_may : (head : List (List Pair × Stored)) (a : KeptOfRanges) (F : Type 0) → MayTake head inside history func t time n F a.last → MayTake head inside history func l time n F a.last
  first_may head a F may = record {
    keeps = keeps_part head history t l time left_back may.keeps;
    fits = may.fits;
    ready = ready_first keeps history (asks_in inside history func l time) (asks_in inside history func r time) n m behind a (subst (AreReady a.last n) (two.asks inside history func time) may.ready);
  }

  pub second_may : {A : Type 0} (head : List (List Pair × Stored)) (a b : KeptOfRanges) (F G : Type 0) (r0 r1 : ℕ) (x : A) → MayTake head inside history func t time n F a.last
      → IsEvaluated keeps inside step history func l time n a b G r0 r1 (Ok x) → MayTake head inside history func r time m G b.last
  second_may head a b F G r0 r1 x may first = record {
    keeps = keeps_part head history t r time right_back may.keeps;
    fits = first.fits (λ e. cc);
    ready = ready_moved keeps history true (asks_in inside history func l time) (asks_in inside history func r time) n m a b (λ k low high. inr (omega (arith, behind, low))) (first.asked (λ e. cc))
        (ready_second keeps history (asks_in inside history func l time) (asks_in inside history func r time) n m behind a (subst (AreReady a.last n) (two.asks inside history func time) may.ready));
  }

  -- what was passed for the second part is what was, while the first is evaluated
  costs_still : (a b : KeptOfRanges) → ((k : ℕ) → n + ranges_in l ≤ k → b.passed k ≡ a.passed k)
      → cost step history (passed_outside inside history b.passed) r m time ≡ cost step history (passed_outside inside history a.passed) r (n + ranges_in l) time
  costs_still a b same =
      ap (λ k. cost step history (passed_outside inside history b.passed) r k time) is
      ∙ cost_same step history (passed_outside inside history a.passed) (passed_outside inside history b.passed) r (n + ranges_in l) time (λ k w labels i. cond inside 0 (same k w.0 i (series_number history labels)))

  whole_of : {A : Type 0} (a b : KeptOfRanges) (G : Type 0) (r0 r1 : ℕ) (res : Result A EvalError)
      → HasEvaluated keeps history (asks_in inside history func l time ++ asks_in inside history func r time) n
      (cost step history (passed_outside inside history a.passed) l n time + cost step history (passed_outside inside history a.passed) r (n + ranges_in l) time) a b G r0 r1 res
      → IsEvaluated keeps inside step history func t time n a b G r0 r1 res
  whole_of a b G r0 r1 res h =
      subst (λ xs. HasEvaluated keeps history xs n (cost step history (passed_outside inside history a.passed) t n time) a b G r0 r1 res) (sym (two.asks inside history func time))
      (subst (λ q. HasEvaluated keeps history (asks_in inside history func l time ++ asks_in inside history func r time) n q a b G r0 r1 res) (sym (two.costs step history (passed_outside inside history a.passed) n time)) h)

  pub two_taken : {A B : Type 0} (a b c : KeptOfRanges) (F G : Type 0) (r0 r1 r2 : ℕ) (x : A) (res : Result B EvalError) → IsEvaluated keeps inside step history func l time n a b F r0 r1 (Ok x)
      → IsEvaluated keeps inside step history func r time m b c G r1 r2 res → IsEvaluated keeps inside step history func t time n a c G r0 r2 res
  two_taken a b c F G r0 r1 r2 x res first second =
      let left = asks_in inside history func l time in
      let right = asks_in inside history func r time in
      let before = cost step history (passed_outside inside history a.passed) l n time in
      let same = costs_still a b (λ k low. ((first.asked (λ e. cc)).others k (inr (omega (arith, behind, is, low)))).passed) in
      whole_of a c G r0 r2 res (took_both keeps history left right n m behind before (cost step history (passed_outside inside history a.passed) r (n + ranges_in l) time) a b c F G r0 r1 r2 x res first
      (subst (λ q. HasEvaluated keeps history right m q b c G r1 r2 res) same second))

  pub one_taken : {A B : Type 0} (a b : KeptOfRanges) (F : Type 0) (r0 r1 : ℕ) (e : EvalError) → IsEvaluated {A = A} keeps inside step history func l time n a b F r0 r1 (Err e)
      → IsEvaluated {A = B} keeps inside step history func t time n a b F r0 r1 (Err e)
  one_taken {A} {B} a b F r0 r1 e first =
      whole_of a b F r0 r1 (Err e) (took_first keeps history (asks_in inside history func l time) (asks_in inside history func r time) n m behind (cost step history (passed_outside inside history a.passed) l n time)
      (cost step history (passed_outside inside history a.passed) r (n + ranges_in l) time) {A = A} {B = B} a b F r0 r1 e first)

  pub two_taken_as : {A B C : Type 0} (a b c : KeptOfRanges) (F G : Type 0) (r0 r1 r2 : ℕ) (x : A) (y : B) (res : Result C EvalError) → IsEvaluated keeps inside step history func l time n a b F r0 r1 (Ok x)
      → IsEvaluated keeps inside step history func r time m b c G r1 r2 (Ok y) → IsEvaluated keeps inside step history func t time n a c G r0 r2 res
  two_taken_as a b c F G r0 r1 r2 x y res first second =
      two_taken a b c F G r0 r1 r2 x res first (took_as keeps history (asks_in inside history func r time) m (cost step history (passed_outside inside history b.passed) r m time) b c G r1 r2 y res second)

  -- the second part before the first
  pub second_may_begin : (head : List (List Pair × Stored)) (a : KeptOfRanges) (F : Type 0) → MayTake head inside history func t time n F a.last → MayTake head inside history func r time m F a.last
  second_may_begin head a F may = record {
    keeps = keeps_part head history t r time right_back may.keeps;
    fits = may.fits;
    ready = ready_second keeps history (asks_in inside history func l time) (asks_in inside history func r time) n m behind a (subst (AreReady a.last n) (two.asks inside history func time) may.ready);
  }

  low_still : (k : ℕ) → n ≤ k → k < n + length (asks_in inside history func l time) → (k < m) ⊎ (m + length (asks_in inside history func r time) ≤ k)
  low_still k low high = inl (omega (arith, behind, high))

  pub first_may_follow : {A : Type 0} (head : List (List Pair × Stored)) (a b : KeptOfRanges) (F G : Type 0) (r0 r1 : ℕ) (x : A) → MayTake head inside history func t time n F a.last
      → IsEvaluated keeps inside step history func r time m a b G r0 r1 (Ok x) → MayTake head inside history func l time n G b.last
  first_may_follow head a b F G r0 r1 x may second = record {
    keeps = keeps_part head history t l time left_back may.keeps;
    fits = second.fits (λ e. cc);
    ready = ready_moved keeps history true (asks_in inside history func r time) (asks_in inside history func l time) m n a b low_still (second.asked (λ e. cc))
        (ready_first keeps history (asks_in inside history func l time) (asks_in inside history func r time) n m behind a (subst (AreReady a.last n) (two.asks inside history func time) may.ready));
  }

  costs_before : (a b : KeptOfRanges) → ((k : ℕ) → k < n + ranges_in l → b.passed k ≡ a.passed k)
      → cost step history (passed_outside inside history b.passed) l n time ≡ cost step history (passed_outside inside history a.passed) l n time
  costs_before a b same = cost_same step history (passed_outside inside history a.passed) (passed_outside inside history b.passed) l n time (λ k w labels i. cond inside 0 (same k w.1 i (series_number history labels)))

  pub turned_taken : {A B : Type 0} (a b c : KeptOfRanges) (F G : Type 0) (r0 r1 r2 : ℕ) (x : A) (res : Result B EvalError) → IsEvaluated keeps inside step history func r time m a b F r0 r1 (Ok x)
      → IsEvaluated keeps inside step history func l time n b c G r1 r2 res → IsEvaluated keeps inside step history func t time n a c G r0 r2 res
  turned_taken {A} {B} a b c F G r0 r1 r2 x res second first =
      let left = asks_in inside history func l time in
      let right = asks_in inside history func r time in
      let same = costs_before a b (λ k low. ((second.asked (λ e. cc)).others k (inl (omega (arith, is, low)))).passed) in
      let also = ap (λ k. cost step history (passed_outside inside history a.passed) r k time) is in
      whole_of a c G r0 r2 res (took_turned keeps history left right n m behind (cost step history (passed_outside inside history a.passed) l n time) (cost step history (passed_outside inside history a.passed) r (n + ranges_in l) time) a b c F G r0 r1 r2 x res
      (subst (λ q. HasEvaluated keeps history right m q a b F r0 r1 (let done : Result A EvalError = Ok x in done)) also second)
      (subst (λ q. HasEvaluated keeps history left n q b c G r1 r2 res) same first))

  pub second_ends : {A B : Type 0} (a b : KeptOfRanges) (F : Type 0) (r0 r1 : ℕ) (e : EvalError) → IsEvaluated {A = A} keeps inside step history func r time m a b F r0 r1 (Err e)
      → IsEvaluated {A = B} keeps inside step history func t time n a b F r0 r1 (Err e)
  second_ends {A} {B} a b F r0 r1 e second =
      let also = ap (λ k. cost step history (passed_outside inside history a.passed) r k time) is in
      whole_of a b F r0 r1 (Err e) (took_second keeps history (asks_in inside history func l time) (asks_in inside history func r time) n m behind (cost step history (passed_outside inside history a.passed) l n time)
      (cost step history (passed_outside inside history a.passed) r (n + ranges_in l) time) {A = A} {B = B} a b F r0 r1 e
      (subst (λ q. HasEvaluated {A = A} keeps history (asks_in inside history func r time) m q a b F r0 r1 (Err e)) also second))

-- A tree of one part.
module _ (keeps inside : Bool) (step : ℕ) (history : List Entry) (func : RangeFn) (t u : Tree) (own : List (List ℕ)) (func_of : RangeFn → RangeFn) (one : IsOne t u own func_of) (n time : ℕ) where
  pub part_may : (head : List (List Pair × Stored)) (a : KeptOfRanges) (F : Type 0) → MayTake head inside history func t time n F a.last → MayTake head inside history (func_of func) u time n F a.last
  part_may head a F may = record {
    keeps = keeps_part head history t u time (let back : reads_back t ≡ reads_back u = one.back in omega (arith, back)) may.keeps;
    fits = may.fits;
    ready = subst (AreReady a.last n) (one.asks inside history func time) may.ready;
  }

  pub part_taken : {A : Type 0} (a b : KeptOfRanges) (F : Type 0) (r0 r1 : ℕ) (res : Result A EvalError) → IsEvaluated keeps inside step history (func_of func) u time n a b F r0 r1 res → IsEvaluated keeps inside step history func t time n a b F r0 r1 res
  part_taken a b F r0 r1 res h =
      subst (λ xs. HasEvaluated keeps history xs n (cost step history (passed_outside inside history a.passed) t n time) a b F r0 r1 res) (sym (one.asks inside history func time))
      (subst (λ q. HasEvaluated keeps history (asks_in inside history (func_of func) u time) n q a b F r0 r1 res) (sym (one.costs step history (passed_outside inside history a.passed) n time)) h)

  pub part_taken_as : {A B : Type 0} (a b : KeptOfRanges) (F : Type 0) (r0 r1 : ℕ) (x : A) (res : Result B EvalError) → IsEvaluated keeps inside step history (func_of func) u time n a b F r0 r1 (Ok x)
      → IsEvaluated keeps inside step history func t time n a b F r0 r1 res
  part_taken_as a b F r0 r1 x res h =
      part_taken a b F r0 r1 res (took_as keeps history (asks_in inside history (func_of func) u time) n (cost step history (passed_outside inside history a.passed) u n time) a b F r0 r1 x res h)

  pub part_taken_fault : {A B : Type 0} (a b : KeptOfRanges) (F : Type 0) (r0 r1 : ℕ) (e : EvalError) → IsEvaluated {A = A} keeps inside step history (func_of func) u time n a b F r0 r1 (Err e)
      → IsEvaluated {A = B} keeps inside step history func t time n a b F r0 r1 (Err e)
  part_taken_fault {A} {B} a b F r0 r1 e h =
      part_taken {A = B} a b F r0 r1 (Err e) (took_fault keeps history {A = A} {B = B} (asks_in inside history (func_of func) u time) n (cost step history (passed_outside inside history a.passed) u n time) a b F r0 r1 e h)

-- numbers and texts take nothing
pub number_taken : {A : Type 0} (keeps inside : Bool) (step : ℕ) (history : List Entry) (func : RangeFn) (t : Tree) (p : Place) (v : Num) (time n : ℕ) (a : KeptOfRanges) (F : Type 0) (r : ℕ) (res : Result A EvalError) → t ≡ number p v → F
    → IsEvaluated keeps inside step history func t time n a a F r r res
number_taken keeps inside step history func t p v time n a F r res is fits =
    subst (λ (u : Tree). IsEvaluated keeps inside step history func u time n a a F r r res) (sym is) (took_nothing keeps history n 0 a F r r res fits (omega arith))

pub text_taken : {A : Type 0} (keeps inside : Bool) (step : ℕ) (history : List Entry) (func : RangeFn) (t : Tree) (p : Place) (v : List ℕ) (time n : ℕ) (a : KeptOfRanges) (F : Type 0) (r : ℕ) (res : Result A EvalError) → t ≡ text p v → F
    → IsEvaluated keeps inside step history func t time n a a F r r res
text_taken keeps inside step history func t p v time n a F r res is fits =
    subst (λ (u : Tree). IsEvaluated keeps inside step history func u time n a a F r r res) (sym is) (took_nothing keeps history n 0 a F r r res fits (omega arith))

-- a selector reads a sample of each series that it chooses
pub selector_taken : {A : Type 0} (keeps inside : Bool) (step : ℕ) (history : List Entry) (func : RangeFn) (t : Tree) (p : Place) (s : Selector) (time n : ℕ) (a : KeptOfRanges) (F : Type 0) (r0 r1 : ℕ) (res : Result A EvalError) → t ≡ select p s → F
    → r1 ≤ r0 + length (chosen_by s history) → IsEvaluated keeps inside step history func t time n a a F r0 r1 res
selector_taken keeps inside step history func t p s time n a F r0 r1 res is fits few =
    subst (λ (u : Tree). IsEvaluated keeps inside step history func u time n a a F r0 r1 res) (sym is) (took_nothing keeps history n (length (chosen_by s history)) a F r0 r1 res fits few)

pub stamps_taken : {A : Type 0} (keeps inside : Bool) (step : ℕ) (history : List Entry) (func : RangeFn) (t : Tree) (p q : Place) (s : Selector) (time n : ℕ) (a : KeptOfRanges) (F : Type 0) (r0 r1 : ℕ) (res : Result A EvalError)
    → t ≡ call p Timestamp (more none (select q s)) → F → r1 ≤ r0 + length (chosen_by s history) → IsEvaluated keeps inside step history func t time n a a F r0 r1 res
stamps_taken keeps inside step history func t p q s time n a F r0 r1 res is fits few =
    subst (λ (u : Tree). IsEvaluated keeps inside step history func u time n a a F r0 r1 res) (sym is) (took_nothing keeps history n (0 + length (chosen_by s history)) a F r0 r1 res fits (omega (arith, few)))
