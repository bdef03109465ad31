-- A range selector is asked for each of its series.
use Rattle.std.proofs.Common.{◌≡◌, ◌≢◌, ℕ, ◌+◌, ◌<◌, ◌≤◌, ◌⊎◌, inl, inr, ℤ, pos, ◌-ℤ◌, ◌≤ℤ◌, Bool, true, false, not, cond, ◌&&◌, ◌==◌, List, take, Option, Some, None, Result, Ok, Err, OnOk, refl, sym, ap, subst, ◌∙◌, arith}
use Rattle.std.proofs.lemmas.Int.{ints}
use Rattle.std.proofs.lemmas.Bool.{ne_eqb}
use Rattle.std.proofs.lemmas.Bool.Decides.{eqb_tells}
use Rattle.pr_num.specs.declared.value.Num.{Num}
use Rattle.pr_labels.specs.declared.pair.Pair.{Pair}
use Rattle.pr_range.specs.spec_history.declared.entry.Entry.{Entry}
use Rattle.pr_range.specs.spec_history.private.Laws.{entries_until}
use Rattle.pr_range.specs.pr_head.private.Stored.{Stored}
use Rattle.pr_range.specs.pr_head.private.Holds.{IsWhole, arrivals, labels_at, samples_of}
use Rattle.pr_ast.specs.declared.place.Place.{Place}
use Rattle.pr_ast.specs.declared.selector.Selector.{Selector}
use Rattle.pr_ast.specs.Tree.{Tree, range}
use Rattle.pr_range.specs.spec_vectors.declared.range.RangeFn.{RangeFn}
use Rattle.spec_meaning.specs.declared.fault.Fault.{Fault}
use Rattle.spec_meaning.specs.declared.value.Value.{Value}
use Rattle.spec_meaning.specs.Answers.{go_on}
use Rattle.spec_meaning.specs.Given.{Ranged, range_at}
use Rattle.spec_meaning.specs.Meaning.{ranges}
use Rattle.spec_meaning.specs.Selection.{chosen_by, moment_of}
use Rattle.pr_range.specs.private.Asks.{IsReadyToAsk, LastAsks, remembered}
use Rattle.pr_range.proofs.Lawful.{entries_until_is}
use Rattle.pr_range.proofs.Timeline.{until_grows}
use Rattle.pr_eval.specs.declared.values.error.EvalError.{EvalError}
use Rattle.pr_eval.specs.declared.values.error.EvalError.TheVariants as error
use Rattle.pr_eval.specs.private.Answers.{AnswersTo}
use Rattle.pr_eval.specs.private.RangeCallsAsking.{AreAsked, MayAskEach, ask_at, asks_cost, is_number_among, numbers_chosen, passed_by}
use Rattle.pr_eval.specs.private.Asking.{asks_in, sought}
use Rattle.pr_eval.specs.private.Evaluated.{AreAllAsked, AreReady, AreRowsAsked, IsAsked, IsReadyFor, IsSame, IsEvaluated, KeptOfRanges, MayFollow, MayTake}
use Rattle.pr_eval.proofs.Each.{first_of_one, one_each}

abbrev Series : Type 0
Series = List Pair × Stored

-- what is whole from a moment on is so from each later one on
whole_later : (head : List Series) (history : List Entry) (x y : ℤ) → x ≤ℤ y → IsWhole head history x → IsWhole head history y
whole_later head history x y low whole = λ i e at.
    let first : e.1.first ≤ entries_until history e.0 x = whole i e at in
    let before = entries_until_is history e.0 x in
    let behind = entries_until_is history e.0 y in
    let grows = until_grows x y (samples_of history e.0) low in
    omega (arith, first, before, behind, grows)

range_back : (y : ℤ) (time offset span : ℕ) → y ≤ℤ (pos time -ℤ pos (offset + span)) → y ≤ℤ ((pos time -ℤ pos offset) -ℤ pos span)
range_back y time offset span h = omega (arith, ints)

itself : (n : ℕ) → (n == n) ≡ true
itself n = by (eqb_tells n n) where
  by : (((n == n) ≡ true) × (n ≡ n)) ⊎ (((n == n) ≡ false) × (n ≢ n)) → (n == n) ≡ true
  by (inl h) = h.0
  by (inr h) = absurd (h.1 refl)

-- nothing is kept of what another node is asked, or one inside a subquery
other_node : {A : Type 0} (keeps outside among : Bool) (x y : A) → cond (keeps && (outside && (false && among))) x y ≡ y
other_node true true among x y = refl
other_node true false among x y = refl
other_node false outside among x y = refl

kept_inside : {A : Type 0} (keeps this : Bool) (x y : A) → cond (keeps && (false && this)) x y ≡ y
kept_inside true this x y = refl
kept_inside false this x y = refl

module _ (keeps : Bool) (history : List Entry) (func : RangeFn) (arg : Option Num) (s : Selector) (span time node : ℕ) (numbers : List ℕ) (before after : KeptOfRanges) where
  abbrev Asked : Bool → Type 0
  Asked inside = AreAsked history keeps node (ask_at func arg s span time inside) numbers before.last after.last before.passed after.passed

  others_same : (inside : Bool) → Asked inside → (k : ℕ) → node ≢ k → IsSame k before after
  others_same inside h k apart = record {
    last = λ i t. (h.asks k t ∙ ap (λ b. cond (keeps && (not inside && (b && is_number_among t numbers))) (Some (remembered (ask_at func arg s span time inside))) (before.last k t)) (ne_eqb node k apart)
        ∙ other_node keeps (not inside) (is_number_among t numbers) (Some (remembered (ask_at func arg s span time inside))) (before.last k t)) i;
    passed = λ i t. (h.passing k t ∙ ap (λ b. cond (keeps && (not inside && (b && is_number_among t numbers))) (entries_until history (labels_at (arrivals history) t) (moment_of s time)) (before.passed k t)) (ne_eqb node k apart)
        ∙ other_node keeps (not inside) (is_number_among t numbers) (entries_until history (labels_at (arrivals history) t) (moment_of s time)) (before.passed k t)) i;
  }

  inside_same : Asked true → (k : ℕ) → IsSame k before after
  inside_same h k = record {
    last = λ i t. (h.asks k t ∙ kept_inside keeps ((node == k) && is_number_among t numbers) (Some (remembered (ask_at func arg s span time true))) (before.last k t)) i;
    passed = λ i t. (h.passing k t ∙ kept_inside keeps ((node == k) && is_number_among t numbers) (entries_until history (labels_at (arrivals history) t) (moment_of s time)) (before.passed k t)) i;
  }

  own_rows : Asked false → AreRowsAsked keeps history (remembered (ask_at func arg s span time false)) numbers (before.last node) (after.last node) (before.passed node) (after.passed node)
  own_rows h = record {
    asks = λ t. h.asks node t ∙ ap (λ b. cond (keeps && (b && is_number_among t numbers)) (Some (remembered (ask_at func arg s span time false))) (before.last node t)) (itself node);
    passing = λ t. h.passing node t ∙ ap (λ b. cond (keeps && (b && is_number_among t numbers)) (entries_until history (labels_at (arrivals history) t) (moment_of s time)) (before.passed node t)) (itself node);
  }

-- what is asked of a range selector, and what is kept for it afterwards
ready_at : (inside : Bool) (history : List Entry) (func : RangeFn) (arg : Option Num) (p : Place) (s : Selector) (span time node : ℕ) (last : LastAsks) → AreReady last node (asks_in inside history func (range p s span) time)
    → (t : ℕ) → IsReadyToAsk last node t (ask_at func arg s span time inside)
ready_at true history func arg p s span time node last h t = λ outside. absurd cc
ready_at false history func arg p s span time node last h t =
    let follows : MayFollow (remembered (ask_at func arg s span time false)) (last node) = first_of_one (IsReadyFor last) node (Some (sought history func (moment_of s time -ℤ pos span) (moment_of s time) (chosen_by s history))) h in
    λ outside. record {
      same = λ u b is. (follows u b is).0;
      from = λ b is. (follows t b is).1.0;
      to = λ b is. (follows t b is).1.1;
    }

own_all : (keeps : Bool) (history : List Entry) (func : RangeFn) (arg : Option Num) (p : Place) (s : Selector) (span time node : ℕ) (before after : KeptOfRanges) (inside : Bool)
    → AreAsked history keeps node (ask_at func arg s span time inside) (numbers_chosen history s) before.last after.last before.passed after.passed
    → IsAsked keeps history true before after node (cond inside None (Some (sought history func (moment_of s time -ℤ pos span) (moment_of s time) (chosen_by s history))))
own_all keeps history func arg p s span time node before after true h = inside_same keeps history func arg s span time node (numbers_chosen history s) before after h node
own_all keeps history func arg p s span time node before after false h = own_rows keeps history func arg s span time node (numbers_chosen history s) before after h

own_some : (keeps : Bool) (history : List Entry) (func : RangeFn) (arg : Option Num) (p : Place) (s : Selector) (span time node : ℕ) (before after : KeptOfRanges) (inside : Bool) (n : ℕ)
    → AreAsked history keeps node (ask_at func arg s span time inside) (take n (numbers_chosen history s)) before.last after.last before.passed after.passed
    → IsAsked keeps history false before after node (cond inside None (Some (sought history func (moment_of s time -ℤ pos span) (moment_of s time) (chosen_by s history))))
own_some keeps history func arg p s span time node before after true n h = inside_same keeps history func arg s span time node (take n (numbers_chosen history s)) before after h node
own_some keeps history func arg p s span time node before after false n h = (n, own_rows keeps history func arg s span time node (take n (numbers_chosen history s)) before after h)

apart_from : (node k : ℕ) → (k < node) ⊎ (node + 1 ≤ k) → node ≢ k
apart_from node k (inl h) = λ is. absurd (omega (arith, h, is))
apart_from node k (inr h) = λ is. absurd (omega (arith, h, is))

module _ (inside : Bool) (history : List Entry) (func : RangeFn) (arg : Option Num) (p : Place) (s : Selector) (span time node : ℕ) where
  pub may_ask_each : (head : List Series) (F : Type 0) (last : LastAsks) → MayTake head inside history func (range p s span) time node F last → MayAskEach head history (ask_at func arg s span time inside) F last node
  may_ask_each head F last may = record {
    lawful = may.keeps.lawful;
    holds = may.keeps.holds;
    whole = whole_later head history may.keeps.forgotten (moment_of s time -ℤ pos span) (range_back may.keeps.forgotten time s.offset span may.keeps.back) may.keeps.whole;
    fits = may.fits;
    ready = ready_at inside history func arg p s span time node last may.ready;
  }

  module _ (keeps : Bool) (step : ℕ) (before after : KeptOfRanges) (F : Type 0) (r0 r1 : ℕ) where
    abbrev These : List ℕ → Type 0
    These numbers = AreAsked history keeps node (ask_at func arg s span time inside) numbers before.last after.last before.passed after.passed

    all_asked : These (numbers_chosen history s) → AreAllAsked keeps history true (asks_in inside history func (range p s span) time) node before after
    all_asked h = record {
      others = λ k apart. others_same keeps history func arg s span time node (numbers_chosen history s) before after inside h k (apart_from node k apart);
      own = one_each (IsAsked keeps history true before after) node (cond inside None (Some (sought history func (moment_of s time -ℤ pos span) (moment_of s time) (chosen_by s history)))) (own_all keeps history func arg p s span time node before after inside h);
    }

    some_asked : (n : ℕ) → These (take n (numbers_chosen history s)) → AreAllAsked keeps history false (asks_in inside history func (range p s span) time) node before after
    some_asked n h = record {
      others = λ k apart. others_same keeps history func arg s span time node (take n (numbers_chosen history s)) before after inside h k (apart_from node k apart);
      own = one_each (IsAsked keeps history false before after) node (cond inside None (Some (sought history func (moment_of s time -ℤ pos span) (moment_of s time) (chosen_by s history)))) (own_some keeps history func arg p s span time node before after inside n h);
    }

    pub range_taken : {A : Type 0} (res : Result A EvalError) → r1 ≤ r0 + asks_cost history (ask_at func arg s span time inside) (passed_by history before.passed node) (chosen_by s history) → (res ≢ Err error.Memory → F)
        → OnOk res (These (numbers_chosen history s)) → (res ≢ Err error.Memory → (n : ℕ) × These (take n (numbers_chosen history s)))
        → IsEvaluated keeps inside step history func (range p s span) time node before after F r0 r1 res
    range_taken (Ok x) few fits asked until = record { few = few; fits = fits; asked = λ other. all_asked asked }
    range_taken (Err e) few fits asked until = record { few = few; fits = fits; asked = λ other. some_asked (until other).0 (until other).1 }

-- the same of a tree that is a range selector
module _ (inside : Bool) (history : List Entry) (func : RangeFn) (arg : Option Num) (t : Tree) (p : Place) (s : Selector) (span time node : ℕ) (is : t ≡ range p s span) where
  pub may_ask_range : (head : List Series) (F : Type 0) (last : LastAsks) → MayTake head inside history func t time node F last → MayAskEach head history (ask_at func arg s span time inside) F last node
  may_ask_range head F last may = may_ask_each inside history func arg p s span time node head F last (subst (λ (u : Tree). MayTake head inside history func u time node F last) is may)

  pub range_answers : (step : ℕ) (next : Option Ranged → Result Value Fault) (res : Result Value EvalError) → AnswersTo (next (Some (range_at history p s span time))) res → AnswersTo (go_on next (ranges step history t time)) res
  range_answers step next res h = subst (λ (u : Tree). AnswersTo (go_on next (ranges step history u time)) res) (sym is) h

  pub range_takes : {A : Type 0} (keeps : Bool) (step : ℕ) (before after : KeptOfRanges) (F : Type 0) (r0 r1 : ℕ) (res : Result A EvalError)
      → r1 ≤ r0 + asks_cost history (ask_at func arg s span time inside) (passed_by history before.passed node) (chosen_by s history) → (res ≢ Err error.Memory → F)
      → OnOk res (AreAsked history keeps node (ask_at func arg s span time inside) (numbers_chosen history s) before.last after.last before.passed after.passed)
      → (res ≢ Err error.Memory → (n : ℕ) × AreAsked history keeps node (ask_at func arg s span time inside) (take n (numbers_chosen history s)) before.last after.last before.passed after.passed)
      → IsEvaluated keeps inside step history func t time node before after F r0 r1 res
  range_takes keeps step before after F r0 r1 res few fits asked until =
      subst (λ (u : Tree). IsEvaluated keeps inside step history func u time node before after F r0 r1 res) (sym is)
      (range_taken inside history func arg p s span time node keeps step before after F r0 r1 res few fits asked until)
