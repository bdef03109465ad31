-- Subqueries as parts of an expression, and what they give.
use Rattle.std.proofs.Common.{◌≡◌, ℕ, zero, suc, lt-ltb, le-ltb, ◌+◌, ◌<◌, ◌≤◌, ◌^◌, ◌&&◌, nat_lt, ℤ, pos, ◌-ℤ◌, ◌<ℤ◌, ◌≤ℤ◌, cond, unwrap_or, Bool, true, false, List, [], ◌∷◌, length, sum_by, get_or, slice_get, Option, Some, Result, Ok, Err, refl, sym, ap, subst, ◌∙◌, arith}
use Rattle.std.proofs.lemmas.Int.{ints}
use Rattle.std.proofs.lemmas.Option.{slice_get-get_or, slice_get_within}
use Rattle.std.specs.BTreeMap.{BTreeMap}
use Rattle.pr_labels.specs.declared.pair.Pair.{Pair}
use Rattle.pr_range.specs.spec_history.declared.entry.Entry.{Entry}
use Rattle.pr_range.specs.spec_history.declared.spot.Spot.{Spot}
use Rattle.pr_range.specs.pr_head.private.Stored.{Stored}
use Rattle.pr_ast.specs.declared.place.Place.{Place}
use Rattle.pr_ast.specs.Tree.{Tree, sub}
use Rattle.pr_ast.specs.Reach.{reads_back}
use Rattle.pr_ast.specs.private.Steps.{has_steps, is_step}
use Rattle.spec_meaning.specs.pr_types.declared.counting.SelectorCounts.{SelectorCounts}
use Rattle.spec_meaning.specs.pr_types.private.Built.{tests_in, patterns_in}
use Rattle.spec_meaning.specs.pr_types.private.Numbers.{counts_in, exact_counts, ranges_in}
use Rattle.spec_meaning.proofs.TypesCountLemmas.{counts_exact, ranges_are_selectors}
use Rattle.pr_range.specs.spec_vectors.declared.range.RangeFn.{RangeFn}
use Rattle.pr_range.specs.spec_vectors.Ranges.{longest}
use Rattle.spec_meaning.specs.declared.fault.Fault.{Fault}
use Rattle.spec_meaning.specs.declared.fault.FaultKind.TheVariants as kind
use Rattle.spec_meaning.specs.Answers.{fault, go_on}
use Rattle.spec_meaning.specs.private.Cost.{cost, cost_at_each, nothing_passed}
use Rattle.spec_meaning.specs.Given.{Ranged}
use Rattle.spec_meaning.specs.Meaning.{meaning, ranges}
use Rattle.spec_meaning.specs.Subqueries.{at_each, multiples}
use Rattle.pr_eval.specs.declared.range_calls.of_subquery.SubqueryRange.{SubqueryRange}
use Rattle.pr_eval.specs.private.Taken.{ranged_of}
use Rattle.pr_eval.specs.private.Times.{AreTimesWithin}
use Rattle.pr_eval.specs.declared.values.error.EvalError.{EvalError}
use Rattle.pr_eval.specs.declared.values.error.EvalError.TheVariants as error
use Rattle.pr_eval.specs.private.Each.{EachAt}
use Rattle.pr_eval.specs.private.Evaluated.{IsEvaluated, KeptOfRanges, MayTake}
use Rattle.pr_eval.specs.private.Looks.{KeepsFor}
use Rattle.pr_eval.specs.private.Parts.{IsPartAt, counts_after}
use Rattle.pr_eval.specs.private.Ranged.{AreSeries}
use Rattle.pr_eval.specs.private.Subqueries.{AreSeriesGathered, MayTakeEach, TakesInside, range_of}
use Rattle.pr_eval.proofs.EachTime.{time_after, times_taken}
use Rattle.pr_eval.proofs.Inside.{outside_taken, same_all}
use Rattle.pr_eval.proofs.Taking.{recast}

both : (a b : Bool) → (a && b) ≡ true → (a ≡ true) × (b ≡ true)
both true b h = (refl, h)
both false b h = absurd cc

-- a step that is one is more than 0
pub some_step : (step : Option ℕ) (ms : ℕ) → is_step step ≡ true → step ≡ Some ms → 0 < ms
some_step step zero h is = absurd (no_step (subst (λ o. is_step o ≡ true) is h)) where
  no_step : false ≡ true → ⊥
  no_step e = cc
some_step step (suc n) h is = omega arith

module _ (e : Tree) (p : Place) (t : Tree) (span : ℕ) (step : Option ℕ) (offset : ℕ) (is : e ≡ sub p t span step offset) where
  pub inner_part : (whole : Tree) (n : SelectorCounts) → IsPartAt whole n e → IsPartAt whole n t
  inner_part whole n h = by (subst (IsPartAt whole n) is h) where
    by : IsPartAt whole n (sub p t span step offset) → IsPartAt whole n t
    by k = record { selectors = k.selectors; ranges = k.ranges; patterns = k.patterns; steps = (both (is_step step) (has_steps t) k.steps).1 }

  pub step_given : (whole : Tree) (n : SelectorCounts) → IsPartAt whole n e → is_step step ≡ true
  step_given whole n h = let steps : (is_step step && has_steps t) ≡ true = sym (ap has_steps is) ∙ h.steps in (both (is_step step) (has_steps t) steps).0

  pub counts_of_sub : (n m : SelectorCounts) → m ≡ counts_after n t → m ≡ counts_after n e
  counts_of_sub n m h = subst (λ u. m ≡ counts_after n u) (sym is) h

  module _ (head : List (List Pair × Stored)) (history : List Entry) (time : ℕ) where
    back_then : (y : ℤ) (then : ℕ) → y ≤ℤ (pos time -ℤ pos (offset + span + reads_back t)) → ((pos time -ℤ pos offset) -ℤ pos span) <ℤ pos then → y ≤ℤ (pos then -ℤ pos (reads_back t))
    back_then y then h k = omega (arith, ints)

    -- what is kept for a subquery is kept for its expression at each of its times
    keeps_then : (then : ℕ) → KeepsFor head history e time → ((pos time -ℤ pos offset) -ℤ pos span) <ℤ pos then → KeepsFor head history t then
    keeps_then then k after = record {
      lawful = k.lawful;
      holds = k.holds;
      forgotten = k.forgotten;
      whole = k.whole;
      back = back_then k.forgotten then (subst (λ u. k.forgotten ≤ℤ (pos time -ℤ pos (reads_back u))) is k.back) after;
    }

    pub each_may : (inside : Bool) (func : RangeFn) (n : ℕ) (F : Type 0) (a : KeptOfRanges) (r : SubqueryRange) (times : List ℕ) → r ≡ range_of p span offset time → AreTimesWithin r.from r.to times
        → MayTake head inside history func e time n F a.last → MayTakeEach head history t times F
    each_may inside func n F a r times ranged within may = record {
      keeps = λ i then at. keeps_then then may.keeps (subst (λ (q : SubqueryRange). q.from <ℤ pos then) ranged (time_after r.from r.to times i then within at));
      fits = may.fits;
    }

  module _ (default : ℕ) (history : List Entry) (time : ℕ) where
    abbrev pub own_times : List ℕ
    own_times = multiples (unwrap_or step default) ((pos time -ℤ pos offset) -ℤ pos span) (pos time -ℤ pos offset)

    -- the times that are counted are those that are meant
    pub times_same : (own : ℕ) (r : SubqueryRange) (times : List ℕ) → times ≡ multiples own r.from r.to → own ≡ unwrap_or step default → r ≡ range_of p span offset time → times ≡ own_times
    times_same own r times counted given ranged = counted ∙ (λ i. multiples (given i) (ranged i).from (ranged i).to)

    abbrev given : List ℕ → Result (Option Ranged) Fault
    given times = go_on (λ r. Ok (Some r)) (cond (nat_lt longest (length times)) (Err (fault p (kind.RangeTooLong (length times)))) (go_on (λ ts. Ok (ranged_of (range_of p span offset time) ts)) (at_each (meaning default history t) times)))

    is_given : (times : List ℕ) → times ≡ own_times → ranges default history e time ≡ given times
    is_given times same = ap (λ u. ranges default history u time) is ∙ ap given (sym same)

    -- too many times
    pub too_many : (times : List ℕ) → times ≡ own_times → longest < length times → ranges default history e time ≡ Err (fault p (kind.RangeTooLong (length times)))
    too_many times same more =
        is_given times same
        ∙ ap (λ b. go_on (λ r. Ok (Some r)) (cond b (Err (fault p (kind.RangeTooLong (length times)))) (go_on (λ ts. Ok (ranged_of (range_of p span offset time) ts)) (at_each (meaning default history t) times)))) (lt-ltb longest (length times) more)

    few_times : (times : List ℕ) → times ≡ own_times → length times ≤ longest
        → ranges default history e time ≡ go_on (λ r. Ok (Some r)) (go_on (λ ts. Ok (ranged_of (range_of p span offset time) ts)) (at_each (meaning default history t) times))
    few_times times same few =
        is_given times same
        ∙ ap (λ b. go_on (λ r. Ok (Some r)) (cond b (Err (fault p (kind.RangeTooLong (length times)))) (go_on (λ ts. Ok (ranged_of (range_of p span offset time) ts)) (at_each (meaning default history t) times)))) (le-ltb longest (length times) few)

    -- what was gathered at all times is what is meant
    pub series_given : (r : SubqueryRange) (times : List ℕ) (series : BTreeMap (List Pair) (List Spot)) → r ≡ range_of p span offset time → times ≡ own_times → length times ≤ longest → AreTimesWithin r.from r.to times
        → AreSeriesGathered (at_each (meaning default history t) times) (Ok series) → AreSeries (ranges default history e time) (Ok (record { range = r; series = series }))
    series_given r times series ranged same few within h = (
      h.0,
      (
        h.1.1,
        (
          subst (AreTimesWithin r.from r.to) (times_taken (meaning default history t) times h.0 h.1.0) within,
          few_times times same few ∙ ap (λ m. go_on (λ r. Ok (Some r)) (go_on (λ ts. Ok (ranged_of (range_of p span offset time) ts)) m)) h.1.0 ∙ ap (λ q. Ok (Some (ranged_of q h.0))) (sym ranged),
        ),
      ),
    )

    pub fault_given : (times : List ℕ) (f : EvalError) → times ≡ own_times → length times ≤ longest → AreSeriesGathered (at_each (meaning default history t) times) (Err f) → AreSeries (ranges default history e time) (Err f)
    fault_given times (error.Fault q k) same few h = few_times times same few ∙ ap (λ m. go_on (λ r. Ok (Some r)) (go_on (λ ts. Ok (ranged_of (range_of p span offset time) ts)) m)) h
    fault_given times error.Memory same few h = tt

    costs : (n : ℕ) (times : List ℕ) → times ≡ own_times → length times ≤ longest → sum_by (cost default history nothing_passed t n) times ≡ cost_at_each (cost default history nothing_passed t n) own_times
    costs n times same few =
        sym (ap (λ b. cond b 0 (sum_by (cost default history nothing_passed t n) times)) (le-ltb longest (length times) few)) ∙ ap (cost_at_each (cost default history nothing_passed t n)) same

    module _ {A : Type 0} (keeps inside : Bool) (func : RangeFn) (n : ℕ) where
      as_sub : (a b : KeptOfRanges) (F : Type 0) (r0 r1 : ℕ) (res : Result A EvalError) → TakesInside (cost_at_each (cost default history nothing_passed t n) own_times) a b F r0 r1 res
          → IsEvaluated keeps inside default history func e time n a b F r0 r1 res
      as_sub a b F r0 r1 res h =
          let of_sub : IsEvaluated keeps inside default history func (sub p t span step offset) time n a b F r0 r1 res =
          outside_taken keeps history func t time n (cost_at_each (cost default history nothing_passed t n) own_times) a b F r0 r1 res h in
          subst (λ u. IsEvaluated keeps inside default history func u time n a b F r0 r1 res) (sym is) of_sub

      pub each_taken : (a b : KeptOfRanges) (F : Type 0) (r0 r1 : ℕ) (res : Result A EvalError) (times : List ℕ) → times ≡ own_times → length times ≤ longest
          → TakesInside (sum_by (cost default history nothing_passed t n) times) a b F r0 r1 res → IsEvaluated keeps inside default history func e time n a b F r0 r1 res
      each_taken a b F r0 r1 res times same few h = as_sub a b F r0 r1 res (subst (λ most. TakesInside most a b F r0 r1 res) (costs n times same few) h)

      -- where nothing was evaluated
      pub none_taken : (a : KeptOfRanges) (F : Type 0) (r0 : ℕ) (res : Result A EvalError) → F → IsEvaluated keeps inside default history func e time n a a F r0 r0 res
      none_taken a F r0 res fits = as_sub a a F r0 r0 res (record { few = omega arith; fits = λ other. fits; same = λ other. same_all a })

-- what was taken, where the answer is another
pub taken_as : {A B : Type 0} (most : ℕ) (a b : KeptOfRanges) (F : Type 0) (r0 r1 : ℕ) (x : A) (res : Result B EvalError) → TakesInside most a b F r0 r1 (Ok x) → TakesInside most a b F r0 r1 res
taken_as most a b F r0 r1 x res h = record { few = h.few; fits = λ other. h.fits (λ e. cc); same = λ other. h.same (λ e. cc) }

pub fault_taken : {A B : Type 0} (most : ℕ) (a b : KeptOfRanges) (F : Type 0) (r0 r1 : ℕ) (f : EvalError) → TakesInside {A = A} most a b F r0 r1 (Err f) → TakesInside {A = B} most a b F r0 r1 (Err f)
fault_taken {A} {B} most a b F r0 r1 f h = record { few = h.few; fits = λ other. h.fits (recast A B f other); same = λ other. h.same (recast A B f other) }

-- The numbers of a part: each is one of the whole, so that they are few.
module _ {A : Type 0} (all own : List A) (from : ℕ) (within : EachAt (λ k x. slice_get all k ≡ Some x) from own) (few : length all < 2 ^ 64) where
  pub few_own : length own < 2 ^ 64
  few_own = by own within where
    by : (xs : List A) → EachAt (λ k x. slice_get all k ≡ Some x) from xs → length xs < 2 ^ 64
    by [] h = omega arith
    by (x ∷ xs) h =
        let at : length xs < length (x ∷ xs) = omega arith in
        let last = slice_get_within all (from + length xs) (get_or (x ∷ xs) (length xs) x) (h (length xs) (get_or (x ∷ xs) (length xs) x) (slice_get-get_or (x ∷ xs) (length xs) x at)) in
        omega (arith, last, few)

  pub few_behind : from < 2 ^ 64 → from + length own < 2 ^ 64
  few_behind small = by own within where
    by : (xs : List A) → EachAt (λ k x. slice_get all k ≡ Some x) from xs → from + length xs < 2 ^ 64
    by [] h = omega (arith, small)
    by (x ∷ xs) h =
        let at : length xs < length (x ∷ xs) = omega arith in
        let last = slice_get_within all (from + length xs) (get_or (x ∷ xs) (length xs) x) (h (length xs) (get_or (x ∷ xs) (length xs) x) (slice_get-get_or (x ∷ xs) (length xs) x at)) in
        omega (arith, last, few)

module _ (whole t : Tree) (at : SelectorCounts) (part : IsPartAt whole at t) (few : length (tests_in whole) < 2 ^ 64) (few_patterns : length (patterns_in whole) < 2 ^ 64) where
  pub exact_own : counts_in t ≡ exact_counts t
  exact_own = counts_exact t (few_own (tests_in whole) (tests_in t) at.selectors part.selectors few) (few_own (patterns_in whole) (patterns_in t) at.patterns part.patterns few_patterns)

  pub numbers_behind : (own : SelectorCounts) → own ≡ counts_in t
      → (let m : SelectorCounts = record { selectors = at.selectors + own.selectors; ranges = at.ranges + own.ranges; patterns = at.patterns + own.patterns } in m) ≡ counts_after at t
  numbers_behind own is = ap (λ (o : SelectorCounts). record { selectors = at.selectors + o.selectors; ranges = at.ranges + o.ranges; patterns = at.patterns + o.patterns }) (is ∙ exact_own)

  pub selectors_fit : (own : SelectorCounts) → own ≡ counts_in t → at.selectors < 2 ^ 64 → at.selectors + own.selectors < 2 ^ 64
  selectors_fit own is small =
      let same : own.selectors ≡ length (tests_in t) = ap (λ (o : SelectorCounts). o.selectors) (is ∙ exact_own) in
      let fit = few_behind (tests_in whole) (tests_in t) at.selectors part.selectors few small in
      omega (arith, same, fit)

  pub ranges_fit : (own : SelectorCounts) → own ≡ counts_in t → at.ranges + own.ranges < 2 ^ 64
  ranges_fit own is =
      let same : own.ranges ≡ ranges_in t = ap (λ (o : SelectorCounts). o.ranges) (is ∙ exact_own) in
      let most : at.ranges + ranges_in t ≤ ranges_in whole = part.ranges in
      let all : ranges_in whole ≤ length (tests_in whole) = ranges_are_selectors whole in
      omega (arith, same, most, all, few)

  pub patterns_fit : (own : SelectorCounts) → own ≡ counts_in t → at.patterns < 2 ^ 64 → at.patterns + own.patterns < 2 ^ 64
  patterns_fit own is small =
      let same : own.patterns ≡ length (patterns_in t) = ap (λ (o : SelectorCounts). o.patterns) (is ∙ exact_own) in
      let fit = few_behind (patterns_in whole) (patterns_in t) at.patterns part.patterns few_patterns small in
      omega (arith, same, fit)
