-- What was passed never falls.
use Rattle.std.proofs.Common.{◌≡◌, ℕ, zero, suc, ◌+◌, ◌==◌, ◌<◌, ◌≤◌, ◌≤ℤ◌, ℤ, pos, negsuc, Bool, true, false, ◌&&◌, cond, List, [], ◌∷◌, ◌++◌, filter, length, length-append, get_or, slice_get, take, Option, Some, None, refl, sym, ap, subst, ◌∙◌, arith}
use Rattle.std.specs.Prelude.{option_and_then}
use Rattle.std.specs.Option.{option_map_or}
use Rattle.std.proofs.lemmas.List.Elements.{filter-append}
use Rattle.std.proofs.lemmas.Bool.Decides.{nat_tests}
use Rattle.std.proofs.lemmas.Int.{ints}
use borrow.Author.Tests.{leb-true}
use Rattle.std.proofs.lemmas.Option.{get_or_from_slice_get, slice_get-get_or}
use Rattle.pr_ast.specs.pr_labels.declared.pair.Pair.{Pair}
use Rattle.pr_rule.specs.spec_history.declared.entry.Entry.{Entry}
use Rattle.pr_rule.specs.spec_history.Admission.{is_of}
use Rattle.pr_rule.specs.spec_history.private.Laws.{entries_until}
use Rattle.pr_rule.specs.spec_history.Lookback.{is_until}
use Rattle.pr_ast.specs.Tree.{Tree}
use Rattle.pr_rule.specs.spec_vectors.declared.range.RangeFn.TheVariants.{PresentOverTime}
use Rattle.pr_rule.specs.pr_head.private.Holds.{arrivals, labels_at}
use Rattle.pr_rule.specs.pr_range.private.Asks.{LastAsk, LastAsks, Passed}
use Rattle.pr_rule.specs.pr_range.private.Carried.{IsCarried, IsFresh, older_of}
use Rattle.pr_rule.specs.spec_rules.private.Carried.{carried_numbers, carried_passed, passed_for_selector}
use Rattle.pr_rule.specs.spec_rules.private.Passed.{NoneFalls}
use Rattle.pr_rule.specs.pr_eval.private.RangeCallsAsking.{is_number_among, series_number}
use Rattle.pr_rule.specs.pr_eval.private.Asking.{Sought}
use Rattle.pr_rule.specs.pr_eval.private.Evaluated.{AreAllAsked, AreAskedSeries, AreReady, AreRowsAsked, IsReadyFor, IsSame, KeptOfRanges, MayFollow, asks_of, passed_outside}
use Rattle.pr_group.specs.private.Asked.{RangeSelector, range_selectors}
use Rattle.pr_group.specs.private.Within.{ArePassedWithin, IsPassedWithin}
use Rattle.pr_group.proofs.Lists.{any_front}
use Rattle.pr_group.proofs.ReadyNumbers.{chosen_there, named_stays, number_stays}
use Rattle.pr_group.proofs.ReadyReady.{others_same, own_asked}
use Rattle.pr_group.proofs.Selectors.{AskAt, ask_at, asks_are}

pub fresh_within : (history : List Entry) (last : LastAsks) (passed : Passed) → IsFresh last passed → ArePassedWithin history last passed
fresh_within history last passed h = λ k s. subst (λ l. IsPassedWithin history s l (passed k s)) (sym (h.asks k s)) (h.passing k s)

-- How many entries stand until a moment

more_stand : (p : Entry → Bool) (history more : List Entry) → length (filter p history) ≤ length (filter p (history ++ more))
more_stand p history more = let all : length (filter p (history ++ more)) ≡ length (filter p history) + length (filter p more) = ap length (filter-append p history more) ∙ length-append (filter p history) (filter p more) in omega (arith, all)

pub until_grows : (history more : List Entry) (labels : List Pair) (x : ℤ) → entries_until history labels x ≤ entries_until (history ++ more) labels x
until_grows history more labels x = more_stand (λ e. is_of labels e && is_until x e.time) history more

until_later : (x y : ℤ) (time : ℕ) → x ≤ℤ y → is_until x time ≡ true → is_until y time ≡ true
until_later (pos x) (pos y) time h k =
    let low : time ≤ x = leb-true time x k in
    let high : x ≤ y = omega (arith, ints) in
    grind (arith, nat_tests)
until_later (pos x) (negsuc y) time h k = absurd (omega (arith, ints))
until_later (negsuc x) y time h k = absurd (cc)

fewer_stand : (p q : Entry → Bool) (history : List Entry) → ((e : Entry) → p e ≡ true → q e ≡ true) → length (filter p history) ≤ length (filter q history)
fewer_stand p q [] h = omega arith
fewer_stand p q (e ∷ history) h = by (p e) (q e) (h e) (fewer_stand p q history h) where
  by : (a b : Bool) → (a ≡ true → b ≡ true) → length (filter p history) ≤ length (filter q history) → length (cond a (e ∷ filter p history) (filter p history)) ≤ length (cond b (e ∷ filter q history) (filter q history))
  by true true f rest = omega arith
  by true false f rest = absurd (cc (f refl))
  by false true f rest = omega arith
  by false false f rest = rest

pub until_rises : (history : List Entry) (labels : List Pair) (x y : ℤ) → x ≤ℤ y → entries_until history labels x ≤ entries_until history labels y
until_rises history labels x y h = fewer_stand (λ e. is_of labels e && is_until x e.time) (λ e. is_of labels e && is_until y e.time) history (λ e. by (is_of labels e) e) where
  by : (b : Bool) (e : Entry) → (b && is_until x e.time) ≡ true → (b && is_until y e.time) ≡ true
  by true e k = until_later x y e.time h k
  by false e k = k

-- Later histories

pub later_within : (history more : List Entry) (last : LastAsks) (passed : Passed) → ArePassedWithin history last passed → ArePassedWithin (history ++ more) last passed
later_within history more last passed h = λ k s. by (last k s) s (passed k s) (h k s) where
  by : (l : Option LastAsk) (s u : ℕ) → IsPassedWithin history s l u → IsPassedWithin (history ++ more) s l u
  by None s u g = g
  by (Some b) s u g =
      let low : u ≤ entries_until history g.labels b.to = g.most in
      let high = until_grows history more g.labels b.to in
      record { labels = g.labels; named = named_stays history more s g.labels g.named; most = omega arith }

pub later_falls_not : (history more : List Entry) (last : LastAsks) (passed : Passed) → ArePassedWithin history last passed → NoneFalls (passed_outside false history passed) (passed_outside false (history ++ more) passed)
later_falls_not history more last passed h = λ k labels. by k labels (last k (series_number history labels)) (h k (series_number history labels)) where
  by : (k : ℕ) (labels : List Pair) (l : Option LastAsk) → IsPassedWithin history (series_number history labels) l (passed k (series_number history labels)) → passed k (series_number history labels) ≤ passed k (series_number (history ++ more) labels)
  by k labels None g = let none : passed k (series_number history labels) ≡ 0 = g in omega arith
  by k labels (Some b) g = let same : passed k (series_number (history ++ more) labels) ≡ passed k (series_number history labels) = ap (passed k) (number_stays history more labels g.labels g.named) in omega arith

-- One evaluation

-- after the rows of a range selector
rows_within : (keeps : Bool) (history : List Entry) (a : LastAsk) (numbers : List ℕ) (last last' : ℕ → Option LastAsk) (passed passed' : ℕ → ℕ) (s : ℕ) → AreRowsAsked keeps history a numbers last last' passed passed'
    → (is_number_among s numbers ≡ true → s < length (arrivals history)) → IsPassedWithin history s (last s) (passed s) → IsPassedWithin history s (last' s) (passed' s)
rows_within keeps history a numbers last last' passed passed' s h there before =
    subst (λ l. IsPassedWithin history s l (passed' s)) (sym (h.asks s)) (subst (λ u. IsPassedWithin history s (cond (keeps && is_number_among s numbers) (Some a) (last s)) u) (sym (h.passing s)) (by keeps (is_number_among s numbers) there)) where
      by : (b c : Bool) → (c ≡ true → s < length (arrivals history)) → IsPassedWithin history s (cond (b && c) (Some a) (last s)) (cond (b && c) (entries_until history (labels_at (arrivals history) s) a.to) (passed s))
      by true true f = record { labels = labels_at (arrivals history) s; named = slice_get-get_or (arrivals history) s [] (f refl); most = omega arith }
      by true false f = before
      by false c f = before

rows_rise : (keeps : Bool) (history : List Entry) (a : LastAsk) (numbers : List ℕ) (last last' : ℕ → Option LastAsk) (passed passed' : ℕ → ℕ) (s : ℕ) → AreRowsAsked keeps history a numbers last last' passed passed'
    → MayFollow a last → IsPassedWithin history s (last s) (passed s) → passed s ≤ passed' s
rows_rise keeps history a numbers last last' passed passed' s h ready before = by (keeps && is_number_among s numbers) (h.passing s) where
  told : (l : Option LastAsk) → last s ≡ l → IsPassedWithin history s l (passed s) → passed s ≤ entries_until history (labels_at (arrivals history) s) a.to
  told None e g = let none : passed s ≡ 0 = g in omega arith
  told (Some b) e g =
      let low : passed s ≤ entries_until history g.labels b.to = g.most in
      let rise = until_rises history g.labels b.to a.to (ready s b e).1.1 in
      let named : g.labels ≡ labels_at (arrivals history) s = sym (get_or_from_slice_get (arrivals history) s g.labels [] g.named) in
      let same : entries_until history g.labels a.to ≡ entries_until history (labels_at (arrivals history) s) a.to = ap (λ l. entries_until history l a.to) named in
      omega arith

  by : (c : Bool) → passed' s ≡ cond c (entries_until history (labels_at (arrivals history) s) a.to) (passed s) → passed s ≤ passed' s
  by true e = let most = told (last s) refl before in omega arith
  by false e = omega arith

-- the series that are asked are there
asked_there : (history : List Entry) (time k : ℕ) (q : Sought) (rs : List RangeSelector) (s : ℕ) → AskAt history time (Some q) rs k → is_number_among s q.numbers ≡ true → s < length (arrivals history)
asked_there history time k q rs s w h = chosen_there w.selector.selector history s (ap (is_number_among s) (sym w.is.numbers) ∙ h)

series_within : (whole keeps : Bool) (history : List Entry) (q : Sought) (last last' : ℕ → Option LastAsk) (passed passed' : ℕ → ℕ) (s : ℕ) → AreAskedSeries whole keeps history q last last' passed passed'
    → (is_number_among s q.numbers ≡ true → s < length (arrivals history)) → IsPassedWithin history s (last s) (passed s) → IsPassedWithin history s (last' s) (passed' s)
series_within true keeps history q last last' passed passed' s h there before = rows_within keeps history q.ask q.numbers last last' passed passed' s h there before
series_within false keeps history q last last' passed passed' s h there before =
    rows_within keeps history q.ask (take h.0 q.numbers) last last' passed passed' s h.1 (λ k. there (any_front (λ n. n == s) h.0 q.numbers k)) before

series_rise : (whole keeps : Bool) (history : List Entry) (q : Sought) (last last' : ℕ → Option LastAsk) (passed passed' : ℕ → ℕ) (s : ℕ) → AreAskedSeries whole keeps history q last last' passed passed'
    → MayFollow q.ask last → IsPassedWithin history s (last s) (passed s) → passed s ≤ passed' s
series_rise true keeps history q last last' passed passed' s h ready before = rows_rise keeps history q.ask q.numbers last last' passed passed' s h ready before
series_rise false keeps history q last last' passed passed' s h ready before = rows_rise keeps history q.ask (take h.0 q.numbers) last last' passed passed' s h.1 ready before

same_within : (history : List Entry) (before after : KeptOfRanges) (k s : ℕ) → IsSame k before after → IsPassedWithin history s (before.last k s) (before.passed k s) → IsPassedWithin history s (after.last k s) (after.passed k s)
same_within history before after k s h g =
    subst (λ l. IsPassedWithin history s (l s) (after.passed k s)) (sym h.last) (subst (λ u. IsPassedWithin history s (before.last k s) (u s)) (sym h.passed) g)

same_rises : (before after : KeptOfRanges) (k s : ℕ) → IsSame k before after → before.passed k s ≤ after.passed k s
same_rises before after k s h = let same : after.passed k s ≡ before.passed k s = λ i. h.passed i s in omega arith

module _ (keeps : Bool) (history : List Entry) (whole : Bool) (t : Tree) (time : ℕ) (before after : KeptOfRanges) (within : ArePassedWithin history before.last before.passed) (asked : AreAllAsked keeps history whole (asks_of history t time) 0 before after) where
  selector_at : (k : ℕ) (a : Option Sought) → slice_get (asks_of history t time) k ≡ Some a → AskAt history time a (range_selectors t) k
  selector_at k a e = ask_at history time (asks_of history t time) (range_selectors t) k a (asks_are false history PresentOverTime t time) e

  within_at : (k s : ℕ) (a : Option (Option Sought)) → slice_get (asks_of history t time) k ≡ a → IsPassedWithin history s (after.last k s) (after.passed k s)
  within_at k s None e = same_within history before after k s (others_same keeps history whole (asks_of history t time) before after k asked e) (within k s)
  within_at k s (Some None) e = same_within history before after k s (own_asked keeps history whole (asks_of history t time) before after k None asked e) (within k s)
  within_at k s (Some (Some q)) e =
      series_within whole keeps history q (before.last k) (after.last k) (before.passed k) (after.passed k) s (own_asked keeps history whole (asks_of history t time) before after k (Some q) asked e)
      (asked_there history time k q (range_selectors t) s (selector_at k (Some q) e)) (within k s)

  ready_at : (k : ℕ) (a : Option Sought) → AreReady before.last 0 (asks_of history t time) → slice_get (asks_of history t time) k ≡ Some a → IsReadyFor before.last k a
  ready_at k a ready e = let here : 0 + k ≡ k = omega arith in subst (λ n. IsReadyFor before.last n a) here (ready k a e)

  rise_at : AreReady before.last 0 (asks_of history t time) → (k s : ℕ) (a : Option (Option Sought)) → slice_get (asks_of history t time) k ≡ a → before.passed k s ≤ after.passed k s
  rise_at ready k s None e = same_rises before after k s (others_same keeps history whole (asks_of history t time) before after k asked e)
  rise_at ready k s (Some None) e = same_rises before after k s (own_asked keeps history whole (asks_of history t time) before after k None asked e)
  rise_at ready k s (Some (Some q)) e =
      series_rise whole keeps history q (before.last k) (after.last k) (before.passed k) (after.passed k) s (own_asked keeps history whole (asks_of history t time) before after k (Some q) asked e) (ready_at k (Some q) ready e) (within k s)

pub asked_within : (keeps : Bool) (history : List Entry) (whole : Bool) (t : Tree) (time : ℕ) (before after : KeptOfRanges) → ArePassedWithin history before.last before.passed
    → AreAllAsked keeps history whole (asks_of history t time) 0 before after → ArePassedWithin history after.last after.passed
asked_within keeps history whole t time before after within asked = λ k s. within_at keeps history whole t time before after within asked k s (slice_get (asks_of history t time) k) refl

pub asked_falls_not : (keeps : Bool) (history : List Entry) (whole : Bool) (t : Tree) (time : ℕ) (before after : KeptOfRanges) → ArePassedWithin history before.last before.passed
    → AreReady before.last 0 (asks_of history t time) → AreAllAsked keeps history whole (asks_of history t time) 0 before after
    → NoneFalls (passed_outside false history before.passed) (passed_outside false history after.passed)
asked_falls_not keeps history whole t time before after within ready asked = λ k labels. rise_at keeps history whole t time before after within asked ready k (series_number history labels) (slice_get (asks_of history t time) k) refl

-- Carries

pub carried_within : (history : List Entry) (from : List (Option ℕ)) (last last' : LastAsks) (passed passed' : Passed) → IsCarried from last last' passed passed' → ArePassedWithin history last passed → ArePassedWithin history last' passed'
carried_within history from last last' passed passed' carried within = λ k s.
    subst (λ l. IsPassedWithin history s l (passed' k s)) (sym (carried.asks k s)) (subst (λ u. IsPassedWithin history s (option_and_then (λ j. last j s) (older_of from k)) u) (sym (carried.passing k s)) (by (older_of from k) s)) where
      by : (o : Option ℕ) (s : ℕ) → IsPassedWithin history s (option_and_then (λ j. last j s) o) (option_map_or (λ j. passed j s) o 0)
      by None s = refl
      by (Some j) s = within j s

pub carried_is : (history : List Entry) (new old : Tree) (last last' : LastAsks) (passed passed' : Passed) → IsCarried (carried_numbers new old) last last' passed passed'
    → (k : ℕ) (labels : List Pair) → passed_outside false history passed' k labels ≡ carried_passed new old (passed_outside false history passed) k labels
carried_is history new old last last' passed passed' carried k labels =
    carried.passing k (series_number history labels) ∙ ap (λ o. option_map_or (λ j. passed j (series_number history labels)) o 0) (named_at (carried_numbers new old) k) ∙ by (get_or (carried_numbers new old) k None) where
      named_at : (from : List (Option ℕ)) (k : ℕ) → older_of from k ≡ get_or from k None
      named_at [] zero = refl
      named_at [] (suc k) = refl
      named_at (c ∷ from) zero = refl
      named_at (c ∷ from) (suc k) = named_at from k

      by : (o : Option ℕ) → option_map_or (λ j. passed j (series_number history labels)) o 0 ≡ passed_for_selector o (passed_outside false history passed) k labels
      by None = refl
      by (Some j) = refl
