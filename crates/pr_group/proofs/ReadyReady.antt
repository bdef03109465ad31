-- What was asked, and what may be asked next.
use Rattle.std.proofs.Common.{◌≡◌, ℕ, ◌+◌, ◌≤◌, ◌⊎◌, inl, inr, pos, ◌-ℤ◌, ◌≤ℤ◌, Bool, true, false, ◌&&◌, cond, List, length, slice_get, take, Option, Some, None, refl, sym, ap, subst, ◌∙◌, arith}
use Rattle.std.specs.Prelude.{IfSome}
use Rattle.std.proofs.lemmas.Int.{ints}
use Rattle.pr_rule.specs.spec_history.declared.entry.Entry.{Entry}
use Rattle.pr_ast.specs.Tree.{Tree}
use Rattle.pr_rule.specs.spec_vectors.declared.range.RangeFn.TheVariants.{PresentOverTime}
use Rattle.pr_rule.specs.pr_range.private.Asks.{LastAsk, LastAsks, Passed}
use Rattle.pr_rule.specs.pr_range.private.Carried.{IsFresh}
use Rattle.pr_rule.specs.pr_eval.private.RangeCallsAsking.{is_number_among}
use Rattle.pr_rule.specs.pr_eval.private.Asking.{Sought}
use Rattle.pr_rule.specs.pr_eval.private.Evaluated.{AreAllAsked, AreAskedSeries, AreReady, AreRowsAsked, IsAsked, IsReadyFor, IsSame, KeptOfRanges, asks_of}
use Rattle.pr_group.specs.private.Asked.{RangeSelector, WasAsked, WasAskedUntil, ask_of, range_selectors}
use Rattle.pr_group.proofs.Lists.{past_get, some_same}
use Rattle.pr_group.proofs.Selectors.{AskAt, ask_at, asks_are}

pub asked_then : (last : LastAsks) (t : Tree) (until : Option ℕ) (time k s : ℕ) (b : LastAsk) → WasAsked last t until → IfSome until (λ u. u ≤ time) → last k s ≡ Some b → WasAskedUntil time t k b
asked_then last t None time k s b h early at = absurd (cc (h k s))
asked_then last t (Some u) time k s b h early at =
    let was = h k s b at in
    let first : was.time ≤ u = was.early in
    let last : u ≤ time = early in
    record { time = was.time; early = omega arith; selector = was.selector; named = was.named; asked = was.asked }

pub asked_still : (last : LastAsks) (t : Tree) (until : Option ℕ) (later : ℕ) → WasAsked last t until → IfSome until (λ u. u ≤ later) → WasAsked last t (Some later)
asked_still last t until later h early = λ k s b at. asked_then last t until later k s b h early at

pub fresh_asked : (last : LastAsks) (passed : Passed) (t : Tree) (until : Option ℕ) → IsFresh last passed → WasAsked last t until
fresh_asked last passed t None h = λ k s. h.asks k s
fresh_asked last passed t (Some u) h = λ k s b at. absurd (cc (h.asks k s))

-- What may be asked

follows : (r : RangeSelector) (early late : ℕ) (b a : LastAsk) → early ≤ late → b ≡ ask_of r early → a ≡ ask_of r late → (b.func ≡ a.func) × ((b.from ≤ℤ a.from) × (b.to ≤ℤ a.to))
follows r early late b a h e f =
    let from : ((pos early -ℤ pos r.selector.offset) -ℤ pos r.span) ≤ℤ ((pos late -ℤ pos r.selector.offset) -ℤ pos r.span) = omega (arith, ints) in
    let to : (pos early -ℤ pos r.selector.offset) ≤ℤ (pos late -ℤ pos r.selector.offset) = omega (arith, ints) in
    subst (λ y. (b.func ≡ y.func) × ((b.from ≤ℤ y.from) × (b.to ≤ℤ y.to))) (sym f) (subst (λ x. (x.func ≡ r.func) × ((x.from ≤ℤ (ask_of r late).from) × (x.to ≤ℤ (ask_of r late).to))) (sym e) (refl, (from, to)))

pub asks_ready : (last : LastAsks) (t : Tree) (until : Option ℕ) (history : List Entry) (time : ℕ) → WasAsked last t until → IfSome until (λ u. u ≤ time) → AreReady last 0 (asks_of history t time)
asks_ready last t until history time h early = λ k a at.
    let here : k ≡ 0 + k = omega arith in
    subst (λ n. IsReadyFor last n a) here (by k a (ask_at history time (asks_of history t time) (range_selectors t) k a (asks_are false history PresentOverTime t time) at)) where
      by : (k : ℕ) (a : Option Sought) → AskAt history time a (range_selectors t) k → IsReadyFor last k a
      by k None w = tt
      by k (Some q) w = λ s b at.
          let was = asked_then last t until time k s b h early at in
          let same : was.selector ≡ w.selector = some_same was.selector w.selector (sym was.named ∙ w.named) in
          follows w.selector was.time time b q.ask was.early (was.asked ∙ ap (λ r. ask_of r was.time) same) w.is.ask

-- What was asked

pub rows_tell : (keeps : Bool) (history : List Entry) (a : LastAsk) (numbers : List ℕ) (last last' : ℕ → Option LastAsk) (passed passed' : ℕ → ℕ) (s : ℕ) (b : LastAsk) → AreRowsAsked keeps history a numbers last last' passed passed' → last' s ≡ Some b
    → (b ≡ a) ⊎ (last s ≡ Some b)
rows_tell keeps history a numbers last last' passed passed' s b h at = by (keeps && is_number_among s numbers) (h.asks s) where
  by : (c : Bool) → last' s ≡ cond c (Some a) (last s) → (b ≡ a) ⊎ (last s ≡ Some b)
  by true e = inl (some_same b a (sym at ∙ e))
  by false e = inr (sym e ∙ at)

series_tell : (whole keeps : Bool) (history : List Entry) (q : Sought) (last last' : ℕ → Option LastAsk) (passed passed' : ℕ → ℕ) (s : ℕ) (b : LastAsk) → AreAskedSeries whole keeps history q last last' passed passed' → last' s ≡ Some b
    → (b ≡ q.ask) ⊎ (last s ≡ Some b)
series_tell true keeps history q last last' passed passed' s b h at = rows_tell keeps history q.ask q.numbers last last' passed passed' s b h at
series_tell false keeps history q last last' passed passed' s b h at = rows_tell keeps history q.ask (take h.0 q.numbers) last last' passed passed' s b h.1 at

-- what is known of one range selector
pub own_asked : (keeps : Bool) (history : List Entry) (whole : Bool) (asks : List (Option Sought)) (before after : KeptOfRanges) (k : ℕ) (a : Option Sought) → AreAllAsked keeps history whole asks 0 before after → slice_get asks k ≡ Some a
    → IsAsked keeps history whole before after k a
own_asked keeps history whole asks before after k a h at = let here : 0 + k ≡ k = omega arith in subst (λ n. IsAsked keeps history whole before after n a) here (h.own k a at)

pub others_same : (keeps : Bool) (history : List Entry) (whole : Bool) (asks : List (Option Sought)) (before after : KeptOfRanges) (k : ℕ) → AreAllAsked keeps history whole asks 0 before after → slice_get asks k ≡ None → IsSame k before after
others_same keeps history whole asks before after k h at = let past : length asks ≤ k = past_get asks k at in h.others k (inr (omega arith))

pub asks_asked : (keeps : Bool) (history : List Entry) (whole : Bool) (t : Tree) (time : ℕ) (until : Option ℕ) (before after : KeptOfRanges) → WasAsked before.last t until → IfSome until (λ u. u ≤ time)
    → AreAllAsked keeps history whole (asks_of history t time) 0 before after → WasAsked after.last t (Some time)
asks_asked keeps history whole t time until before after h early asked = λ k s b at. by k s b (slice_get (asks_of history t time) k) refl at where
  was : (k s : ℕ) (b : LastAsk) → before.last k s ≡ Some b → WasAskedUntil time t k b
  was k s b at = asked_then before.last t until time k s b h early at

  told : (k s : ℕ) (b : LastAsk) (q : Sought) → AskAt history time (Some q) (range_selectors t) k → (b ≡ q.ask) ⊎ (before.last k s ≡ Some b) → WasAskedUntil time t k b
  told k s b q w (inl e) = record { time = time; early = omega arith; selector = w.selector; named = w.named; asked = e ∙ w.is.ask }
  told k s b q w (inr e) = was k s b e

  same : (k s : ℕ) (b : LastAsk) → IsSame k before after → after.last k s ≡ Some b → WasAskedUntil time t k b
  same k s b h at = let stays : after.last k s ≡ before.last k s = λ i. h.last i s in was k s b (sym stays ∙ at)

  by : (k s : ℕ) (b : LastAsk) (a : Option (Option Sought)) → slice_get (asks_of history t time) k ≡ a → after.last k s ≡ Some b → WasAskedUntil time t k b
  by k s b None e at = same k s b (others_same keeps history whole (asks_of history t time) before after k asked e) at
  by k s b (Some None) e at = same k s b (own_asked keeps history whole (asks_of history t time) before after k None asked e) at
  by k s b (Some (Some q)) e at =
      told k s b q (ask_at history time (asks_of history t time) (range_selectors t) k (Some q) (asks_are false history PresentOverTime t time) e)
      (series_tell whole keeps history q (before.last k) (after.last k) (before.passed k) (after.passed k) s b (own_asked keeps history whole (asks_of history t time) before after k (Some q) asked e) at)
