-- What is kept stays true, and answers as the history does.
use Rattle.std.proofs.Common.{◌≡◌, ℕ, ◌+◌, ◌-◌, ◌≤◌, ◌≤ℤ◌, ◌==◌, max, nat_eq, Bool, true, false, not, cond, ◌&&◌, List, ◌++◌, length, take, drop, slice_get, Option, Some, None, Result, refl, sym, ap, subst, ◌∙◌, arith}
use Rattle.std.specs.Option.{option_map}
use Rattle.std.proofs.lemmas.Grind.{common_steps}
use Rattle.std.proofs.lemmas.List.{drop-drop, take-map, length-map}
use Rattle.std.proofs.lemmas.List.Elements.{filter_map-append}
use borrow.Author.Tests.{eqb-true}
use Rattle.pr_head.specs.pr_labels.declared.pair.Pair.{Pair}
use Rattle.pr_head.specs.spec_history.declared.entry.Entry.{Entry}
use Rattle.pr_head.specs.spec_history.declared.spot.Spot.{Spot}
use Rattle.pr_head.specs.spec_history.private.Laws.{entries_of, entries_until}
use Rattle.pr_head.specs.spec_history.Lookback.{spots_within}
use Rattle.pr_head.specs.declared.timed.Timed.{Timed}
use Rattle.pr_head.specs.private.Stored.{Stored, position_of}
use Rattle.pr_head.specs.private.Reads.{shown_of}
use Rattle.pr_head.specs.private.Holds.{arrivals, samples_of, timed}
use Rattle.pr_head.proofs.Newest.{Rises}
use Rattle.pr_range.specs.spec_vectors.declared.range.Ask.{Ask}
use Rattle.pr_range.specs.spec_vectors.private.Laws.{ask_cost}
use Rattle.pr_num.specs.declared.value.Num.{Num}
use Rattle.pr_range.specs.declared.fault.RangeFault.{RangeFault}
use Rattle.pr_range.specs.private.Asks.{AreMoved, IsAskAnswer, IsLater, IsReadyToAsk, LastAsk, MayAsk, passed_for, remembered}
use Rattle.pr_range.specs.private.Spots.{AreWithin, samples_between, spots_of}
use Rattle.pr_range.proofs.Timeline.{until, after, between}
use Rattle.pr_range.proofs.Lawful.{rising_samples, entries_until_is, spots_within_is}
use Rattle.pr_range.proofs.Reading.{Placed, until_short}
use Rattle.pr_slide.specs.declared.window.SeriesWindow.{SeriesWindow}
use Rattle.pr_slide.specs.private.Kinds.{is_told, kept_in, tells}
use Rattle.pr_slide.specs.private.Later.{later}
use Rattle.pr_slide.specs.private.Successions.{is_rising}
use Rattle.pr_slide.specs.private.Windows.{AreWindowsOf, HasWindow, IsPut, IsWindow, Nodes, found, is_told_by, last_in, last_asks, passed_in, passed_of, slid_spots, spots_in}
use Rattle.pr_slide.proofs.Slides.{later_again, rises_front, front_until, until_front, spots_same, window_step, between_front}
use Rattle.pr_slide.proofs.Telling.{within_rises}

-- what a window has for a later range
abbrev IsFront : List Timed → Ask → List Spot → ℕ → Type 0
IsFront xs a spots passed = (later a.from spots ≡ spots_of (after a.from (take passed xs))) × (passed ≤ length (until a.to xs))

front_of : (history : List Entry) (labels : List Pair) (series node : ℕ) (a : Ask) (nodes : Nodes) → Rises 0 (samples_of history labels) → slice_get (arrivals history) series ≡ Some labels → AreWindowsOf nodes history
    → IsLater (last_asks nodes) node series a → IsFront (samples_of history labels) a (spots_in (found nodes node series)) (passed_in (found nodes node series))
front_of history labels series node a nodes rising named fits ready = by (found nodes node series) refl where
  by : (w : Option SeriesWindow) → found nodes node series ≡ w → IsFront (samples_of history labels) a (spots_in w) (passed_in w)
  by None k = (refl, omega arith)
  by (Some w) k =
      let has = fits node series w k in
      let same : has.labels ≡ labels = cc (has.named, named) in
      let window = subst (λ l. IsWindow history l w.from w.to w.passed (kept_in w.spots)) same has.window in
      let last : last_asks nodes node series ≡ Some (last_in w) = ap (option_map last_in) k in
      let from = ready.from (last_in w) last in
      let to = ready.to (last_in w) last in
      let spots : kept_in w.spots ≡ spots_of (after w.from (take w.passed (samples_of history labels))) =
      window.spots ∙ spots_same w.from (take w.passed (entries_of labels history)) ∙ ap (λ l. spots_of (after w.from l)) (sym (take-map timed w.passed (entries_of labels history))) in (
        ap (later a.from) spots ∙ later_again w.from a.from 0 (take w.passed (samples_of history labels)) from (rises_front w.passed 0 (samples_of history labels) rising),
        front_until w.to a.to w.passed (entries_of labels history) to window.passed window.until,
      )

whole : (f n : ℕ) → f ≤ n → f + (n - f) ≡ n
whole f n h = omega arith

-- The values that are kept for a later range are those of the history, and make a window that is
-- true of it.
pub record Going (history : List Entry) (labels : List Pair) (a : Ask) (s : Stored) (passed : ℕ) (spots : List Spot) : Type 0 where
  pub values : slid_spots s a passed spots ≡ spots_within history labels a.from a.to
  pub window : IsWindow history labels a.from a.to (position_of s a.to) (slid_spots s a passed spots)

window_of : (history : List Entry) (labels : List Pair) (a : Ask) (n : ℕ) (spots : List Spot) → Rises 0 (samples_of history labels) → n ≡ length (until a.to (samples_of history labels))
    → spots ≡ spots_of (between a.from a.to (samples_of history labels)) → IsWindow history labels a.from a.to n spots
window_of history labels a n spots rising size is = subst (λ k. IsWindow history labels a.from a.to k spots) (sym size) (record {
  passed = let short = until_short a.to (samples_of history labels) in omega (arith, length-map (entries_of labels history) timed);
  until = until_front a.to 0 (entries_of labels history) rising;
  spots = is ∙ ap spots_of (between_front a.from a.to 0 (samples_of history labels) rising)
      ∙ ap (λ l. spots_of (after a.from l)) (take-map timed (length (until a.to (samples_of history labels))) (entries_of labels history))
      ∙ sym (spots_same a.from (take (length (until a.to (samples_of history labels))) (entries_of labels history)));
})

pub going : (head : List (List Pair × Stored)) (history : List Entry) (series : ℕ) (labels : List Pair) (a : Ask) (node : ℕ) (nodes : Nodes)
    → MayAsk head history series labels a → a.from ≤ℤ a.to → (p : Placed head history series labels a) → AreWindowsOf nodes history → IsLater (last_asks nodes) node series a
    → Going history labels a p.s (passed_of nodes node series) (spots_in (found nodes node series))
going head history series labels a node nodes may low p fits ready =
    let xs = samples_of history labels in
    let kept = may.holds.each series (labels, p.s) p.at in
    let rising = rising_samples labels history may.lawful in
    let named = subst (λ l. slice_get l series ≡ Some labels) may.holds.numbered may.named in
    let u = passed_of nodes node series in
    let front = front_of history labels series node a nodes rising named fits ready in
    let na : position_of p.s a.from ≡ length (until a.from xs) = p.from_is ∙ entries_until_is history labels a.from in
    let nb : position_of p.s a.to ≡ length (until a.to xs) = p.to_is ∙ entries_until_is history labels a.to in
    let first = p.first in
    let from_is = p.from_is in
    let behind : p.s.first ≤ max (length (until a.from xs)) u = omega arith in
    let read : samples_between p.s (max (position_of p.s a.from) u) (position_of p.s a.to) ≡ take (length (until a.to xs) - max (length (until a.from xs)) u) (drop (max (length (until a.from xs)) u) xs) =
    (λ i. take (nb i - max (na i) u) (drop (max (na i) u - p.s.first) (kept.held i)))
    ∙ ap (take (length (until a.to xs) - max (length (until a.from xs)) u)) (drop-drop (max (length (until a.from xs)) u - p.s.first) p.s.first xs ∙ ap (λ n. drop n xs) (whole p.s.first (max (length (until a.from xs)) u) behind)) in
    let all : slid_spots p.s a u (spots_in (found nodes node series)) ≡ spots_of (between a.from a.to xs) =
    (λ i. front.0 i ++ spots_of (read i))
    ∙ sym (filter_map-append shown_of (after a.from (take u xs)) (take (length (until a.to xs) - max (length (until a.from xs)) u) (drop (max (length (until a.from xs)) u) xs)))
    ∙ ap spots_of (window_step a.from a.to 0 u xs low rising front.1) in
    record {
      values = all ∙ sym (spots_within_is history labels a.from a.to);
      window = window_of history labels a (position_of p.s a.to) (slid_spots p.s a u (spots_in (found nodes node series))) rising nb all;
    }

-- the reads that this takes
pub reads_later : (history : List Entry) (labels : List Pair) (a : Ask) (s : Stored) (passed before after : ℕ) → a.inside ≡ false → position_of s a.from ≡ entries_until history labels a.from
    → position_of s a.to ≡ entries_until history labels a.to → after ≤ before + (position_of s a.to - max (position_of s a.from) passed) → after ≤ before + ask_cost history labels a (passed_for a passed)
reads_later history labels a s passed before after outside from to h =
    rw outside (subst (λ n. after ≤ before + (n - max (entries_until history labels a.from) passed)) to (subst (λ n. after ≤ before + (position_of s a.to - max n passed)) from h))

-- what is kept tells the function that is asked, if it can
pub told_before : (nodes : Nodes) (history : List Entry) (node series : ℕ) (a : Ask) → AreWindowsOf nodes history → IsLater (last_asks nodes) node series a → is_told a.func ≡ true
    → is_told_by a.func (found nodes node series) ≡ true
told_before nodes history node series a fits ready can = by (found nodes node series) refl where
  by : (w : Option SeriesWindow) → found nodes node series ≡ w → is_told_by a.func w ≡ true
  by None k = refl
  by (Some w) k =
      let same : w.func ≡ a.func = ready.same series (last_in w) (ap (option_map last_in) k) in
      subst (λ f. tells f w.spots ≡ true) same ((fits node series w k).told (subst (λ f. is_told f ≡ true) (sym same) can))

-- and so it does afterwards
pub told_after : (nodes nodes' : Nodes) (history : List Entry) (s : Stored) (a : Ask) (node series : ℕ) → AreWindowsOf nodes history → IsLater (last_asks nodes) node series a
    → AreWithin a.from a.to (slid_spots s a (passed_of nodes node series) (spots_in (found nodes node series))) → (put : IsPut s a node series nodes nodes') → is_told a.func ≡ true → tells a.func put.window.spots ≡ true
told_after nodes nodes' history s a node series fits ready within put can =
    put.slid.told can (told_before nodes history node series a fits ready can)
    (subst (λ l. is_rising l ≡ true) (sym put.slid.spots) (within_rises a.from a.to (slid_spots s a (passed_of nodes node series) (spots_in (found nodes node series))) within))

-- what is found of the series afterwards
pub found_put : (nodes nodes' : Nodes) (s : Stored) (a : Ask) (node series : ℕ) → (put : IsPut s a node series nodes nodes') → found nodes' node series ≡ Some put.window
found_put nodes nodes' s a node series put =
    let here : nat_eq node node ≡ true = grind (arith, common_steps) in
    let there : nat_eq series series ≡ true = grind (arith, common_steps) in
    put.put node series ∙ (λ i. cond (here i && there i) (Some put.window) (found nodes node series))

-- The window is one of the series, and the others stay.
pub fits_put : (nodes nodes' : Nodes) (history : List Entry) (labels : List Pair) (s : Stored) (a : Ask) (node series : ℕ) → AreWindowsOf nodes history → IsLater (last_asks nodes) node series a → slice_get (arrivals history) series ≡ Some labels
    → AreWithin a.from a.to (slid_spots s a (passed_of nodes node series) (spots_in (found nodes node series)))
    → Going history labels a s (passed_of nodes node series) (spots_in (found nodes node series)) → IsPut s a node series nodes nodes' → AreWindowsOf nodes' history
fits_put nodes nodes' history labels s a node series fits ready named within go put = λ k q w at. by k q w (nat_eq node k) (nat_eq series q) refl (sym (put.put k q) ∙ at) where
  from_is : put.window.from ≡ a.from
  from_is = ap (λ (l : LastAsk). l.from) put.slid.last

  to_is : put.window.to ≡ a.to
  to_is = ap (λ (l : LastAsk). l.to) put.slid.last

  func_is : put.window.func ≡ a.func
  func_is = ap (λ (l : LastAsk). l.func) put.slid.last

  told_own : is_told put.window.func ≡ true → tells put.window.func put.window.spots ≡ true
  told_own can = subst (λ f. tells f put.window.spots ≡ true) (sym func_is)
      (told_after nodes nodes' history s a node series fits ready within put (subst (λ f. is_told f ≡ true) func_is can))

  own : IsWindow history labels put.window.from put.window.to put.window.passed (kept_in put.window.spots)
  own = subst (λ spots. IsWindow history labels put.window.from put.window.to put.window.passed spots) (sym put.slid.spots)
      (subst (λ n. IsWindow history labels put.window.from put.window.to n (slid_spots s a (passed_of nodes node series) (spots_in (found nodes node series)))) (sym put.slid.passed)
      (subst (λ b. IsWindow history labels put.window.from b (position_of s a.to) (slid_spots s a (passed_of nodes node series) (spots_in (found nodes node series)))) (sym to_is)
      (subst (λ b. IsWindow history labels b a.to (position_of s a.to) (slid_spots s a (passed_of nodes node series) (spots_in (found nodes node series)))) (sym from_is) go.window)))

  by : (k q : ℕ) (w : SeriesWindow) (b t : Bool) → nat_eq series q ≡ t → cond (b && t) (Some put.window) (found nodes k q) ≡ Some w → HasWindow history q w
  by k q w true true f at =
      let here : series ≡ q = eqb-true series q f in
      let is : put.window ≡ w = cc in
      record { labels = labels; named = subst (λ n. slice_get (arrivals history) n ≡ Some labels) here named; window = subst (λ (v : SeriesWindow). IsWindow history labels v.from v.to v.passed (kept_in v.spots)) is own; told = subst (λ (v : SeriesWindow). is_told v.func ≡ true → tells v.func v.spots ≡ true) is told_own }
  by k q w true false f at = fits k q w at
  by k q w false t f at = fits k q w at

-- What is remembered, and what was passed.
pub moved_put : (nodes nodes' : Nodes) (s : Stored) (a : Ask) (node series until : ℕ) → a.inside ≡ false → position_of s a.to ≡ until → IsPut s a node series nodes nodes'
    → AreMoved true node series a until (last_asks nodes) (last_asks nodes') (passed_of nodes) (passed_of nodes')
moved_put nodes nodes' s a node series until outside size put = record {
  asks = λ k q. ap (option_map last_in) (put.put k q) ∙ asked k q (nat_eq node k && nat_eq series q) ∙ (λ i. cond (true && (not (sym outside i) && ((node == k) && (series == q)))) (Some (remembered a)) (last_asks nodes k q));
  passing = λ k q. ap passed_in (put.put k q) ∙ passing k q (nat_eq node k && nat_eq series q) ∙ (λ i. cond (true && (not (sym outside i) && ((node == k) && (series == q)))) until (passed_of nodes k q));
} where
  asked : (k q : ℕ) (b : Bool) → option_map last_in (cond b (Some put.window) (found nodes k q)) ≡ cond b (Some (remembered a)) (last_asks nodes k q)
  asked k q true = ap Some put.slid.last
  asked k q false = refl

  passing : (k q : ℕ) (b : Bool) → passed_in (cond b (Some put.window) (found nodes k q)) ≡ cond b until (passed_of nodes k q)
  passing k q true = put.slid.passed ∙ size
  passing k q false = refl

-- An ask inside a subquery is answered as if nothing was passed, and moves nothing.
pub answer_inside : (history : List Entry) (labels : List Pair) (a : Ask) (passed before after : ℕ) (result : Result (Option Num) RangeFault) → a.inside ≡ true → IsAskAnswer history labels a 0 before after result
    → IsAskAnswer history labels a passed before after result
answer_inside history labels a passed before after result inside h = record {
  value = h.value;
  reads = subst (λ n. after ≤ before + ask_cost history labels a n) (ap (λ b. cond b 0 0) inside ∙ sym (ap (λ b. cond b 0 passed) inside)) h.reads;
}

pub moved_inside : (nodes : Nodes) (a : Ask) (node series until : ℕ) → a.inside ≡ true → AreMoved true node series a until (last_asks nodes) (last_asks nodes) (passed_of nodes) (passed_of nodes)
moved_inside nodes a node series until inside = record {
  asks = λ k q. (λ i. cond (true && (not (sym inside i) && ((node == k) && (series == q)))) (Some (remembered a)) (last_asks nodes k q));
  passing = λ k q. (λ i. cond (true && (not (sym inside i) && ((node == k) && (series == q)))) until (passed_of nodes k q));
}

-- Nothing is remembered of plain ranges.
pub ready_plain : (node series : ℕ) (a : Ask) → IsReadyToAsk (λ k s. None) node series a
ready_plain node series a = λ outside. record { same = λ s b e. absurd (cc); from = λ b e. absurd (cc); to = λ b e. absurd (cc) }
