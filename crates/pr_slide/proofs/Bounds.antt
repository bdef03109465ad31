-- No more was passed than the last range has until its end.
use Rattle.std.proofs.Common.{◌≡◌, ℕ, ◌≤◌, List, length, slice_get, Option, Some, None, refl, sym, ap, subst, arith, ◌≤ℤ◌, ℤ}
use Rattle.std.specs.Option.{option_map}
use Rattle.pr_head.specs.pr_labels.declared.pair.Pair.{Pair}
use Rattle.pr_head.specs.spec_history.declared.entry.Entry.{Entry}
use Rattle.pr_head.specs.spec_history.private.Laws.{entries_of, entries_until}
use Rattle.std.proofs.lemmas.Int.{ints}
use Rattle.pr_head.specs.private.Holds.{arrivals, samples_of}
use Rattle.pr_range.specs.private.Asks.{LastAsk}
use Rattle.pr_range.proofs.Lawful.{entries_until_is}
use Rattle.pr_range.proofs.Timeline.{until}
use Rattle.pr_slide.specs.declared.window.SeriesWindow.{SeriesWindow}
use Rattle.pr_slide.specs.private.Kinds.{kept_in}
use Rattle.pr_slide.specs.private.Windows.{AreWindowsOf, IsWindow, Nodes, found, last_in, last_asks, passed_in, passed_of}
use Rattle.pr_slide.proofs.Slides.{front_until}

same_end : (b : ℤ) → b ≤ℤ b
same_end b = omega (arith, ints)

pub passed_within : (nodes : Nodes) (history : List Entry) (node series : ℕ) (labels : List Pair) (last : LastAsk) → AreWindowsOf nodes history → slice_get (arrivals history) series ≡ Some labels
    → last_asks nodes node series ≡ Some last → passed_of nodes node series ≤ entries_until history labels last.to
passed_within nodes history node series labels last fits named is = by (found nodes node series) refl is where
  by : (w : Option SeriesWindow) → found nodes node series ≡ w → option_map last_in w ≡ Some last → passed_in w ≤ entries_until history labels last.to
  by None k e = absurd (cc)
  by (Some w) k e =
      let has = fits node series w k in
      let same : has.labels ≡ labels = cc (has.named, named) in
      let window = subst (λ l. IsWindow history l w.from w.to w.passed (kept_in w.spots)) same has.window in
      let end : last_in w ≡ last = cc in
      let to : w.to ≡ last.to = ap (λ (l : LastAsk). l.to) end in
      subst (λ n. w.passed ≤ n) (sym (entries_until_is history labels last.to))
      (subst (λ b. w.passed ≤ length (until b (samples_of history labels))) to
      (front_until w.to w.to w.passed (entries_of labels history) (same_end w.to) window.passed window.until))
