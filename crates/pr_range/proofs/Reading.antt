-- What a head has between two places is what its history has in a range.
use Rattle.std.proofs.Common.{◌≡◌, ℕ, suc, ℤ, pos, negsuc, ◌+◌, ◌-◌, ◌≤◌, ◌≤ℤ◌, ◌<ℤ◌, ◌&&◌, Bool, true, false, cond, List, [], ◌∷◌, length, take, drop, slice_get, Some, refl, sym, ap, subst, ◌∙◌, arith}
use Rattle.std.specs.List.{position_or_len}
use Rattle.std.proofs.lemmas.List.{drop-drop, length-drop}
use Rattle.std.proofs.lemmas.Grind.{common_steps}
use Rattle.std.proofs.lemmas.Int.{ints}
use Rattle.spec_vectors.specs.pr_num.declared.value.Point.{Point}
use Rattle.spec_vectors.specs.pr_num.declared.value.Point.TheVariants.{Value, Stale}
use Rattle.pr_head.specs.pr_labels.declared.pair.Pair.{Pair}
use Rattle.pr_head.specs.spec_history.declared.entry.Entry.{Entry}
use Rattle.pr_head.specs.spec_history.private.Laws.{entries_until}
use Rattle.pr_head.specs.spec_history.Lookback.{is_after, is_until, spots_within}
use Rattle.pr_head.specs.declared.timed.Timed.{Timed}
use Rattle.pr_head.specs.private.Stored.{Stored, count_of, position_of}
use Rattle.pr_head.specs.private.Holds.{samples_of}
use Rattle.pr_head.proofs.Simulation.{entry_at}
use Rattle.spec_vectors.specs.declared.range.Ask.{Ask}
use Rattle.spec_vectors.specs.private.Laws.{ask_cost}
use Rattle.pr_range.specs.private.Asks.{MayAsk, passed_for}
use Rattle.pr_head.specs.spec_history.declared.spot.Spot.{Spot}
use Rattle.pr_range.specs.private.Spots.{AreWithin, samples_between, spots_of}
use Rattle.pr_range.proofs.Timeline.{StrictlyRises, until, between, between_is, place_behind, until_grows}
use Rattle.pr_range.proofs.Lawful.{rising_samples, strict_samples, entries_until_is, spots_within_is}

-- a time after a moment is above it, and one until another is at most that
after_is_above : (a : ℤ) (t : ℕ) → is_after a t ≡ true → a <ℤ pos t
after_is_above (pos a) t h = grind (arith, common_steps)
after_is_above (negsuc a) t h = omega (arith, ints)

until_is_below : (b : ℤ) (t : ℕ) → is_until b t ≡ true → pos t ≤ℤ b
until_is_below (pos b) t h = grind (arith, common_steps)
until_is_below (negsuc b) t h = cc

above : (t u : ℕ) → suc t ≤ u → pos t <ℤ pos u
above t u h = omega (arith, ints)

-- The values of a range rise from its start, or from a moment that is before all of those that are
-- left.
spots_inside : (a b c : ℤ) (t : ℕ) (xs : List Timed) → StrictlyRises t xs → ((u : ℕ) → t ≤ u → is_after a u ≡ true → c <ℤ pos u) → AreWithin c b (spots_of (between a b xs))
spots_inside a b c t [] h low = tt
spots_inside a b c t (x ∷ xs) h low =
    by (is_after a x.time) (is_until b x.time) refl refl
    (spots_inside a b c (suc x.time) xs h.1 (λ u up after. let first = h.0 in low u (omega arith) after))
    (spots_inside a b (pos x.time) (suc x.time) xs h.1 (λ u up after. above x.time u up)) where
      here : (p : Point) → x.point ≡ p → c <ℤ pos x.time → pos x.time ≤ℤ b → AreWithin c b (spots_of (between a b xs)) → AreWithin (pos x.time) b (spots_of (between a b xs)) → AreWithin c b (spots_of (x ∷ between a b xs))
      here (Value v) e after until skipped next = rw e (after, until, next)
      here Stale e after until skipped next = rw e skipped

      by : (u v : Bool) → is_after a x.time ≡ u → is_until b x.time ≡ v → AreWithin c b (spots_of (between a b xs)) → AreWithin (pos x.time) b (spots_of (between a b xs))
          → AreWithin c b (spots_of (cond (u && v) (x ∷ between a b xs) (between a b xs)))
      by true true e f skipped next = here x.point refl (low x.time h.0 e) (until_is_below b x.time f) skipped next
      by true false e f skipped next = skipped
      by false v e f skipped next = skipped

-- where a range stands among the samples that are held of a series
pub record Placed (head : List (List Pair × Stored)) (history : List Entry) (series : ℕ) (labels : List Pair) (a : Ask) : Type 0 where
  pub s : Stored
  pub at : slice_get head series ≡ Some (labels, s)
  pub from_is : position_of s a.from ≡ entries_until history labels a.from
  pub to_is : position_of s a.to ≡ entries_until history labels a.to
  pub first : s.first ≤ entries_until history labels a.from
  pub between : entries_until history labels a.from ≤ entries_until history labels a.to
  pub last : entries_until history labels a.to ≤ count_of s
  pub spots : spots_of (samples_between s (entries_until history labels a.from) (entries_until history labels a.to)) ≡ spots_within history labels a.from a.to
  pub within : AreWithin a.from a.to (spots_within history labels a.from a.to)

pub until_short : (b : ℤ) (xs : List Timed) → length (until b xs) ≤ length xs
until_short b [] = omega arith
until_short b (x ∷ xs) = by (is_until b x.time) (until_short b xs) where
  by : (u : Bool) → length (until b xs) ≤ length xs → length (cond u (x ∷ until b xs) (until b xs)) ≤ suc (length xs)
  by true h = omega arith
  by false h = omega arith

whole : (f n : ℕ) → f ≤ n → f + (n - f) ≡ n
whole f n h = omega arith

pub placed : (head : List (List Pair × Stored)) (history : List Entry) (series : ℕ) (labels : List Pair) (a : Ask) → MayAsk head history series labels a → a.from ≤ℤ a.to → Placed head history series labels a
placed head history series labels a may low = by (entry_at head series labels may.named) where
  by : (found : (s : Stored) × (slice_get head series ≡ Some (labels, s))) → Placed head history series labels a
  by found =
      let xs = samples_of history labels in
      let kept = may.holds.each series (labels, found.0) found.1 in
      let rising = rising_samples labels history may.lawful in
      let na = entries_until_is history labels a.from in
      let nb = entries_until_is history labels a.to in
      let first = may.whole (labels, found.0) found.1 in
      let grows = until_grows a.from a.to xs low in
      let here : found.0.first ≤ length (until a.from xs) = omega arith in
      let there : found.0.first ≤ length (until a.to xs) = omega arith in
      let short = until_short a.to xs in
      let held = kept.held in
      let in_all = kept.first in
      let left = length-drop found.0.first xs in
      let size = ap length held in
      record {
        s = found.0;
        at = found.1;
        from_is = ap (λ l. found.0.first + position_or_len (λ x. is_after a.from x.time) l) held ∙ place_behind a.from found.0.first 0 xs rising here ∙ sym na;
        to_is = ap (λ l. found.0.first + position_or_len (λ x. is_after a.to x.time) l) held ∙ place_behind a.to found.0.first 0 xs rising there ∙ sym nb;
        first = first;
        between = omega arith;
        last = omega arith;
        spots =
            (λ i. spots_of (take (nb i - na i) (drop (na i - found.0.first) (held i))))
            ∙ ap (λ l. spots_of (take (length (until a.to xs) - length (until a.from xs)) l)) (drop-drop (length (until a.from xs) - found.0.first) found.0.first xs)
            ∙ ap (λ n. spots_of (take (length (until a.to xs) - length (until a.from xs)) (drop n xs))) (whole found.0.first (length (until a.from xs)) here)
            ∙ ap spots_of (sym (between_is a.from a.to 0 xs low rising)) ∙ sym (spots_within_is history labels a.from a.to);
        within = subst (AreWithin a.from a.to) (sym (spots_within_is history labels a.from a.to)) (spots_inside a.from a.to a.from 0 xs (strict_samples labels history may.lawful) (λ t low after. after_is_above a.from t after));
      }

-- the values that were read are those of the range
pub spots_read : (head : List (List Pair × Stored)) (history : List Entry) (series : ℕ) (labels : List Pair) (a : Ask) (p : Placed head history series labels a) (from to : ℕ) (spots : List Spot)
    → from ≡ position_of p.s a.from → to ≡ position_of p.s a.to → spots ≡ spots_of (samples_between p.s from to) → spots ≡ spots_within history labels a.from a.to
spots_read head history series labels a p from to spots f t h = h ∙ (λ i. spots_of (samples_between p.s ((f ∙ p.from_is) i) ((t ∙ p.to_is) i))) ∙ p.spots

pub reads_plain : (history : List Entry) (labels : List Pair) (a : Ask) (before after : ℕ) → entries_until history labels a.from ≤ entries_until history labels a.to
    → after ≤ before + (entries_until history labels a.to - entries_until history labels a.from) → after ≤ before + ask_cost history labels a (passed_for a 0)
reads_plain history labels a before after grows h = by a.inside where
  by : (b : Bool) → after ≤ before + ask_cost history labels a (cond b 0 0)
  by true = omega arith
  by false = omega arith
