-- In a lawful history the times of each series rise.
use Rattle.std.proofs.Common.{◌≡◌, ℕ, suc, ℤ, ◌<◌, ◌==◌, nat_lt, Bool, true, false, cond, ◌&&◌, List, [], ◌∷◌, ◌++◌, length, map, filter, Option, Some, None, refl, sym, ap, subst, ◌∙◌, arith, append_assoc, append-nil}
use Rattle.std.specs.List.{cons_option, filter_map}
use Rattle.std.proofs.lemmas.Grind.{common_steps}
use Rattle.spec_vectors.specs.pr_num.Same.{same_point}
use Rattle.spec_vectors.specs.pr_num.declared.value.Point.{Point}
use Rattle.pr_head.specs.pr_labels.declared.pair.Pair.{Pair}
use Rattle.pr_head.specs.pr_labels.Order.{labels_eq}
use Rattle.pr_head.specs.spec_history.declared.entry.Entry.{Entry}
use Rattle.pr_head.specs.spec_history.declared.append.Append.TheVariants.{Added, Same, OutOfOrder, Conflict}
use Rattle.pr_head.specs.spec_history.Admission.{is_of, last_entry, admit, admit_after}
use Rattle.pr_head.specs.spec_history.private.Laws.{IsLawful, IsLawfulAfter, entries_until}
use Rattle.pr_head.specs.spec_history.Lookback.{is_after, is_until, spot_in, spots_within}
use Rattle.pr_head.specs.private.Holds.{timed, samples_of}
use Rattle.pr_head.proofs.HistoryLawful.{of_entries}
use Rattle.pr_head.proofs.Arrivals.{samples_more, samples_other, last_more, last_other, eq_from, apart_from}
use Rattle.pr_head.proofs.Newest.{Rises, UpTo}
use Rattle.pr_range.specs.private.Spots.{spots_of}
use Rattle.pr_range.proofs.Timeline.{StrictlyRises, up_to_more, up_to_last, strict_last, rises_of_strict, until, between}

lawful_last : (before rest : List Entry) (e : Entry) → IsLawfulAfter before (rest ++ e ∷ []) → IsLawfulAfter before rest × (admit (before ++ rest) e.labels e.time e.point ≡ Added)
lawful_last before [] e h = (tt, subst (λ l. admit l e.labels e.time e.point ≡ Added) (sym (append-nil before)) h.0)
lawful_last before (r ∷ rest) e h =
    let more = lawful_last (before ++ r ∷ []) rest e h.1 in
    ((h.0, more.0), subst (λ l. admit l e.labels e.time e.point ≡ Added) (append_assoc before (r ∷ []) rest) more.1)

pub lawful_front : (history : List Entry) (e : Entry) → IsLawful (history ++ e ∷ []) → IsLawful history × (admit history e.labels e.time e.point ≡ Added)
lawful_front history e h = lawful_last [] history e h

added_after : (l : Entry) (time : ℕ) (point : Point) → admit_after (Some l) time point ≡ Added → l.time < time
added_after l time point h = by (nat_lt l.time time) refl (l.time == time) (same_point l.point point) h where
  by : (b : Bool) → nat_lt l.time time ≡ b → (t u : Bool) → cond b Added (cond t (cond u Same (Conflict l.point)) (OutOfOrder l.time)) ≡ Added → l.time < time
  by true e t u k = grind (arith, common_steps)
  by false e true true k = cc
  by false e true false k = cc
  by false e false u k = cc

-- the samples rise up to the last entry, and there are none without one
record InOrder (labels : List Pair) (history : List Entry) : Type 0 where
  rising : StrictlyRises 0 (samples_of history labels)
  until : (e : Entry) → last_entry (is_of labels) history ≡ Some e → UpTo e.time (samples_of history labels)
  none : last_entry (is_of labels) history ≡ None → samples_of history labels ≡ []

in_order_more : (labels : List Pair) (history : List Entry) (e : Entry) → admit history e.labels e.time e.point ≡ Added → InOrder labels history → InOrder labels (history ++ e ∷ [])
in_order_more labels history e added h = by (labels_eq e.labels labels) refl where
  below : (o : Option Entry) → last_entry (is_of labels) history ≡ o → admit_after o e.time e.point ≡ Added → UpTo e.time (samples_of history labels)
  below None k a = subst (UpTo e.time) (sym (h.none k)) tt
  below (Some l) k a = let low = added_after l e.time e.point a in up_to_more l.time e.time (samples_of history labels) (omega arith) (h.until l k)

  strict_below : (o : Option Entry) → last_entry (is_of labels) history ≡ o → admit_after o e.time e.point ≡ Added → StrictlyRises 0 (samples_of history labels ++ timed e ∷ [])
  strict_below None k a = subst (λ l. StrictlyRises 0 (l ++ timed e ∷ [])) (sym (h.none k)) (omega arith, tt)
  strict_below (Some l) k a = strict_last 0 l.time (samples_of history labels) (timed e) h.rising (h.until l k) (omega arith) (added_after l e.time e.point a)

  by : (b : Bool) → labels_eq e.labels labels ≡ b → InOrder labels (history ++ e ∷ [])
  by true k =
      let same = eq_from e.labels labels k in
      let low : UpTo e.time (samples_of history labels) = below (last_entry (is_of labels) history) refl (subst (λ l. admit history l e.time e.point ≡ Added) same added) in
      let is = samples_more labels history e same in
      record {
        rising = subst (StrictlyRises 0) (sym is) (strict_below (last_entry (is_of labels) history) refl (subst (λ l. admit history l e.time e.point ≡ Added) same added));
        until = λ l last.
            let found : e ≡ l = cc (last_more labels history e same, last) in
            subst (λ x. UpTo x.time (samples_of (history ++ e ∷ []) labels)) found (subst (UpTo e.time) (sym is) (up_to_last e.time (samples_of history labels) (timed e) low (omega arith)));
        none = λ last. cc (last_more labels history e same, last);
      }
  by false k =
      let apart = apart_from e.labels labels k in
      let is = samples_other labels history e apart in
      let last_is = last_other labels history e apart in
      record {
        rising = subst (StrictlyRises 0) (sym is) h.rising;
        until = λ l last. subst (UpTo l.time) (sym is) (h.until l (sym last_is ∙ last));
        none = λ last. is ∙ h.none (sym last_is ∙ last);
      }

in_order : (labels : List Pair) (history : List Entry) → IsLawful history → InOrder labels history
in_order labels = of_entries (λ h. IsLawful h → InOrder labels h) (λ lawful. record { rising = tt; until = λ e k. cc; none = λ k. refl })
    (λ h e more lawful. let parts = lawful_front h e lawful in in_order_more labels h e parts.1 (more parts.0))

pub strict_samples : (labels : List Pair) (history : List Entry) → IsLawful history → StrictlyRises 0 (samples_of history labels)
strict_samples labels history lawful = (in_order labels history lawful).rising

pub rising_samples : (labels : List Pair) (history : List Entry) → IsLawful history → Rises 0 (samples_of history labels)
rising_samples labels history lawful = rises_of_strict 0 (samples_of history labels) (strict_samples labels history lawful)

-- the entries of a series by time are its samples by time
pub entries_until_is : (history : List Entry) (labels : List Pair) (a : ℤ) → entries_until history labels a ≡ length (until a (samples_of history labels))
entries_until_is [] labels a = refl
entries_until_is (e ∷ history) labels a = by (is_of labels e) (is_until a e.time) refl (entries_until_is history labels a) where
  by : (b u : Bool) → is_until a e.time ≡ u → entries_until history labels a ≡ length (until a (samples_of history labels))
      → length (cond (b && u) (e ∷ filter (λ x. is_of labels x && is_until a x.time) history) (filter (λ x. is_of labels x && is_until a x.time) history))
      ≡ length (until a (map timed (cond b (e ∷ filter (is_of labels) history) (filter (is_of labels) history))))
  by true true k rest = rw k (ap suc rest)
  by true false k rest = rw k rest
  by false u k rest = rest

pub spots_within_is : (history : List Entry) (labels : List Pair) (a b : ℤ) → spots_within history labels a b ≡ spots_of (between a b (samples_of history labels))
spots_within_is [] labels a b = refl
spots_within_is (e ∷ history) labels a b = by (is_of labels e) (is_after a e.time && is_until b e.time) refl (spots_within_is history labels a b) where
  by : (t u : Bool) → (is_after a e.time && is_until b e.time) ≡ u → spots_within history labels a b ≡ spots_of (between a b (samples_of history labels))
      → filter_map spot_in (cond ((t && is_after a e.time) && is_until b e.time) (e ∷ filter (λ x. is_of labels x && is_after a x.time && is_until b x.time) history) (filter (λ x. is_of labels x && is_after a x.time && is_until b x.time) history))
      ≡ spots_of (between a b (map timed (cond t (e ∷ filter (is_of labels) history) (filter (is_of labels) history))))
  by true true k rest = rw k (ap (cons_option (spot_in e)) rest)
  by true false k rest = rw k rest
  by false u k rest = rest
