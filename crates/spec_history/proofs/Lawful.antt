-- A lawful history stays lawful, and the times of its series rise.
use Rattle.std.proofs.Common.{◌≡◌, ℕ, ◌+◌, ◌<◌, ◌==◌, nat_lt, Bool, true, false, cond, List, [], ◌∷◌, ◌++◌, length, map, find, get_or, Option, Some, None, sym, refl, subst, ap, ◌∙◌, append_assoc, append-nil, arith}
use Rattle.std.specs.List.Sorted.{IsStrictlyIncreasing}
use Rattle.std.proofs.lemmas.Grind.{common_steps}
use Rattle.std.proofs.lemmas.List.{map-append, reverse-append, length-append, get_or_push, get_or_append_left}
use Rattle.std.proofs.lemmas.List.Elements.{filter-append}
use Rattle.pr_num.specs.declared.value.Point.{Point}
use Rattle.pr_num.specs.Same.{same_point}
use Rattle.pr_labels.specs.declared.pair.Pair.{Pair}
use Rattle.pr_labels.proofs.LabelOrder.{labels_decide}
use Rattle.spec_history.specs.declared.entry.Entry.{Entry}
use Rattle.spec_history.specs.declared.append.Append.{Append}
use Rattle.spec_history.specs.declared.append.Append.TheVariants.{Added, Same, OutOfOrder, Conflict}
use Rattle.spec_history.specs.Admission.{is_of, last_entry, admit, admit_after, put, put_by, put_all}
use Rattle.spec_history.specs.private.Laws.{entries_of, times_of, IsLawful, IsLawfulAfter}

abbrev IsAddedTo : Entry → List Entry → Type 0
IsAddedTo e before = admit before e.labels e.time e.point ≡ Added

-- more entries of which each is added, and the parts of such
pub after_more : (before rest more : List Entry) → IsLawfulAfter before rest → IsLawfulAfter (before ++ rest) more → IsLawfulAfter before (rest ++ more)
after_more before [] more h k = subst (λ b. IsLawfulAfter b more) (append-nil before) k
after_more before (r ∷ rest) more h k =
    (h.0, after_more (before ++ r ∷ []) rest more h.1 (subst (λ b. IsLawfulAfter b more) (sym (append_assoc before (r ∷ []) rest)) k))

pub after_parts : (before rest more : List Entry) → IsLawfulAfter before (rest ++ more) → IsLawfulAfter before rest × IsLawfulAfter (before ++ rest) more
after_parts before [] more h = (tt, subst (λ b. IsLawfulAfter b more) (sym (append-nil before)) h)
after_parts before (r ∷ rest) more h =
    let parts = after_parts (before ++ r ∷ []) rest more h.1 in
    ((h.0, parts.0), subst (λ b. IsLawfulAfter b more) (append_assoc before (r ∷ []) rest) parts.1)

by_answer : (answer : Append) (history : List Entry) (e : Entry) → admit history e.labels e.time e.point ≡ answer
    → IsLawful history → IsLawful (put_by answer history e)
by_answer Added history e is lawful = after_more [] history (e ∷ []) lawful (is, tt)
by_answer Same history e is lawful = lawful
by_answer (OutOfOrder last) history e is lawful = lawful
by_answer (Conflict kept) history e is lawful = lawful

pub put_lawful : (history : List Entry) (e : Entry) → IsLawful history → IsLawful (put history e)
put_lawful history e lawful = by_answer (admit history e.labels e.time e.point) history e refl lawful

pub put_all_lawful : (history entries : List Entry) → IsLawful history → IsLawful (put_all history entries)
put_all_lawful history [] lawful = lawful
put_all_lawful history (e ∷ entries) lawful = put_all_lawful (put history e) entries (put_lawful history e lawful)

-- entry by entry, from the front of a history on
pub by_entries : (P : List Entry → Type 0) → ((history : List Entry) (e : Entry) → P history → P (history ++ e ∷ [])) → (done rest : List Entry) → P done → P (done ++ rest)
by_entries P step done [] h = subst P (sym (append-nil done)) h
by_entries P step done (e ∷ rest) h = subst P (append_assoc done (e ∷ []) rest) (by_entries P step (done ++ e ∷ []) rest (step done e h))

pub of_entries : (P : List Entry → Type 0) → P [] → ((history : List Entry) (e : Entry) → P history → P (history ++ e ∷ [])) → (history : List Entry) → P history
of_entries P none step history = by_entries P step [] history none

-- one more entry: what the history has of a series then, and its last entry
pub entries_more : (labels : List Pair) (history : List Entry) (e : Entry) (b : Bool) → is_of labels e ≡ b
    → entries_of labels (history ++ e ∷ []) ≡ entries_of labels history ++ cond b (e ∷ []) []
entries_more labels history e b h = filter-append (is_of labels) history (e ∷ []) ∙ ap (λ t. entries_of labels history ++ cond t (e ∷ []) []) h

pub last_more : (labels : List Pair) (history : List Entry) (e : Entry) (b : Bool) → is_of labels e ≡ b
    → last_entry (is_of labels) (history ++ e ∷ []) ≡ cond b (Some e) (last_entry (is_of labels) history)
last_more labels history e b h = ap (find (is_of labels)) (reverse-append history (e ∷ [])) ∙ ap (λ t. cond t (Some e) (last_entry (is_of labels) history)) h

-- what is added after a last entry is later
pub later_than_last : (e : Entry) (time : ℕ) (point : Point) → admit_after (Some e) time point ≡ Added → e.time < time
later_than_last e time point h = by (nat_lt e.time time) refl (e.time == time) (same_point e.point point) h where
  by : (b : Bool) → nat_lt e.time time ≡ b → (t u : Bool) → cond b Added (cond t (cond u Same (Conflict e.point)) (OutOfOrder e.time)) ≡ Added → e.time < time
  by true k t u h = grind (arith, common_steps)
  by false k true true h = cc
  by false k true false h = cc
  by false k false u h = cc

-- What the times of a series are beside its last entry: they rise up to that one's.
record AreUpTo (times : List ℕ) (last : Option Entry) : Type 0 where
  rise : IsStrictlyIncreasing times
  none : last ≡ None → times ≡ []
  some : (e : Entry) (k : ℕ) → last ≡ Some e → k + 1 ≡ length times → get_or times k 0 ≡ e.time

alone : (e : Entry) → AreUpTo (e.time ∷ []) (Some e)
alone e = record {
  rise = λ k h. absurd (omega arith);
  none = λ h. cc;
  some = λ f k h p. let first : k ≡ 0 = omega arith in let same : e ≡ f = cc in ap (λ n. get_or (e.time ∷ []) n 0) first ∙ ap (λ (x : Entry). x.time) same;
}

pushed : (times : List ℕ) (last e : Entry) → AreUpTo times (Some last) → last.time < e.time → AreUpTo (times ++ e.time ∷ []) (Some e)
pushed times last e h later = record {
  rise = λ k p. by k p (nat_lt (k + 1) (length times)) refl;
  none = λ p. cc;
  some = λ f k p q. let end : k ≡ length times = omega (arith, length-append times (e.time ∷ [])) in let same : e ≡ f = cc in
      ap (λ n. get_or (times ++ e.time ∷ []) n 0) end ∙ get_or_push times e.time 0 (length times) refl ∙ ap (λ (x : Entry). x.time) same;
} where
  by : (k : ℕ) → k + 1 < length (times ++ e.time ∷ []) → (b : Bool) → nat_lt (k + 1) (length times) ≡ b → get_or (times ++ e.time ∷ []) k 0 < get_or (times ++ e.time ∷ []) (k + 1) 0
  by k p true t =
      let below : k + 1 < length times = grind (arith, common_steps) in
      let one = get_or_append_left times (e.time ∷ []) 0 k (omega arith) in
      let two = get_or_append_left times (e.time ∷ []) 0 (k + 1) below in
      let rise = h.rise k below in
      omega arith
  by k p false t =
      let not_below : (k + 1 < length times) → ⊥ = λ q. grind (arith, common_steps) in
      let end : k + 1 ≡ length times = omega (arith, length-append times (e.time ∷ [])) in
      let one = get_or_append_left times (e.time ∷ []) 0 k (omega arith) in
      let two : get_or (times ++ e.time ∷ []) (k + 1) 0 ≡ e.time = ap (λ n. get_or (times ++ e.time ∷ []) n 0) end ∙ get_or_push times e.time 0 (length times) refl in
      let one : get_or (times ++ e.time ∷ []) k 0 ≡ get_or times k 0 = get_or_append_left times (e.time ∷ []) 0 k (omega arith) in
      let low : get_or times k 0 ≡ last.time = h.some last k refl end in
      omega (arith, one, two, low, later)

times_up_to : (labels : List Pair) (history : List Entry) → IsLawful history → AreUpTo (times_of labels history) (last_entry (is_of labels) history)
times_up_to labels = of_entries (λ h. IsLawful h → AreUpTo (times_of labels h) (last_entry (is_of labels) h))
    (λ h. record { rise = λ k p. absurd (omega arith); none = λ p. refl; some = λ e k p q. cc }) step where
      step : (h : List Entry) (e : Entry) → (IsLawful h → AreUpTo (times_of labels h) (last_entry (is_of labels) h))
          → IsLawful (h ++ e ∷ []) → AreUpTo (times_of labels (h ++ e ∷ [])) (last_entry (is_of labels) (h ++ e ∷ []))
      step h e before lawful =
          let parts = after_parts [] h (e ∷ []) lawful in
          by (is_of labels e) refl (last_entry (is_of labels) h) refl (before parts.0) parts.1.0 where
            by : (b : Bool) → is_of labels e ≡ b → (last : Option Entry) → last_entry (is_of labels) h ≡ last → AreUpTo (times_of labels h) (last_entry (is_of labels) h)
                → admit h e.labels e.time e.point ≡ Added → AreUpTo (times_of labels (h ++ e ∷ [])) (last_entry (is_of labels) (h ++ e ∷ []))
            by false is last p up added =
                subst (λ (l : List Entry). AreUpTo (map (λ x. x.time) l) (last_entry (is_of labels) (h ++ e ∷ []))) (sym (entries_more labels h e false is ∙ append-nil (entries_of labels h)))
                (subst (AreUpTo (times_of labels h)) (sym (last_more labels h e false is)) up)
            by true is last p up added = subst (AreUpTo (times_of labels (h ++ e ∷ []))) (sym (last_more labels h e true is))
                (subst (λ (l : List ℕ). AreUpTo l (Some e)) (sym (ap (map (λ (x : Entry). x.time)) (entries_more labels h e true is) ∙ map-append (λ (x : Entry). x.time) (entries_of labels h) (e ∷ [])))
                (more last p)) where
                  more : (last : Option Entry) → last_entry (is_of labels) h ≡ last → AreUpTo (times_of labels h ++ e.time ∷ []) (Some e)
                  more None p = subst (λ l. AreUpTo (l ++ e.time ∷ []) (Some e)) (sym (up.none p)) (alone e)
                  more (Some last) p =
                      let same : e.labels ≡ labels = (labels_decide e.labels labels).0 is in
                      pushed (times_of labels h) last e (subst (AreUpTo (times_of labels h)) p up)
                      (later_than_last last e.time e.point (ap (λ o. admit_after o e.time e.point) (sym (ap (λ l. last_entry (is_of l) h) same ∙ p)) ∙ added))

pub times_rise : (history : List Entry) (labels : List Pair) → IsLawful history → IsStrictlyIncreasing (times_of labels history)
times_rise history labels lawful = (times_up_to labels history lawful).rise
