-- What an exercise does over the rows at its start, by how it ended.
use Rattle.std.proofs.Common.{◌≡◌, ◌≢◌, ℕ, List, [], ◌++◌, Option, Some, None, Result, Ok, Err, IfSome, IsErrAnd, OnOk, refl, sym, ◌∙◌, subst, append-nil, length, take, take_all, arith}
use Rattle.std.proofs.Math.Seq.{take-nil}
use Rattle.std.specs.Io.KnownBytes.{Appends}
use Rattle.pr_text.specs.spec_history.declared.entry.Entry.{Entry}
use Rattle.pr_outside.specs.private.Kept.{StartsRows}
use Rattle.pr_outside.specs.Meant.{Output}
use Rattle.pr_outside.specs.spec_history.declared.row.Row.{Row}
use Rattle.pr_text.specs.spec_history.Histories.{history_of}
use Rattle.pr_text.specs.spec_rules.Settings.{of_a_run}
use Rattle.pr_text.specs.spec_world.Step.{rows_of}
use Rattle.pr_text.specs.spec_world.World.{start}
use Rattle.pr_text.specs.spec_world.declared.event.Event.{Event}
use Rattle.pr_exercise.specs.Exercise.{exercise_events}
use Rattle.pr_exercise.specs.Summary.{exercise_lines, exercise_rows, lines_told, summary, summary_of}
use Rattle.pr_outside.specs.Ends.{StopsBy, WriteEnds, no_row, at_row, place_of}
use Rattle.pr_outside.specs.Outside.{Outside}
use Rattle.pr_outside.specs.declared.status.status.Stop.{Stop}
use Rattle.pr_outside.specs.declared.status.status.Stop.TheVariants as stop
use Rattle.pr_outside.proofs.Ended.{quiet}
use Rattle.pr_text.specs.BadRows.{IsBadStart, bad_row_text, bad_text}
use Rattle.pr_outside.specs.Stores.{TellsHistory, AreKept, IsBadIn, OverRows}
use Rattle.pr_outside.proofs.StoredRows.{IsDecoding, kept_by}
use Rattle.pr_exercise.specs.Means.{EndsBy, EndsOver, IsFront, IsWhole}
use Rattle.pr_exercise.specs.private.Standing.{ExerciseHalts}

pub on_rows : (a : Option (List Row)) (P : List Row → Type 0) → ((rows : List Row) → a ≡ Some rows → P rows) → IfSome a P
on_rows None P f = tt
on_rows (Some rows) P f = f rows refl

pub at_rows : (a : Option (List Row)) (P : List Row → Type 0) (rows : List Row) → a ≡ Some rows → IfSome a P → P rows
at_rows a P rows is p = subst (λ (o : Option (List Row)). IfSome o P) is p

-- by `?`
pub row_error : {T : Type 0} (r : Result T Stop) (e : Stop) (at : ℕ) → IsErrAnd r (λ s. s ≡ e) → r ≡ Err (stop.BadRow at) → e ≡ stop.BadRow at
row_error (Ok x) e at h is = absurd h
row_error (Err s) e at h is = let same : s ≡ stop.BadRow at = cc in sym h ∙ same

module _ (before now : Outside) (all : List Row) (rows_are : now.store.rows ≡ Some all) where
  same_rows : IfSome now.store.rows (λ rows. rows ≡ all)
  same_rows = subst (λ (o : Option (List Row)). IfSome o (λ rows. rows ≡ all)) (sym rows_are) refl

  tells_all : (history : List Entry) → history_of all ≡ Ok history → TellsHistory now.store history
  tells_all history h = subst (λ (o : Option (List Row)). IfSome o (λ rows. history_of rows ≡ Ok history)) (sym rows_are) h

  no_line : (s : Stop) → ((at : ℕ) → place_of {T = Unit} (Err s) ≡ at_row at → ⊥) → (index : ℕ) → (n : ℕ) × Appends before.out.taken now.out.taken (take n (bad_row_text index))
      → IsBadStart index (place_of {T = Unit} (Err s)) all before now
  no_line s other index p = record { count = p.0; text = p.1; kept = same_rows; line = λ at e. absurd (other at e) }

  bad_start : (index : ℕ) (s : Stop) → history_of all ≡ Err index → (n : ℕ) × Appends before.out.taken now.out.taken (take n (bad_row_text index))
      → ((at : ℕ) → s ≡ stop.BadRow at → history_of all ≡ Err at) → ((at : ℕ) → s ≡ stop.BadRow at → Appends before.out.taken now.out.taken (bad_row_text at))
      → IsBadStart index (place_of {T = Unit} (Err s)) all before now
  bad_start index stop.Read worse p bad told = no_line stop.Read (λ at e. absurd (cc)) index p
  bad_start index stop.Load worse p bad told = no_line stop.Load (λ at e. absurd (cc)) index p
  bad_start index stop.Store worse p bad told = no_line stop.Store (λ at e. absurd (cc)) index p
  bad_start index (stop.BadRow at) worse p bad told =
      let again : history_of all ≡ Err at = bad at refl in
      let is : at ≡ index = cc in
      record {
        count = length (bad_row_text index);
        text = subst (Appends before.out.taken now.out.taken) (sym (take_all (length (bad_row_text index)) (bad_row_text index) (omega arith)))
            (subst (λ (i : ℕ). Appends before.out.taken now.out.taken (bad_row_text i)) is (told at refl));
        kept = same_rows;
        line = λ i e. let this : i ≡ at = cc in (this ∙ is, omega arith);
      }
  bad_start index stop.Write worse p bad told = no_line stop.Write (λ at e. absurd (cc)) index p
  bad_start index stop.Memory worse p bad told = no_line stop.Memory (λ at e. absurd (cc)) index p
  bad_start index stop.TooLong worse p bad told = no_line stop.TooLong (λ at e. absurd (cc)) index p

  -- no row is bad where they tell a history
  pub no_bad_row : (history : List Entry) (s : Stop) → TellsHistory now.store history → ((at : ℕ) → s ≡ stop.BadRow at → IsBadIn now.store at) → (at : ℕ) → s ≢ stop.BadRow at
  no_bad_row history s tells bad at row =
      let worse = at_rows now.store.rows _ all rows_are (bad at row) in
      let good = at_rows now.store.rows _ all rows_are tells in
      absurd (cc)

  -- so many events are answered, and nothing is written
  pub unwritten : (only : IsDecoding) (rounds : ℕ) (history : List Entry) → ExerciseHalts history (exercise_events rounds) now.store → Appends before.out.taken now.out.taken []
      → IsFront rounds history before now
  unwritten only rounds history h p = record {
    answered = h.answered;
    within = h.within;
    kept = kept_by only now.store (history ++ rows_of of_a_run (start history) (take h.answered (exercise_events rounds))) h.tells;
    count = 0;
    text = p;
    waits = λ some. refl;
  }

  none_answered : (events : List Event) (history : List Entry) → history_of all ≡ Ok history → ExerciseHalts history events now.store
  none_answered events history h = record {
    answered = 0;
    within = omega arith;
    tells = subst (TellsHistory now.store) (sym (append-nil history)) (tells_all history h);
  }

  module _ (only : IsDecoding) (rounds : ℕ) where
    unopened_by : (r : Result (List Entry) ℕ) (s : Stop) → history_of all ≡ r → (n : ℕ) × Appends before.out.taken now.out.taken (take n (bad_text r))
        → ((at : ℕ) → s ≡ stop.BadRow at → history_of all ≡ Err at) → ((at : ℕ) → s ≡ stop.BadRow at → Appends before.out.taken now.out.taken (bad_row_text at))
        → EndsBy r rounds all before now (Err s)
    unopened_by (Ok history) s is p bad told = record {
      whole = tt;
      front = unwritten only rounds history (none_answered (exercise_events rounds) history is) (subst (Appends before.out.taken now.out.taken) (take-nil p.0) p.1);
      fine = λ index e. let row : s ≡ stop.BadRow index = cc in let worse = bad index row in absurd (cc);
    }
    unopened_by (Err index) s is p bad told = record { front = bad_start index s is p bad told; stopped = refl }

    unopened_all : (r : Result Unit Stop) (s : Stop) → IsErrAnd r (λ y. y ≡ s) → (n : ℕ) × Appends before.out.taken now.out.taken (take n (bad_text (history_of all)))
        → ((at : ℕ) → s ≡ stop.BadRow at → history_of all ≡ Err at) → ((at : ℕ) → s ≡ stop.BadRow at → Appends before.out.taken now.out.taken (bad_row_text at))
        → EndsBy (history_of all) rounds all before now r
    unopened_all (Ok x) s h p bad told = absurd h
    unopened_all (Err y) s h p bad told = subst (λ (z : Stop). EndsBy (history_of all) rounds all before now (Err z)) (sym h) (unopened_by (history_of all) s refl p bad told)

    -- the store could not be opened, or has a bad row
    pub unopened : (r : Result Unit Stop) (s : Stop) → IsErrAnd r (λ y. y ≡ s) → StartsRows before.store.rows (Some all)
        → (n : ℕ) × Appends before.out.taken now.out.taken (take n (bad_text (history_of all)))
        → ((at : ℕ) → s ≡ stop.BadRow at → history_of all ≡ Err at) → ((at : ℕ) → s ≡ stop.BadRow at → Appends before.out.taken now.out.taken (bad_row_text at))
        → OverRows before.store.rows all (λ rows. EndsBy (history_of rows) rounds rows before now r)
    unopened r s h starts p bad told = by before.store.rows starts (unopened_all r s h p bad told)
      where
        by : (o : Option (List Row)) → StartsRows o (Some all) → EndsBy (history_of all) rounds all before now r
            → OverRows o all (λ rows. EndsBy (history_of rows) rounds rows before now r)
        by None starts e = record { rows = all; first = (omega arith, sym (take_all (length all) all (omega arith))); holds = e }
        by (Some given) starts e = record { rows = given; first = refl; holds = subst (λ (rows : List Row). EndsBy (history_of rows) rounds rows before now r) starts e }

    -- an event could not be answered
    pub stopped : (history : List Entry) (s : Stop) → ((at : ℕ) → s ≢ stop.BadRow at) → ExerciseHalts history (exercise_events rounds) now.store
        → Appends before.out.taken now.out.taken [] → EndsOver rounds history before now (Err s)
    stopped history s fine halts p = record {
      whole = tt;
      front = unwritten only rounds history halts p;
      fine = λ index e. fine index cc;
    }

    -- all events are answered, and the summary is written, or a front of it
    pub told : (history : List Entry) (r : Result Unit Stop) → TellsHistory now.store (history ++ rows_of of_a_run (start history) (exercise_events rounds))
        → OnOk r (Appends before.out.taken now.out.taken (summary_of rounds (lines_told history (exercise_events rounds))))
        → (n : ℕ) × Appends before.out.taken now.out.taken (take n (summary_of rounds (lines_told history (exercise_events rounds))))
        → ((index : ℕ) → r ≢ Err (stop.BadRow index)) → EndsOver rounds history before now r
    unfolding summary exercise_lines
    told history r tells whole front fine =
        let kept : AreKept (history ++ exercise_rows history rounds) now.store = kept_by only now.store (history ++ exercise_rows history rounds) tells in
        record {
          whole = by r whole kept;
          front = record {
            answered = length (exercise_events rounds);
            within = omega arith;
            kept = subst (λ (es : List Event). AreKept (history ++ rows_of of_a_run (start history) es) now.store)
                (sym (take_all (length (exercise_events rounds)) (exercise_events rounds) (omega arith))) kept;
            count = front.0;
            text = front.1;
            waits = λ less. absurd (omega (arith, less));
          };
          fine = fine;
        }
      where
        by : (r : Result Unit Stop) → OnOk r (Appends before.out.taken now.out.taken (summary_of rounds (lines_told history (exercise_events rounds))))
            → AreKept (history ++ exercise_rows history rounds) now.store → OnOk r (IsWhole rounds history before now)
        by (Ok x) w k = record { written = w; kept = k }
        by (Err s) w k = tt

-- a write is stopped by no row
pub write_fine : (a b : Output) (r : Result Unit Stop) (index : ℕ) → WriteEnds a b r → r ≢ Err (stop.BadRow index)
write_fine a b r index w is = (subst (λ (z : Result Unit Stop). StopsBy no_row ⊥ (record quiet { out = a }) (record quiet { out = b }) z) is (w quiet).cause).1
