-- What each command promises, by how it ended; and the cause of its status.
use Rattle.std.proofs.Common.{◌≡◌, ◌≢◌, ℕ, ◌<◌, ◌≤◌, ◌^◌, Bool, List, [], Option, None, Some, IfSome, Result, Ok, Err, OnOk, inl, inr, refl, sym, ap, ◌∙◌, subst, length, map, drop, take, take_all, arith}
use Rattle.std.specs.Io.KnownBytes.{Appends}
use Rattle.pr_engine.specs.spec_history.declared.entry.Entry.{Entry}
use Rattle.pr_outside.specs.Causes.{IsCalm, Rose}
use Rattle.pr_outside.specs.spec_history.declared.row.Row.{Row}
use Rattle.pr_engine.specs.spec_history.Histories.{history_of}
use Rattle.pr_outside.specs.Ends.{Ends, KnowsLength, StopsBy, no_row, place_of, status_of, stop_status}
use Rattle.pr_outside.specs.Opening.{OpensBy}
use Rattle.pr_outside.specs.Outside.{Outside, AreCalm, AreTold, Held}
use Rattle.pr_outside.specs.Status.{HasCause, IsTooLong, status_number, verdict}
use Rattle.pr_outside.specs.Words.{word_of}
use Rattle.pr_outside.specs.declared.status.status.Status.{Status}
use Rattle.pr_outside.specs.declared.status.status.Status.TheVariants as status
use Rattle.pr_outside.specs.declared.status.status.Stop.{Stop}
use Rattle.pr_outside.specs.declared.status.status.Stop.TheVariants as stop
use Rattle.pr_outside.proofs.Causes.{ending_cause, stop_cause}
use Rattle.pr_outside.proofs.Ended.{calm_stop}
use Rattle.pr_outside.proofs.Telling.{at_told, long_not_short, status_is}
use Rattle.pr_outside.specs.Checks.{Checked, ends_by}
use Rattle.pr_outside.specs.FileChecks.{MeansFileCheck, Telling}
use Rattle.pr_outside.specs.InputChecks.{MeansInputCheck}
use Rattle.pr_outside.specs.declared.check_loops.verdict.Verdict.{Verdict}
use Rattle.pr_outside.specs.declared.check_loops.verdict.Verdict.TheVariants.{Good, Complaints, Refused}
use Rattle.pr_backfill.specs.pr_checks.Metrics.{metrics_told}
use Rattle.pr_backfill.specs.pr_checks.RuleFiles.{rules_told}
use Rattle.pr_test.specs.TestsTold.{tests_told}
use Rattle.pr_backfill.specs.pr_text.BadRows.{TellsRow, bad_row_text}
use Rattle.pr_backfill.specs.pr_text.Taken.{TookWithin}
use Rattle.pr_outside.specs.Stores.{IsBadIn, OverRows, StartsTelling}
use Rattle.pr_run.specs.Runs.{EndsBy, EndsInto, EndsOver, IsStopped, IsWholeRun, MeansRun, RunsBy}
use Rattle.pr_run.specs.Told.{answers_to, asks_of, refuses}
use Rattle.pr_exercise.specs.Means.{MeansExercise, exercise_status}
use Rattle.pr_backfill.specs.Means.{MeansBackfill}
use Rattle.pr_top.specs.Command.{Command, runs, tests_rules, checks_rules, checks_metrics, exercises, backfills}
use Rattle.pr_top.specs.Means.{HasBadRow, MeansCommand, MeansUsage, usage_status}
use Rattle.pr_top.specs.Process.{EndsLine}
use Rattle.pr_top.specs.Usage.{usage_text}

-- `run`

no_rise : (before now : ℕ) → IsCalm before now → Rose before now → ⊥
no_rise before now calm rose = omega (arith, calm.same, calm.below, rose)

-- Where no call was refused, only want of memory stops a run, a bad row, or an input that is too long.
data CalmStop (bad : ℕ → Type 0) (long : Type 0) (s : Stop) : Type 0 where
  by_memory : s ≡ stop.Memory → CalmStop bad long s
  by_length : s ≡ stop.TooLong → long → CalmStop bad long s
  by_row : (index : ℕ) → s ≡ stop.BadRow index → bad index → CalmStop bad long s

calm_run : (bad : ℕ → Type 0) (long : Type 0) (before now : Outside) (s : Stop) → AreCalm before now → StopsBy {T = Bool} bad long before now (Err s) → CalmStop bad long s
calm_run bad long before now stop.Read calm c = absurd (no_rise before.input.faults now.input.faults calm.input c.0)
calm_run bad long before now stop.Load calm c = absurd (no_rise before.files.faults now.files.faults calm.files c.1)
calm_run bad long before now stop.Store calm c = absurd (no_rise before.store.faults now.store.faults calm.store c.2)
calm_run bad long before now (stop.BadRow index) calm c = by_row index refl c.1
calm_run bad long before now stop.Write calm c = absurd (no_rise before.out.faults now.out.faults calm.out c.3)
calm_run bad long before now stop.Memory calm c = by_memory refl
calm_run bad long before now stop.TooLong calm c = by_length refl c.1

module _ (before now : Outside) (bytes : List ℕ) (is : before.input.left ≡ Some bytes) (result : Status) (bad : ℕ → Type 0) where
  told_by : (history : List Entry) (r : Result Bool Stop) → result ≡ status_of r → Ends bad (IsTooLong before.input now.input) before now r → EndsOver history bytes before now r
      → (held : Held) → AreTold before.files.content held (asks_of (answers_to held history bytes)) → length bytes < 2 ^ 32 → AreCalm before now → result ≢ status.Memory
      → (result ≡ verdict (refuses held history bytes)) × IsWholeRun held history bytes before now (refuses held history bytes)
  told_by history (Ok came) answer e o held told few calm some =
      let whole = o.whole held told in
      (answer ∙ status_is came ∙ ap verdict whole.refused, subst (IsWholeRun held history bytes before now) whole.refused whole)
  told_by history (Err s) answer e o held told few calm some = by (calm_run bad (IsTooLong before.input now.input) before now s calm e.cause)
    where
      by : CalmStop bad (IsTooLong before.input now.input) s → (result ≡ verdict (refuses held history bytes)) × IsWholeRun held history bytes before now (refuses held history bytes)
      by (by_memory m) = absurd (some (answer ∙ ap stop_status m))
      by (by_length l long) = absurd (long_not_short bytes before.input.left is few long.0)
      by (by_row index m b) = absurd (o.fine index (ap (λ (z : Stop). Err z) m))

  long_by : (history : List Entry) (r : Result Bool Stop) → result ≡ status_of r → Ends bad (IsTooLong before.input now.input) before now r → KnowsLength before.input now.input r
      → EndsOver history bytes before now r → 2 ^ 32 ≤ length bytes → AreCalm before now → result ≢ status.Memory → result ≡ status.TooLong
  long_by history (Ok came) answer e k o many calm some = absurd (omega (arith, many, at_told before.input.left (λ b. length b < 2 ^ 32) bytes is k.0))
  long_by history (Err s) answer e k o many calm some = by (calm_run bad (IsTooLong before.input now.input) before now s calm e.cause)
    where
      by : CalmStop bad (IsTooLong before.input now.input) s → result ≡ status.TooLong
      by (by_memory m) = absurd (some (answer ∙ ap stop_status m))
      by (by_length l long) = answer ∙ ap stop_status l
      by (by_row index m b) = absurd (o.fine index (ap (λ (z : Stop). Err z) m))

  into_by : (index : ℕ) (rows : List Row) (r : Result Bool Stop) → result ≡ status_of r → Ends bad (IsTooLong before.input now.input) before now r → EndsInto index rows before now r
      → AreCalm before now → result ≢ status.Memory → (result ≡ status.StoreFault) × Appends before.out.taken now.out.taken (bad_row_text index)
  into_by index rows (Ok came) answer e o calm some = absurd o.stopped
  into_by index rows (Err s) answer e o calm some = by (calm_run bad (IsTooLong before.input now.input) before now s calm e.cause)
    where
      whole : (at : ℕ) → s ≡ stop.BadRow at → Appends before.out.taken now.out.taken (bad_row_text index)
      whole at m =
          let line = o.front.line at (ap (λ (z : Stop). place_of {T = Bool} (Err z)) m) in
          subst (Appends before.out.taken now.out.taken) (take_all o.front.count (bad_row_text index) line.1) o.front.text

      by : CalmStop bad (IsTooLong before.input now.input) s → (result ≡ status.StoreFault) × Appends before.out.taken now.out.taken (bad_row_text index)
      by (by_memory m) = absurd (some (answer ∙ ap stop_status m))
      by (by_length l long) = absurd (subst (λ (z : Stop). IsStopped (Err z)) l o.stopped)
      by (by_row at m b) = (answer ∙ ap stop_status m, whole at m)

  runs_by : (told : Result (List Entry) ℕ) (rows : List Row) (r : Result Bool Stop) → result ≡ status_of r → Ends bad (IsTooLong before.input now.input) before now r
      → KnowsLength before.input now.input r → EndsBy told rows bytes before now r → RunsBy told rows bytes before now r result
  runs_by (Ok history) rows r answer e k o = record {
    done = o;
    told = λ held told few calm some. told_by history r answer e o held told few calm some;
    long = λ many calm some. long_by history r answer e k o many calm some;
  }
  runs_by (Err index) rows r answer e k o = record { done = o; told = λ calm some. into_by index rows r answer e o calm some }

if_rows : (o : Option (List Row)) (P Q : List Row → Type 0) → ((rows : List Row) → P rows → Q rows) → IfSome o P → IfSome o Q
if_rows None P Q f p = tt
if_rows (Some rows) P Q f p = f rows p

if_bytes : (o : Option (List ℕ)) (P Q : List ℕ → Type 0) → ((bytes : List ℕ) → o ≡ Some bytes → P bytes → Q bytes) → IfSome o P → IfSome o Q
if_bytes None P Q f p = tt
if_bytes (Some bytes) P Q f p = f bytes refl p

pub means_run : (path : List ℕ) (before now : Outside) (r : Result Bool Stop) (result : Status) → result ≡ status_of r → Ends (IsBadIn now.store) (IsTooLong before.input now.input) before now r
    → OpensBy path before.store.paths now.store.paths r → KnowsLength before.input now.input r → TookWithin before.input now.input 0 → ((index : ℕ) → r ≡ Err (stop.BadRow index) → TellsRow index before.out.taken now.out.taken)
    → StartsTelling before.store now.store r
    → IfSome now.store.rows (λ all. IfSome before.input.left (λ bytes. OverRows before.store.rows all (λ rows. EndsBy (history_of rows) rows bytes before now r)))
    → MeansRun path before now result
means_run path before now r result answer e opens k most row tells over = record {
  ending = r;
  answer = answer;
  ends = e;
  opens = opens;
  known = k;
  most = most;
  row = row;
  tells = tells;
  over = if_rows now.store.rows
      (λ all. IfSome before.input.left (λ bytes. OverRows before.store.rows all (λ rows. EndsBy (history_of rows) rows bytes before now r)))
      (λ all. IfSome before.input.left (λ bytes. OverRows before.store.rows all (λ rows. RunsBy (history_of rows) rows bytes before now r result)))
      (λ all p. if_bytes before.input.left
      (λ bytes. OverRows before.store.rows all (λ rows. EndsBy (history_of rows) rows bytes before now r))
      (λ bytes. OverRows before.store.rows all (λ rows. RunsBy (history_of rows) rows bytes before now r result))
      (λ bytes is o. record {
        rows = o.rows;
        first = o.first;
        holds = runs_by before now bytes is result (IsBadIn now.store) (history_of o.rows) o.rows r answer e k o.holds;
      }) p) over;
}

-- Words that are none of the forms

pub means_usage : (text : List ℕ) (before now : Outside) (r : Result Unit Stop) (result : Status) → result ≡ usage_status r → Ends no_row ⊥ before now r
    → OnOk r (Appends before.out.taken now.out.taken text) → (n : ℕ) × Appends before.out.taken now.out.taken (take n text) → MeansUsage text before now result
means_usage text before now r result answer e w f = record {
  ending = r;
  answer = answer;
  ends = e;
  whole = w;
  front = f;
  exactly = λ calm some. by r answer e w calm some;
}
  where
    by : (r : Result Unit Stop) → result ≡ usage_status r → Ends no_row ⊥ before now r → OnOk r (Appends before.out.taken now.out.taken text) → AreCalm before now
        → result ≢ status.Memory → (result ≡ status.Usage) × Appends before.out.taken now.out.taken text
    by (Ok done) answer e w calm some = (answer, w)
    by (Err s) answer e w calm some = elim (calm_stop Unit ⊥ before now s calm e.cause) [
      | inl m ↦ absurd (some (answer ∙ ap stop_status m))
      | inr l ↦ absurd l.1
    ]

-- The causes of statuses

no_bad : (index : ℕ) → no_row index → ⊥
no_bad index bad = bad

run_cause : (path : List ℕ) (before now : Outside) (result : Status) → MeansRun path before now result → HasCause ((index : ℕ) × IsBadIn now.store index) before now result
run_cause path before now result m =
    subst (HasCause ((index : ℕ) × IsBadIn now.store index) before now) (sym m.answer)
    (ending_cause (IsBadIn now.store) ((index : ℕ) × IsBadIn now.store index) (IsTooLong before.input now.input) before now m.ending (λ index bad. (index, bad)) (λ long. long.1) m.ends)

files_cause : (telling : Telling) (names : List (List ℕ)) (before now : Outside) (result : Status) → MeansFileCheck telling names before now result
    → HasCause ⊥ before now result
files_cause telling names before now result m =
    subst (HasCause ⊥ before now) (sym m.answer) (ending_cause no_row ⊥ ⊥ before now m.ending no_bad (λ never. absurd never) m.ends)

check_cause : (before now : Outside) (r : Result Verdict Stop) → Ends no_row (IsTooLong before.input now.input) before now r → HasCause ⊥ before now (ends_by r)
check_cause before now (Ok Good) e = e.cause
check_cause before now (Ok Complaints) e = e.cause
check_cause before now (Ok Refused) e = e.cause
check_cause before now (Err s) e = stop_cause Verdict no_row ⊥ (IsTooLong before.input now.input) before now s no_bad (λ long. long.1) e.cause

input_cause : (telling : List ℕ → Checked) (before now : Outside) (result : Status) → MeansInputCheck telling before now result → HasCause ⊥ before now result
input_cause telling before now result m =
    subst (HasCause ⊥ before now) (sym m.answer) (check_cause before now m.ending m.ends)

usage_cause : (text : List ℕ) (before now : Outside) (result : Status) → MeansUsage text before now result → HasCause ⊥ before now result
usage_cause text before now result m = subst (HasCause ⊥ before now) (sym m.answer) (by m.ending m.ends)
  where
    by : (r : Result Unit Stop) → Ends no_row ⊥ before now r → HasCause ⊥ before now (usage_status r)
    by (Ok done) e = e.cause
    by (Err s) e = stop_cause Unit no_row ⊥ ⊥ before now s no_bad (λ never. absurd never) e.cause

exercise_cause : (rounds : ℕ) (before now : Outside) (result : Status) → MeansExercise rounds before now result → HasCause ((index : ℕ) × IsBadIn now.store index) before now result
exercise_cause rounds before now result m = subst (HasCause ((index : ℕ) × IsBadIn now.store index) before now) (sym m.answer) (by m.ending m.ends)
  where
    by : (r : Result Unit Stop) → Ends (IsBadIn now.store) ⊥ before now r → HasCause ((index : ℕ) × IsBadIn now.store index) before now (exercise_status r)
    by (Ok done) e = e.cause
    by (Err s) e = stop_cause Unit (IsBadIn now.store) ((index : ℕ) × IsBadIn now.store index) ⊥ before now s (λ index bad. (index, bad)) (λ never. absurd never) e.cause

backfill_cause : (path times : List ℕ) (names : List (List ℕ)) (before now : Outside) (result : Status) → MeansBackfill path times names before now result
    → HasCause ((index : ℕ) × IsBadIn now.store index) before now result
backfill_cause path times names before now result m =
    subst (HasCause ((index : ℕ) × IsBadIn now.store index) before now) (sym m.answer)
    (ending_cause (IsBadIn now.store) ((index : ℕ) × IsBadIn now.store index) ⊥ before now m.ending (λ index bad. (index, bad)) (λ never. absurd never) m.ends)

pub command_cause : (c : Option Command) (before now : Outside) (result : Status) → MeansCommand c before now result → HasCause (HasBadRow c now.store) before now result
command_cause None before now result m = usage_cause usage_text before now result m
command_cause (Some (runs path)) before now result m = run_cause path before now result m
command_cause (Some (tests_rules names)) before now result m = files_cause tests_told names before now result m
command_cause (Some (checks_rules names)) before now result m = files_cause rules_told names before now result m
command_cause (Some checks_metrics) before now result m = input_cause metrics_told before now result m
command_cause (Some (exercises rounds)) before now result m = exercise_cause rounds before now result m
command_cause (Some (backfills path times names)) before now result m = backfill_cause path times names before now result m

-- Memory does not suffice for the words of the process
pub ends_unread : (line : Option (List (List ℕ))) (before : Outside) (number : ℕ) → number ≡ status_number status.Memory → EndsLine line before before number
ends_unread None before number is = record { words = []; known = tt; result = status.Memory; numbered = is; promises = inr (refl, refl) }
ends_unread (Some all) before number is = record { words = map word_of (drop 1 all); known = refl; result = status.Memory; numbered = is; promises = inr (refl, refl) }
