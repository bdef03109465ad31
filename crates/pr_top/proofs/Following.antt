-- What each command promises gives that it follows its plan.
use Rattle.std.proofs.Common.{◌≡◌, ◌≢◌, ℕ, zero, suc, ◌+◌, ◌<◌, ◌≤◌, Bool, true, false, List, [], ◌∷◌, ◌++◌, length, map, take, take_all, flat_map, Option, Some, None, IfSome, Result, Ok, Err, inl, inr, refl, sym, ap, ◌∙◌, subst, append-nil, arith}
use Rattle.std.proofs.lemmas.Bool.{cases_lt, false≢true}
use Rattle.std.proofs.lemmas.List.{map-append, length-map}
use Rattle.std.specs.Io.KnownBytes.{Appends}
use Rattle.pr_engine.specs.spec_history.declared.entry.Entry.{Entry}
use Rattle.pr_engine.specs.spec_history.Histories.{history_of}
use Rattle.pr_engine.specs.spec_history.Rows.{encoded}
use Rattle.pr_outside.specs.spec_history.declared.row.Row.{Row}
use Rattle.pr_outside.specs.Causes.{IsCalm, Rose}
use Rattle.pr_outside.specs.Ends.{StopPlace, StopsBy, place_of, status_of}
use Rattle.pr_outside.specs.FileChecks.{MeansFileCheck, Telling, all_asks as asked_of_files, all_told}
use Rattle.pr_outside.specs.InputChecks.{MeansInputCheck}
use Rattle.pr_outside.specs.Checks.{Checked}
use Rattle.pr_outside.specs.Opening.{OpensBy}
use Rattle.pr_outside.specs.Outside.{Outside, AreCalm, AreTold, Held}
use Rattle.pr_outside.specs.Paths.{Opens}
use Rattle.pr_outside.specs.Status.{IsTooLong, verdict}
use Rattle.pr_outside.specs.Stores.{AreKept, IsBadIn, OverRows}
use Rattle.pr_outside.specs.declared.status.status.Status.{Status}
use Rattle.pr_outside.specs.declared.status.status.Status.TheVariants.{Done, Memory, Problem, StoreFault, Usage}
use Rattle.pr_outside.specs.declared.status.status.Stop.{Stop}
use Rattle.pr_outside.specs.declared.status.status.Stop.TheVariants as stop
use Rattle.pr_outside.proofs.StoredRows.{IsDecoding, rows_of as rows_encoded}
use Rattle.pr_backfill.specs.pr_text.BadRows.{bad_row_text}
use Rattle.pr_backfill.specs.pr_text.spec_rules.Reloads.{LoadedFile}
use Rattle.pr_backfill.specs.pr_checks.RulesLoaded.{all_rules}
use Rattle.pr_backfill.specs.Filled.{FillStep, filled, rows_filled}
use Rattle.pr_backfill.specs.Means.{FillOpens, FillsBy, FillsWith, IsFront as FillFront, MeansBackfill}
use Rattle.pr_backfill.specs.Text.{begun_text}
use Rattle.pr_exercise.specs.Exercise.{exercise_events}
use Rattle.pr_exercise.specs.Means.{ExercisesBy, ExercisesOver, IsFront as ExerciseFront, MeansExercise, exercise_status}
use Rattle.pr_exercise.specs.Summary.{summary}
use Rattle.pr_run.specs.Front.{IsFront as RunFront}
use Rattle.pr_run.specs.Runs.{IsWholeRun, MeansRun, RunsBy, RunsOver}
use Rattle.pr_run.specs.Told.{OrderAnswer, answers_to, asks_of, refuses, told_of}
use Rattle.pr_run.specs.spec_world.Step.{rows_of as entries_of}
use Rattle.pr_run.specs.spec_world.declared.event.Event.{Event}
use Rattle.pr_backfill.specs.pr_text.spec_rules.Settings.{of_a_run}
use Rattle.pr_run.specs.spec_world.World.{start}
use Rattle.pr_top.specs.Follows.{Follows, FromStart, IsFront, IsWhole, Keeps, if_fine}
use Rattle.pr_top.specs.Means.{MeansUsage}
use Rattle.pr_top.specs.Plan.{Piece, Plan, all_asks, all_rows, all_text, asking_first, exercise_plan, fill_plan, files_plan, loaded_plan, only, over, script_plan, checking, writing}
use Rattle.pr_top.proofs.Plans.{begun_front, files_asks, files_front, files_text, fill_asks, fill_front_rows, fill_front_text, fill_length, fill_whole_rows, fill_whole_text, input_plan, lone_text, script_asks, script_front, script_length, script_rows, script_rows_front, script_text, summed_front_rows, summed_front_text, summed_length, summed_rows, summed_text}

-- what is told is there
at : {T : Type 0} (o : Option T) (P : T → Type 0) (x : T) → o ≡ Some x → IfSome o P → P x
at o P x is h = subst (λ (z : Option _). IfSome z P) is h

if_some : {T : Type 0} (o : Option T) (P Q : T → Type 0) → ((x : T) → P x → Q x) → IfSome o P → IfSome o Q
if_some None P Q f h = tt
if_some (Some x) P Q f h = f x h

-- what holds over the rows at the start gives what else does
over_start : (before now : Outside) (P Q : List Row → Type 0) → ((rows : List Row) → P rows → Q rows)
    → IfSome now.store.rows (λ all. OverRows before.store.rows all P) → IfSome now.store.rows (λ all. OverRows before.store.rows all Q)
over_start before now P Q f h =
    if_some now.store.rows (λ all. OverRows before.store.rows all P) (λ all. OverRows before.store.rows all Q)
    (λ all o. record { rows = o.rows; first = o.first; holds = f o.rows o.holds }) h

no_rise : (before now : ℕ) → IsCalm before now → Rose before now → ⊥
no_rise before now calm rose = omega (arith, calm.same, calm.below, rose)

-- a calm end opened its path
opened : {T : Type 0} (path : List ℕ) (bad : ℕ → Type 0) (long : Type 0) (before now : Outside) (r : Result T Stop) → StopsBy bad long before now r → AreCalm before now
    → (r ≡ Err stop.Memory → ⊥) → OpensBy path before.store.paths now.store.paths r → Opens path before.store.paths now.store.paths
opened path bad long before now (Ok done) cause calm some o = o
opened path bad long before now (Err stop.Read) cause calm some o = o
opened path bad long before now (Err stop.Load) cause calm some o = o
opened path bad long before now (Err stop.Store) cause calm some o = absurd (no_rise before.store.faults now.store.faults calm.store cause.2)
opened path bad long before now (Err (stop.BadRow index)) cause calm some o = o
opened path bad long before now (Err stop.Write) cause calm some o = o
opened path bad long before now (Err stop.Memory) cause calm some o = absurd (some refl)
opened path bad long before now (Err stop.TooLong) cause calm some o = o

fill_opened : (path : List ℕ) (bad : ℕ → Type 0) (before now : Outside) (r : Result Bool Stop) → StopsBy bad ⊥ before now r → AreCalm before now
    → (status_of r ≢ Memory) → (status_of r ≢ Problem) → FillOpens path before.store.paths now.store.paths r → Opens path before.store.paths now.store.paths
fill_opened path bad before now (Ok true) cause calm some fine o = absurd (fine refl)
fill_opened path bad before now (Ok false) cause calm some fine o = o
fill_opened path bad before now (Err stop.Read) cause calm some fine o = absurd o
fill_opened path bad before now (Err stop.Load) cause calm some fine o = absurd (no_rise before.files.faults now.files.faults calm.files cause.1)
fill_opened path bad before now (Err stop.Store) cause calm some fine o = absurd (no_rise before.store.faults now.store.faults calm.store cause.2)
fill_opened path bad before now (Err (stop.BadRow index)) cause calm some fine o = o
fill_opened path bad before now (Err stop.Write) cause calm some fine o = absurd (no_rise before.out.faults now.out.faults calm.out cause.3)
fill_opened path bad before now (Err stop.Memory) cause calm some fine o = absurd (some refl)
fill_opened path bad before now (Err stop.TooLong) cause calm some fine o = absurd o

-- A text alone

nothing_before : (piece : Piece) (fewer count : ℕ) → fewer + 1 ≡ 1 → length (all_text (take fewer (piece ∷ []))) ≤ count
nothing_before piece zero count is = omega arith
nothing_before piece (suc fewer) count is = absurd (omega (arith, is))

lone_front : (opens : Option (List ℕ)) (text : List ℕ) (rows : List Row) (before now : Outside) → (n : ℕ) × Appends before.out.taken now.out.taken (take n text)
    → Keeps opens rows (writing text ∷ []) before now → IsFront opens (writing text ∷ []) rows before now
lone_front opens text rows before now wrote kept = record {
  begun = 1;
  within = omega arith;
  count = wrote.0;
  text = subst (λ t. Appends before.out.taken now.out.taken (take wrote.0 t)) (sym (lone_text text)) wrote.1;
  done = λ fewer is. nothing_before (writing text) fewer wrote.0 is;
  kept = kept;
}

-- over rows that stay
kept_alone : (path : List ℕ) (rows : List Row) (before now : Outside) (text : List ℕ) → IfSome now.store.rows (λ all. all ≡ rows) → Keeps (Some path) rows (writing text ∷ []) before now
kept_alone path rows before now text kept =
    if_some now.store.rows (λ all. all ≡ rows) (λ all. all ≡ rows ++ []) (λ all is. is ∙ sym (append-nil rows)) kept

-- A bad row at the start
bad_start : (path input : List ℕ) (held : Held) (index : ℕ) (rows : List Row) (before now : Outside) (result : Status)
    → (n : ℕ) × Appends before.out.taken now.out.taken (take n (bad_row_text index)) → IfSome now.store.rows (λ all. all ≡ rows)
    → (AreCalm before now → result ≢ Memory → (result ≡ StoreFault) × Appends before.out.taken now.out.taken (bad_row_text index))
    → (AreCalm before now → result ≢ Memory → Opens path before.store.paths now.store.paths)
    → Follows (Some path) (only (bad_row_text index) StoreFault) input held rows before now result
bad_start path input held index rows before now result wrote kept told opens = record {
  whole = λ known calm some short. record {
    status = (told calm some).0;
    text = subst (Appends before.out.taken now.out.taken) (sym (lone_text (bad_row_text index))) (told calm some).1;
    kept = kept_alone path rows before now (bad_row_text index) kept;
    opened = opens calm some;
    read = λ never. absurd (false≢true never);
  };
  front = λ known. lone_front (Some path) (bad_row_text index) rows before now wrote (kept_alone path rows before now (bad_row_text index) kept);
  long = λ never. absurd (false≢true never);
}

-- Rows kept behind those that tell a history
kept_behind : (path : List ℕ) (rows : List Row) (history more : List Entry) (pieces : List Piece) (before now : Outside) → rows ≡ map encoded history → all_rows pieces ≡ more
    → AreKept (history ++ more) now.store → Keeps (Some path) rows pieces before now
kept_behind path rows history more pieces before now encodes same kept =
    if_some now.store.rows (λ all. all ≡ map encoded (history ++ more)) (λ all. all ≡ rows ++ map encoded (all_rows pieces))
    (λ all is. is ∙ map-append encoded history more ∙ ap (λ (rs : List Row). rs ++ map encoded more) (sym encodes)
    ∙ ap (λ (es : List Entry). rows ++ map encoded es) (sym same)) kept

-- A run

module _ (path input : List ℕ) (held : Held) (rows : List Row) (history : List Entry) (before now : Outside) (result : Status) (m : MeansRun path before now result) (encodes : rows ≡ map encoded history) where
  abbrev run_answers : List OrderAnswer
  run_answers = answers_to held history input

  abbrev run_plan : Plan
  run_plan = script_plan history run_answers

  run_whole : (result ≡ verdict (refuses held history input)) × IsWholeRun held history input before now (refuses held history input) → AreCalm before now → result ≢ Memory
      → IsWhole (Some path) run_plan rows before now result
  run_whole w calm some = record {
    status = w.0;
    text = subst (Appends before.out.taken now.out.taken) (sym (script_text history run_answers)) w.1.written;
    kept = kept_behind path rows history (flat_map (λ (a : OrderAnswer). a.rows) run_answers) run_plan.pieces before now encodes (script_rows history run_answers) w.1.kept;
    opened = opened path (IsBadIn now.store) (IsTooLong before.input now.input) before now m.ending m.ends.cause calm (λ is. some (m.answer ∙ ap status_of is)) m.opens;
    read = λ reads. w.1.read;
  }

  run_done : (answered count : ℕ) → ((fewer : ℕ) → fewer + 1 ≡ answered → length (told_of history (take fewer run_answers)) ≤ count)
      → (fewer : ℕ) → fewer + 1 ≡ suc answered → length (all_text (take fewer run_plan.pieces)) ≤ count
  run_done answered count before_last zero is = omega arith
  run_done answered count before_last (suc fewer) is =
      subst (λ (t : List ℕ). length t ≤ count) (sym (script_front history run_answers fewer)) (before_last fewer (omega (arith, is)))

  run_front : (place : StopPlace) → RunFront input place history run_answers before now → IsFront (Some path) run_plan.pieces rows before now
  run_front place f = record {
    begun = suc f.answered;
    within = script_length history run_answers f.answered f.within;
    count = f.count;
    text = subst (λ (t : List ℕ). Appends before.out.taken now.out.taken (take f.count t)) (sym (script_front history run_answers f.answered)) f.text;
    done = run_done f.answered f.count f.whole;
    kept = kept_behind path rows history (flat_map (λ (a : OrderAnswer). a.rows) (take f.answered run_answers)) (take (suc f.answered) run_plan.pieces) before now encodes
        (script_rows_front history run_answers f.answered) f.kept;
  }

  told_answers : AreTold before.files.content held (all_asks run_plan.pieces) → AreTold before.files.content held (asks_of run_answers)
  told_answers known = subst (AreTold before.files.content held) (script_asks history run_answers) known

  run_over : RunsOver history input before now m.ending result → Follows (Some path) run_plan input held rows before now result
  run_over o = record {
    whole = λ known calm some short. run_whole (o.told held (told_answers known) (short refl) calm some) calm some;
    front = λ known. run_front (place_of m.ending) (o.done.front held (told_answers known));
    long = λ reads many calm some. o.long many calm some;
  }

over_run : (path input : List ℕ) (before now : Outside) (result : Status) (m : MeansRun path before now result) → before.input.left ≡ Some input
    → IfSome now.store.rows (λ all. OverRows before.store.rows all (λ rows. RunsBy (history_of rows) rows input before now m.ending result))
over_run path input before now result m is =
    if_some now.store.rows (λ all. IfSome before.input.left (λ bs. OverRows before.store.rows all (λ rows. RunsBy (history_of rows) rows bs before now m.ending result)))
    (λ all. OverRows before.store.rows all (λ rows. RunsBy (history_of rows) rows input before now m.ending result))
    (λ all h. at before.input.left (λ bs. OverRows before.store.rows all (λ rows. RunsBy (history_of rows) rows bs before now m.ending result)) input is h) m.over

run_by : IsDecoding → (path input : List ℕ) (held : Held) (rows : List Row) (before now : Outside) (result : Status) (m : MeansRun path before now result) (t : Result (List Entry) ℕ)
    → history_of rows ≡ t → RunsBy t rows input before now m.ending result
    → Follows (Some path) (over t (λ history. script_plan history (answers_to held history input))) input held rows before now result
run_by decodes path input held rows before now result m (Ok history) is o = run_over path input held rows history before now result m (rows_encoded decodes rows history is) o
run_by decodes path input held rows before now result m (Err index) is o =
    bad_start path input held index rows before now result (o.done.front.count, o.done.front.text) o.done.front.kept o.told
    (λ calm some. opened path (IsBadIn now.store) (IsTooLong before.input now.input) before now m.ending m.ends.cause calm (λ is. some (m.answer ∙ ap status_of is)) m.opens)

pub run : IsDecoding → (path input : List ℕ) (before now : Outside) (result : Status) → MeansRun path before now result → before.input.left ≡ Some input
    → FromStart (Some path) before now (λ rows. (held : Held) → Follows (Some path) (over (history_of rows) (λ history. script_plan history (answers_to held history input))) input held rows before now result)
run decodes path input before now result m is =
    over_start before now (λ rows. RunsBy (history_of rows) rows input before now m.ending result) _
    (λ rows o held. run_by decodes path input held rows before now result m (history_of rows) refl o) (over_run path input before now result m is)

-- An exercise

module _ (rounds : ℕ) (rows : List Row) (history : List Entry) (before now : Outside) (result : Status) (m : MeansExercise rounds before now result) (encodes : rows ≡ map encoded history) where
  abbrev all_events : List Event
  all_events = exercise_events rounds

  abbrev sum : List ℕ
  sum = summary history rounds

  abbrev sum_plan : Plan
  sum_plan = exercise_plan rounds history

  no_text : (count fewer : ℕ) → fewer ≤ length all_events → length (all_text (take fewer sum_plan.pieces)) ≤ count
  no_text count fewer h = subst (λ (t : List ℕ). length t ≤ count) (sym (summed_front_text (start history) all_events sum fewer h)) (omega arith)

  exercise_part : (f : ExerciseFront rounds history before now) → f.answered < length all_events → IsFront (Some []) sum_plan.pieces rows before now
  exercise_part f less = record {
    begun = f.answered;
    within = omega (arith, less, summed_length (start history) all_events sum);
    count = 0;
    text = subst (λ n. Appends before.out.taken now.out.taken (take n sum)) (f.waits less) f.text;
    done = λ fewer is. no_text 0 fewer (omega (arith, is, less));
    kept = kept_behind [] rows history (entries_of of_a_run (start history) (take f.answered all_events)) (take f.answered sum_plan.pieces) before now encodes
        (summed_front_rows (start history) all_events sum f.answered f.within) f.kept;
  }

  exercise_all : (f : ExerciseFront rounds history before now) → length all_events ≤ f.answered → IsFront (Some []) sum_plan.pieces rows before now
  exercise_all f more =
      let whole : take (suc (length all_events)) sum_plan.pieces ≡ sum_plan.pieces = take_all (suc (length all_events)) sum_plan.pieces (omega (arith, summed_length (start history) all_events sum)) in
      record {
        begun = suc (length all_events);
        within = omega (arith, summed_length (start history) all_events sum);
        count = f.count;
        text = subst (λ (t : List ℕ). Appends before.out.taken now.out.taken (take f.count t)) (sym (ap all_text whole ∙ summed_text (start history) all_events sum)) f.text;
        done = λ fewer is. no_text f.count fewer (omega (arith, is));
        kept = kept_behind [] rows history (entries_of of_a_run (start history) (take f.answered all_events)) (take (suc (length all_events)) sum_plan.pieces) before now encodes
            (ap all_rows whole ∙ summed_rows (start history) all_events sum ∙ ap (entries_of of_a_run (start history)) (sym (take_all f.answered all_events more))) f.kept;
      }

  exercise_over : ExercisesOver rounds history before now m.ending result → (input : List ℕ) (held : Held) → Follows (Some []) sum_plan input held rows before now result
  exercise_over o input held = record {
    whole = λ known calm some short. let w = o.told calm some in record {
      status = w.0;
      text = subst (Appends before.out.taken now.out.taken) (sym (summed_text (start history) all_events sum)) w.1.written;
      kept = kept_behind [] rows history (entries_of of_a_run (start history) all_events) sum_plan.pieces before now encodes (summed_rows (start history) all_events sum) w.1.kept;
      opened = opened [] (IsBadIn now.store) ⊥ before now m.ending m.ends.cause calm (λ is. some (m.answer ∙ ap exercise_status is)) m.opens;
      read = λ never. absurd (false≢true never);
    };
    front = λ known. elim (cases_lt o.done.front.answered (length all_events)) [
      | inl less ↦ exercise_part o.done.front less
      | inr more ↦ exercise_all o.done.front more
    ];
    long = λ never. absurd (false≢true never);
  }

exercise_by : IsDecoding → (rounds : ℕ) (input : List ℕ) (held : Held) (rows : List Row) (before now : Outside) (result : Status) (m : MeansExercise rounds before now result)
    (t : Result (List Entry) ℕ) → history_of rows ≡ t → ExercisesBy t rounds rows before now m.ending result → Follows (Some []) (over t (exercise_plan rounds)) input held rows before now result
exercise_by decodes rounds input held rows before now result m (Ok history) is o = exercise_over rounds rows history before now result m (rows_encoded decodes rows history is) o input held
exercise_by decodes rounds input held rows before now result m (Err index) is o =
    bad_start [] input held index rows before now result (o.done.front.count, o.done.front.text) o.done.front.kept o.told
    (λ calm some. opened [] (IsBadIn now.store) ⊥ before now m.ending m.ends.cause calm (λ is. some (m.answer ∙ ap exercise_status is)) m.opens)

pub exercise : IsDecoding → (rounds : ℕ) (input : List ℕ) (before now : Outside) (result : Status) → MeansExercise rounds before now result
    → FromStart (Some []) before now (λ rows. (held : Held) → Follows (Some []) (over (history_of rows) (exercise_plan rounds)) input held rows before now result)
exercise decodes rounds input before now result m =
    over_start before now (λ rows. ExercisesBy (history_of rows) rounds rows before now m.ending result) _
    (λ rows o held. exercise_by decodes rounds input held rows before now result m (history_of rows) refl o) m.over

-- Files and the input

pub files : (telling : Telling) (names : List (List ℕ)) (input : List ℕ) (held : Held) (before now : Outside) (result : Status) → MeansFileCheck telling names before now result → now.store ≡ before.store
    → Follows None (files_plan (all_told telling held names)) input held [] before now result
files telling names input held before now result m same =
    let tolds = all_told telling held names in
    record {
      whole = λ known calm some short. let w = m.told held (asked known) calm some in record {
        status = w.1;
        text = subst (Appends before.out.taken now.out.taken) (sym (files_text tolds)) w.0;
        kept = same;
        opened = tt;
        read = λ never. absurd (false≢true never);
      };
      front = λ known. let f = m.front held (asked known) in record {
        begun = f.done;
        within = subst (λ (n : ℕ). f.done ≤ n) (sym (length-map tolds checking)) f.within;
        count = f.count;
        text = subst (λ (t : List ℕ). Appends before.out.taken now.out.taken (take f.count t)) (sym (files_front tolds f.done)) f.text;
        done = λ fewer is. subst (λ (t : List ℕ). length t ≤ f.count) (sym (files_front tolds fewer)) (f.whole fewer is);
        kept = same;
      };
      long = λ never. absurd (false≢true never);
    }
  where
    asked : AreTold before.files.content held (all_asks (files_plan (all_told telling held names)).pieces) → AreTold before.files.content held (asked_of_files (all_told telling held names))
    asked known = subst (AreTold before.files.content held) (files_asks (all_told telling held names)) known

pub input_check : (telling : List ℕ → Checked) (input : List ℕ) (held : Held) (before now : Outside) (result : Status) → MeansInputCheck telling before now result → before.input.left ≡ Some input
    → now.store ≡ before.store → Follows None (input_plan (telling input)) input held [] before now result
input_check telling input held before now result m is same = record {
  whole = λ known calm some short. let w = at before.input.left _ input is m.told (short refl) calm some in record {
    status = w.1;
    text = subst (Appends before.out.taken now.out.taken) (sym (lone_text (telling input).text)) w.0;
    kept = same;
    opened = tt;
    read = λ reads. w.2;
  };
  front = λ known. lone_front None (telling input).text [] before now (at before.input.left _ input is m.front) same;
  long = λ reads many calm some. at before.input.left _ input is m.long many calm some;
}

pub usage : (text input : List ℕ) (held : Held) (before now : Outside) (result : Status) → MeansUsage text before now result → now.store ≡ before.store
    → Follows None (only text Usage) input held [] before now result
usage text input held before now result m same = record {
  whole = λ known calm some short. let w = m.exactly calm some in record {
    status = w.0;
    text = subst (Appends before.out.taken now.out.taken) (sym (lone_text text)) w.1;
    kept = same;
    opened = tt;
    read = λ never. absurd (false≢true never);
  };
  front = λ known. lone_front None text [] before now m.front same;
  long = λ never. absurd (false≢true never);
}

-- A backfill

-- the files are asked for before that
done_after : (names : List (List ℕ)) (p : Plan) (begun count : ℕ) → ((fewer : ℕ) → fewer + 1 ≡ begun → length (all_text (take fewer p.pieces)) ≤ count)
    → (fewer : ℕ) → fewer + 1 ≡ suc begun → length (all_text (take fewer (asking_first names p).pieces)) ≤ count
done_after names p begun count done zero is = omega arith
done_after names p begun count done (suc fewer) is = done fewer (omega (arith, is))

asked_keeps : (opens : Option (List ℕ)) (names : List (List ℕ)) (rows : List Row) (pieces : List Piece) (before now : Outside) → Keeps opens rows pieces before now
    → Keeps opens rows (record { asks = names; rows = []; text = [] } ∷ pieces) before now
asked_keeps None names rows pieces before now kept = kept
asked_keeps (Some path) names rows pieces before now kept = kept

-- where the outside tells what they hold
after_asking : (opens : Option (List ℕ)) (names : List (List ℕ)) (p : Plan) (input : List ℕ) (held : Held) (rows : List Row) (before now : Outside) (result : Status) → all_asks p.pieces ≡ []
    → Follows opens p input held rows before now result → Follows opens (asking_first names p) input held rows before now result
after_asking opens names p input held rows before now result none f = record {
  whole = λ known calm some short. let w = f.whole nothing calm some short in
      record { status = w.status; text = w.text; kept = asked_keeps opens names rows p.pieces before now w.kept; opened = w.opened; read = w.read };
  front = λ known. let w = f.front nothing in record {
    begun = suc w.begun;
    within = omega (arith, w.within);
    count = w.count;
    text = w.text;
    done = done_after names p w.begun w.count w.done;
    kept = asked_keeps opens names rows (take w.begun p.pieces) before now w.kept;
  };
  long = f.long;
}
  where
    nothing : AreTold before.files.content held (all_asks p.pieces)
    nothing = subst (AreTold before.files.content held) (sym none) tt

module _ (path : List ℕ) (rows : List Row) (history : List Entry) (steps : List FillStep) (before now : Outside) (encodes : rows ≡ map encoded history) where
  abbrev step_plan : Plan
  step_plan = fill_plan history steps

  -- the text of some evaluations has room for it
  fill_part : (f : FillFront steps history before now) → f.count ≤ length (begun_text (length history) (take f.done steps)) → IsFront (Some path) step_plan.pieces rows before now
  fill_part f short = record {
    begun = suc f.done;
    within = omega (arith, f.within, fill_length history steps);
    count = f.count;
    text = subst (λ (t : List ℕ). Appends before.out.taken now.out.taken (take f.count t)) (sym (fill_front_text history steps f.done f.within))
        (subst (Appends before.out.taken now.out.taken) (begun_front history steps f.done f.count short) f.text);
    done = by f.done f.within f.begins;
    kept = kept_behind path rows history (rows_filled (take f.done steps)) (take (suc f.done) step_plan.pieces) before now encodes (fill_front_rows history steps f.done f.within) f.kept;
  }
    where
      by : (n : ℕ) → n ≤ length steps → ((fewer : ℕ) → fewer + 1 ≡ n → length (begun_text (length history) (take fewer steps)) ≤ f.count)
          → (fewer : ℕ) → fewer + 1 ≡ suc n → length (all_text (take fewer step_plan.pieces)) ≤ f.count
      by n within begins zero is = omega arith
      by n within begins (suc fewer) is =
          subst (λ (t : List ℕ). length t ≤ f.count) (sym (fill_front_text history steps fewer (omega (arith, is, within)))) (begins fewer (omega (arith, is)))

  -- all evaluations are told of, and the last line is begun
  fill_all : (f : FillFront steps history before now) → length (begun_text (length history) (take f.done steps)) < f.count → length steps ≤ f.done
      → IsFront (Some path) step_plan.pieces rows before now
  fill_all f long more =
      let size = suc (suc f.done) in
      let same : f.done ≡ length steps = omega (arith, f.within, more) in
      let whole : take size step_plan.pieces ≡ step_plan.pieces = take_all size step_plan.pieces (omega (arith, fill_length history steps, more)) in
      record {
        begun = size;
        within = omega (arith, fill_length history steps, same);
        count = f.count;
        text = subst (λ (t : List ℕ). Appends before.out.taken now.out.taken (take f.count t)) (sym (ap all_text whole ∙ fill_whole_text history steps)) f.text;
        done = λ fewer is. subst (λ (k : ℕ). length (all_text (take k step_plan.pieces)) ≤ f.count) (by fewer is)
            (subst (λ (t : List ℕ). length t ≤ f.count) (sym (fill_front_text history steps f.done f.within)) (omega (arith, long)));
        kept = kept_behind path rows history (rows_filled (take f.done steps)) (take size step_plan.pieces) before now encodes
            (ap all_rows whole ∙ fill_whole_rows history steps ∙ ap rows_filled (sym (take_all f.done steps more))) f.kept;
      }
    where
      by : (fewer : ℕ) → fewer + 1 ≡ suc (suc f.done) → suc f.done ≡ fewer
      by fewer is = omega (arith, is)

  fill_front : FillFront steps history before now → IsFront (Some path) step_plan.pieces rows before now
  fill_front f = elim (cases_lt (length (begun_text (length history) (take f.done steps))) f.count) [
    | inr short ↦ fill_part f short
    | inl long ↦ elim (cases_lt f.done (length steps)) [
      | inl less ↦ absurd (omega (arith, long, f.beyond less))
      | inr more ↦ fill_all f long more
    ]
  ]

fill_by : IsDecoding → (path times : List ℕ) (names : List (List ℕ)) (input : List ℕ) (held : Held) (found : List LoadedFile) (rows : List Row) (before now : Outside) (result : Status)
    (m : MeansBackfill path times names before now result) (t : Result (List Entry) ℕ) → history_of rows ≡ t → FillsBy t found times rows before now m.ending result
    → Follows (Some path) (asking_first names (over t (λ history. fill_plan history (filled history found times)))) input held rows before now result
fill_by decodes path times names input held found rows before now result m (Ok history) is o =
    let encodes = rows_encoded decodes rows history is in
    let steps = filled history found times in
    after_asking (Some path) names (fill_plan history steps) input held rows before now result (fill_asks history steps) (record {
      whole = λ known calm some short. let w = o.told calm some in record {
        status = w.0;
        text = subst (Appends before.out.taken now.out.taken) (sym (fill_whole_text history steps)) w.1.written;
        kept = kept_behind path rows history (rows_filled steps) (fill_plan history steps).pieces before now encodes (fill_whole_rows history steps) w.1.kept;
        opened = fill_opened path (IsBadIn now.store) before now m.ending m.ends.cause calm (λ is. some (m.answer ∙ is)) (λ is. done_not_problem (sym w.0 ∙ m.answer ∙ is)) m.opens;
        read = λ never. absurd (false≢true never);
      };
      front = λ known. fill_front path rows history steps before now encodes o.done.front;
      long = λ never. absurd (false≢true never);
    })
  where
    done_not_problem : Done ≡ Problem → ⊥
    done_not_problem e = absurd cc
fill_by decodes path times names input held found rows before now result m (Err index) is o =
    after_asking (Some path) names (only (bad_row_text index) StoreFault) input held rows before now result refl
    (bad_start path input held index rows before now result (o.done.front.count, o.done.front.text) o.done.front.kept o.told
    (λ calm some. fill_opened path (IsBadIn now.store) before now m.ending m.ends.cause calm (λ is. some (m.answer ∙ is))
    (λ is. fault_not_problem (sym (o.told calm some).0 ∙ m.answer ∙ is)) m.opens))
  where
    fault_not_problem : StoreFault ≡ Problem → ⊥
    fault_not_problem e = absurd cc

loaded : IsDecoding → (path times : List ℕ) (names : List (List ℕ)) (input : List ℕ) (held : Held) (found : List LoadedFile) (before now : Outside) (result : Status)
    (m : MeansBackfill path times names before now result) (wrong : List ℕ) → FillsWith wrong found times before now m.ending result
    → FromStart (if_fine path wrong) before now (λ rows. Follows (if_fine path wrong) (asking_first names (loaded_plan wrong found times (history_of rows))) input held rows before now result)
loaded decodes path times names input held found before now result m [] h =
    over_start before now (λ rows. FillsBy (history_of rows) found times rows before now m.ending result) _
    (λ rows o. fill_by decodes path times names input held found rows before now result m (history_of rows) refl o) h
loaded decodes path times names input held found before now result m (b ∷ wrong) h =
    after_asking None names (only (b ∷ wrong) Problem) input held [] before now result refl (record {
      whole = λ known calm some short. record {
        status = (h.told calm some).0;
        text = subst (Appends before.out.taken now.out.taken) (sym (lone_text (b ∷ wrong))) (h.told calm some).1;
        kept = h.done.same;
        opened = tt;
        read = λ never. absurd (false≢true never);
      };
      front = λ known. lone_front None (b ∷ wrong) [] before now h.done.front h.done.same;
      long = λ never. absurd (false≢true never);
    })

pub backfill : IsDecoding → (path times : List ℕ) (names : List (List ℕ)) (input : List ℕ) (held : Held) (before now : Outside) (result : Status) → MeansBackfill path times names before now result
    → AreTold before.files.content held names → FromStart (if_fine path (all_rules held names).wrong) before now (λ rows.
    Follows (if_fine path (all_rules held names).wrong) (asking_first names (loaded_plan (all_rules held names).wrong (all_rules held names).files times (history_of rows))) input held rows before now result)
backfill decodes path times names input held before now result m known =
    loaded decodes path times names input held (all_rules held names).files before now result m (all_rules held names).wrong (m.over held known)
