-- What the promise of the program gives, premise by premise.
use Rattle.std.proofs.Common.{◌≡◌, ◌≢◌, ℕ, zero, suc, ◌<◌, ◌≤◌, ◌^◌, false, List, [], ◌∷◌, ◌++◌, length, map, take, flat_map, Option, Some, None, IfSome, IsSome, IsTrue, Result, Ok, Err, ◌⊎◌, inl, inr, refl, sym, ap, ◌∙◌, subst, append-nil, arith}
use Rattle.std.proofs.lemmas.Bool.{false≢true}
use Rattle.std.specs.Io.KnownBytes.{Appends}
use Rattle.pr_outside.specs.Checks.{Checked, ends}
use Rattle.pr_outside.specs.FileChecks.{Told, all_asks as asked_of_files, any_refused, texts}
use Rattle.pr_outside.specs.Causes.{IsCalm}
use Rattle.pr_outside.specs.Outside.{AreCalm, AreTold, Held, Outside}
use Rattle.pr_outside.specs.Paths.{Opens}
use Rattle.pr_outside.specs.Status.{verdict}
use Rattle.pr_outside.specs.Stores.{OverRows}
use Rattle.pr_outside.specs.spec_history.declared.row.Row.{Row}
use Rattle.pr_outside.specs.declared.status.status.Status.{Status}
use Rattle.pr_outside.specs.declared.status.status.Status.TheVariants.{Done, Memory, Problem, StoreFault, TooLong, Usage}
use Rattle.spec_history.specs.Histories.{history_of}
use Rattle.spec_history.specs.Rows.{encoded}
use Rattle.spec_history.specs.declared.entry.Entry.{Entry}
use Rattle.spec_world.specs.World.{start}
use Rattle.pr_top.specs.Command.{backfills, exercises, runs}
use Rattle.pr_top.specs.Follows.{Follows, FromStart, IsFront, Keeps, Promises, if_fine}
use Rattle.pr_top.specs.Plan.{Piece, Plan, all_asks, all_rows, all_text, asking_first, exercise_plan, fill_plan, files_plan, loaded_plan, only, over, plan_of, script_plan, writing}
use Rattle.pr_top.specs.pr_backfill.Filled.{filled, rows_filled}
use Rattle.pr_top.specs.pr_backfill.Text.{fill_text}
use Rattle.pr_top.specs.pr_backfill.pr_checks.RulesLoaded.{all_rules}
use Rattle.pr_top.specs.pr_exercise.Exercise.{exercise_events}
use Rattle.pr_top.specs.pr_exercise.Summary.{exercise_rows, summary}
use Rattle.pr_top.specs.pr_run.Told.{OrderAnswer, answers_to, asks_of, refuses, told}
use Rattle.pr_top.specs.pr_text.BadRows.{bad_row_text}
use Rattle.pr_top.specs.pr_text.spec_rules.Reloads.{LoadedFile}
use Rattle.pr_top.proofs.Plans.{files_asks, files_text, fill_asks, fill_whole_rows, fill_whole_text, input_plan, lone_text, script_asks, script_rows, script_text, summed_asks, summed_rows, summed_text}
use Rattle.laws_runs.specs.private.Headline.{ByStart, FromRows, TellsBadRow, Writes, rows_added, rows_of}

-- what is told is there
pub at : {T : Type 0} (o : Option T) (P : T → Type 0) (x : T) → o ≡ Some x → IfSome o P → P x
at o P x is h = subst (λ (z : Option _). IfSome z P) is h

-- the input is not used
pub unread : {P : Type 0} → IsTrue false → P
unread used = absurd (false≢true used)

-- what holds over the rows at the start gives what else does, where the rows at the end are told
pub from_rows : (path : List ℕ) (before now : Outside) (P : List Row → Type 0) (Q : List Row → List Row → Type 0) → FromStart (Some path) before now P
    → ((rows all : List Row) → now.store.rows ≡ Some all → P rows → Q rows all) → FromRows before now Q
from_rows path before now P Q h f = λ all end.
    let o : OverRows before.store.rows all P = at now.store.rows (λ rs. OverRows before.store.rows rs P) all end h in
    record { rows = o.rows; first = o.first; holds = f o.rows all end o.holds }

-- the rows at the end
pub kept_rows : (path : List ℕ) (rows all : List Row) (pieces : List Piece) (more : List Entry) (before now : Outside) → now.store.rows ≡ Some all → all_rows pieces ≡ more
    → Keeps (Some path) rows pieces before now → all ≡ rows ++ rows_of more
kept_rows path rows all pieces more before now end same kept =
    at now.store.rows (λ rs. rs ≡ rows ++ map encoded (all_rows pieces)) all end kept ∙ ap (λ (es : List Entry). rows ++ map encoded es) same

-- A text alone

abbrev pub no_text : List ℕ
no_text = []

pub take_none : (n : ℕ) → take n no_text ≡ []
take_none zero = refl
take_none (suc n) = refl

pub lone : (opens : Option (List ℕ)) (text : List ℕ) (rows : List Row) (before now : Outside) → IsFront opens (writing text ∷ []) rows before now → (n : ℕ) × Writes before now (take n text)
lone opens text rows before now f = by f.begun f.within f.text
  where
    by : (begun : ℕ) → begun ≤ 1 → Appends before.out.taken now.out.taken (take f.count (all_text (take begun (writing text ∷ [])))) → (n : ℕ) × Writes before now (take n text)
    by zero h a = (0, subst (Appends before.out.taken now.out.taken) (take_none f.count) a)
    by (suc zero) h a = (f.count, subst (λ (t : List ℕ). Appends before.out.taken now.out.taken (take f.count t)) (lone_text text) a)
    by (suc (suc b)) h a = absurd (omega (arith, h))

pub no_rows : (begun : ℕ) (text : List ℕ) → all_rows (take begun (writing text ∷ [])) ≡ []
no_rows zero text = refl
no_rows (suc zero) text = refl
no_rows (suc (suc b)) text = refl

-- Over rows of which one is bad
pub bad_row : (path input : List ℕ) (held : Held) (rows all : List Row) (index : ℕ) (before now : Outside) (result : Status) → now.store.rows ≡ Some all
    → Follows (Some path) (only (bad_row_text index) StoreFault) input held rows before now result → TellsBadRow rows all before now result index
bad_row path input held rows all index before now result end f =
    let front = f.front tt in (
      kept_rows path rows all (take front.begun (writing (bad_row_text index) ∷ [])) [] before now end (no_rows front.begun (bad_row_text index)) front.kept ∙ append-nil rows,
      lone (Some path) (bad_row_text index) rows before now front,
      λ calm some. let w = f.whole tt calm some (λ never. absurd (false≢true never)) in
          (w.status, subst (Appends before.out.taken now.out.taken) (lone_text (bad_row_text index)) w.text),
    )

pub nothing_held : Held
nothing_held = λ name. None

-- Commands over rows

module _ (path bytes : List ℕ) (rows all : List Row) (before now : Outside) (result : Status) (end : now.store.rows ≡ Some all) (calm : AreCalm before now) (some : result ≢ Memory) where
  run_by : (t : Result (List Entry) ℕ) → length bytes < 2 ^ 32
      → ((held : Held) → Follows (Some path) (over t (λ history. script_plan history (answers_to held history bytes))) bytes held rows before now result)
      → ByStart t (λ history. (held : Held) → AreTold before.files.content held (asks_of (answers_to held history bytes))
      → Writes before now (told held history bytes) × (result ≡ verdict (refuses held history bytes)) × (now.input.left ≡ Some []) × (all ≡ rows ++ rows_added (answers_to held history bytes))
      × Opens path before.store.paths now.store.paths) (TellsBadRow rows all before now result)
  run_by (Ok history) few f = λ held known.
      let answers = answers_to held history bytes in
      let w = (f held).whole (subst (AreTold before.files.content held) (sym (script_asks history answers)) known) calm some (λ reads. few) in (
        subst (Appends before.out.taken now.out.taken) (script_text history answers) w.text,
        w.status,
        w.read refl,
        kept_rows path rows all (script_plan history answers).pieces (flat_map (λ (a : OrderAnswer). a.rows) answers) before now end (script_rows history answers) w.kept,
        w.opened,
      )
  run_by (Err index) few f = bad_row path bytes nothing_held rows all index before now result end (f nothing_held)

  long_by : (t : Result (List Entry) ℕ) → 2 ^ 32 ≤ length bytes
      → ((held : Held) → Follows (Some path) (over t (λ history. script_plan history (answers_to held history bytes))) bytes held rows before now result)
      → ByStart t (λ history. result ≡ TooLong) (TellsBadRow rows all before now result)
  long_by (Ok history) many f = (f nothing_held).long refl many calm some
  long_by (Err index) many f = bad_row path bytes nothing_held rows all index before now result end (f nothing_held)

pub run : (path bytes : List ℕ) (before now : Outside) (result : Status) → Promises (Some (runs path)) before now result
    → before.input.left ≡ Some bytes → AreCalm before now → result ≢ Memory → length bytes < 2 ^ 32
    → FromRows before now (λ rows all. ByStart (history_of rows) (λ history. (held : Held) → AreTold before.files.content held (asks_of (answers_to held history bytes))
    → Writes before now (told held history bytes) × (result ≡ verdict (refuses held history bytes)) × (now.input.left ≡ Some []) × (all ≡ rows ++ rows_added (answers_to held history bytes))
    × Opens path before.store.paths now.store.paths) (TellsBadRow rows all before now result))
run path bytes before now result p input calm some few =
    from_rows path before now (λ rows. (held : Held) → Follows (Some path) (plan_of (Some (runs path)) bytes held rows) bytes held rows before now result) _ (p.follows bytes (λ used. input))
    (λ rows all end f. run_by path bytes rows all before now result end calm some (history_of rows) few f)

pub long : (path bytes : List ℕ) (before now : Outside) (result : Status) → Promises (Some (runs path)) before now result
    → before.input.left ≡ Some bytes → AreCalm before now → result ≢ Memory → 2 ^ 32 ≤ length bytes
    → FromRows before now (λ rows all. ByStart (history_of rows) (λ history. result ≡ TooLong) (TellsBadRow rows all before now result))
long path bytes before now result p input calm some many =
    from_rows path before now (λ rows. (held : Held) → Follows (Some path) (plan_of (Some (runs path)) bytes held rows) bytes held rows before now result) _ (p.follows bytes (λ used. input))
    (λ rows all end f. long_by path bytes rows all before now result end calm some (history_of rows) many f)

exercise_by : (rounds : ℕ) (rows all : List Row) (before now : Outside) (result : Status) (t : Result (List Entry) ℕ) → now.store.rows ≡ Some all → AreCalm before now → result ≢ Memory
    → ((held : Held) → Follows (Some []) (over t (exercise_plan rounds)) [] held rows before now result)
    → ByStart t (λ history. Writes before now (summary history rounds) × (result ≡ Done) × (all ≡ rows ++ rows_of (exercise_rows history rounds)) × Opens [] before.store.paths now.store.paths) (TellsBadRow rows all before now result)
exercise_by rounds rows all before now result (Ok history) end calm some f =
    let events = exercise_events rounds in
    let w = (f nothing_held).whole asked calm some (λ never. absurd (false≢true never)) in (
      subst (Appends before.out.taken now.out.taken) (summed_text (start history) events (summary history rounds)) w.text,
      w.status,
      kept_rows [] rows all (exercise_plan rounds history).pieces (exercise_rows history rounds) before now end (summed_rows (start history) events (summary history rounds)) w.kept,
      w.opened,
    )
  where
    asked : AreTold before.files.content nothing_held (all_asks (exercise_plan rounds history).pieces)
    asked = subst (AreTold before.files.content nothing_held) (sym (summed_asks (start history) (exercise_events rounds) (summary history rounds))) tt
exercise_by rounds rows all before now result (Err index) end calm some f = bad_row [] [] nothing_held rows all index before now result end (f nothing_held)

pub exercise : (rounds : ℕ) (before now : Outside) (result : Status) → Promises (Some (exercises rounds)) before now result → AreCalm before now → result ≢ Memory
    → FromRows before now (λ rows all. ByStart (history_of rows) (λ history.
    Writes before now (summary history rounds) × (result ≡ Done) × (all ≡ rows ++ rows_of (exercise_rows history rounds)) × Opens [] before.store.paths now.store.paths) (TellsBadRow rows all before now result))
exercise rounds before now result p calm some =
    from_rows [] before now (λ rows. (held : Held) → Follows (Some []) (plan_of (Some (exercises rounds)) [] held rows) [] held rows before now result) _ (p.follows [] unread)
    (λ rows all end f. exercise_by rounds rows all before now result (history_of rows) end calm some f)

-- Files

pub asked_first : (names : List (List ℕ)) (p : Plan) (held : Held) (before : Outside) → all_asks p.pieces ≡ [] → AreTold before.files.content held names
    → AreTold before.files.content held (all_asks (asking_first names p).pieces)
asked_first names p held before none known = subst (AreTold before.files.content held) (sym (ap (λ (r : List (List ℕ)). names ++ r) none ∙ append-nil names)) known

-- what a backfill follows with whose files nothing is wrong
pub fine_plan : (path times : List ℕ) (names : List (List ℕ)) (held : Held) (before now : Outside) (result : Status) → Promises (Some (backfills path times names)) before now result
    → AreTold before.files.content held names → (all_rules held names).wrong ≡ []
    → FromStart (Some path) before now (λ rows. Follows (Some path) (asking_first names (loaded_plan [] (all_rules held names).files times (history_of rows))) [] held rows before now result)
fine_plan path times names held before now result p known fine =
    subst (λ (w : List ℕ). FromStart (if_fine path w) before now (λ rows.
    Follows (if_fine path w) (asking_first names (loaded_plan w (all_rules held names).files times (history_of rows))) [] held rows before now result)) fine (p.follows [] unread held known)

pub bad_fill : (path : List ℕ) (names : List (List ℕ)) (held : Held) (rows all : List Row) (index : ℕ) (before now : Outside) (result : Status) → now.store.rows ≡ Some all
    → AreTold before.files.content held names → Follows (Some path) (asking_first names (only (bad_row_text index) StoreFault)) [] held rows before now result → TellsBadRow rows all before now result index
bad_fill path names held rows all index before now result end known f =
    let asked = asked_first names (only (bad_row_text index) StoreFault) held before refl known in
    let front = f.front asked in (
      kept_rows path rows all (take front.begun (asking_first names (only (bad_row_text index) StoreFault)).pieces) [] before now end (none front.begun) front.kept ∙ append-nil rows,
      wrote front.begun front.count front.within front.text,
      λ calm some. let w = f.whole asked calm some (λ never. absurd (false≢true never)) in
          (w.status, subst (Appends before.out.taken now.out.taken) (lone_text (bad_row_text index)) w.text),
    )
  where
    none : (begun : ℕ) → all_rows (take begun (asking_first names (only (bad_row_text index) StoreFault)).pieces) ≡ []
    none zero = refl
    none (suc begun) = no_rows begun (bad_row_text index)

    wrote : (begun count : ℕ) → begun ≤ 2 → Appends before.out.taken now.out.taken (take count (all_text (take begun (asking_first names (only (bad_row_text index) StoreFault)).pieces)))
        → (n : ℕ) × Writes before now (take n (bad_row_text index))
    wrote zero count h a = (0, subst (Appends before.out.taken now.out.taken) (take_none count) a)
    wrote (suc zero) count h a = (0, subst (Appends before.out.taken now.out.taken) (take_none count) a)
    wrote (suc (suc zero)) count h a = (count, subst (λ (t : List ℕ). Appends before.out.taken now.out.taken (take count t)) (lone_text (bad_row_text index)) a)
    wrote (suc (suc (suc b))) count h a = absurd (omega (arith, h))

fill_by : (path times : List ℕ) (names : List (List ℕ)) (held : Held) (files : List LoadedFile) (rows all : List Row) (before now : Outside) (result : Status) (t : Result (List Entry) ℕ)
    → now.store.rows ≡ Some all → AreCalm before now → result ≢ Memory → AreTold before.files.content held names
    → Follows (Some path) (asking_first names (over t (λ history. fill_plan history (filled history files times)))) [] held rows before now result
    → ByStart t (λ history. Writes before now (fill_text (length history) (filled history files times)) × (result ≡ Done) × (all ≡ rows ++ rows_of (rows_filled (filled history files times)))
    × Opens path before.store.paths now.store.paths)
    (TellsBadRow rows all before now result)
fill_by path times names held files rows all before now result (Ok history) end calm some known f =
    let steps = filled history files times in
    let plan = fill_plan history steps in
    let w = f.whole (asked_first names plan held before (fill_asks history steps) known) calm some (λ never. absurd (false≢true never)) in (
      subst (Appends before.out.taken now.out.taken) (fill_whole_text history steps) w.text,
      w.status,
      kept_rows path rows all plan.pieces (rows_filled steps) before now end (fill_whole_rows history steps) w.kept,
      w.opened,
    )
fill_by path times names held files rows all before now result (Err index) end calm some known f = bad_fill path names held rows all index before now result end known f

pub backfill : (path times : List ℕ) (names : List (List ℕ)) (held : Held) (before now : Outside) (result : Status) → Promises (Some (backfills path times names)) before now result
    → AreTold before.files.content held names → (all_rules held names).wrong ≡ [] → AreCalm before now → result ≢ Memory
    → FromRows before now (λ rows all. ByStart (history_of rows) (λ history. Writes before now (fill_text (length history) (filled history (all_rules held names).files times)) × (result ≡ Done)
    × (all ≡ rows ++ rows_of (rows_filled (filled history (all_rules held names).files times))) × Opens path before.store.paths now.store.paths) (TellsBadRow rows all before now result))
backfill path times names held before now result p known fine calm some =
    from_rows path before now (λ rows. Follows (Some path) (asking_first names (loaded_plan [] (all_rules held names).files times (history_of rows))) [] held rows before now result) _
    (fine_plan path times names held before now result p known fine)
    (λ rows all end f. fill_by path times names held (all_rules held names).files rows all before now result (history_of rows) end calm some known f)

-- something is wrong with a file
refused_by : (path times : List ℕ) (names : List (List ℕ)) (held : Held) (files : List LoadedFile) (before now : Outside) (result : Status) (wrong : List ℕ) → AreTold before.files.content held names
    → AreCalm before now → result ≢ Memory → wrong ≢ []
    → FromStart (if_fine path wrong) before now (λ rows. Follows (if_fine path wrong) (asking_first names (loaded_plan wrong files times (history_of rows))) [] held rows before now result)
    → Writes before now wrong × (result ≡ Problem) × (now.store ≡ before.store)
refused_by path times names held files before now result [] known calm some bad f = absurd (bad refl)
refused_by path times names held files before now result (b ∷ wrong) known calm some bad f =
    let w = f.whole (asked_first names (only (b ∷ wrong) Problem) held before refl known) calm some (λ never. absurd (false≢true never)) in
    (subst (Appends before.out.taken now.out.taken) (lone_text (b ∷ wrong)) w.text, w.status, w.kept)

pub refused : (path times : List ℕ) (names : List (List ℕ)) (held : Held) (before now : Outside) (result : Status) → Promises (Some (backfills path times names)) before now result
    → AreTold before.files.content held names → AreCalm before now → result ≢ Memory → (all_rules held names).wrong ≢ []
    → Writes before now (all_rules held names).wrong × (result ≡ Problem) × (now.store ≡ before.store)
refused path times names held before now result p known calm some bad =
    refused_by path times names held (all_rules held names).files before now result (all_rules held names).wrong known calm some bad (p.follows [] unread held known)

pub told_asks : (tolds : List Told) (held : Held) (before : Outside) → AreTold before.files.content held (asked_of_files tolds) → AreTold before.files.content held (all_asks (files_plan tolds).pieces)
told_asks tolds held before known = subst (AreTold before.files.content held) (sym (files_asks tolds)) known

pub files : (tolds : List Told) (held : Held) (before now : Outside) (result : Status) → Follows None (files_plan tolds) [] held [] before now result
    → AreTold before.files.content held (asked_of_files tolds) → AreCalm before now → result ≢ Memory → Writes before now (texts tolds) × (result ≡ verdict (any_refused tolds))
files tolds held before now result f known calm some =
    let w = f.whole (told_asks tolds held before known) calm some (λ never. absurd (false≢true never)) in
    (subst (Appends before.out.taken now.out.taken) (files_text tolds) w.text, w.status)

pub metrics : (checked : Checked) (bytes : List ℕ) (before now : Outside) (result : Status) → ((held : Held) → Follows None (input_plan checked) bytes held [] before now result)
    → AreCalm before now → result ≢ Memory → length bytes < 2 ^ 32 → Writes before now checked.text × (result ≡ ends checked.verdict) × (now.input.left ≡ Some [])
metrics checked bytes before now result f calm some few =
    let w = (f nothing_held).whole tt calm some (λ reads. few) in
    (subst (Appends before.out.taken now.out.taken) (lone_text checked.text) w.text, w.status, w.read refl)

pub usage : (text : List ℕ) (before now : Outside) (result : Status) → ((held : Held) → Follows None (only text Usage) [] held [] before now result) → AreCalm before now → result ≢ Memory
    → Writes before now text × (result ≡ Usage)
usage text before now result f calm some =
    let w = (f nothing_held).whole tt calm some (λ never. absurd (false≢true never)) in
    (subst (Appends before.out.taken now.out.taken) (lone_text text) w.text, w.status)

-- The rows are told at the end
pub told_rows : (path : List ℕ) (rounds : ℕ) (before now : Outside) (result : Status) → Promises (Some (runs path)) before now result ⊎ Promises (Some (exercises rounds)) before now result
    → IsCalm before.store.faults now.store.faults → result ≢ Memory → IsTrue now.store.sound → IsSome now.store.rows
told_rows path rounds before now result (inl p) = p.told refl
told_rows path rounds before now result (inr p) = p.told refl
