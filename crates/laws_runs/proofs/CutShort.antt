-- What the promise of the program gives where something cuts it short.
use Rattle.std.proofs.Common.{◌≡◌, ◌≢◌, ℕ, zero, suc, ◌+◌, ◌<◌, ◌≤◌, List, [], ◌∷◌, ◌++◌, length, length-append, take, take_all, flat_map, Some, None, Result, Ok, Err, ◌⊎◌, inl, inr, refl, sym, ap, ◌∙◌, subst, arith}
use Rattle.std.proofs.lemmas.Bool.{cases_lt}
use Rattle.std.proofs.lemmas.List.{length-map, take-take}
use Rattle.std.specs.Io.KnownBytes.{Appends}
use Rattle.pr_outside.specs.FileChecks.{Telling, all_asks as asked_of_files, all_told, texts}
use Rattle.pr_outside.specs.Outside.{AreTold, Held, Outside, StoreRose}
use Rattle.pr_outside.specs.Status.{HasCause}
use Rattle.pr_outside.specs.Stores.{IsBadIn}
use Rattle.pr_outside.specs.spec_history.declared.row.Row.{Row}
use Rattle.pr_outside.specs.declared.status.status.Status.{Status}
use Rattle.pr_outside.specs.declared.status.status.Status.TheVariants.{Problem, StoreFault}
use Rattle.spec_history.specs.Histories.{history_of}
use Rattle.spec_history.specs.declared.entry.Entry.{Entry}
use Rattle.spec_rules.specs.Settings.{of_a_run}
use Rattle.spec_world.specs.Step.{rows_of as entries_of}
use Rattle.spec_world.specs.World.{start}
use Rattle.pr_top.specs.Command.{backfills, exercises, runs}
use Rattle.pr_top.specs.Follows.{EndsAtBadRow, Follows, FromStart, IsFront, Promises, if_fine}
use Rattle.pr_top.specs.Plan.{Piece, all_rows, all_text, answering, asking_first, checking, exercise_plan, fill_plan, files_plan, loaded_plan, only, over, plan_of, script_plan}
use Rattle.pr_top.specs.pr_backfill.Filled.{FillStep, filled, rows_filled}
use Rattle.pr_top.specs.pr_backfill.Text.{begun_text, fill_text, step_text}
use Rattle.pr_top.specs.pr_backfill.pr_checks.RulesLoaded.{all_rules}
use Rattle.pr_top.specs.pr_exercise.Exercise.{exercise_events}
use Rattle.pr_top.specs.pr_exercise.Summary.{summary}
use Rattle.pr_top.specs.pr_run.Told.{OrderAnswer, answers_to, asks_of, told_of}
use Rattle.pr_top.specs.pr_text.BadRows.{TellsRow, bad_row_text}
use Rattle.pr_top.specs.pr_text.spec_rules.Reloads.{LoadedFile}
use Rattle.pr_top.proofs.Plans.{begun_front, files_front, fill_asks, fill_front_rows, fill_front_text, fill_length, fill_whole_rows, fill_whole_text, lone_text, script_asks, script_front, script_rows_front, summed_asks, summed_front_rows, summed_front_text, summed_length, summed_rows, summed_text}
use Rattle.laws_runs.specs.private.Headline.{ByStart, FromRows, TellsBadRow, Writes, rows_added, rows_of}
use Rattle.laws_runs.proofs.Premises.{asked_first, bad_fill, bad_row, fine_plan, from_rows, kept_rows, nothing_held, take_none, told_asks, unread}

-- A run

module _ (path bytes : List ℕ) (rows all : List Row) (history : List Entry) (held : Held) (before now : Outside) (end : now.store.rows ≡ Some all) where
  abbrev the_answers : List OrderAnswer
  the_answers = answers_to held history bytes

  abbrev IsCut : ℕ → ℕ → Type 0
  IsCut k n = (k ≤ length the_answers) × Writes before now (take n (told_of history (take k the_answers))) × (all ≡ rows ++ rows_added (take k the_answers))
      × ((j : ℕ) → j + 1 ≡ k → length (told_of history (take j the_answers)) ≤ n)

  cut_at : (f : IsFront (Some path) (script_plan history the_answers).pieces rows before now) → (begun : ℕ) → f.begun ≡ begun → (k : ℕ) × (n : ℕ) × IsCut k n
  cut_at f zero is =
      let text = subst (λ (b : ℕ). Appends before.out.taken now.out.taken (take f.count (all_text (take b (script_plan history the_answers).pieces)))) is f.text in (
        0,
        0,
        (
          omega arith,
          subst (Appends before.out.taken now.out.taken) (take_none f.count) text,
          kept_rows path rows all (take f.begun (script_plan history the_answers).pieces) [] before now end (ap (λ (b : ℕ). all_rows (take b (script_plan history the_answers).pieces)) is) f.kept,
          λ j none. absurd (omega (arith, none)),
        ),
      )
  cut_at f (suc k) is =
      let pieces = (script_plan history the_answers).pieces in
      let text = subst (λ (b : ℕ). Appends before.out.taken now.out.taken (take f.count (all_text (take b pieces)))) is f.text in (
        k,
        f.count,
        (
          omega (arith, is, f.within, length-map the_answers answering),
          subst (λ (t : List ℕ). Appends before.out.taken now.out.taken (take f.count t)) (script_front history the_answers k) text,
          kept_rows path rows all (take f.begun pieces) (flat_map (λ (a : OrderAnswer). a.rows) (take k the_answers)) before now end
              (ap (λ (b : ℕ). all_rows (take b pieces)) is ∙ script_rows_front history the_answers k) f.kept,
          λ j last. subst (λ (t : List ℕ). length t ≤ f.count) (script_front history the_answers j) (f.done (suc j) (omega (arith, last, is))),
        ),
      )

cut_by : (path bytes : List ℕ) (rows all : List Row) (before now : Outside) (result : Status) (t : Result (List Entry) ℕ) → now.store.rows ≡ Some all
    → ((held : Held) → Follows (Some path) (over t (λ history. script_plan history (answers_to held history bytes))) bytes held rows before now result)
    → ByStart t (λ history. (held : Held) → AreTold before.files.content held (asks_of (answers_to held history bytes))
    → (k : ℕ) × (n : ℕ) × (k ≤ length (answers_to held history bytes)) × Writes before now (take n (told_of history (take k (answers_to held history bytes))))
    × (all ≡ rows ++ rows_added (take k (answers_to held history bytes))) × ((j : ℕ) → j + 1 ≡ k → length (told_of history (take j (answers_to held history bytes))) ≤ n))
    (TellsBadRow rows all before now result)
cut_by path bytes rows all before now result (Ok history) end f = λ held known.
    let front = (f held).front (subst (AreTold before.files.content held) (sym (script_asks history (answers_to held history bytes))) known) in
    let cut = cut_at path bytes rows all history held before now end front front.begun refl in
    (cut.0, cut.1, cut.2.0, cut.2.1, cut.2.2, cut.2.3)
cut_by path bytes rows all before now result (Err index) end f = bad_row path bytes nothing_held rows all index before now result end (f nothing_held)

pub cut : (path bytes : List ℕ) (before now : Outside) (result : Status) → Promises (Some (runs path)) before now result → before.input.left ≡ Some bytes
    → FromRows before now (λ rows all. ByStart (history_of rows) (λ history. (held : Held) → AreTold before.files.content held (asks_of (answers_to held history bytes))
    → (k : ℕ) × (n : ℕ) × (k ≤ length (answers_to held history bytes)) × Writes before now (take n (told_of history (take k (answers_to held history bytes))))
    × (all ≡ rows ++ rows_added (take k (answers_to held history bytes))) × ((j : ℕ) → j + 1 ≡ k → length (told_of history (take j (answers_to held history bytes))) ≤ n))
    (TellsBadRow rows all before now result))
cut path bytes before now result p input =
    from_rows path before now (λ rows. (held : Held) → Follows (Some path) (plan_of (Some (runs path)) bytes held rows) bytes held rows before now result) _ (p.follows bytes (λ used. input))
    (λ rows all end f. cut_by path bytes rows all before now result (history_of rows) end f)

-- An exercise

module _ (rounds : ℕ) (rows all : List Row) (history : List Entry) (before now : Outside) (end : now.store.rows ≡ Some all) (f : IsFront (Some []) (exercise_plan rounds history).pieces rows before now) where
  abbrev event_count : ℕ
  event_count = length (exercise_events rounds)

  abbrev sum : List ℕ
  sum = summary history rounds

  abbrev IsCutExercise : ℕ → ℕ → Type 0
  IsCutExercise k n = (k ≤ event_count) × Writes before now (take n sum) × (all ≡ rows ++ rows_of (entries_of of_a_run (start history) (take k (exercise_events rounds)))) × (k < event_count → n ≡ 0)

  cut_exercise : (k : ℕ) × (n : ℕ) × IsCutExercise k n
  cut_exercise = elim (cases_lt event_count f.begun) [
    | inr part ↦ (
      f.begun,
      0,
      (
        part,
        subst (Appends before.out.taken now.out.taken) (ap (take f.count) (summed_front_text (start history) (exercise_events rounds) sum f.begun part) ∙ take_none f.count) f.text,
        kept_rows [] rows all (take f.begun (exercise_plan rounds history).pieces) (entries_of of_a_run (start history) (take f.begun (exercise_events rounds))) before now end
            (summed_front_rows (start history) (exercise_events rounds) sum f.begun part) f.kept,
        λ less. refl,
      ),
    )
    | inl more ↦
        let pieces = (exercise_plan rounds history).pieces in
        let whole : take f.begun pieces ≡ pieces = take_all f.begun pieces (omega (arith, more, summed_length (start history) (exercise_events rounds) sum)) in (
          event_count,
          f.count,
          (
            omega arith,
            subst (λ (t : List ℕ). Appends before.out.taken now.out.taken (take f.count t)) (ap all_text whole ∙ summed_text (start history) (exercise_events rounds) sum) f.text,
            kept_rows [] rows all (take f.begun pieces) (entries_of of_a_run (start history) (take event_count (exercise_events rounds))) before now end
                (ap all_rows whole ∙ summed_rows (start history) (exercise_events rounds) sum
                ∙ ap (entries_of of_a_run (start history)) (sym (take_all event_count (exercise_events rounds) (omega arith)))) f.kept,
            λ less. absurd (omega (arith, less)),
          ),
        )
  ]

exercise_by : (rounds : ℕ) (rows all : List Row) (before now : Outside) (result : Status) (t : Result (List Entry) ℕ) → now.store.rows ≡ Some all
    → ((held : Held) → Follows (Some []) (over t (exercise_plan rounds)) [] held rows before now result)
    → ByStart t (λ history. (k : ℕ) × (n : ℕ) × (k ≤ length (exercise_events rounds)) × Writes before now (take n (summary history rounds))
    × (all ≡ rows ++ rows_of (entries_of of_a_run (start history) (take k (exercise_events rounds)))) × (k < length (exercise_events rounds) → n ≡ 0)) (TellsBadRow rows all before now result)
exercise_by rounds rows all before now result (Ok history) end f =
    let cut = cut_exercise rounds rows all history before now end ((f nothing_held).front (subst (AreTold before.files.content nothing_held) (sym (summed_asks (start history) (exercise_events rounds) (summary history rounds))) tt)) in
    (cut.0, cut.1, cut.2.0, cut.2.1, cut.2.2, cut.2.3)
exercise_by rounds rows all before now result (Err index) end f = bad_row [] [] nothing_held rows all index before now result end (f nothing_held)

pub exercise : (rounds : ℕ) (before now : Outside) (result : Status) → Promises (Some (exercises rounds)) before now result
    → FromRows before now (λ rows all. ByStart (history_of rows) (λ history. (k : ℕ) × (n : ℕ) × (k ≤ length (exercise_events rounds)) × Writes before now (take n (summary history rounds))
    × (all ≡ rows ++ rows_of (entries_of of_a_run (start history) (take k (exercise_events rounds)))) × (k < length (exercise_events rounds) → n ≡ 0)) (TellsBadRow rows all before now result))
exercise rounds before now result p =
    from_rows [] before now (λ rows. (held : Held) → Follows (Some []) (plan_of (Some (exercises rounds)) [] held rows) [] held rows before now result) _ (p.follows [] unread)
    (λ rows all end f. exercise_by rounds rows all before now result (history_of rows) end f)

-- A backfill

text_grows : (steps : List FillStep) (j : ℕ) → length (flat_map step_text (take j steps)) ≤ length (flat_map step_text steps)
text_grows steps zero = omega arith
text_grows [] (suc j) = omega arith
text_grows (s ∷ steps) (suc j) =
    omega (arith, text_grows steps j, length-append (step_text s) (flat_map step_text (take j steps)), length-append (step_text s) (flat_map step_text steps))

behind_grows : (a b c : List ℕ) → length b ≤ length c → length (a ++ b) ≤ length (a ++ c)
behind_grows a b c h = omega (arith, h, length-append a b, length-append a c)

begun_grows : (size : ℕ) (done : List FillStep) (j : ℕ) → length (begun_text size (take j done)) ≤ length (begun_text size done)
begun_grows size done j = behind_grows _ (flat_map step_text (take j done)) (flat_map step_text done) (text_grows done j)

module _ (path : List ℕ) (names : List (List ℕ)) (rows all : List Row) (history : List Entry) (fills : List FillStep) (before now : Outside) (end : now.store.rows ≡ Some all)
    (f : IsFront (Some path) (asking_first names (fill_plan history fills)).pieces rows before now) where
  abbrev size : ℕ
  size = length history

  abbrev fill_pieces : List Piece
  fill_pieces = (asking_first names (fill_plan history fills)).pieces

  abbrev IsCutFill : ℕ → ℕ → Type 0
  IsCutFill k n = (k ≤ length fills) × Writes before now (take n (fill_text size fills)) × (all ≡ rows ++ rows_of (rows_filled (take k fills)))
      × ((j : ℕ) → j + 1 ≡ k → length (begun_text size (take j fills)) ≤ n) × (k < length fills → n ≤ length (begun_text size (take k fills)))

  -- nothing but the files was asked for
  cut_before : (text : List ℕ) → text ≡ [] → Appends before.out.taken now.out.taken (take f.count text) → all ≡ rows ++ rows_of [] → IsCutFill 0 0
  cut_before text none a kept = (
    omega arith,
    subst (Appends before.out.taken now.out.taken) (ap (take f.count) none ∙ take_none f.count) a,
    kept,
    λ j last. absurd (omega (arith, last)),
    λ less. omega arith,
  )

  -- some evaluations
  cut_part : (k : ℕ) → f.begun ≡ suc (suc k) → k ≤ length fills → (n : ℕ) × IsCutFill k n
  cut_part k is within = elim (cases_lt (length (begun_text size (take k fills))) f.count) [
    | inr short ↦ (
      f.count,
      (
        within,
        subst (Appends before.out.taken now.out.taken) (sym (begun_front history fills k f.count short)) text,
        kept,
        λ j last. done j last,
        λ less. short,
      ),
    )
    | inl long ↦
        let n = length (begun_text size (take k fills)) in (
          n,
          (
            within,
            subst (Appends before.out.taken now.out.taken) (take_all f.count (begun_text size (take k fills)) (omega (arith, long)) ∙ sym (take_all n (begun_text size (take k fills)) (omega arith))
                ∙ sym (begun_front history fills k n (omega arith))) text,
            kept,
            λ j last. subst (λ (ss : List FillStep). length (begun_text size ss) ≤ n) (take-take j k fills (omega (arith, last))) (begun_grows size (take k fills) j),
            λ less. omega arith,
          ),
        )
  ]
    where
      text : Appends before.out.taken now.out.taken (take f.count (begun_text size (take k fills)))
      text = subst (λ (t : List ℕ). Appends before.out.taken now.out.taken (take f.count t)) (ap (λ (b : ℕ). all_text (take b fill_pieces)) is ∙ fill_front_text history fills k within) f.text

      kept : all ≡ rows ++ rows_of (rows_filled (take k fills))
      kept = kept_rows path rows all (take f.begun fill_pieces) (rows_filled (take k fills)) before now end (ap (λ (b : ℕ). all_rows (take b fill_pieces)) is ∙ fill_front_rows history fills k within) f.kept

      done : (j : ℕ) → j + 1 ≡ k → length (begun_text size (take j fills)) ≤ f.count
      done j last = subst (λ (t : List ℕ). length t ≤ f.count) (fill_front_text history fills j (omega (arith, last, within))) (f.done (suc (suc j)) (omega (arith, last, is)))

  -- all of them, and the last line
  cut_all : length fills + 2 < f.begun → IsCutFill (length fills) f.count
  cut_all more =
      let whole : take f.begun fill_pieces ≡ fill_pieces = take_all f.begun fill_pieces (omega (arith, more, fill_length history fills)) in (
        omega arith,
        subst (λ (t : List ℕ). Appends before.out.taken now.out.taken (take f.count t)) (ap all_text whole ∙ fill_whole_text history fills) f.text,
        kept_rows path rows all (take f.begun fill_pieces) (rows_filled (take (length fills) fills)) before now end
            (ap all_rows whole ∙ fill_whole_rows history fills ∙ ap rows_filled (sym (take_all (length fills) fills (omega arith)))) f.kept,
        λ j last. done j last,
        λ less. absurd (omega (arith, less)),
      )
    where
      last_but_one : suc (suc (length fills)) + 1 ≡ f.begun
      last_but_one = omega (arith, more, f.within, fill_length history fills)

      done : (j : ℕ) → j + 1 ≡ length fills → length (begun_text size (take j fills)) ≤ f.count
      done j last =
          let all_begun : length (begun_text size (take (length fills) fills)) ≤ f.count =
          subst (λ (t : List ℕ). length t ≤ f.count) (fill_front_text history fills (length fills) (omega arith)) (f.done (suc (suc (length fills))) last_but_one) in
          let same : take (length fills) fills ≡ fills = take_all (length fills) fills (omega arith) in
          omega (arith, begun_grows size fills j, subst (λ (ss : List FillStep). length (begun_text size ss) ≤ f.count) same all_begun)

  cut_fill : (begun : ℕ) → f.begun ≡ begun → (k : ℕ) × (n : ℕ) × IsCutFill k n
  cut_fill zero is = (
    0,
    0,
    cut_before (all_text (take f.begun fill_pieces)) (ap (λ (b : ℕ). all_text (take b fill_pieces)) is) f.text
        (kept_rows path rows all (take f.begun fill_pieces) [] before now end (ap (λ (b : ℕ). all_rows (take b fill_pieces)) is) f.kept),
  )
  cut_fill (suc zero) is = (
    0,
    0,
    cut_before (all_text (take f.begun fill_pieces)) (ap (λ (b : ℕ). all_text (take b fill_pieces)) is) f.text
        (kept_rows path rows all (take f.begun fill_pieces) [] before now end (ap (λ (b : ℕ). all_rows (take b fill_pieces)) is) f.kept),
  )
  cut_fill (suc (suc k)) is = elim (cases_lt (length fills) k) [
    | inr within ↦ let cut = cut_part k is within in (k, cut.0, cut.1)
    | inl more ↦ (length fills, f.count, cut_all (omega (arith, is, more)))
  ]

fill_by : (path times : List ℕ) (names : List (List ℕ)) (held : Held) (files : List LoadedFile) (rows all : List Row) (before now : Outside) (result : Status) (t : Result (List Entry) ℕ)
    → now.store.rows ≡ Some all → AreTold before.files.content held names
    → Follows (Some path) (asking_first names (over t (λ history. fill_plan history (filled history files times)))) [] held rows before now result
    → ByStart t (λ history. (k : ℕ) × (n : ℕ) × (k ≤ length (filled history files times)) × Writes before now (take n (fill_text (length history) (filled history files times)))
    × (all ≡ rows ++ rows_of (rows_filled (take k (filled history files times))))
    × ((j : ℕ) → j + 1 ≡ k → length (begun_text (length history) (take j (filled history files times))) ≤ n)
    × (k < length (filled history files times) → n ≤ length (begun_text (length history) (take k (filled history files times))))) (TellsBadRow rows all before now result)
fill_by path times names held files rows all before now result (Ok history) end known f =
    let fills = filled history files times in
    let front = f.front (asked_first names (fill_plan history fills) held before (fill_asks history fills) known) in
    let cut = cut_fill path names rows all history fills before now end front front.begun refl in
    (cut.0, cut.1, cut.2.0, cut.2.1, cut.2.2, cut.2.3, cut.2.4)
fill_by path times names held files rows all before now result (Err index) end known f = bad_fill path names held rows all index before now result end known f

pub backfill : (path times : List ℕ) (names : List (List ℕ)) (held : Held) (before now : Outside) (result : Status) → Promises (Some (backfills path times names)) before now result
    → AreTold before.files.content held names → (all_rules held names).wrong ≡ []
    → FromRows before now (λ rows all. ByStart (history_of rows) (λ history. (k : ℕ) × (n : ℕ) × (k ≤ length (filled history (all_rules held names).files times))
    × Writes before now (take n (fill_text (length history) (filled history (all_rules held names).files times)))
    × (all ≡ rows ++ rows_of (rows_filled (take k (filled history (all_rules held names).files times))))
    × ((j : ℕ) → j + 1 ≡ k → length (begun_text (length history) (take j (filled history (all_rules held names).files times))) ≤ n)
    × (k < length (filled history (all_rules held names).files times) → n ≤ length (begun_text (length history) (take k (filled history (all_rules held names).files times)))))
    (TellsBadRow rows all before now result))
backfill path times names held before now result p known fine =
    from_rows path before now (λ rows. Follows (Some path) (asking_first names (loaded_plan [] (all_rules held names).files times (history_of rows))) [] held rows before now result) _
    (fine_plan path times names held before now result p known fine)
    (λ rows all end f. fill_by path times names held (all_rules held names).files rows all before now result (history_of rows) end known f)

refused_by : (path times : List ℕ) (names : List (List ℕ)) (held : Held) (files : List LoadedFile) (before now : Outside) (result : Status) (wrong : List ℕ) → AreTold before.files.content held names → wrong ≢ []
    → FromStart (if_fine path wrong) before now (λ rows. Follows (if_fine path wrong) (asking_first names (loaded_plan wrong files times (history_of rows))) [] held rows before now result)
    → ((n : ℕ) × Writes before now (take n wrong)) × (now.store ≡ before.store)
refused_by path times names held files before now result [] known bad f = absurd (bad refl)
refused_by path times names held files before now result (b ∷ wrong) known bad f =
    let front = f.front (asked_first names (only (b ∷ wrong) Problem) held before refl known) in
    (by front.begun front.count front.within front.text, front.kept)
  where
    by : (begun count : ℕ) → begun ≤ 2 → Appends before.out.taken now.out.taken (take count (all_text (take begun (asking_first names (only (b ∷ wrong) Problem)).pieces)))
        → (n : ℕ) × Writes before now (take n (b ∷ wrong))
    by zero count h a = (0, subst (Appends before.out.taken now.out.taken) (take_none count) a)
    by (suc zero) count h a = (0, subst (Appends before.out.taken now.out.taken) (take_none count) a)
    by (suc (suc zero)) count h a = (count, subst (λ (t : List ℕ). Appends before.out.taken now.out.taken (take count t)) (lone_text (b ∷ wrong)) a)
    by (suc (suc (suc more))) count h a = absurd (omega (arith, h))

pub refused : (path times : List ℕ) (names : List (List ℕ)) (held : Held) (before now : Outside) (result : Status) → Promises (Some (backfills path times names)) before now result
    → AreTold before.files.content held names → (all_rules held names).wrong ≢ [] → ((n : ℕ) × Writes before now (take n (all_rules held names).wrong)) × (now.store ≡ before.store)
refused path times names held before now result p known bad =
    refused_by path times names held (all_rules held names).files before now result (all_rules held names).wrong known bad (p.follows [] unread held known)

-- Files

pub files : (telling : Telling) (names : List (List ℕ)) (held : Held) (before now : Outside) (result : Status) → Follows None (files_plan (all_told telling held names)) [] held [] before now result
    → AreTold before.files.content held (asked_of_files (all_told telling held names))
    → (k : ℕ) × (n : ℕ) × (k ≤ length names) × Writes before now (take n (texts (take k (all_told telling held names))))
    × ((j : ℕ) → j + 1 ≡ k → length (texts (take j (all_told telling held names))) ≤ n)
files telling names held before now result f known =
    let tolds = all_told telling held names in
    let front = f.front (told_asks tolds held before known) in (
      front.begun,
      front.count,
      omega (arith, front.within, length-map tolds checking, length-map names (telling held)),
      subst (λ (t : List ℕ). Appends before.out.taken now.out.taken (take front.count t)) (files_front tolds front.begun) front.text,
      λ j last. subst (λ (t : List ℕ). length t ≤ front.count) (files_front tolds j) (front.done j last),
    )

-- A store of which nothing is known

pub row : (path : List ℕ) (before now : Outside) (result : Status) → Promises (Some (runs path)) before now result → result ≡ StoreFault
    → StoreRose before now ⊎ ((index : ℕ) × IsBadIn now.store index × TellsRow index before.out.taken now.out.taken)
row path before now result p six = elim (subst (HasCause (EndsAtBadRow (Some (runs path)) before now) before now) six p.cause) [
  | inl rose ↦ inl rose
  | inr bad ↦ inr bad.1
]

pub lone_row : (path times : List ℕ) (names : List (List ℕ)) (rounds : ℕ) (before now : Outside) (result : Status)
    → Promises (Some (exercises rounds)) before now result ⊎ Promises (Some (backfills path times names)) before now result → result ≡ StoreFault
    → StoreRose before now ⊎ ((index : ℕ) × IsBadIn now.store index × Writes before now (bad_row_text index))
lone_row path times names rounds before now result (inl p) six = elim (subst (HasCause (EndsAtBadRow (Some (exercises rounds)) before now) before now) six p.cause) [
  | inl rose ↦ inl rose
  | inr bad ↦ inr bad.1
]
lone_row path times names rounds before now result (inr p) six = elim (subst (HasCause (EndsAtBadRow (Some (backfills path times names)) before now) before now) six p.cause) [
  | inl rose ↦ inl rose
  | inr bad ↦ inr bad.1
]
