-- What an exercise promises, by how it ended.
use Rattle.std.proofs.Common.{◌≡◌, ◌≢◌, ℕ, List, [], Option, None, Some, IfSome, Result, Ok, Err, refl, ap, ◌∙◌, subst, take_all, arith}
use Rattle.std.specs.Io.KnownBytes.{Appends}
use Rattle.pr_text.specs.spec_history.declared.entry.Entry.{Entry}
use Rattle.pr_outside.specs.Causes.{IsCalm, Rose}
use Rattle.pr_outside.specs.spec_history.declared.row.Row.{Row}
use Rattle.pr_text.specs.spec_history.Histories.{history_of}
use Rattle.pr_outside.specs.Ends.{Ends, StopsBy, place_of, stop_status}
use Rattle.pr_outside.specs.Opening.{OpensBy}
use Rattle.pr_outside.specs.Outside.{Outside, AreCalm}
use Rattle.pr_outside.specs.declared.status.status.Status.{Status}
use Rattle.pr_outside.specs.declared.status.status.Status.TheVariants as status
use Rattle.pr_outside.specs.declared.status.status.Stop.{Stop}
use Rattle.pr_outside.specs.declared.status.status.Stop.TheVariants as stop
use Rattle.pr_outside.specs.Stores.{IsBadIn, OverRows, StartsTelling}
use Rattle.pr_text.specs.BadRows.{bad_row_text}
use Rattle.pr_exercise.specs.Means.{EndsBy, EndsInto, EndsOver, ExercisesBy, IsWhole, MeansExercise, exercise_status}

no_rise : (before now : ℕ) → IsCalm before now → Rose before now → ⊥
no_rise before now calm rose = omega (arith, calm.same, calm.below, rose)

module _ (before now : Outside) (bad : ℕ → Type 0) (result : Status) (calm : AreCalm before now) (some : result ≢ status.Memory) where
  -- Where no call was refused and memory sufficed, only a bad row stops it.
  by_calm : (P : Type 0) (s : Stop) → result ≡ stop_status s → StopsBy {T = Unit} bad ⊥ before now (Err s) → ((index : ℕ) → s ≡ stop.BadRow index → P) → P
  by_calm P stop.Read is c row = absurd (no_rise before.input.faults now.input.faults calm.input c.0)
  by_calm P stop.Load is c row = absurd (no_rise before.files.faults now.files.faults calm.files c.1)
  by_calm P stop.Store is c row = absurd (no_rise before.store.faults now.store.faults calm.store c.2)
  by_calm P (stop.BadRow index) is c row = row index refl
  by_calm P stop.Write is c row = absurd (no_rise before.out.faults now.out.faults calm.out c.3)
  by_calm P stop.Memory is c row = absurd (some is)
  by_calm P stop.TooLong is c row = absurd c.1

  over_by : (rounds : ℕ) (history : List Entry) (r : Result Unit Stop) → result ≡ exercise_status r → Ends bad ⊥ before now r → EndsOver rounds history before now r
      → (result ≡ status.Done) × IsWhole rounds history before now
  over_by rounds history (Ok done) is e o = (is, o.whole)
  over_by rounds history (Err s) is e o =
      by_calm ((result ≡ status.Done) × IsWhole rounds history before now) s is e.cause (λ index row. absurd (o.fine index (ap (λ (z : Stop). Err z) row)))

  into_by : (index : ℕ) (rows : List Row) (r : Result Unit Stop) → result ≡ exercise_status r → Ends bad ⊥ before now r → EndsInto index rows before now r
      → (result ≡ status.StoreFault) × Appends before.out.taken now.out.taken (bad_row_text index)
  into_by index rows (Ok done) is e o = absurd (cc (o.stopped))
  into_by index rows (Err s) is e o =
      by_calm ((result ≡ status.StoreFault) × Appends before.out.taken now.out.taken (bad_row_text index)) s is e.cause (λ at row.
      let line = o.front.line at (ap (λ (z : Stop). place_of {T = Unit} (Err z)) row) in
      (is ∙ ap stop_status row, subst (Appends before.out.taken now.out.taken) (take_all o.front.count (bad_row_text index) line.1) o.front.text))

exercises_by : (before now : Outside) (bad : ℕ → Type 0) (result : Status) (told : Result (List Entry) ℕ) (rounds : ℕ) (rows : List Row) (r : Result Unit Stop) → result ≡ exercise_status r
    → Ends bad ⊥ before now r → EndsBy told rounds rows before now r → ExercisesBy told rounds rows before now r result
exercises_by before now bad result (Ok history) rounds rows r is e o = record { done = o; told = λ calm some. over_by before now bad result calm some rounds history r is e o }
exercises_by before now bad result (Err index) rounds rows r is e o = record { done = o; told = λ calm some. into_by before now bad result calm some index rows r is e o }

if_rows : (o : Option (List Row)) (P Q : List Row → Type 0) → ((rows : List Row) → P rows → Q rows) → IfSome o P → IfSome o Q
if_rows None P Q f p = tt
if_rows (Some rows) P Q f p = f rows p

pub means_exercise : (rounds : ℕ) (before now : Outside) (r : Result Unit Stop) (result : Status) → result ≡ exercise_status r → Ends (IsBadIn now.store) ⊥ before now r
    → OpensBy [] before.store.paths now.store.paths r → StartsTelling before.store now.store r → ((index : ℕ) → r ≡ Err (stop.BadRow index) → Appends before.out.taken now.out.taken (bad_row_text index))
    → IfSome now.store.rows (λ all. OverRows before.store.rows all (λ rows. EndsBy (history_of rows) rounds rows before now r)) → MeansExercise rounds before now result
means_exercise rounds before now r result is e opens tells row over = record {
  ending = r;
  answer = is;
  ends = e;
  opens = opens;
  tells = tells;
  row = row;
  over = if_rows now.store.rows (λ all. OverRows before.store.rows all (λ rows. EndsBy (history_of rows) rounds rows before now r))
      (λ all. OverRows before.store.rows all (λ rows. ExercisesBy (history_of rows) rounds rows before now r result))
      (λ all o. record {
        rows = o.rows;
        first = o.first;
        holds = exercises_by before now (IsBadIn now.store) result (history_of o.rows) rounds o.rows r is e o.holds;
      }) over;
}
