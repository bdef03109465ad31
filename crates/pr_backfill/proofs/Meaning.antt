-- What a backfill promises, by how it ended.
use Rattle.std.proofs.Common.{◌≡◌, ◌≢◌, ℕ, Bool, List, [], ◌∷◌, Option, None, Some, IfSome, Result, Ok, Err, refl, ap, ◌∙◌, subst, take_all, arith}
use Rattle.std.specs.Io.KnownBytes.{Appends}
use Rattle.spec_rules.specs.spec_history.declared.entry.Entry.{Entry}
use Rattle.pr_outside.specs.Causes.{IsCalm, Rose}
use Rattle.pr_outside.specs.spec_history.declared.row.Row.{Row}
use Rattle.spec_rules.specs.spec_history.Histories.{history_of}
use Rattle.spec_rules.specs.Reloads.{LoadedFile}
use Rattle.pr_outside.specs.Ends.{Ends, StopsBy, place_of, status_of, stop_status}
use Rattle.pr_outside.specs.Outside.{Outside, AreCalm}
use Rattle.pr_outside.specs.declared.status.status.Status.{Status}
use Rattle.pr_outside.specs.declared.status.status.Status.TheVariants as status
use Rattle.pr_outside.specs.declared.status.status.Stop.{Stop}
use Rattle.pr_outside.specs.declared.status.status.Stop.TheVariants as stop
use Rattle.pr_outside.specs.Stores.{OverRows}
use Rattle.pr_text.specs.BadRows.{bad_row_text}
use Rattle.pr_backfill.specs.Filled.{FillStep, filled}
use Rattle.pr_backfill.specs.Means.{EndsBy, EndsInto, EndsOver, EndsRefused, EndsWith, FillsBy, FillsWith, IsWhole}

no_rise : (before now : ℕ) → IsCalm before now → Rose before now → ⊥
no_rise before now calm rose = omega (arith, calm.same, calm.below, rose)

module _ (before now : Outside) (bad : ℕ → Type 0) (result : Status) where
  -- Where no call was refused and memory sufficed, only a bad row stops it.
  by_calm : AreCalm before now → result ≢ status.Memory → (P : Type 0) (s : Stop) → result ≡ stop_status s → StopsBy {T = Bool} bad ⊥ before now (Err s)
      → ((index : ℕ) → s ≡ stop.BadRow index → P) → P
  by_calm calm some P stop.Read is c row = absurd (no_rise before.input.faults now.input.faults calm.input c.0)
  by_calm calm some P stop.Load is c row = absurd (no_rise before.files.faults now.files.faults calm.files c.1)
  by_calm calm some P stop.Store is c row = absurd (no_rise before.store.faults now.store.faults calm.store c.2)
  by_calm calm some P (stop.BadRow index) is c row = row index refl
  by_calm calm some P stop.Write is c row = absurd (no_rise before.out.faults now.out.faults calm.out c.3)
  by_calm calm some P stop.Memory is c row = absurd (some is)
  by_calm calm some P stop.TooLong is c row = absurd c.1

  over_by : (steps : List FillStep) (history : List Entry) (r : Result Bool Stop) → result ≡ status_of r → Ends bad ⊥ before now r → EndsOver steps history before now r
      → AreCalm before now → result ≢ status.Memory → (result ≡ status.Done) × IsWhole steps history before now
  over_by steps history (Ok refused) is e o calm some = (is ∙ ap (λ (b : Bool). status_of (Ok b)) o.whole.0, o.whole.1)
  over_by steps history (Err s) is e o calm some =
      by_calm calm some ((result ≡ status.Done) × IsWhole steps history before now) s is e.cause (λ index row. absurd (o.fine index (ap (λ (z : Stop). Err z) row)))

  into_by : (index : ℕ) (rows : List Row) (r : Result Bool Stop) → result ≡ status_of r → Ends bad ⊥ before now r → EndsInto index rows before now r
      → AreCalm before now → result ≢ status.Memory → (result ≡ status.StoreFault) × Appends before.out.taken now.out.taken (bad_row_text index)
  into_by index rows (Ok refused) is e o calm some = absurd (cc (o.stopped))
  into_by index rows (Err s) is e o calm some =
      by_calm calm some ((result ≡ status.StoreFault) × Appends before.out.taken now.out.taken (bad_row_text index)) s is e.cause (λ at row.
      let line = o.front.line at (ap (λ (z : Stop). place_of {T = Bool} (Err z)) row) in
      (is ∙ ap stop_status row, subst (Appends before.out.taken now.out.taken) (take_all o.front.count (bad_row_text index) line.1) o.front.text))

  refused_by : (lines : List ℕ) (r : Result Bool Stop) → result ≡ status_of r → Ends bad ⊥ before now r → EndsRefused lines before now r
      → AreCalm before now → result ≢ status.Memory → (result ≡ status.Problem) × Appends before.out.taken now.out.taken lines
  refused_by lines (Ok refused) is e o calm some = (is ∙ ap (λ (b : Bool). status_of (Ok b)) o.whole.0, o.whole.1)
  refused_by lines (Err s) is e o calm some =
      by_calm calm some ((result ≡ status.Problem) × Appends before.out.taken now.out.taken lines) s is e.cause (λ index row. absurd (o.fine index (ap (λ (z : Stop). Err z) row)))

  fills_by : (told : Result (List Entry) ℕ) (files : List LoadedFile) (times : List ℕ) (rows : List Row) (r : Result Bool Stop) → result ≡ status_of r
      → Ends bad ⊥ before now r → EndsBy told files times rows before now r → FillsBy told files times rows before now r result
  fills_by (Ok history) files times rows r is e o = record { done = o; told = over_by (filled history files times) history r is e o }
  fills_by (Err index) files times rows r is e o = record { done = o; told = into_by index rows r is e o }

  pub fills_with : (wrong : List ℕ) (files : List LoadedFile) (times : List ℕ) (r : Result Bool Stop) → result ≡ status_of r → Ends bad ⊥ before now r
      → EndsWith wrong files times before now r → FillsWith wrong files times before now r result
  fills_with [] files times r is e o = by now.store.rows o
    where
      by : (rows : Option (List Row)) → IfSome rows (λ all. OverRows before.store.rows all (λ rows. EndsBy (history_of rows) files times rows before now r))
          → IfSome rows (λ all. OverRows before.store.rows all (λ rows. FillsBy (history_of rows) files times rows before now r result))
      by None o = tt
      by (Some all) o = record { rows = o.rows; first = o.first; holds = fills_by (history_of o.rows) files times o.rows r is e o.holds }
  fills_with (b ∷ wrong) files times r is e o = record { done = o; told = refused_by (b ∷ wrong) r is e o }
