-- A restart behind an event that ended in an error.
use Rattle.std.proofs.Common.{◌≡◌, ℕ, Bool, true, false, List, map, Option, Some, None, IfSome, IsSome, Ok, refl, sym, ap, ◌∙◌}
use Rattle.pr_outside.specs.spec_history.declared.row.Row.{Row}
use Rattle.pr_outside.specs.private.Kept.{KeepsRows}
use Rattle.spec_history.specs.Histories.{history_of}
use Rattle.spec_history.specs.Rows.{encoded}
use Rattle.spec_history.specs.declared.entry.Entry.{Entry}
use Rattle.spec_rules.specs.Settings.{Settings}
use Rattle.spec_world.specs.Step.{next}
use Rattle.spec_world.specs.World.{World, begin}
use Rattle.spec_world.specs.declared.event.Event.TheVariants.{Restart}
use Rattle.spec_world.specs.declared.report.Report.{Report}
use Rattle.spec_world.specs.private.Laws.{is_refusal}
use Rattle.spec_world.proofs.Refusals.{refusal_is_told}
use Rattle.spec_world.proofs.Steps.{restarted, step_refused}

-- one that is accepted leaves the history alone
pub begins_anew : (s : Settings) (w : World) (time : ℕ) (report : Report) → report ≡ (next s w (Restart time)).report → is_refusal report ≡ false
    → (next s w (Restart time)).world ≡ begin (Some time) w.history
begins_anew s w time report is fine = restarted s w time (sym (refusal_is_told s w (Restart time)) ∙ sym (ap is_refusal is) ∙ fine)

-- one that is refused leaves all
pub history_stays : (s : Settings) (w : World) (time : ℕ) → (next s w (Restart time)).world.history ≡ w.history
history_stays s w time = by (next s w (Restart time)).refused refl where
  by : (b : Bool) → (next s w (Restart time)).refused ≡ b → (next s w (Restart time)).world.history ≡ w.history
  by true h = ap (λ (z : World). z.history) (step_refused s w (Restart time) h).0
  by false h = ap (λ (z : World). z.history) (restarted s w time h)

-- rows that tell one history before and after are the same
pub rows_stay : ((rows : List Row) (history : List Entry) → history_of rows ≡ Ok history → rows ≡ map encoded history) → (history : List Entry) (old mid new : Option (List Row))
    → KeepsRows old mid → (IsSome new → IsSome mid) → IfSome mid (λ rows. history_of rows ≡ Ok history)
    → (IsSome new → IfSome new (λ rows. history_of rows ≡ Ok history)) → KeepsRows old new
rows_stay encodings history old mid None kept told before after = tt
rows_stay encodings history old None (Some now) kept told before after = absurd (let z = told refl in cc)
rows_stay encodings history None (Some rows) (Some now) kept told before after = absurd kept
rows_stay encodings history (Some given) (Some rows) (Some now) kept told before after = encodings now history (after refl) ∙ sym (encodings rows history before) ∙ kept
