-- How a run begins.
use Rattle.std.proofs.Common.{◌≡◌, ℕ, List, [], Option, Some, None, Result, Ok, Err, IfSome, OnErr, sym, ap, ◌∙◌, subst, length, take}
use Rattle.std.specs.Io.KnownBytes.{Appends}
use Rattle.pr_queue.specs.spec_history.declared.entry.Entry.{Entry}
use Rattle.pr_outside.specs.spec_history.declared.row.Row.{Row}
use Rattle.pr_queue.specs.spec_history.Histories.{history_of}
use Rattle.pr_outside.specs.declared.status.status.Stop.{Stop}
use Rattle.pr_text.specs.Printed.{shown_report}
use Rattle.pr_text.specs.spec_world.declared.report.Report.TheVariants.{Opened}
use Rattle.pr_run.specs.private.Beginning.{first_text}
use Rattle.pr_text.specs.BadRows.{bad_row_text}
use Rattle.pr_run.specs.Told.{told_of}
use Rattle.pr_run.proofs.Turns.{told_none}

-- a front of the first line, by what the rows tell
abbrev pub IsFirst : {T : Type 0} → Option (List Row) → Result T Stop → Option (List ℕ) → Option (List ℕ) → Type 0
IsFirst rows r old new = IfSome rows (λ rs. OnErr r ((n : ℕ) × Appends old new (take n (first_text (history_of rs)))))

module _ (T : Type 0) (old new : Option (List ℕ)) (n : ℕ) where
  first_by : (rows : Option (List Row)) (r : Result T Stop) (told : Result (List Entry) ℕ) → IfSome rows (λ rs. history_of rs ≡ told) → Appends old new (take n (first_text told)) → IsFirst rows r old new
  first_by None r told h p = tt
  first_by (Some rs) (Ok x) told h p = tt
  first_by (Some rs) (Err s) told h p = (n, subst (λ (t : Result (List Entry) ℕ). Appends old new (take n (first_text t))) (sym h) p)

  pub opened_front : (rows : Option (List Row)) (r : Result T Stop) (history : List Entry) (size : ℕ) → size ≡ length history → IfSome rows (λ rs. history_of rs ≡ Ok history)
      → Appends old new (take n (shown_report (Opened size))) → IsFirst rows r old new
  opened_front rows r history size is h p =
      first_by rows r (Ok history) h
      (subst (λ (t : List ℕ). Appends old new (take n t)) (ap (λ (k : ℕ). shown_report (Opened k)) is ∙ sym (told_none history)) p)

  pub row_front : (rows : Option (List Row)) (r : Result T Stop) (index : ℕ) → IfSome rows (λ rs. history_of rs ≡ Err index) → Appends old new (take n (bad_row_text index)) → IsFirst rows r old new
  row_front rows r index h p = first_by rows r (Err index) h p

pub none_front : (T : Type 0) (old : Option (List ℕ)) (rows : Option (List Row)) (r : Result T Stop) → Appends old old [] → IsFirst rows r old old
none_front T old None r p = tt
none_front T old (Some rs) (Ok x) p = tt
none_front T old (Some rs) (Err s) p = (0, p)

pub opened_whole : (old new : Option (List ℕ)) (history : List Entry) (size : ℕ) → size ≡ length history → Appends old new (shown_report (Opened size)) → Appends old new (told_of history [])
opened_whole old new history size is p =
    subst (Appends old new) (ap (λ (k : ℕ). shown_report (Opened k)) is ∙ sym (told_none history)) p
