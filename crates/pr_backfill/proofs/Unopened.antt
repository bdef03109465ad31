-- What is written, and how it ends, where a store is opened, or is not.
use Rattle.std.proofs.Common.{◌≡◌, ◌≢◌, ℕ, ◌≤◌, List, Option, Some, None, Result, Ok, Err, IfSome, IsErrAnd, OnErr, refl, sym, ap, ◌∙◌, subst, length, take}
use Rattle.std.specs.Io.KnownBytes.{Appends}
use Rattle.spec_rules.specs.spec_history.declared.entry.Entry.{Entry}
use Rattle.pr_outside.specs.Causes.{HasKeepCause, Rose}
use Rattle.pr_outside.specs.private.Kept.{KeepsRows, StartsRows}
use Rattle.pr_outside.specs.Meant.{Output, Store}
use Rattle.pr_outside.specs.declared.keeping.KeepError.{KeepError}
use Rattle.pr_outside.specs.declared.keeping.KeepError.TheVariants as keeping
use Rattle.pr_outside.specs.spec_history.declared.row.Row.{Row}
use Rattle.spec_rules.specs.spec_history.Histories.{history_of}
use Rattle.pr_outside.specs.Ends.{Ends, WriteEnds, no_row, stop_of_keeper}
use Rattle.pr_outside.specs.Outside.{Outside}
use Rattle.pr_outside.specs.declared.status.status.Stop.{Stop}
use Rattle.pr_outside.specs.declared.status.status.Stop.TheVariants as stop
use Rattle.pr_outside.proofs.Ended.{ends_on, in_time_on, in_time_same}
use Rattle.pr_outside.proofs.StatusStreams.{appends_none}
use Rattle.pr_outside.specs.Stores.{IsBadIn}
use Rattle.pr_text.specs.BadRows.{bad_row_text, bad_text}
use Rattle.pr_outside.proofs.Endings.{ends_wider}
use Rattle.pr_backfill.specs.private.Opening.{IsUnopened}

-- What is written

-- a front of the line, where rows are told
abbrev pub AreUnopened : {T : Type 0} → Option (List Row) → Option (List ℕ) → Option (List ℕ) → Result T Stop → Type 0
AreUnopened rows old new r = IfSome rows (λ rs. OnErr r (IsUnopened (history_of rs) old new r))

pub front_opened : (T : Type 0) (rows : Option (List Row)) (old new : Option (List ℕ)) (v : T) → AreUnopened rows old new (Ok v)
front_opened T None old new v = tt
front_opened T (Some rs) old new v = tt

pub front_row : (T : Type 0) (rows : Option (List Row)) (old new : Option (List ℕ)) (r : Result T Stop) (index n : ℕ) → IfSome rows (λ rs. history_of rs ≡ Err index)
    → Appends old new (take n (bad_row_text index)) → ((at : ℕ) → r ≡ Err (stop.BadRow at) → length (bad_row_text index) ≤ n) → AreUnopened rows old new r
front_row T None old new r index n bad text whole = tt
front_row T (Some rs) old new (Ok v) index n bad text whole = tt
front_row T (Some rs) old new (Err s) index n bad text whole = record {
  count = n;
  text = subst (λ (told : Result (List Entry) ℕ). Appends old new (take n (bad_text told))) (sym bad) text;
  whole = λ at is. subst (λ (told : Result (List Entry) ℕ). length (bad_text told) ≤ n) (sym bad) (whole at is);
}

pub front_none : (T : Type 0) (rows : Option (List Row)) (old : Option (List ℕ)) (r : Result T Stop) → ((at : ℕ) → r ≢ Err (stop.BadRow at)) → AreUnopened rows old old r
front_none T None old r never = tt
front_none T (Some rs) old (Ok v) never = tt
front_none T (Some rs) old (Err s) never = record { count = 0; text = appends_none old; whole = λ at is. absurd (never at is) }

pub starts_same : (rows : Option (List Row)) → StartsRows rows rows
starts_same None = tt
starts_same (Some rs) = refl

-- told rows, where what follows keeps them
pub starts_behind : (old opened now : Option (List Row)) → StartsRows old opened → KeepsRows opened now → StartsRows old now
starts_behind old opened None s k = tt
starts_behind old None (Some rows) s k = absurd k
starts_behind None (Some given) (Some rows) s k = tt
starts_behind (Some first) (Some given) (Some rows) s k = k ∙ s

pub keeps_starts : (old now : Option (List Row)) → KeepsRows old now → StartsRows old now
keeps_starts old None k = tt
keeps_starts None (Some rows) k = tt
keeps_starts (Some first) (Some rows) k = k

-- they are those before
pub same_told : (old now : Option (List Row)) → KeepsRows old now → IfSome now (λ rows. old ≡ Some rows)
same_told old None k = tt
same_told None (Some rows) k = absurd k
same_told (Some first) (Some rows) k = ap (λ (rs : List Row). Some rs) (sym k)

pub told_still : (rows : Option (List Row)) → IfSome rows (λ all. rows ≡ Some all)
told_still None = tt
told_still (Some all) = refl

-- a refused start finds no row
pub refused_row : (e : KeepError) (at : ℕ) → stop_of_keeper e ≢ stop.BadRow at
refused_row keeping.Failed at is = absurd cc
refused_row keeping.Memory at is = absurd cc

-- How it ends

module _ (a b : Store) (x : Output) (others : Outside) where
  pub start_done : (T : Type 0) (v : T) → b.faults ≡ a.faults → Ends (IsBadIn b) ⊥ (record others { store = a; out = x }) (record others { store = b; out = x }) (Ok v)
  start_done T v calm = record { cause = (refl, refl, calm, refl); input = in_time_same others.input.course; files = λ going. going; out = λ going. going }

  pub start_failed : (T : Type 0) → Rose a.faults b.faults → Ends {T = T} (IsBadIn b) ⊥ (record others { store = a; out = x }) (record others { store = b; out = x }) (Err stop.Store)
  start_failed T rose = record {
    cause = (refl, refl, rose, refl);
    input = in_time_same others.input.course;
    files = in_time_same others.files.course;
    out = in_time_same x.course;
  }

  pub start_memory : (T : Type 0) → b.faults ≡ a.faults → Ends {T = T} (IsBadIn b) ⊥ (record others { store = a; out = x }) (record others { store = b; out = x }) (Err stop.Memory)
  start_memory T calm = record {
    cause = (refl, refl, calm, refl);
    input = in_time_same others.input.course;
    files = in_time_same others.files.course;
    out = in_time_same x.course;
  }

  -- the start was refused
  pub refused_start : (T U : Type 0) (e : KeepError) (s : Stop) → s ≡ stop_of_keeper e → HasKeepCause {T = U} a.faults b.faults (Err e)
      → Ends {T = T} (IsBadIn b) ⊥ (record others { store = a; out = x }) (record others { store = b; out = x }) (Err s)
  refused_start T U e s is cause =
      subst (λ (z : Stop). Ends {T = T} (IsBadIn b) ⊥ (record others { store = a; out = x }) (record others { store = b; out = x }) (Err z)) (sym is) (by e cause)
    where
      by : (e : KeepError) → HasKeepCause {T = U} a.faults b.faults (Err e)
          → Ends {T = T} (IsBadIn b) ⊥ (record others { store = a; out = x }) (record others { store = b; out = x }) (Err (stop_of_keeper e))
      by keeping.Failed cause = start_failed T cause.0
      by keeping.Memory cause = start_memory T cause

  -- the line of a bad row was written
  pub start_row : (T U : Type 0) (y : Output) (v : U) (index : ℕ) → b.faults ≡ a.faults → IsBadIn b index → WriteEnds x y (Ok v)
      → Ends {T = T} (IsBadIn b) ⊥ (record others { store = a; out = x }) (record others { store = b; out = y }) (Err (stop.BadRow index))
  start_row T U y v index calm bad w =
      let e = w others in
      record {
        cause = ((refl, refl, calm, e.cause.3), bad);
        input = in_time_same others.input.course;
        files = in_time_same others.files.course;
        out = in_time_on x.course y.course y.course e.out (in_time_same y.course);
      }

  -- it was not
  pub start_untold : (T U : Type 0) (y : Output) (r : Result T Stop) (e : Stop) → IsErrAnd r (λ s. s ≡ e) → b.faults ≡ a.faults → WriteEnds {T = U} x y (Err e)
      → Ends (IsBadIn b) ⊥ (record others { store = a; out = x }) (record others { store = b; out = y }) r
  start_untold T U y r e h calm w =
      let before : Outside = record others { store = a; out = x } in
      let opened : Outside = record others { store = b; out = x } in
      let now : Outside = record others { store = b; out = y } in
      ends_on T U (IsBadIn b) ⊥ before opened now r e h (refl, refl, calm, refl) (in_time_same others.input.course) (λ going. going) (λ going. going)
      (ends_wider U no_row (IsBadIn b) ⊥ ⊥ opened now (Err e) (λ index no. absurd no) (λ never. never) (w (record others { store = b })))
