-- A run that is stopped at its beginning.
use Rattle.std.proofs.Common.{◌≡◌, ℕ, Bool, List, Option, Some, None, Result, Ok, Err, IfSome, IsErrAnd, refl, sym, ◌∙◌, subst, length, take, take_all, arith}
use Rattle.std.specs.Io.KnownBytes.{Appends}
use Rattle.pr_queue.specs.spec_history.declared.entry.Entry.{Entry}
use Rattle.pr_outside.specs.Causes.{Rose}
use Rattle.pr_outside.specs.private.Kept.{StartsRows}
use Rattle.pr_outside.specs.Meant.{Folder}
use Rattle.pr_outside.specs.spec_history.declared.row.Row.{Row}
use Rattle.pr_queue.specs.spec_history.Histories.{history_of}
use Rattle.pr_outside.specs.Asks.{Asks}
use Rattle.pr_outside.specs.Ends.{Ends, at_row, place_of}
use Rattle.pr_outside.specs.Outside.{Outside}
use Rattle.pr_outside.specs.declared.status.status.Stop.{Stop}
use Rattle.pr_outside.specs.declared.status.status.Stop.TheVariants as stop
use Rattle.pr_outside.proofs.Ended.{quiet}
use Rattle.pr_run.specs.private.Beginning.{first_text}
use Rattle.pr_text.specs.BadRows.{IsBadStart, bad_row_text}
use Rattle.pr_run.specs.Front.{IsFront}
use Rattle.pr_outside.specs.Stores.{AreKept, OverRows}
use Rattle.pr_run.specs.Runs.{EndsBy, EndsOver, IsStopped}
use Rattle.pr_run.specs.Told.{answers_to}
use Rattle.pr_run.proofs.Fronts.{front_opening}
use Rattle.pr_run.proofs.Loads.{asks_none}
use Rattle.pr_outside.proofs.StoredRows.{IsDecoding, kept_by}

pub on_rows : (a : Option (List Row)) (P : List Row → Type 0) → ((rows : List Row) → a ≡ Some rows → P rows) → IfSome a P
on_rows None P f = tt
on_rows (Some rows) P f = f rows refl

pub at_rows : (a : Option (List Row)) (P : List Row → Type 0) (rows : List Row) → a ≡ Some rows → IfSome a P → P rows
at_rows a P rows is p = subst (λ (o : Option (List Row)). IfSome o P) is p

-- what may stop a beginning
abbrev pub IsBeginStop : Stop → Type 0
IsBeginStop stop.Read = ⊥
IsBeginStop stop.Load = ⊥
IsBeginStop stop.Store = Unit {0}
IsBeginStop (stop.BadRow index) = Unit {0}
IsBeginStop stop.Write = Unit {0}
IsBeginStop stop.Memory = Unit {0}
IsBeginStop stop.TooLong = ⊥

zero_rose : Rose 0 0 → ⊥
zero_rose r = omega (arith, r)

pub begin_stop : (T : Type 0) (bad : ℕ → Type 0) (a b : Outside) (s : Stop) → a.input ≡ quiet.input → b.input ≡ quiet.input → a.files ≡ quiet.files → b.files ≡ quiet.files
    → Ends {T = T} bad ⊥ a b (Err s) → IsBeginStop s
begin_stop T bad a b stop.Read i j f h e = zero_rose (subst (λ (x : _). Rose 0 x.faults) j (subst (λ (x : _). Rose x.faults b.input.faults) i e.cause.0))
begin_stop T bad a b stop.Load i j f h e = zero_rose (subst (λ (x : _). Rose 0 x.faults) h (subst (λ (x : _). Rose x.faults b.files.faults) f e.cause.1))
begin_stop T bad a b stop.Store i j f h e = tt
begin_stop T bad a b (stop.BadRow index) i j f h e = tt
begin_stop T bad a b stop.Write i j f h e = tt
begin_stop T bad a b stop.Memory i j f h e = tt
begin_stop T bad a b stop.TooLong i j f h e = e.cause.1

module _ (only : IsDecoding) (before now : Outside) (bytes : List ℕ) (all : List Row) (rows_are : now.store.rows ≡ Some all) (files : now.files ≡ before.files) where
  abbrev Opens : Result (List Entry) ℕ → Type 0
  Opens r = (n : ℕ) × Appends before.out.taken now.out.taken (take n (first_text r))

  asks : Asks before.files.calls now.files.calls 0
  asks = subst (λ (f : Folder). Asks before.files.calls f.calls 0) (sym files) (asks_none before.files.calls)

  kept_of : (history : List Entry) → history_of all ≡ Ok history → AreKept history now.store
  kept_of history h = kept_by only now.store history (subst (λ (o : Option (List Row)). IfSome o (λ rows. history_of rows ≡ Ok history)) (sym rows_are) h)

  over_good : (history : List Entry) (s : Stop) → history_of all ≡ Ok history → Opens (Ok history) → IsBeginStop s → ((at : ℕ) → s ≡ stop.BadRow at → history_of all ≡ Err at)
      → EndsOver history bytes before now (Err s)
  over_good history s good p may bad = record {
    whole = λ held told. tt;
    front = λ held told. by s may bad held;
    fine = λ index e. let is : s ≡ stop.BadRow index = cc in let worse = bad index is in absurd (cc);
  }
    where
      by : (s : Stop) → IsBeginStop s → ((at : ℕ) → s ≡ stop.BadRow at → history_of all ≡ Err at) → (held : _)
          → IsFront bytes (place_of {T = Bool} (Err s)) history (answers_to held history bytes) before now
      by stop.Read may bad held = absurd may
      by stop.Load may bad held = absurd may
      by stop.Store may bad held =
          front_opening bytes history (answers_to held history bytes) (place_of {T = Bool} (Err stop.Store)) before now p.0 p.1 (λ e. absurd (cc)) tt (kept_of history good) asks (omega arith, omega arith)
      by (stop.BadRow index) may bad held = let worse = bad index refl in absurd (cc)
      by stop.Write may bad held =
          front_opening bytes history (answers_to held history bytes) (place_of {T = Bool} (Err stop.Write)) before now p.0 p.1 (λ e. absurd (cc)) tt (kept_of history good) asks refl
      by stop.Memory may bad held =
          front_opening bytes history (answers_to held history bytes) (place_of {T = Bool} (Err stop.Memory)) before now p.0 p.1 (λ e. absurd (cc)) tt (kept_of history good) asks (omega arith)
      by stop.TooLong may bad held = absurd may

  same_rows : IfSome now.store.rows (λ rows. rows ≡ all)
  same_rows = subst (λ (o : Option (List Row)). IfSome o (λ rows. rows ≡ all)) (sym rows_are) refl

  no_line : (s : Stop) → ((at : ℕ) → place_of {T = Bool} (Err s) ≡ at_row at → ⊥) → (index : ℕ) → Opens (Err index) → IsBadStart index (place_of {T = Bool} (Err s)) all before now
  no_line s other index p = record { count = p.0; text = p.1; kept = same_rows; line = λ at e. absurd (other at e) }

  over_bad : (index : ℕ) (s : Stop) → history_of all ≡ Err index → Opens (Err index) → IsBeginStop s → ((at : ℕ) → s ≡ stop.BadRow at → history_of all ≡ Err at)
      → ((at : ℕ) → s ≡ stop.BadRow at → Appends before.out.taken now.out.taken (bad_row_text at)) → IsBadStart index (place_of {T = Bool} (Err s)) all before now
  over_bad index stop.Read worse p may bad told = absurd may
  over_bad index stop.Load worse p may bad told = absurd may
  over_bad index stop.Store worse p may bad told = no_line stop.Store (λ at e. absurd (cc)) index p
  over_bad index (stop.BadRow at) worse p may bad told =
      let again : history_of all ≡ Err at = bad at refl in
      let is : at ≡ index = cc in
      record {
        count = length (bad_row_text index);
        text = subst (Appends before.out.taken now.out.taken) (sym (take_all (length (bad_row_text index)) (bad_row_text index) (omega arith)))
            (subst (λ (i : ℕ). Appends before.out.taken now.out.taken (bad_row_text i)) is (told at refl));
        kept = same_rows;
        line = λ i e. let this : i ≡ at = cc in (this ∙ is, omega arith);
      }
  over_bad index stop.Write worse p may bad told = no_line stop.Write (λ at e. absurd (cc)) index p
  over_bad index stop.Memory worse p may bad told = no_line stop.Memory (λ at e. absurd (cc)) index p
  over_bad index stop.TooLong worse p may bad told = absurd may

  stopped_by : (s : Stop) → IsBeginStop s → IsStopped (Err s)
  stopped_by stop.Read may = may
  stopped_by stop.Load may = may
  stopped_by stop.Store may = tt
  stopped_by (stop.BadRow index) may = tt
  stopped_by stop.Write may = tt
  stopped_by stop.Memory may = tt
  stopped_by stop.TooLong may = may

  over_by : (r : Result (List Entry) ℕ) (s : Stop) → history_of all ≡ r → Opens r → IsBeginStop s → ((at : ℕ) → s ≡ stop.BadRow at → history_of all ≡ Err at)
      → ((at : ℕ) → s ≡ stop.BadRow at → Appends before.out.taken now.out.taken (bad_row_text at)) → EndsBy r all bytes before now (Err s)
  over_by (Ok history) s is p may bad told = over_good history s is p may bad
  over_by (Err index) s is p may bad told = record { front = over_bad index s is p may bad told; stopped = stopped_by s may }

  over_all : (r : Result Bool Stop) (s : Stop) → IsErrAnd r (λ y. y ≡ s) → Opens (history_of all) → IsBeginStop s → ((at : ℕ) → s ≡ stop.BadRow at → history_of all ≡ Err at)
      → ((at : ℕ) → s ≡ stop.BadRow at → Appends before.out.taken now.out.taken (bad_row_text at)) → EndsBy (history_of all) all bytes before now r
  over_all (Ok x) s h p may bad told = absurd h
  over_all (Err y) s h p may bad told =
      subst (λ (z : Stop). EndsBy (history_of all) all bytes before now (Err z)) (sym h) (over_by (history_of all) s refl p may bad told)

  pub over_begun : (r : Result Bool Stop) (s : Stop) → IsErrAnd r (λ y. y ≡ s) → StartsRows before.store.rows (Some all) → Opens (history_of all) → IsBeginStop s
      → ((at : ℕ) → s ≡ stop.BadRow at → history_of all ≡ Err at) → ((at : ℕ) → s ≡ stop.BadRow at → Appends before.out.taken now.out.taken (bad_row_text at))
      → OverRows before.store.rows all (λ rows. EndsBy (history_of rows) rows bytes before now r)
  over_begun r s h starts p may bad told = by before.store.rows starts (over_all r s h p may bad told)
    where
      by : (o : Option (List Row)) → StartsRows o (Some all) → EndsBy (history_of all) all bytes before now r
          → OverRows o all (λ rows. EndsBy (history_of rows) rows bytes before now r)
      by None starts e = record { rows = all; first = (omega arith, sym (take_all (length all) all (omega arith))); holds = e }
      by (Some given) starts e = record { rows = given; first = refl; holds = subst (λ (rows : List Row). EndsBy (history_of rows) rows bytes before now r) starts e }
