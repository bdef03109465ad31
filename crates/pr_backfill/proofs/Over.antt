-- What a filling does over the rows at its start, by how it ended.
use Rattle.std.proofs.Common.{◌≡◌, ◌≢◌, ℕ, ◌+◌, Bool, List, [], ◌++◌, Option, Some, None, Result, Ok, Err, IfSome, IsErrAnd, IsSome, refl, sym, ap, ◌∙◌, subst, append-nil, length, length-append, take, take_all, arith}
use Rattle.std.proofs.Math.Seq.{take-nil}
use Rattle.std.specs.Io.KnownBytes.{Appends}
use Rattle.spec_rules.specs.spec_history.declared.entry.Entry.{Entry}
use Rattle.pr_outside.specs.private.Kept.{StartsRows}
use Rattle.pr_outside.specs.spec_history.declared.row.Row.{Row}
use Rattle.spec_rules.specs.spec_history.Histories.{history_of}
use Rattle.spec_rules.specs.Reloads.{LoadedFile}
use Rattle.pr_backfill.specs.Filled.{FillStep, filled, rows_filled}
use Rattle.pr_backfill.specs.Means.{EndsBy, EndsOver, IsFront}
use Rattle.pr_backfill.specs.Text.{backfilled_line, begun_text, fill_text}
use Rattle.pr_outside.specs.Ends.{Ends, at_row, place_of}
use Rattle.pr_outside.specs.Outside.{Outside}
use Rattle.pr_outside.specs.declared.status.status.Stop.{Stop}
use Rattle.pr_outside.specs.declared.status.status.Stop.TheVariants as stop
use Rattle.pr_outside.specs.Stores.{AreKept, OverRows}
use Rattle.pr_outside.proofs.Endings.{ends_as}
use Rattle.pr_outside.proofs.StoredRows.{IsDecoding, kept_by, over_history}
use Rattle.pr_backfill.specs.private.Endings.{ending_of}
use Rattle.pr_backfill.specs.private.Opening.{IsUnopened}
use Rattle.pr_backfill.specs.private.Standing.{FillingFinishes, IsTold}
use Rattle.pr_backfill.proofs.Texts.{begun_fewer}

pub on_rows : (a : Option (List Row)) (P : List Row → Type 0) → ((rows : List Row) → a ≡ Some rows → P rows) → IfSome a P
on_rows None P f = tt
on_rows (Some rows) P f = f rows refl

pub at_rows : (a : Option (List Row)) (P : List Row → Type 0) (rows : List Row) → a ≡ Some rows → IfSome a P → P rows
at_rows a P rows is p = subst (λ (o : Option (List Row)). IfSome o P) is p

-- Ends

pub ends_ending : (bad : ℕ → Type 0) (long : Type 0) (a b : Outside) (r : Result Unit Stop) → Ends bad long a b r → Ends bad long a b (ending_of r)
ends_ending bad long a b (Ok x) e = record { cause = e.cause; input = e.input; files = e.files; out = e.out }
ends_ending bad long a b (Err s) e = ends_as Unit Bool bad long a b s e

-- the same error, of what was called
pub ends_error : (T : Type 0) (bad : ℕ → Type 0) (long : Type 0) (a b : Outside) (r : Result Unit Stop) (e : Stop) → IsErrAnd r (λ s. s ≡ e) → Ends {T = T} bad long a b (Err e)
    → Ends bad long a b (ending_of r)
ends_error T bad long a b (Ok x) e h p = absurd h
ends_error T bad long a b (Err s) e h p = subst (λ (z : Stop). Ends {T = Bool} bad long a b (Err z)) (sym h) (ends_as T Bool bad long a b e p)

pub row_error : {T : Type 0} (r : Result T Stop) (e : Stop) (at : ℕ) → IsErrAnd r (λ s. s ≡ e) → r ≡ Err (stop.BadRow at) → e ≡ stop.BadRow at
row_error (Ok x) e at h is = absurd h
row_error (Err s) e at h is = let same : s ≡ stop.BadRow at = cc in sym h ∙ same

row_place : (s : Stop) (at : ℕ) → place_of {T = Bool} (Err s) ≡ at_row at → s ≡ stop.BadRow at
row_place stop.Read at is = absurd cc
row_place stop.Load at is = absurd cc
row_place stop.Store at is = absurd cc
row_place (stop.BadRow index) at is = let same : index ≡ at = cc in ap stop.BadRow same
row_place stop.Write at is = absurd cc
row_place stop.Memory at is = absurd cc
row_place stop.TooLong at is = absurd cc

module _ (before now : Outside) (all : List Row) (rows_are : now.store.rows ≡ Some all) (only : IsDecoding) where
  tells_all : (history : List Entry) → history_of all ≡ Ok history → IfSome now.store.rows (λ rows. history_of rows ≡ Ok history)
  tells_all history h = subst (λ (o : Option (List Row)). IfSome o (λ rows. history_of rows ≡ Ok history)) (sym rows_are) h

  same_rows : IfSome now.store.rows (λ rows. rows ≡ all)
  same_rows = subst (λ (o : Option (List Row)). IfSome o (λ rows. rows ≡ all)) (sym rows_are) refl

  -- nothing is evaluated, and nothing is written
  unbegun : (steps : List FillStep) (history : List Entry) → history_of all ≡ Ok history → Appends before.out.taken now.out.taken [] → IsFront steps history before now
  unbegun steps history is text = record {
    done = 0;
    within = omega arith;
    kept = subst (λ (es : List Entry). AreKept es now.store) (sym (append-nil history)) (kept_by only now.store history (tells_all history is));
    count = 0;
    text = text;
    begins = λ fewer no. absurd (omega (arith, no));
    beyond = λ less. omega arith;
  }

  module _ (files : List LoadedFile) (times : List ℕ) where
    unopened_by : (T : Type 0) (told : Result (List Entry) ℕ) (s : Stop) → history_of all ≡ told → IsUnopened {T = T} told before.out.taken now.out.taken (Err s)
        → ((at : ℕ) → s ≡ stop.BadRow at → history_of all ≡ Err at) → EndsBy told files times all before now (Err s)
    unopened_by T (Ok history) s is u bad = record {
      whole = tt;
      front = unbegun (filled history files times) history is (subst (Appends before.out.taken now.out.taken) (take-nil u.count) u.text);
      fine = λ index e. let row : s ≡ stop.BadRow index = cc in let worse = bad index row in absurd cc;
    }
    unopened_by T (Err index) s is u bad = record {
      front = record {
        count = u.count;
        text = u.text;
        kept = same_rows;
        line = λ at e.
            let row = row_place s at e in
            let again = bad at row in
            let same : at ≡ index = cc in
            (same, u.whole at (ap (λ (z : Stop). Err z) row));
      };
      stopped = refl;
    }

    unopened_all : (T : Type 0) (r : Result Unit Stop) (s : Stop) → IsErrAnd r (λ y. y ≡ s) → IsUnopened {T = T} (history_of all) before.out.taken now.out.taken (Err s)
        → ((at : ℕ) → s ≡ stop.BadRow at → history_of all ≡ Err at) → EndsBy (history_of all) files times all before now (ending_of r)
    unopened_all T (Ok x) s h u bad = absurd h
    unopened_all T (Err y) s h u bad =
        subst (λ (z : Stop). EndsBy (history_of all) files times all before now (Err z)) (sym h) (unopened_by T (history_of all) s refl u bad)

    -- the store was not opened, or has a bad row
    pub unopened : (T : Type 0) (r : Result Unit Stop) (s : Stop) → IsErrAnd r (λ y. y ≡ s) → StartsRows before.store.rows (Some all)
        → IsUnopened {T = T} (history_of all) before.out.taken now.out.taken (Err s) → ((at : ℕ) → s ≡ stop.BadRow at → history_of all ≡ Err at)
        → OverRows before.store.rows all (λ rows. EndsBy (history_of rows) files times rows before now (ending_of r))
    unopened T r s h starts u bad = by before.store.rows starts (unopened_all T r s h u bad)
      where
        by : (o : Option (List Row)) → StartsRows o (Some all) → EndsBy (history_of all) files times all before now (ending_of r)
            → OverRows o all (λ rows. EndsBy (history_of rows) files times rows before now (ending_of r))
        by None starts e = record { rows = all; first = (omega arith, sym (take_all (length all) all (omega arith))); holds = e }
        by (Some given) starts e = record { rows = given; first = refl; holds = subst (λ (rows : List Row). EndsBy (history_of rows) files times rows before now (ending_of r)) starts e }

  told_front : (steps : List FillStep) (history : List Entry) → IsTold history steps now.store before.out.taken now.out.taken → IsFront steps history before now
  told_front steps history t =
      let text = fill_text (length history) steps in
      let size : length text ≡ length (begun_text (length history) steps) + length (backfilled_line (length (rows_filled steps))) = length-append (begun_text (length history) steps) _ in
      record {
        done = length steps;
        within = omega arith;
        kept = kept_by only now.store (history ++ rows_filled (take (length steps) steps))
            (subst (λ (s : List FillStep). IfSome now.store.rows (λ rows. history_of rows ≡ Ok (history ++ rows_filled s))) (sym (take_all (length steps) steps (omega arith))) t.tells.rows);
        count = length text;
        text = subst (Appends before.out.taken now.out.taken) (sym (take_all (length text) text (omega arith))) t.text;
        begins = λ fewer is. let less = begun_fewer (length history) fewer steps in omega (arith, less, size);
        beyond = λ less. absurd (omega (arith, less));
      }

  -- it was ended, or was stopped
  pub finished : (steps : List FillStep) (history : List Entry) (r : Result Unit Stop) → FillingFinishes history steps now.store before.out.taken now.out.taken r
      → ((index : ℕ) → r ≢ Err (stop.BadRow index)) → EndsOver steps history before now (ending_of r)
  finished steps history (Ok x) t fine = record {
    whole = (refl, record { written = t.text; kept = kept_by only now.store (history ++ rows_filled steps) t.tells.rows });
    front = told_front steps history t;
    fine = λ index e. absurd cc;
  }
  finished steps history (Err s) h fine = record {
    whole = tt;
    front = record {
      done = h.done;
      within = h.within;
      kept = kept_by only now.store (history ++ rows_filled (take h.done steps)) h.tells.rows;
      count = h.count;
      text = h.text;
      begins = h.begins;
      beyond = h.beyond;
    };
    fine = λ index e. let row : s ≡ stop.BadRow index = cc in fine index (ap (λ (z : Stop). Err z) row);
  }

  -- the rows at the end are those at the start and more
  grown : (steps : List FillStep) (history : List Entry) (r : Result Unit Stop) → FillingFinishes history steps now.store before.out.taken now.out.taken r
      → (more : List Entry) × (history_of all ≡ Ok (history ++ more))
  grown steps history (Ok x) t = (rows_filled steps, at_rows now.store.rows _ all rows_are t.tells.rows)
  grown steps history (Err s) h = (rows_filled (take h.done steps), at_rows now.store.rows _ all rows_are h.tells.rows)

  pub filled_over : (opened : Option (List Row)) (files : List LoadedFile) (times : List ℕ) (history : List Entry) (r : Result Unit Stop) → StartsRows before.store.rows opened → IsSome opened
      → IfSome opened (λ rows. history_of rows ≡ Ok history) → FillingFinishes history (filled history files times) now.store before.out.taken now.out.taken r
      → ((index : ℕ) → r ≢ Err (stop.BadRow index)) → OverRows before.store.rows all (λ rows. EndsBy (history_of rows) files times rows before now (ending_of r))
  filled_over opened files times history r starts some tells f fine =
      let more = grown (filled history files times) history r f in
      over_history only before.store.rows opened all history more.0 (λ rows. EndsBy (history_of rows) files times rows before now (ending_of r)) starts some tells more.1
      (λ rows h. subst (λ (t : Result (List Entry) ℕ). EndsBy t files times rows before now (ending_of r)) (sym h) (finished (filled history files times) history r f fine))
