-- What a backfill does before its store is opened, and behind the loading of its files.
use Rattle.std.proofs.Common.{◌≡◌, ◌≢◌, ℕ, Bool, true, false, List, [], ◌∷◌, ◌++◌, Option, Some, None, Result, Ok, Err, IfOk, IfSome, refl, sym, ap, ◌∙◌, subst, append-nil, length, map, take, arith}
use Rattle.std.proofs.lemmas.Bool.{eqb-true, false≢true}
use Rattle.std.specs.Prelude.{◌==◌}
use Rattle.std.specs.Io.KnownBytes.{Appends}
use Rattle.spec_rules.specs.spec_history.declared.entry.Entry.{Entry}
use Rattle.pr_outside.specs.Causes.{Rose}
use Rattle.pr_outside.specs.Meant.{Folder, Output, Store}
use Rattle.pr_outside.specs.spec_history.declared.row.Row.{Row}
use Rattle.spec_rules.specs.spec_history.Histories.{history_of}
use Rattle.spec_rules.specs.spec_history.Rows.{encoded}
use Rattle.spec_rules.specs.Reloads.{LoadedFile}
use Rattle.pr_outside.specs.Asks.{Asks, AsksBy}
use Rattle.pr_outside.specs.Ends.{Ends, WriteEnds, at_row, place_of}
use Rattle.pr_outside.specs.Outside.{Outside}
use Rattle.pr_outside.specs.declared.status.status.Stop.{Stop}
use Rattle.pr_outside.specs.declared.status.status.Stop.TheVariants as stop
use Rattle.pr_outside.proofs.Ended.{quiet}
use Rattle.pr_outside.proofs.StatusStreams.{appends_none}
use Rattle.pr_backfill.specs.Filled.{FillStep, filled}
use Rattle.pr_backfill.specs.Means.{AsksFirst, EndsBy, EndsInto, EndsOver, EndsRefused, EndsWith, IsWhole}
use Rattle.pr_outside.specs.Stores.{AreFirst, AreKept, OverRows}
use Rattle.pr_outside.proofs.StoredRows.{IsDecoding, rows_of}

on_rows : (a : Option (List Row)) (P : List Row → Type 0) → ((rows : List Row) → a ≡ Some rows → P rows) → IfSome a P
on_rows None P f = tt
on_rows (Some rows) P f = f rows refl

row_of_place : (s : Stop) (at : ℕ) → place_of {T = Bool} (Err s) ≡ at_row at → s ≡ stop.BadRow at
row_of_place stop.Read at e = absurd (cc)
row_of_place stop.Load at e = absurd (cc)
row_of_place stop.Store at e = absurd (cc)
row_of_place (stop.BadRow index) at e = cc
row_of_place stop.Write at e = absurd (cc)
row_of_place stop.Memory at e = absurd (cc)
row_of_place stop.TooLong at e = absurd (cc)

abbrev IsNoRow : Stop → Type 0
IsNoRow s = (index : ℕ) → s ≡ stop.BadRow index → ⊥

abbrev ended : Stop → Result Bool Stop
ended s = Err s

pub no_bad_row : (s : Stop) → IsNoRow s → (index : ℕ) → ended s ≢ Err (stop.BadRow index)
no_bad_row s none index e = none index (cc)

pub write_fine : (T : Type 0) (p q : Output) (r : Result T Stop) → WriteEnds p q r → (index : ℕ) → r ≢ Err (stop.BadRow index)
write_fine T p q r e index is = (subst (λ (z : Result T Stop). WriteEnds p q z) is e quiet).cause.1

-- Nothing was done to the store and to the output.
module _ (only : IsDecoding) (others : Outside) (f g : Folder) (store : Store) (out : Output) (s : Stop) (none : IsNoRow s) where
  abbrev before : Outside
  before = record others { files = f; store = store; out = out }

  abbrev now : Outside
  now = record others { files = g; store = store; out = out }

  module _ (all : List Row) (is : store.rows ≡ Some all) where
    these : IfSome store.rows (λ rows. rows ≡ all)
    these = subst (λ (o : Option (List Row)). IfSome o (λ rows. rows ≡ all)) (sym is) refl

    kept_yet : (history : List Entry) → history_of all ≡ Ok history → AreKept (history ++ []) store
    kept_yet history h =
        subst (λ (o : Option (List Row)). IfSome o (λ rows. rows ≡ map encoded (history ++ []))) (sym is)
        (rows_of only all history h ∙ ap (map encoded) (sym (append-nil history)))

    none_over : (steps : List FillStep) (history : List Entry) → history_of all ≡ Ok history → EndsOver steps history before now (Err s)
    none_over steps history h = record {
      whole = tt;
      front = record {
        done = 0;
        within = omega arith;
        kept = kept_yet history h;
        count = 0;
        text = appends_none out.taken;
        begins = λ fewer e. absurd (omega (arith, e));
        beyond = λ less. omega arith;
      };
      fine = no_bad_row s none;
    }

    none_into : (index : ℕ) → EndsInto index all before now (Err s)
    none_into index = record {
      front = record { count = 0; text = appends_none out.taken; kept = these; line = λ at e. absurd (none at (row_of_place s at e)) };
      stopped = refl;
    }

    none_by : (r : Result (List Entry) ℕ) (files : List LoadedFile) (times : List ℕ) → history_of all ≡ r → EndsBy r files times all before now (Err s)
    none_by (Ok history) files times h = none_over (filled history files times) history h
    none_by (Err index) files times h = none_into index

    none_over_rows : (files : List LoadedFile) (times : List ℕ) → OverRows store.rows all (λ rows. EndsBy (history_of rows) files times rows before now (Err s))
    none_over_rows files times = record {
      rows = all;
      first = subst (λ (o : Option (List Row)). AreFirst all o all) (sym is) refl;
      holds = none_by (history_of all) files times refl;
    }

  pub nothing_done : (wrong : List ℕ) (files : List LoadedFile) (times : List ℕ) → EndsWith wrong files times before now (Err s)
  nothing_done [] files times = on_rows store.rows (λ all. OverRows store.rows all (λ rows. EndsBy (history_of rows) files times rows before now (Err s)))
      (λ all is. none_over_rows all is files times)
  nothing_done (b ∷ wrong) files times = record { whole = tt; front = (0, appends_none out.taken); same = refl; fine = no_bad_row s none }

-- The files were loaded before, which what follows does not look at.
module _ (others : Outside) (f g : Folder) (x y : Store) (p q : Output) (r : Result Bool Stop) where
  abbrev first : Outside
  first = record others { files = f; store = x; out = p }

  abbrev loaded : Outside
  loaded = record others { files = g; store = x; out = p }

  abbrev done : Outside
  done = record others { files = g; store = y; out = q }

  over_behind : (steps : List FillStep) (history : List Entry) → EndsOver steps history loaded done r → EndsOver steps history first done r
  over_behind steps history e = record {
    whole = by r e.whole;
    front = record {
      done = e.front.done;
      within = e.front.within;
      kept = e.front.kept;
      count = e.front.count;
      text = e.front.text;
      begins = e.front.begins;
      beyond = e.front.beyond;
    };
    fine = e.fine;
  }
    where
      by : (r : Result Bool Stop) → IfOk r (λ refused. (refused ≡ false) × IsWhole steps history loaded done) → IfOk r (λ refused. (refused ≡ false) × IsWhole steps history first done)
      by (Ok refused) w = (w.0, record { written = w.1.written; kept = w.1.kept })
      by (Err s) w = tt

  into_behind : (index : ℕ) (rows : List Row) → EndsInto index rows loaded done r → EndsInto index rows first done r
  into_behind index rows e = record {
    front = record { count = e.front.count; text = e.front.text; kept = e.front.kept; line = e.front.line };
    stopped = e.stopped;
  }

  by_behind : (told : Result (List Entry) ℕ) (files : List LoadedFile) (times : List ℕ) (rows : List Row) → EndsBy told files times rows loaded done r
      → EndsBy told files times rows first done r
  by_behind (Ok history) files times rows e = over_behind (filled history files times) history e
  by_behind (Err index) files times rows e = into_behind index rows e

  pub with_behind : (wrong : List ℕ) (files : List LoadedFile) (times : List ℕ) → EndsWith wrong files times loaded done r → EndsWith wrong files times first done r
  with_behind [] files times e = by y.rows e
    where
      by : (o : Option (List Row)) → IfSome o (λ all. OverRows x.rows all (λ rows. EndsBy (history_of rows) files times rows loaded done r))
          → IfSome o (λ all. OverRows x.rows all (λ rows. EndsBy (history_of rows) files times rows first done r))
      by None e = tt
      by (Some all) e = record { rows = e.rows; first = e.first; holds = by_behind (history_of e.rows) files times e.rows e.holds }
  with_behind (b ∷ wrong) files times e = record { whole = e.whole; front = e.front; same = e.same; fine = e.fine }

-- By what is wrong with the files

pub none_wrong : (wrong : List ℕ) (files : List LoadedFile) (times : List ℕ) (a b : Outside) (r : Result Bool Stop) → true ≡ (length wrong == 0)
    → IfSome b.store.rows (λ all. OverRows a.store.rows all (λ rows. EndsBy (history_of rows) files times rows a b r)) → EndsWith wrong files times a b r
none_wrong [] files times a b r none e = e
none_wrong (c ∷ wrong) files times a b r none e = let empty = eqb-true (length (c ∷ wrong)) 0 (sym none) in absurd (omega (arith, empty))

pub some_wrong : (wrong : List ℕ) (files : List LoadedFile) (times : List ℕ) (a b : Outside) (r : Result Bool Stop) → false ≡ (length wrong == 0)
    → EndsRefused wrong a b r → EndsWith wrong files times a b r
some_wrong [] files times a b r some e = absurd (false≢true some)
some_wrong (c ∷ wrong) files times a b r some e = e

pub refused : (lines : List ℕ) (others : Outside) (p q : Output) (r : Result Bool Stop) → ((index : ℕ) → r ≢ Err (stop.BadRow index))
    → IfOk r (λ refused. (refused ≡ true) × Appends p.taken q.taken lines) → (n : ℕ) × Appends p.taken q.taken (take n lines)
    → EndsRefused lines (record others { out = p }) (record others { out = q }) r
refused lines others p q r fine whole front = record { whole = whole; front = front; same = refl; fine = fine }

-- How many files were asked for

-- what stopped the loading is handed on
pub asked_first : (T : Type 0) (a b all : ℕ) (s : Stop) → AsksBy {T = T} a b all (Err s) → AsksFirst {T = Bool} a b all (Err s)
asked_first T a b all stop.Read p = p
asked_first T a b all stop.Load p = p
asked_first T a b all stop.Store p = absurd p
asked_first T a b all (stop.BadRow index) p = absurd p
asked_first T a b all stop.Write p = p
asked_first T a b all stop.Memory p = p
asked_first T a b all stop.TooLong p = p

pub no_row_asked : (T : Type 0) (a b all : ℕ) (s : Stop) → AsksBy {T = T} a b all (Err s) → IsNoRow s
no_row_asked T a b all s p index is = subst (λ (z : Stop). AsksBy {T = T} a b all (Err z)) is p

pub none_rose : Rose 0 0 → ⊥
none_rose r = omega (arith, r)

-- all were asked for before, and the rest asks for none
pub asked_all : (bad : ℕ → Type 0) (x y : Store) (p q : Output) (a b all : ℕ) (r : Result Bool Stop) → Asks a b all
    → Ends bad ⊥ (record quiet { store = x; out = p }) (record quiet { store = y; out = q }) r → AsksFirst a b all r
asked_all bad x y p q a b all (Ok refused) all_asked e = all_asked
asked_all bad x y p q a b all (Err stop.Read) all_asked e = none_rose e.cause.0
asked_all bad x y p q a b all (Err stop.Load) all_asked e = absurd (none_rose e.cause.1)
asked_all bad x y p q a b all (Err stop.Store) all_asked e = all_asked
asked_all bad x y p q a b all (Err (stop.BadRow index)) all_asked e = all_asked
asked_all bad x y p q a b all (Err stop.Write) all_asked e = all_asked
asked_all bad x y p q a b all (Err stop.Memory) all_asked e = (all, all_asked, omega arith)
asked_all bad x y p q a b all (Err stop.TooLong) all_asked e = e.cause.1
