-- What the statements do to a connection.
use Rattle.std.proofs.Common.{◌≡◌, ◌⊎◌, inl, inr, ℕ, ◌+◌, ◌≤◌, pos, true, refl, List, [], ◌∷◌, ◌++◌, length, length-append, Ok, Err, Result, OnOk, IfOk, IsTrue, sym, ap, subst, ◌∙◌, arith, None, Some, Option, slice_get}
use Rattle.std.proofs.lemmas.List.{append_assoc}
use Rattle.sqlite.specs.Effect.{Database}
use Rattle.sqlite.specs.Held.{Held, state}
use Rattle.sqlite.specs.State.{State, ExecutesInside, Executes, IsUnchanged, IsRolledBack, KeepsCommit, QueriesRow, FailsToQuery, FailsToShow, IsNotRun, Shown, ShowsRows, Survives}
use Rattle.sqlite.specs.Store.{Ghosts}
use Rattle.sqlite.specs.Tree.{Trees}
use Rattle.sqlite.specs.View.{doubt}
use Rattle.sqlite.specs.Order.{Row}
use Rattle.sqlite.specs.declared.types.Value.TheVariants.{Int}
use Rattle.sqlite.specs.declared.error.Error.{Error}
use Rattle.pr_outside.specs.spec_history.declared.row.Row.{Row as Line}
use Rattle.pr_keep_sql.specs.private.Kept.{listed, Keeps}
use Rattle.pr_keep_sql.specs.private.Statements.{Adds, GoesOn, Lasts, Leaves, ShowsAt, shown}
use Rattle.sqlite_resolve.specs.declared.compiled.Compiled.{Compiled}
use Rattle.sqlite_schema.specs.declared.command.Returning.{Returning}
use Rattle.pr_keep_sql.proofs.Listing.{listed_rows}
use Rattle.pr_keep_sql.proofs.QueryTexts.{OnlyReads, select_only_read}
use Rattle.pr_keep_sql.specs.private.Texts.{given_params, insert_text, select_text}
use Rattle.pr_keep_sql.proofs.TableLemmas.{adds, finds}

-- the list of the relation is the one that the table tells
pub told_by : (db : Database) (rows : List Line) → Keeps db rows → (listed db ≡ rows) × Keeps db (listed db)
told_by db rows h =
    let same : listed db ≡ rows = listed_rows rows (db.trees 0) h.table in
    (same, subst (λ xs. Keeps db xs) (sym same) h)

pub adds_inside : (old new : State) (seq : ℕ) (row : Line) (r : Result ℕ Error) → ExecutesInside 0 insert_text (given_params seq row) old new r
    → OnOk r (GoesOn (Adds seq (row ∷ [])) old new)
adds_inside old new seq row (Err _) h = tt
adds_inside old new seq row (Ok count) h = record {
  was_open = h.1.was_open;
  is_open = h.1.is_open;
  inside = h.1.mode;
  does = λ keeps at.
      let ran : Executes insert_text (given_params (length (listed old.now)) row) old new (Ok count) = subst (λ n. Executes insert_text (given_params n row) old new (Ok count)) at h.0 in
      let made = told_by new.now _ (adds old new (listed old.now) row (Ok count) keeps ran) in
      (made.1, made.0);
}

-- whatever the statement inside a transaction answers, nothing was committed
pub keeps_inside : (sql : List ℕ) (params : Row) (old new : State) (r : Result ℕ Error) → ExecutesInside 0 sql params old new r → KeepsCommit old new
keeps_inside sql params old new (Ok count) h = record { was_open = λ _. h.1.was_open; committed = λ _. h.1.committed_is }
keeps_inside sql params old new (Err _) (inl h) = by h.1
  where
    by : IsUnchanged old new ⊎ IsRolledBack old new → KeepsCommit old new
    by (inl same) = record { was_open = λ _. same.0.was_open; committed = λ _. same.0.committed_is }
    by (inr back) = record { was_open = back.was_open; committed = λ up. (back.undone up).1 }
keeps_inside sql params old new (Err _) (inr h) = record { was_open = λ _. h.2.0.was_open; committed = λ _. h.2.0.committed_is }

-- a row more
pub adds_then : (a b c : Database) (size seq : ℕ) (front : List Line) (row : Line) → seq ≡ size + length front → Adds size front a b → Adds seq (row ∷ []) b c → Adds size (front ++ row ∷ []) a c
adds_then a b c size seq front row is first then = λ keeps at.
    let before = first keeps at in
    let count : seq ≡ length (listed b) = (let len = ap length before.1 ∙ length-append (listed a) front in omega (arith, is, at, len)) in
    let after = then before.0 count in
    (after.0, after.1 ∙ ap (λ (rows : List Line). rows ++ row ∷ []) before.1 ∙ append_assoc (listed a) front (row ∷ []))

-- what survives a call lasts
pub lasts_by : (a b : State) (P : Trees → Type 0) → Survives a b P → Lasts a b
lasts_by a b P s = record { counts = s.counts; closes = s.closes }

pub lasts_still : (a : State) → Lasts a a
lasts_still a = record { counts = omega arith; closes = λ _ up. inl up }

pub lasts_then : (a b c : State) → doubt b.is_clean ≤ doubt c.is_clean → Lasts a b → Lasts b c → Lasts a c
lasts_then a b c clean one two = record {
  counts = omega (arith, one.counts, two.counts);
  closes = λ disk up. elim (one.closes (omega (arith, clean, disk)) up) [
    | inl still ↦ elim (two.closes disk still) [ inl last ↦ inl last | inr fault ↦ inr (omega (arith, one.counts, fault)) ]
    | inr fault ↦ inr (omega (arith, two.counts, fault))
  ];
}

-- a transaction was begun, which changes no count and shuts nothing
pub lasts_begun : {S : Type 0} (g : Ghosts S) (old begun : Held S) (last : State) → begun ≡ record old { in_transaction = true } → Lasts (state g begun) last → Lasts (state g old) last
lasts_begun g old begun last is h =
    let same = subst (λ (b : Held _). Lasts (state g b) last) is h in
    record { counts = same.counts; closes = same.closes }

pub leaves_still : (a : State) → Leaves a a
leaves_still a = record { was_open = λ up. up; now = λ _. refl }

-- after a rollback the last commit stands again
pub undone : (a b c : State) → (IsTrue a.is_open → a.now ≡ a.committed) → KeepsCommit a b → IsRolledBack b c → Leaves a c
undone a b c settled p q = record {
  was_open = λ up. p.was_open (q.was_open up);
  now = λ up. (q.undone up).0 ∙ p.committed (q.was_open up) ∙ sym (settled (p.was_open (q.was_open up)));
}

unchanged_leaves : (a b : State) → IsUnchanged a b → Leaves a b
unchanged_leaves a b same = record { was_open = λ _. same.0.was_open; now = λ _. same.0.now_is }

rolled_leaves : (a b : State) → (IsTrue a.is_open → a.now ≡ a.committed) → IsRolledBack a b → Leaves a b
rolled_leaves a b settled back = record { was_open = back.was_open; now = λ up. (back.undone up).0 ∙ sym (settled (back.was_open up)) }

not_run : (sql : List ℕ) (params : Row) (a b : State) (e : Error) → (IsTrue a.is_open → a.now ≡ a.committed) → IsNotRun a b sql params e → Leaves a b
unfolding IsNotRun
not_run sql params a b e settled (inl h) = unchanged_leaves a b h.1
not_run sql params a b e settled (inr h) = rolled_leaves a b settled h.3

-- a query changes nothing
pub shown_same : (sql : List ℕ) (params : Row) (old new : State) (rows : List Row) → OnlyReads sql → Shown sql params old new rows → IsUnchanged old new
unfolding Shown
shown_same sql params old new rows only h = let bare = only old.now.schema h.0 h.1.is in (rw bare at h.2).3

not_shown : (old new : State) (sql : List ℕ) (c : Compiled) (params : Row) (e : Error) (o : Option Returning) → (IsTrue old.is_open → old.now ≡ old.committed) → FailsToShow old new sql c params e o → Leaves old new
not_shown old new sql c params e None settled h = unchanged_leaves old new h.3
not_shown old new sql c params e (Some what) settled (inl h) = unchanged_leaves old new h.1
not_shown old new sql c params e (Some what) settled (inr h) = rolled_leaves old new settled h.3

pub fails_leaves : (sql : List ℕ) (params : Row) (old new : State) (e : Error) → (IsTrue old.is_open → old.now ≡ old.committed) → FailsToQuery sql params old new e → Leaves old new
unfolding FailsToQuery
fails_leaves sql params old new e settled (inl h) = not_run sql params old new e settled h
fails_leaves sql params old new e settled (inr h) = not_shown old new sql h.0 _ e h.0.returning settled h.2

shows_open : (old new : State) (sql : List ℕ) (c : Compiled) (params : Row) (rows : List Row) (o : Option Returning) → ShowsRows old new sql c params rows o → IsTrue old.is_open
shows_open old new sql c params rows None h = h.3.0.was_open
shows_open old new sql c params rows (Some what) h = h.1.shown.was_open

pub shown_open : (sql : List ℕ) (params : Row) (old new : State) (rows : List Row) → Shown sql params old new rows → IsTrue old.is_open
unfolding Shown
shown_open sql params old new rows h = shows_open old new sql h.0 _ rows h.0.returning h.2

pub fails_open : (sql : List ℕ) (params : Row) (old new : State) (e : Error) → (IsTrue old.is_open → old.now ≡ old.committed) → FailsToQuery sql params old new e → IsTrue new.is_open → IsTrue old.is_open
fails_open sql params old new e settled h = (fails_leaves sql params old new e settled h).was_open

pub fails_same : (sql : List ℕ) (params : Row) (old new : State) (e : Error) → (IsTrue old.is_open → old.now ≡ old.committed) → FailsToQuery sql params old new e → IsTrue new.is_open → new.now ≡ old.now
fails_same sql params old new e settled h = (fails_leaves sql params old new e settled h).now

-- a query by its row changes nothing
module _ (params : Row) (old new : State) where
  pub row_open : (r : Result Row Error) → (IsTrue old.is_open → old.now ≡ old.committed) → QueriesRow select_text params old new r → IsTrue new.is_open → IsTrue old.is_open
  unfolding QueriesRow
  row_open (Ok row) settled (inl h) = λ _. h.1.0.was_open
  row_open (Ok row) settled (inr h) = λ _. shown_open select_text params old new h.0 h.1
  row_open (Err e) settled (inl h) = fails_open select_text params old new e settled h
  row_open (Err e) settled (inr h) = λ _. shown_open select_text params old new [] h.1

  pub row_same : (r : Result Row Error) → (IsTrue old.is_open → old.now ≡ old.committed) → QueriesRow select_text params old new r → IsTrue new.is_open → new.now ≡ old.now
  unfolding QueriesRow
  row_same (Ok row) settled (inl h) = λ _. h.1.0.now_is
  row_same (Ok row) settled (inr h) = λ _. (shown_same select_text params old new h.0 select_only_read h.1).0.now_is
  row_same (Err e) settled (inl h) = fails_same select_text params old new e settled h
  row_same (Err e) settled (inr h) = λ _. (shown_same select_text params old new [] select_only_read h.1).0.now_is

  -- and leaves the connection open
  pub row_shows : (r : Result Row Error) → QueriesRow select_text params old new r → OnOk r (IsTrue old.is_open × IsTrue new.is_open)
  unfolding QueriesRow
  row_shows (Ok row) (inl h) = (h.1.0.was_open, h.1.0.is_open)
  row_shows (Ok row) (inr h) = (shown_open select_text params old new h.0 h.1, (shown_same select_text params old new h.0 select_only_read h.1).0.is_open)
  row_shows (Err e) h = tt

pub found_at : (old new : State) (at : ℕ) (r : Result Row Error) → QueriesRow select_text (Int (pos at) ∷ []) old new r → Keeps old.now (listed old.now) → IfOk r (ShowsAt (listed old.now) at)
found_at old new at (Ok row) h keeps = finds old new (listed old.now) at (Ok row) keeps h
found_at old new at (Err e) h keeps = tt

pub loaded : (rows : List Line) (at seq : ℕ) (found : Row) (r : Result Line Error) → at ≡ seq → ShowsAt rows at found → ((row : Line) → found ≡ shown row → IfOk r (λ x. x ≡ row))
    → IfOk r (λ row. slice_get rows seq ≡ Some row)
loaded rows at seq found (Ok x) same s h =
    let is : x ≡ s.0 = h s.0 s.2 in
    ap (slice_get rows) (sym same) ∙ s.1 ∙ ap (λ (y : Line). Some y) (sym is)
loaded rows at seq found (Err e) same s h = tt
