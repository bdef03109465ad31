-- What calls do to the rows that are told.
use Rattle.std.proofs.Common.{◌≡◌, inl, inr, ℕ, ◌+◌, ◌≤◌, ◌&&◌, Bool, true, false, cond, List, [], ◌++◌, length, Option, Some, None, IfSome, IsTrue, IsSome, refl, sym, ap, subst, ◌∙◌, arith, slice_get, length-append}
use Rattle.sqlite.specs.Effect.{Database, IsDatabase}
use Rattle.sqlite.specs.State.{HasCleanDisk, IsLive, State}
use Rattle.sqlite.specs.View.{doubt}
use Rattle.pr_outside.specs.spec_history.declared.row.Row.{Row as Line}
use Rattle.pr_outside.specs.private.Kept.{KeepsRows, AppendsRows}
use Rattle.pr_keep_sql.specs.private.Kept.{Keeps, KeepsSo, StaysTold, WhileOpen, listed, told}
use Rattle.pr_keep_sql.specs.private.Statements.{Adds, Commits, Lasts, Makes}
use Rattle.pr_keep_sql.specs.private.Tables.{HasOursFirst, schema_of}
use Rattle.pr_keep_sql.proofs.StateLemmas.{told_by}

pub clean_disk : (b : Bool) → IsTrue b → doubt b ≡ 0
unfolding doubt
clean_disk true h = refl
clean_disk false h = absurd cc

pub clean_before : (a b : Bool) → doubt a ≤ doubt b → IsTrue b → IsTrue a
unfolding doubt
clean_before true b le h = refl
clean_before false true le h = absurd (omega arith)
clean_before false false le h = absurd cc

by_told : (ready up clean : Bool) (rows : List Line) (P : List Line → Type 0) → (IsTrue ready → IsTrue up → IsTrue clean → P rows) → IfSome (cond (ready && (up && clean)) (Some rows) None) P
by_told true true true rows P h = h refl refl refl
by_told true true false rows P h = tt
by_told true false clean rows P h = tt
by_told false up clean rows P h = tt

-- the number of rows is the length of the list that is told
pub told_size : (ready : Bool) (s : State) (size : ℕ) → (IsTrue ready → WhileOpen s (KeepsSo s.now size)) → IfSome (told ready s) (λ rows. size ≡ length rows)
told_size ready s size still = by_told ready s.is_open s.is_clean (listed s.now) (λ rows. size ≡ length rows) (λ r up c. (still r (clean_disk s.is_clean c) up).counted)

untold_appends : (old : Option (List Line)) (added : List Line) → AppendsRows old None added
untold_appends None added = tt
untold_appends (Some rows) added = tt

untold_keeps : (old : Option (List Line)) → KeepsRows old None
untold_keeps None = tt
untold_keeps (Some rows) = tt

told_appends : (o c : Bool) (a b added : List Line) → IsTrue o → IsTrue c → b ≡ a ++ added → AppendsRows (cond (o && c) (Some a) None) (Some b) added
told_appends true true a b added p q e = e
told_appends true false a b added p q e = absurd cc
told_appends false c a b added p q e = absurd cc

told_keeps : (o c : Bool) (a b : List Line) → IsTrue o → IsTrue c → b ≡ a → KeepsRows (cond (o && c) (Some a) None) (Some b)
told_keeps true true a b p q e = e
told_keeps true false a b p q e = absurd cc
told_keeps false c a b p q e = absurd cc

appends_by : (ready o c up clean : Bool) (a b added : List Line) → (IsTrue ready → IsTrue up → IsTrue clean → IsTrue o × IsTrue c × (b ≡ a ++ added))
    → AppendsRows (cond (ready && (o && c)) (Some a) None) (cond (ready && (up && clean)) (Some b) None) added
appends_by false o c up clean a b added h = tt
appends_by true o c true true a b added h = let k = h refl refl refl in told_appends o c a b added k.0 k.1 k.2
appends_by true o c true false a b added h = untold_appends (cond (o && c) (Some a) None) added
appends_by true o c false clean a b added h = untold_appends (cond (o && c) (Some a) None) added

keeps_by : (ready o c up clean : Bool) (a b : List Line) → (IsTrue ready → IsTrue up → IsTrue clean → IsTrue o × IsTrue c × (b ≡ a))
    → KeepsRows (cond (ready && (o && c)) (Some a) None) (cond (ready && (up && clean)) (Some b) None)
keeps_by false o c up clean a b h = tt
keeps_by true o c true true a b h = let k = h refl refl refl in told_keeps o c a b k.0 k.1 k.2
keeps_by true o c true false a b h = untold_keeps (cond (o && c) (Some a) None)
keeps_by true o c false clean a b h = untold_keeps (cond (o && c) (Some a) None)

-- the tables stay those of the store while the connection is open
module _ (first : Bool) (old new : State) (size : ℕ) (still : IsTrue first → WhileOpen old (KeepsSo old.now size)) (less : doubt old.is_clean ≤ doubt new.is_clean) where
  early : HasCleanDisk new → HasCleanDisk old
  early clean = omega (arith, less, clean)

  -- a commit appends to the rows that are told
  pub appends : (added : List Line) → (HasCleanDisk new → Commits (Adds size added) old new) → AppendsRows (told first old) (told first new) added
  appends added h =
      appends_by first old.is_open old.is_clean new.is_open new.is_clean (listed old.now) (listed new.now) added
      (λ a up clean. let done = h (clean_disk new.is_clean clean) in
      let before = still a (early (clean_disk new.is_clean clean)) done.was_open in
      (done.was_open, clean_before old.is_clean new.is_clean less clean, (done.does before.keeps before.counted).1))

  -- and the tables keep so many
  pub appended : (added : List Line) → (HasCleanDisk new → Commits (Adds size added) old new) → IsTrue first → WhileOpen new (KeepsSo new.now (size + length added))
  appended added h = λ a clean up.
      let done = h clean in
      let before = still a (early clean) done.was_open in
      let after = done.does before.keeps before.counted in
      record { keeps = after.0; counted = (let len = ap length after.1 ∙ length-append (listed old.now) added in omega (arith, len, before.counted)) }

  module _ (was_open : HasCleanDisk new → IsTrue new.is_open → IsTrue old.is_open) (same : HasCleanDisk new → IsTrue new.is_open → new.now ≡ old.now) where
    before_by : IsTrue first → (clean : HasCleanDisk new) → IsTrue new.is_open → KeepsSo old.now size
    before_by a clean up = still a (early clean) (was_open clean up)

    -- what leaves the database keeps the rows that are told
    pub keeps : KeepsRows (told first old) (told first new)
    keeps =
        keeps_by first old.is_open old.is_clean new.is_open new.is_clean (listed old.now) (listed new.now)
        (λ a up clean. let disk = clean_disk new.is_clean clean in
        (was_open disk up, clean_before old.is_clean new.is_clean less clean, ap listed (same disk up)))

    pub stays : IsTrue first → WhileOpen new (KeepsSo new.now size)
    stays = λ a clean up. subst (λ db. KeepsSo db size) (sym (same clean up)) (before_by a clean up)

    -- what is found is what the list has, where it is told afterwards
    pub told_row : (at : ℕ) (row : Line) → (HasCleanDisk new → Keeps old.now (listed old.now) → slice_get (listed old.now) at ≡ Some row) → IfSome (told first new) (λ rows. slice_get rows at ≡ Some row)
    told_row at row found =
        by_told first new.is_open new.is_clean (listed new.now) (λ rows. slice_get rows at ≡ Some row)
        (λ a up c. let clean = clean_disk new.is_clean c in
        let before = before_by a clean up in
        ap (λ db. slice_get (listed db) at) (same clean up) ∙ found clean before.keeps)

told_is : (up clean : Bool) (rows : List Line) → IsTrue up → IsTrue clean → cond (up && clean) (Some rows) None ≡ Some rows
told_is true true rows p q = refl
told_is true false rows p q = absurd cc
told_is false clean rows p q = absurd cc

pub disk_clean : (b : Bool) → doubt b ≡ 0 → IsTrue b
unfolding doubt
disk_clean true h = refl
disk_clean false h = absurd (omega (arith, h))

-- tables that stand first tell what they keep
pub told_all : (first : Bool) (s : State) → HasCleanDisk s → IsTrue s.is_open → IsTrue first → told first s ≡ Some (listed s.now)
told_all true s clean up a = told_is s.is_open s.is_clean (listed s.now) up (disk_clean s.is_clean clean)
told_all false s clean up a = absurd cc

pub some_told : (first : Bool) (s : State) → HasCleanDisk s → IsTrue s.is_open → IsTrue first → IsSome (told first s)
some_told first s clean up a = rw (told_all first s clean up a) refl

-- tables that were made keep no rows
pub made_so : (old new : State) → Commits Makes old new → old.now.schema ≡ schema_of [] → KeepsSo new.now 0
made_so old new done bare = let all = done.does bare in record { keeps = all.0; counted = sym (ap length all.1) }

pub made_told : (first : Bool) (old new : State) → HasCleanDisk new → Commits Makes old new → old.now.schema ≡ schema_of [] → IsTrue first → told first new ≡ Some []
made_told first old new clean done bare a = told_all first new clean done.is_open a ∙ ap (λ (rows : List Line). Some rows) (done.does bare).1

-- what is told of the list of the tables is told of each list that they keep
pub told_rows : (db : Database) (told_now : Option (List Line)) → (HasOursFirst db.schema → Keeps db (listed db) × (told_now ≡ Some (listed db))) → (rows : List Line) → Keeps db rows → told_now ≡ Some rows
told_rows db told_now h rows keeps = (h keeps.schema).1 ∙ ap (λ (xs : List Line). Some xs) (told_by db rows keeps).0

pub has_schema : (db : Database) (rows : List Line) → Keeps db rows → HasOursFirst db.schema
has_schema db rows keeps = keeps.schema

-- tables that were read, and left
module _ (first : Bool) (old new : State) (size : ℕ) (plain : IsTrue first → HasOursFirst old.now.schema) (live : IsLive old) (was_open : HasCleanDisk new → IsTrue new.is_open → IsTrue old.is_open)
    (same : HasCleanDisk new → IsTrue new.is_open → new.now ≡ old.now) (ok : HasCleanDisk new → HasOursFirst old.now.schema → IsDatabase old.now → KeepsSo old.now size) where
  kept_so : HasCleanDisk new → IsTrue new.is_open → IsTrue first → KeepsSo old.now size
  kept_so clean up a = ok clean (plain a) (live (was_open clean up)).0

  pub read_still : IsTrue first → WhileOpen new (KeepsSo new.now size)
  read_still = λ a clean up. subst (λ db. KeepsSo db size) (sym (same clean up)) (kept_so clean up a)

  -- keep what they kept, and tell it
  pub read_kept : (HasCleanDisk new → IsTrue new.is_open) → HasCleanDisk new → IsTrue first → Keeps old.now (listed old.now) × (told first new ≡ Some (listed old.now))
  read_kept opened clean a =
      let up = opened clean in
      ((kept_so clean up a).keeps, told_all first new clean up a ∙ ap (λ db. Some (listed db)) (same clean up))

  pub read_found : (HasCleanDisk new → IsTrue new.is_open) → HasCleanDisk new → IsTrue first → (rows : List Line) → Keeps old.now rows → told first new ≡ Some rows
  read_found opened clean a = told_rows old.now (told first new) (λ _. read_kept opened clean a)

was_told : (first up clean : Bool) (rows : List Line) → IsSome (cond (first && (up && clean)) (Some rows) None) → IsTrue first × IsTrue up
was_told true true true rows h = (refl, refl)
was_told true true false rows h = absurd cc
was_told true false clean rows h = absurd cc
was_told false up clean rows h = absurd cc

-- told rows stay told, unless the disk fails
pub stays_told : (first : Bool) (old new : State) → Lasts old new → HasCleanDisk new → StaysTold (told first old) (told first new) old.faults new.faults
stays_told first old new lasts clean before =
    let was = was_told first old.is_open old.is_clean (listed old.now) before in
    elim (lasts.closes clean was.1) [ inl up ↦ inl (some_told first new clean up was.0) | inr fault ↦ inr fault ]

pub still_told : (first : Bool) (s : State) → StaysTold (told first s) (told first s) s.faults s.faults
still_told first s = λ before. inl before
