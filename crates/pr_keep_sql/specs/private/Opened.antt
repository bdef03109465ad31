-- What a store of a path has opened, and what it tells.
use Rattle.std.specs.Prelude.{◌≡◌, ◌≢◌, ◌++◌, ℕ, List, [], length, Bool, true, Option, Some, None, Result, Err, OnOk, OnErr}
use Rattle.sqlite.specs.Effect.{Database, IsDatabase}
use Rattle.sqlite.specs.Files.{AreFoundIn, HoldsDatabase}
use Rattle.sqlite.specs.Held.{state}
use Rattle.sqlite.specs.Recovery.{Image}
use Rattle.sqlite.specs.State.{HasCleanDisk}
use Rattle.sqlite.specs.Store.{Ghosts}
use Rattle.sqlite.specs.Tree.{Trees}
use Rattle.pr_outside.specs.declared.keeping.KeepError.{KeepError}
use Rattle.pr_outside.specs.declared.keeping.KeepError.TheVariants.{Failed}
use Rattle.pr_outside.specs.spec_history.declared.row.Row.{Row}
use Rattle.pr_keep_sql.specs.private.Calls.{HasCommitted, HasQueried}
use Rattle.pr_keep_sql.specs.private.Counts.{faults_of}
use Rattle.pr_keep_sql.specs.private.Kept.{Keeps, listed}
use Rattle.pr_keep_sql.specs.private.Store.{faults_in, rows_of, sound_of}
use Rattle.pr_keep_sql.specs.private.Tables.{HasOursFirst, schema_of}
use Rattle.pr_keep_sql.specs.declared.opened.Opened.{Opened}
use Rattle.pr_keep_sql.specs.declared.opened.Opened.TheVariants.{Nothing, Memory, File}

-- What files that held this recover to: the database, or nothing where there was none.
pub record IsFoundIn (image : Image) (db : Database) : Type 0 where
  pub found : AreFoundIn image db.trees
  pub held : (trees : Trees) → HoldsDatabase image trees → db.trees ≡ trees

-- What is told once a database of which this is known was found, and its tables are ready.
pub record TellsOf (Finds : Database → Type 0) (told : Option (List Row)) : Type 0 where
  pub db : Database
  pub sound : IsDatabase db
  pub found : Finds db
  -- over nothing the tables are made, and there is no row
  pub made : db.schema ≡ schema_of [] → told ≡ Some []
  -- where the tables stand first, the rows that they keep
  pub kept : HasOursFirst db.schema → Keeps db (listed db) × (told ≡ Some (listed db))

module _ {S : Type 0} (g : Ghosts S) where
  -- the rows, where they are told
  abbrev pub rows_in : Opened S → Option (List Row)
  rows_in Nothing = None
  rows_in (Memory held) = Some held.rows
  rows_in (File kept) = rows_of g kept

  -- whether what is open stands on what has kept its word so far, as memory always does
  abbrev pub sound_in : Opened S → Bool
  sound_in Nothing = true
  sound_in (Memory held) = true
  sound_in (File kept) = sound_of g kept

  -- the disk has returned what was written
  abbrev pub IsTrusted : Opened S → Type 0
  IsTrusted Nothing = Unit {0}
  IsTrusted (Memory held) = Unit {0}
  IsTrusted (File kept) = HasCleanDisk (state g kept.conn)

  -- how often the disk has failed, which memory does not
  abbrev pub disk_faults : Opened S → ℕ
  disk_faults Nothing = 0
  disk_faults (Memory held) = 0
  disk_faults (File kept) = (state g kept.conn).faults

  -- what is open has committed these rows, and no other store is open
  abbrev pub CommitsIn : {T : Type 0} → List Row → Result T KeepError → Opened S → Opened S → Type 0
  CommitsIn added result Nothing Nothing = Unit {0}
  CommitsIn added result (Memory old) (Memory new) = OnOk result (new.rows ≡ old.rows ++ added) × OnErr result (new.rows ≡ old.rows) × (result ≢ Err Failed)
  CommitsIn added result (File old) (File new) = HasCommitted g added result old new
  CommitsIn added result _ _ = ⊥

  -- what is open has loaded the row with this number, and no other store is open
  abbrev pub LoadsIn : ℕ → Result Row KeepError → Opened S → Opened S → Type 0
  LoadsIn index result Nothing Nothing = Unit {0}
  LoadsIn index result (Memory old) (Memory new) = (new ≡ old) × (result ≢ Err Failed)
  LoadsIn index result (File old) (File new) = HasQueried g index result old new
  LoadsIn index result _ _ = ⊥

-- how many rows there are
abbrev pub size_in : {S : Type 0} → Opened S → ℕ
size_in Nothing = 0
size_in (Memory held) = length held.rows
size_in (File kept) = kept.size

-- how often a call was refused, by the count of the store's own and that of what is open
abbrev pub faults_with : {S : Type 0} → ℕ → Opened S → ℕ
faults_with own Nothing = own
faults_with own (Memory held) = own
faults_with own (File kept) = faults_of own (faults_in kept)
