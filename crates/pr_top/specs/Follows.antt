-- What the program promises: that it follows the plan of its command.
use Rattle.std.specs.Prelude.{◌≡◌, ◌≢◌, ◌⊎◌, ℕ, ◌+◌, ◌<◌, ◌≤◌, ◌^◌, List, [], ◌∷◌, ◌++◌, length, map, take, Option, Some, None, IfSome, IsSome, IsTrue, true, false}
use Rattle.std.specs.Io.KnownBytes.{Appends}
use Rattle.pr_engine.specs.spec_history.Rows.{encoded}
use Rattle.pr_outside.specs.spec_history.declared.row.Row.{Row}
use Rattle.pr_outside.specs.Causes.{IsCalm}
use Rattle.pr_outside.specs.Courses.{IsInTime}
use Rattle.pr_outside.specs.Meant.{Input}
use Rattle.pr_outside.specs.Outside.{Outside, AreCalm, AreTold, Held}
use Rattle.pr_outside.specs.Paths.{Opens, MayOpen}
use Rattle.pr_outside.specs.Status.{HasCause, IsLong, IsReadOut, IsShort}
use Rattle.pr_outside.specs.Stores.{IsBadIn, OverRows}
use Rattle.pr_outside.specs.declared.status.status.Status.{Status}
use Rattle.pr_outside.specs.declared.status.status.Status.TheVariants.{Done, Lint, Memory, Problem, ReadFault, StoreFault, TooLong, Usage}
use Rattle.pr_backfill.specs.pr_text.BadRows.{TellsRow, bad_row_text}
use Rattle.pr_backfill.specs.pr_checks.RulesLoaded.{all_rules}
use Rattle.pr_top.specs.Command.{Command, runs, checks_metrics, exercises, backfills, uses}
use Rattle.pr_top.specs.Plan.{Piece, Plan, all_asks, all_rows, all_text, plan_of}

-- What holds over the rows at the start, where the store tells its rows at the end; of one that
-- does not nothing is said. A command that is over no store begins with no rows.
abbrev pub FromStart : Option (List ℕ) → Outside → Outside → (List Row → Type 0) → Type 0
FromStart None before now P = P []
FromStart (Some path) before now P = IfSome now.store.rows (λ all. OverRows before.store.rows all P)

-- The rows of these pieces are kept behind those at the start, where the store tells its rows. A
-- plan that is over no rows leaves the store as it is.
abbrev pub Keeps : Option (List ℕ) → List Row → List Piece → Outside → Outside → Type 0
Keeps None rows pieces before now = now.store ≡ before.store
Keeps (Some path) rows pieces before now = IfSome now.store.rows (λ all. all ≡ rows ++ map encoded (all_rows pieces))

-- All pieces are done.
pub record IsWhole (opens : Option (List ℕ)) (p : Plan) (rows : List Row) (before now : Outside) (result : Status) : Type 0 where
  pub status : result ≡ p.status
  pub text : Appends before.out.taken now.out.taken (all_text p.pieces)
  pub kept : Keeps opens rows p.pieces before now
  pub opened : IfSome opens (λ path. Opens path before.store.paths now.store.paths)
  pub read : IsTrue p.reads → now.input.left ≡ Some []

-- So many pieces are begun, and `count` bytes of their text are written. All but the last of them
-- are done, and of the last one the rows are kept and the text is written, maybe in part.
pub record IsFront (opens : Option (List ℕ)) (pieces : List Piece) (rows : List Row) (before now : Outside) : Type 0 where
  pub begun : ℕ
  pub within : begun ≤ length pieces
  pub count : ℕ
  pub text : Appends before.out.taken now.out.taken (take count (all_text (take begun pieces)))
  pub done : (fewer : ℕ) → fewer + 1 ≡ begun → length (all_text (take fewer pieces)) ≤ count
  pub kept : Keeps opens rows (take begun pieces) before now

-- The plan is followed, where the outside tells of the files that it asks for what they hold,
-- which is `held`: to its end, where no call of the outside was refused, memory sufficed, and no
-- input is too long; and a front of it, however it ends. An input of 2^32 bytes is too long.
pub record Follows (opens : Option (List ℕ)) (p : Plan) (input : List ℕ) (held : Held) (rows : List Row) (before now : Outside) (result : Status) : Type 0 where
  pub whole : AreTold before.files.content held (all_asks p.pieces) → AreCalm before now → result ≢ Memory → (IsTrue p.reads → length input < 2 ^ 32) → IsWhole opens p rows before now result
  pub front : AreTold before.files.content held (all_asks p.pieces) → IsFront opens p.pieces rows before now
  pub long : IsTrue p.reads → 2 ^ 32 ≤ length input → AreCalm before now → result ≢ Memory → result ≡ TooLong

-- a backfill is over no store where something is wrong with one of its files
abbrev pub if_fine : List ℕ → List ℕ → Option (List ℕ)
if_fine path [] = Some path
if_fine path (b ∷ wrong) = None

-- A command follows its plan over the rows at the start, for all that the files may hold. A
-- backfill asks for its files before it opens a store, so that of these it is said first what they
-- hold.
abbrev pub FollowsPlan : Option Command → List ℕ → Outside → Outside → Status → Type 0
FollowsPlan (Some (backfills path times names)) input before now result = (held : Held) → AreTold before.files.content held names
    → FromStart (if_fine path (all_rules held names).wrong) before now (λ rows.
    Follows (if_fine path (all_rules held names).wrong) (plan_of (Some (backfills path times names)) input held rows) input held rows before now result)
FollowsPlan command input before now result =
    FromStart (uses command).store before now (λ rows. (held : Held) → Follows (uses command).store (plan_of command input held rows) input held rows before now result)

-- What shows that a bad row ended a command: over any store the last line of a run tells it, and
-- what an exercise or a backfill writes is that line alone. Where the rows are told, it is the
-- first bad one of these.
abbrev pub EndsAtBadRow : Option Command → Outside → Outside → Type 0
EndsAtBadRow (Some (runs path)) before now = (index : ℕ) × IsBadIn now.store index × TellsRow index before.out.taken now.out.taken
EndsAtBadRow (Some (exercises rounds)) before now = (index : ℕ) × IsBadIn now.store index × Appends before.out.taken now.out.taken (bad_row_text index)
EndsAtBadRow (Some (backfills path times names)) before now = (index : ℕ) × IsBadIn now.store index × Appends before.out.taken now.out.taken (bad_row_text index)
EndsAtBadRow _ before now = ⊥

-- a run, an exercise, and a backfill that opened its store; no other command opens one
abbrev pub IsOverStore : Option Command → Outside → Outside → Type 0
IsOverStore (Some (backfills path times names)) before now = now.store.paths ≢ before.store.paths
IsOverStore command before now = IsSome (uses command).store

-- A command that uses its input, and that nothing stopped, has read it out, and the input is short; one that
-- ends since its input is too long is right in that.
abbrev pub IsReadBy : Status → Input → Input → Type 0
IsReadBy Done before now = IsShort before.left × IsReadOut before now
IsReadBy Problem before now = IsShort before.left × IsReadOut before now
IsReadBy Lint before now = IsShort before.left × IsReadOut before now
IsReadBy TooLong before now = IsLong before.left
IsReadBy _ before now = Unit {0}

-- Whether a command opened the path of its store, by its status. A backfill opens it behind the load of its
-- files, where nothing is wrong with them. A run and an exercise open it first, and nothing comes before that
-- but a refusal of the store, or want of memory.
abbrev pub OpensStore : Option Command → Status → List ℕ → List (List ℕ) → List (List ℕ) → Type 0
OpensStore (Some (backfills path times names)) Done = Opens
OpensStore (Some (backfills path times names)) Problem = λ path before now. now ≡ before
OpensStore (Some (backfills path times names)) ReadFault = λ path before now. now ≡ before
OpensStore (Some (backfills path times names)) _ = MayOpen
OpensStore _ StoreFault = MayOpen
OpensStore _ Memory = MayOpen
OpensStore _ _ = Opens

-- What a command promises, where `before` and `now` are what the four objects of the outside mean
-- before and after it.
pub record Promises (command : Option Command) (before now : Outside) (result : Status) : Type 0 where
  -- It follows its plan, where the outside tells an input that it uses.
  pub follows : (input : List ℕ) → (IsTrue (uses command).input → before.input.left ≡ Some input) → FollowsPlan command input before now result
  -- Each status has its cause, over any outside.
  pub cause : HasCause (EndsAtBadRow command before now) before now result
  -- Only words that are none of the forms end with 2, `check metrics` alone ends with 3, and an exercise
  -- refuses nothing.
  pub usage : result ≡ Usage → command ≡ None
  pub lint : result ≡ Lint → command ≡ Some checks_metrics
  pub fine : (rounds : ℕ) → command ≡ Some (exercises rounds) → result ≢ Problem
  -- What is known of its input, and of the paths that it opens.
  pub read : (uses command).input ≡ true → IsReadBy result before.input now.input
  pub opens : IfSome (uses command).store (λ path. OpensStore command result path before.store.paths now.store.paths)
  -- No object is called after its last call: a refused one, or the read that met the end. And however it ends,
  -- no more is taken of the input than the limit and one piece.
  pub in_time : IsInTime before.input.course now.input.course × IsInTime before.files.course now.files.course × IsInTime before.out.course now.out.course
  pub most : now.input.taken < before.input.taken + 2 ^ 32 + 2 ^ 14
  -- `check metrics` writes nothing where its input was not read to the end. (4 is the status of a
  -- refused load too. None is made; but of a count of the files that stands at its type's end no
  -- cause can be told.)
  pub silent : command ≡ Some checks_metrics → (result ≡ TooLong) ⊎ ((result ≡ ReadFault) × IsCalm before.files.faults now.files.faults)
      → Appends before.out.taken now.out.taken []
  -- A backfill writes nothing where a file could not be loaded, and leaves the rows of a store that it did not
  -- open.
  pub unwritten : (path times : List ℕ) (names : List (List ℕ)) → command ≡ Some (backfills path times names) → result ≡ ReadFault → now.out ≡ before.out
  pub unopened : (path times : List ℕ) (names : List (List ℕ)) → command ≡ Some (backfills path times names) → now.store.paths ≡ before.store.paths
      → IfSome now.store.rows (λ rows. before.store.rows ≡ Some rows)
  -- One that is over a store leaves its rows told, where no call of it was refused and memory sufficed,
  -- as long as what the store stands on has kept its word.
  pub told : IsOverStore command before now → IsCalm before.store.faults now.store.faults → result ≢ Memory → IsTrue now.store.sound → IsSome now.store.rows
  -- What it does not use means what it meant. (That these objects are as they were, `promtool`
  -- says beside this.)
  pub input : (uses command).input ≡ false → now.input ≡ before.input
  pub files : (uses command).files ≡ false → now.files ≡ before.files
  pub store : (uses command).store ≡ None → now.store ≡ before.store
