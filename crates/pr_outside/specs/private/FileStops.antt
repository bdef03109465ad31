-- What stops the check of a file, and what was written by then.
use Rattle.std.specs.Prelude.{◌≡◌, ℕ, ◌++◌, Bool, List, [], length, take, Result, Ok, Err}
use Rattle.std.specs.declared.option.Option.{Option}
use Rattle.std.specs.Io.KnownBytes.{Appends}
use Rattle.pr_outside.specs.Asks.{Asks}
use Rattle.pr_outside.specs.declared.status.status.Stop.{Stop}
use Rattle.pr_outside.specs.declared.status.status.Stop.TheVariants.{Read, Load, Store, BadRow, Write, Memory, TooLong}
use Rattle.pr_outside.specs.FileChecks.{Told, Telling, all_told, any_refused, all_asks, texts}
use Rattle.pr_outside.specs.Outside.{Held}

-- what is told of a file was written, and whether it is refused is so
abbrev pub Turned : Told → Option (List ℕ) → Option (List ℕ) → Bool → Type 0
Turned told old new refused = Appends old new told.text × (refused ≡ told.refused)

-- a front of what is told of a file was written, and nothing where a file could not be loaded
abbrev pub IsFileFront : Told → Option (List ℕ) → Option (List ℕ) → Result Bool Stop → Type 0
IsFileFront told old new (Ok refused) = Appends old new told.text
IsFileFront told old new (Err Read) = ⊥
IsFileFront told old new (Err Load) = Appends old new []
IsFileFront told old new (Err Store) = ⊥
IsFileFront told old new (Err (BadRow index)) = ⊥
IsFileFront told old new (Err Write) = (n : ℕ) × Appends old new (take n told.text)
IsFileFront told old new (Err Memory) = (n : ℕ) × Appends old new (take n told.text)
IsFileFront told old new (Err TooLong) = ⊥

-- All but the rest of the names were checked.
pub record AreDone (telling : Telling) (held : Held) (names : List (List ℕ)) (tolds : List Told) (old new : Option (List ℕ)) (before now : ℕ) (refused : Bool) : Type 0 where
  pub done : List Told
  pub joined : tolds ≡ done ++ all_told telling held names
  pub written : Appends old new (texts done)
  pub asked : Asks before now (length (all_asks done))
  pub so_far : refused ≡ any_refused done
