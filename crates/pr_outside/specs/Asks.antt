-- How many files were asked for.
use Rattle.std.specs.Prelude.{◌≡◌, ℕ, ◌+◌, ◌<◌, ◌≤◌, List, length, take, flat_map, Result, Ok, Err}
use Rattle.pr_outside.specs.Causes.{WentUp}
use Rattle.pr_outside.specs.Ends.{StopPlace, at_input, at_file, at_store, at_row, at_output, anywhere}
use Rattle.pr_outside.specs.declared.status.status.Stop.{Stop}
use Rattle.pr_outside.specs.declared.status.status.Stop.TheVariants.{Read, Load, Store, BadRow, Write, Memory, TooLong}

-- so many files were asked for
abbrev pub Asks : ℕ → ℕ → ℕ → Type 0
Asks before now n = WentUp before now n

-- how many files the first of some steps ask for
abbrev pub asked_by : ℕ → List (List (List ℕ)) → ℕ
asked_by done steps = length (flat_map (λ (asks : List (List ℕ)). asks) (take done steps))

-- How many files were asked for where so many steps are done, the last of them maybe in part. A
-- load that stopped a run is one of the next step's; a refused write is one of a step whose files
-- were all asked for.
abbrev pub AsksAt : StopPlace → List (List (List ℕ)) → ℕ → ℕ → Type 0
AsksAt at_input steps done n = n ≡ asked_by done steps
AsksAt at_file steps done n = (asked_by done steps < n) × (n ≤ asked_by (done + 1) steps)
AsksAt at_store steps done n = (asked_by done steps ≤ n) × (n ≤ asked_by (done + 1) steps)
AsksAt (at_row index) steps done n = (asked_by done steps ≤ n) × (n ≤ asked_by (done + 1) steps)
AsksAt at_output steps done n = n ≡ asked_by done steps
AsksAt anywhere steps done n = n ≤ asked_by (done + 1) steps

-- How many of so many files a call asked for: all of them, or some that a load or want of memory
-- stopped. All are asked for before a write.
abbrev pub AsksBy : {T : Type 0} → ℕ → ℕ → ℕ → Result T Stop → Type 0
AsksBy before now all (Ok done) = Asks before now all
AsksBy before now all (Err Read) = ⊥
AsksBy before now all (Err Load) = (n : ℕ) × Asks before now n × (0 < n) × (n ≤ all)
AsksBy before now all (Err Store) = ⊥
AsksBy before now all (Err (BadRow index)) = ⊥
AsksBy before now all (Err Write) = Asks before now all
AsksBy before now all (Err Memory) = (n : ℕ) × Asks before now n × (n ≤ all)
AsksBy before now all (Err TooLong) = ⊥
