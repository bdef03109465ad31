-- Words of what the program promises.
use Rattle.std.specs.Prelude.{◌≡◌, ◌≢◌, ℕ, List, flat_map, map, take, Result, Ok, Err, Some}
use Rattle.std.specs.Io.KnownBytes.{Appends}
use Rattle.pr_outside.specs.Outside.{AreCalm, Outside}
use Rattle.pr_outside.specs.Stores.{OverRows}
use Rattle.pr_outside.specs.spec_history.declared.row.Row.{Row}
use Rattle.spec_history.specs.Rows.{encoded}
use Rattle.spec_history.specs.declared.entry.Entry.{Entry}
use Rattle.pr_outside.specs.declared.status.status.Status.{Status}
use Rattle.pr_outside.specs.declared.status.status.Status.TheVariants.{Memory, StoreFault}
use Rattle.pr_top.specs.pr_run.Told.{OrderAnswer}
use Rattle.pr_top.specs.pr_text.BadRows.{bad_row_text}

-- The output took this text, and no other.
abbrev pub Writes : Outside → Outside → List ℕ → Type 0
Writes before now text = Appends before.out.taken now.out.taken text

-- What holds over the rows at the start and those at the end, where the store tells these: those at the
-- start are the ones that it told before, or the first of those at the end.
abbrev pub FromRows : Outside → Outside → (List Row → List Row → Type 0) → Type 0
FromRows before now P = (all : List Row) → now.store.rows ≡ Some all → OverRows before.store.rows all (λ rows. P rows all)

-- what holds over rows that tell a history, and what over those of which one is the first bad one
abbrev pub ByStart : Result (List Entry) ℕ → (List Entry → Type 0) → (ℕ → Type 0) → Type 0
ByStart (Ok history) P Q = P history
ByStart (Err index) P Q = Q index

-- the rows of entries, and those of what answers add
abbrev pub rows_of : List Entry → List Row
rows_of entries = map encoded entries

abbrev pub rows_added : List OrderAnswer → List Row
rows_added answered = rows_of (flat_map (λ (a : OrderAnswer). a.rows) answered)

-- Over rows of which one is bad its line was written alone, or a front of it; where no call was refused
-- and memory sufficed, all of it. The rows stay.
abbrev pub TellsBadRow : List Row → List Row → Outside → Outside → Status → ℕ → Type 0
TellsBadRow rows all before now result index =
    (all ≡ rows) × ((n : ℕ) × Writes before now (take n (bad_row_text index))) × (AreCalm before now → result ≢ Memory → (result ≡ StoreFault) × Writes before now (bad_row_text index))
