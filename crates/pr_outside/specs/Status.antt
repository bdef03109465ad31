-- What the program ends with.
use Rattle.std.specs.Prelude.{◌≡◌, ◌⊎◌, ℕ, ◌+◌, ◌-◌, ◌<◌, ◌≤◌, ◌^◌, min, Bool, true, false, List, length, Option, IfSome}
use Rattle.pr_outside.specs.Causes.{WentUp}
use Rattle.pr_outside.specs.declared.course.Course.TheVariants.{Going, Over}
use Rattle.pr_outside.specs.Meant.{Input}
use Rattle.pr_outside.specs.Outside.{Outside, NoneRose, InputRose, FilesRose, StoreRose, OutRose}
use Rattle.pr_outside.specs.declared.status.status.Status.{Status}
use Rattle.pr_outside.specs.declared.status.status.Status.TheVariants.{Done, Problem, Usage, Lint, ReadFault, WriteFault, StoreFault, Memory, TooLong}

abbrev pub status_number : Status → ℕ
status_number Done = 0
status_number Problem = 1
status_number Usage = 2
status_number Lint = 3
status_number ReadFault = 4
status_number WriteFault = 5
status_number StoreFault = 6
status_number Memory = 7
status_number TooLong = 8

-- how a run ends that was not cut short, by whether it refused a script line, a named file or the
-- exposition
abbrev pub verdict : Bool → Status
verdict true = Problem
verdict false = Done

-- so many bytes were taken in between
abbrev pub Took : Input → Input → ℕ → Type 0
Took before now n = WentUp before.taken now.taken n

-- 2^32 bytes or more were taken in between
abbrev pub TookMany : Input → Input → Type 0
TookMany before now = min (before.taken + 2 ^ 32) (2 ^ 64 - 1) ≤ now.taken

-- The table of statuses, where `bad` says that a row which is kept is a bad one: the first call of
-- the outside that is refused ends the program with its object's status; so does a bad row, and
-- want of memory, neither of which is a refused call. An input is too long by the bytes that were taken.
abbrev pub HasCause : Type 0 → Outside → Outside → Status → Type 0
HasCause bad before now Done = NoneRose before now
HasCause bad before now Problem = NoneRose before now
HasCause bad before now Usage = NoneRose before now
HasCause bad before now Lint = NoneRose before now
HasCause bad before now ReadFault = InputRose before now ⊎ FilesRose before now
HasCause bad before now WriteFault = OutRose before now
HasCause bad before now StoreFault = StoreRose before now ⊎ (NoneRose before now × bad)
HasCause bad before now Memory = NoneRose before now
HasCause bad before now TooLong = NoneRose before now × TookMany before.input now.input

-- An input has fewer than 2^32 bytes left, and as many or more.
abbrev pub IsShort : Option (List ℕ) → Type 0
IsShort left = IfSome left (λ bytes. length bytes < 2 ^ 32)

abbrev pub IsLong : Option (List ℕ) → Type 0
IsLong left = IfSome left (λ bytes. 2 ^ 32 ≤ length bytes)

-- An input is too long: as many came, and were taken.
abbrev pub IsTooLong : Input → Input → Type 0
IsTooLong before now = IsLong before.left × TookMany before now

-- An input was read to its end: the last read met it, and fewer than 2^32 bytes were taken.
pub record IsReadOut (before now : Input) : Type 0 where
  pub over : before.course ≡ Going → now.course ≡ Over
  pub few : now.taken < before.taken + 2 ^ 32
