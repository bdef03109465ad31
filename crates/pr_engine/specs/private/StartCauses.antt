-- Where an error of a start comes from.
use Rattle.std.specs.Prelude.{◌≡◌, ℕ, ◌<◌, ◌^◌, Result, Ok, Err}
use Rattle.pr_outside.specs.Causes.{Rose}
use Rattle.pr_outside.specs.declared.keeping.KeepError.{KeepError}
use Rattle.pr_outside.specs.declared.keeping.KeepError.TheVariants as keeping
use Rattle.pr_engine.specs.declared.rows.fault.StartError.{StartError}
use Rattle.pr_engine.specs.declared.rows.fault.StartError.TheVariants as start

-- the same error, as it is told by a start, by an event, and by an event that begins anew
abbrev pub start_error : KeepError → StartError
start_error keeping.Failed = start.StoreFailed
start_error keeping.Memory = start.Memory

-- The store's count of faults rises exactly where it refused a call.
abbrev pub HasStartCause : {T : Type 0} → ℕ → ℕ → Result T StartError → Type 0
HasStartCause before now (Ok x) = now ≡ before
HasStartCause before now (Err start.Memory) = now ≡ before
HasStartCause before now (Err start.StoreFailed) = Rose before now × (now < 2 ^ 64)
HasStartCause before now (Err (start.BadRow index)) = now ≡ before

-- what holds once rows were read, all of them or those before a bad one: nothing is said where the store
-- refused a call, or memory ran out
abbrev pub IfLoaded : {T : Type 0} → Result T StartError → Type 0 → Type 0
IfLoaded (Ok x) P = P
IfLoaded (Err start.Memory) P = Unit {0}
IfLoaded (Err start.StoreFailed) P = Unit {0}
IfLoaded (Err (start.BadRow index)) P = P
