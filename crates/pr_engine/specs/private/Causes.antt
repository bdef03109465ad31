-- Where an error comes from, and what it leaves of an engine.
use Rattle.std.specs.Prelude.{◌≡◌, ℕ, ◌<◌, ◌^◌, cond, Option, Some, None, Result, Ok, Err}
use Rattle.pr_outside.specs.Causes.{Rose}
use Rattle.pr_outside.specs.declared.keeping.KeepError.{KeepError}
use Rattle.pr_outside.specs.declared.keeping.KeepError.TheVariants as keeping
use Rattle.pr_manager.specs.spec_world.private.Laws.{is_refusal}
use Rattle.pr_manager.specs.spec_world.declared.report.Report.{Report}
use Rattle.pr_engine.specs.declared.fault.ApplyError.{ApplyError}
use Rattle.pr_engine.specs.declared.fault.ApplyError.TheVariants as apply
use Rattle.pr_engine.specs.declared.fault.Cause.{Cause}
use Rattle.pr_engine.specs.declared.fault.Cause.TheVariants as cause
use Rattle.pr_engine.specs.declared.rows.fault.StartError.{StartError}
use Rattle.pr_engine.specs.declared.rows.fault.StartError.TheVariants as start

abbrev pub apply_error : KeepError → ApplyError
apply_error keeping.Failed = apply.StoreFailed
apply_error keeping.Memory = apply.Memory

abbrev pub restart_error : StartError → ApplyError
restart_error start.Memory = apply.Memory
restart_error start.StoreFailed = apply.StoreFailed
restart_error (start.BadRow index) = apply.BadRow index

abbrev pub HasApplyCause : {T : Type 0} → ℕ → ℕ → Result T ApplyError → Type 0
HasApplyCause before now (Ok x) = now ≡ before
HasApplyCause before now (Err apply.Memory) = now ≡ before
HasApplyCause before now (Err apply.StoreFailed) = Rose before now × (now < 2 ^ 64)
HasApplyCause before now (Err (apply.BadRow index)) = now ≡ before
HasApplyCause before now (Err (apply.Broken first)) = now ≡ before

-- what holds once an event was answered, and after a bad row too, or of an engine that was broken before:
-- nothing is said where the store refused a call, or memory ran out
abbrev pub IfAnswered : {T : Type 0} → Result T ApplyError → Type 0 → Type 0
IfAnswered (Ok x) P = P
IfAnswered (Err apply.Memory) P = Unit {0}
IfAnswered (Err apply.StoreFailed) P = Unit {0}
IfAnswered (Err (apply.BadRow index)) P = P
IfAnswered (Err (apply.Broken first)) P = P

-- what breaks an engine that answers so
abbrev pub cause_of : ApplyError → Cause
cause_of apply.Memory = cause.Memory
cause_of apply.StoreFailed = cause.StoreFailed
cause_of (apply.BadRow index) = cause.BadRow
cause_of (apply.Broken first) = first

-- what broke an engine first
abbrev pub first_cause : Option Cause → Cause → Cause
first_cause None now = now
first_cause (Some first) now = first

-- What an engine is broken by after an answer. An event that is accepted leaves it whole, and a refused
-- one leaves it as it was.
abbrev pub broken_after : Option Cause → Result Report ApplyError → Option Cause
broken_after before (Ok report) = cond (is_refusal report) before None
broken_after before (Err error) = Some (first_cause before (cause_of error))

-- the time of the last event after an answer
abbrev pub last_after : Option ℕ → ℕ → Result Report ApplyError → Option ℕ
last_after before time (Ok report) = cond (is_refusal report) before (Some time)
last_after before time (Err error) = before
