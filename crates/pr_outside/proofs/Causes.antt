-- The status of an end has its cause.
use Rattle.std.proofs.Common.{ℕ, Bool, true, false, Result, Ok, Err, inl, inr}
use Rattle.pr_outside.specs.Ends.{Ends, StopsBy, status_of, stop_status}
use Rattle.pr_outside.specs.Outside.{Outside}
use Rattle.pr_outside.specs.Status.{HasCause, TookMany}
use Rattle.pr_outside.specs.declared.status.status.Stop.{Stop}
use Rattle.pr_outside.specs.declared.status.status.Stop.TheVariants.{Read, Load, Store, BadRow, Write, Memory, TooLong}

-- by what a bad row shows
pub stop_cause : (T : Type 0) (bad : ℕ → Type 0) (shows : Type 0) (long : Type 0) (before now : Outside) (s : Stop) → ((index : ℕ) → bad index → shows)
    → (long → TookMany before.input now.input) → StopsBy {T = T} bad long before now (Err s) → HasCause shows before now (stop_status s)
stop_cause T bad shows long before now Read f l c = inl c
stop_cause T bad shows long before now Load f l c = inr c
stop_cause T bad shows long before now Store f l c = inl c
stop_cause T bad shows long before now (BadRow index) f l c = inr (c.0, f index c.1)
stop_cause T bad shows long before now Write f l c = c
stop_cause T bad shows long before now Memory f l c = c
stop_cause T bad shows long before now TooLong f l c = (c.0, l c.1)

pub ending_cause : (bad : ℕ → Type 0) (shows : Type 0) (long : Type 0) (before now : Outside) (r : Result Bool Stop) → ((index : ℕ) → bad index → shows)
    → (long → TookMany before.input now.input) → Ends bad long before now r → HasCause shows before now (status_of r)
ending_cause bad shows long before now (Ok true) f l e = e.cause
ending_cause bad shows long before now (Ok false) f l e = e.cause
ending_cause bad shows long before now (Err s) f l e = stop_cause Bool bad shows long before now s f l e.cause
