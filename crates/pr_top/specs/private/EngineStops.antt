-- What stops a run whose engine answers an error.
use Rattle.pr_engine.specs.declared.fault.ApplyError.{ApplyError}
use Rattle.pr_engine.specs.declared.fault.ApplyError.TheVariants as apply
use Rattle.pr_engine.specs.declared.rows.fault.StartError.{StartError}
use Rattle.pr_engine.specs.declared.rows.fault.StartError.TheVariants as start
use Rattle.pr_outside.specs.declared.status.status.Stop.{Stop}
use Rattle.pr_outside.specs.declared.status.status.Stop.TheVariants.{Store, BadRow, Memory}

abbrev pub start_stop : StartError → Stop
start_stop start.Memory = Memory
start_stop start.StoreFailed = Store
start_stop (start.BadRow index) = BadRow index

-- an engine of a run is not broken, and does not answer that it is
abbrev pub apply_stop : ApplyError → Stop
apply_stop apply.Memory = Memory
apply_stop apply.StoreFailed = Store
apply_stop (apply.BadRow index) = BadRow index
apply_stop (apply.Broken first) = Memory
