-- How a filling ends, as the command does.
use Rattle.std.specs.Prelude.{Bool, false, Result, Ok, Err}
use Rattle.pr_outside.specs.declared.status.status.Stop.{Stop}

-- it refuses nothing
abbrev pub ending_of : Result Unit Stop → Result Bool Stop
ending_of (Ok done) = Ok false
ending_of (Err stop) = Err stop
