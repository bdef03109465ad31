-- Which calls are worked out of the values of their arguments.
use Rattle.std.specs.Prelude.{Bool, true, false, is_none}
use Rattle.pr_ast.specs.declared.names.Func.{Func}
use Rattle.pr_ast.specs.declared.names.Func.TheVariants.{Timestamp, AbsentOverTime, Rate, Increase, Delta, Irate, Idelta, Deriv, PredictLinear, Changes, Resets, SumOverTime, AvgOverTime, MinOverTime, MaxOverTime, CountOverTime, LastOverTime, PresentOverTime, QuantileOverTime}
use Rattle.pr_ast.specs.Tree.{Tree}
use Rattle.spec_meaning.specs.Calls.{selector_argument}

-- all but those of functions of ranges, and that of `timestamp` of a selector, which wants the
-- times of its samples
abbrev pub is_plain_call : Func → Tree → Bool
is_plain_call Timestamp ts = is_none (selector_argument ts)
is_plain_call AbsentOverTime ts = false
is_plain_call Rate ts = false
is_plain_call Increase ts = false
is_plain_call Delta ts = false
is_plain_call Irate ts = false
is_plain_call Idelta ts = false
is_plain_call Deriv ts = false
is_plain_call PredictLinear ts = false
is_plain_call Changes ts = false
is_plain_call Resets ts = false
is_plain_call SumOverTime ts = false
is_plain_call AvgOverTime ts = false
is_plain_call MinOverTime ts = false
is_plain_call MaxOverTime ts = false
is_plain_call CountOverTime ts = false
is_plain_call LastOverTime ts = false
is_plain_call PresentOverTime ts = false
is_plain_call QuantileOverTime ts = false
is_plain_call _ ts = true
