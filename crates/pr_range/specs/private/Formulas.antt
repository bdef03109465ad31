-- The functions that no fold tells: formulas over two values or more, the last value and quantiles.
use Rattle.std.specs.Prelude.{Bool, true, false, Result, Ok}
use Rattle.spec_vectors.specs.pr_num.declared.value.Num.{Num}
use Rattle.spec_vectors.specs.pr_num.declared.value.Num.TheVariants.{NaN}
use Rattle.spec_vectors.specs.pr_num.declared.value.TooWide.{TooWide}
use Rattle.pr_head.specs.spec_history.declared.spot.Spot.{Spot}
use Rattle.std.specs.Prelude.{List}
use Rattle.spec_vectors.specs.declared.range.Ask.{Ask}
use Rattle.spec_vectors.specs.declared.range.RangeFn.{RangeFn}
use Rattle.spec_vectors.specs.declared.range.RangeFn.TheVariants.{Irate, Idelta, Deriv, PredictLinear, LastOverTime, QuantileOverTime}
use Rattle.spec_vectors.specs.Extrapolation.{idelta_of, irate_of}
use Rattle.spec_vectors.specs.Regression.{deriv_of, predicted}
use Rattle.spec_vectors.specs.Ranges.{argument}

-- whether a function is such a formula
abbrev pub is_formula : RangeFn → Bool
is_formula Irate = true
is_formula Idelta = true
is_formula Deriv = true
is_formula PredictLinear = true
is_formula _ = false

-- whether a function is one of the items
abbrev pub is_of_items : RangeFn → Bool
is_of_items LastOverTime = true
is_of_items QuantileOverTime = true
is_of_items f = is_formula f

abbrev pub formula_of : RangeFn → Ask → Spot → List Spot → Result Num TooWide
formula_of Irate a first rest = irate_of first rest
formula_of Idelta a first rest = idelta_of first rest
formula_of Deriv a first rest = deriv_of first rest
formula_of PredictLinear a first rest = predicted (argument a) a.to first rest
formula_of _ a first rest = Ok NaN
