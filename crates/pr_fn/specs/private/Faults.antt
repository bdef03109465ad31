-- Which fault of the definition a call tells.
use Rattle.std.specs.Prelude.{Option, Some, None}
use Rattle.spec_vectors.specs.declared.function_fault.FunctionFault.{FunctionFault}
use Rattle.spec_vectors.specs.declared.function_fault.FunctionFault.TheVariants as fault
use Rattle.pr_fn.specs.declared.fn_fault.FnFault.{FnFault}
use Rattle.pr_fn.specs.declared.fn_fault.FnFault.TheVariants.{SameLabels, TooWide, Memory}

-- want of memory tells nothing of the definition's answer
abbrev pub function_told : FnFault → Option FunctionFault
function_told (SameLabels labels) = Some (fault.SameLabels labels)
function_told TooWide = Some fault.TooWide
function_told Memory = None
