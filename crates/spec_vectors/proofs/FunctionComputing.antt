-- What computes the definitions of functions on values that are written out.
use Rattle.std.specs.Prelude.{⊤}
use Rattle.pr_num.specs.Arithmetic.{sum_of, product_of, quotient_of}
use Rattle.pr_num.specs.Half.{half, half_abs}
use Rattle.pr_num.specs.Multiples.{floor_quotient, floor_of, ceil_of, rounded_to}
use Rattle.pr_num.specs.Order.{compared, order_of}
use Rattle.pr_num.specs.Reads.{reads}
use Rattle.pr_num.specs.Total.{value_of}
use Rattle.pr_num.specs.private.Worked.{num}
use Rattle.spec_vectors.specs.Calendar.{date_after, days_before}

unfoldable pub function_computing : ⊤
unfolding sum_of product_of quotient_of half half_abs floor_quotient floor_of ceil_of rounded_to compared order_of reads value_of num date_after days_before
function_computing = tt
