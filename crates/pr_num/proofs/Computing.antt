-- What computes the definitions on values that are written out.
use Rattle.std.specs.Prelude.{⊤}
use Rattle.std.specs.Fmt.{digits}
use Rattle.pr_num.specs.Arithmetic.{sum_of, product_of, quotient_of, remainder_of, muldiv_of}
use Rattle.pr_num.specs.Half.{half, half_abs}
use Rattle.pr_num.specs.Multiples.{floor_quotient, floor_of, ceil_of, rounded_to}
use Rattle.pr_num.specs.Quantile.{ranked, quantile_of}
use Rattle.pr_num.specs.Reads.{reads}
use Rattle.pr_num.specs.Shown.{fraction_text, shown}
use Rattle.pr_num.specs.Total.{value_of, mean_of}
use Rattle.pr_num.specs.private.Worked.{num}

unfoldable pub computing : ⊤
unfolding digits sum_of product_of quotient_of remainder_of muldiv_of half half_abs floor_quotient floor_of ceil_of rounded_to ranked quantile_of reads fraction_text shown value_of mean_of num
computing = tt
