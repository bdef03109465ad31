-- Words for worked examples: what is printed for what the operations give on values that are
-- written as texts.
use Rattle.std.specs.Prelude.{ℕ, List, codes, Result, Ok, Err, map}
use Rattle.std.specs.Result.{result_unwrap_or}
use Rattle.pr_num.specs.declared.value.Num.{Num}
use Rattle.pr_num.specs.declared.value.Num.TheVariants.{NaN}
use Rattle.pr_num.specs.declared.value.TooWide.{TooWide}
use Rattle.pr_num.specs.declared.text.NumFault.{NumFault}
use Rattle.pr_num.specs.declared.text.NumFault.TheVariants.{NotNumber, TooWide as WideText}
use Rattle.pr_num.specs.Arithmetic.{sum_of, difference_of, product_of, quotient_of, remainder_of, muldiv_of}
use Rattle.pr_num.specs.Multiples.{floor_of, ceil_of, rounded_to}
use Rattle.pr_num.specs.Quantile.{quantile_of}
use Rattle.pr_num.specs.Reads.{reads}
use Rattle.pr_num.specs.Shown.{shown}
use Rattle.pr_num.specs.Total.{total_of, value_of, mean_of}

-- the value of a number text
unfoldable pub num : List ℕ → Num
num text = result_unwrap_or (reads text) NaN

-- an answer as it is printed, and `wide` for a refusal
abbrev pub answer : Result Num TooWide → List ℕ
answer (Ok v) = shown v
answer (Err e) = codes "wide"

-- what is printed for what a text reads as, and `none` where it is no number text
abbrev pub reading : Result Num NumFault → List ℕ
reading (Ok v) = shown v
reading (Err WideText) = codes "wide"
reading (Err NotNumber) = codes "none"

abbrev pub read_again : List ℕ → List ℕ
read_again text = reading (reads text)

-- the operations, from texts to texts
abbrev pub plus : List ℕ → List ℕ → List ℕ
plus a b = answer (sum_of (num a) (num b))

abbrev pub minus : List ℕ → List ℕ → List ℕ
minus a b = answer (difference_of (num a) (num b))

abbrev pub times : List ℕ → List ℕ → List ℕ
times a b = answer (product_of (num a) (num b))

abbrev pub over : List ℕ → List ℕ → List ℕ
over a b = answer (quotient_of (num a) (num b))

abbrev pub modulo : List ℕ → List ℕ → List ℕ
modulo a b = shown (remainder_of (num a) (num b))

abbrev pub scaled : List ℕ → ℕ → ℕ → List ℕ
scaled a b c = answer (muldiv_of (num a) b c)

abbrev pub floor : List ℕ → List ℕ
floor a = answer (floor_of (num a))

abbrev pub ceil : List ℕ → List ℕ
ceil a = answer (ceil_of (num a))

abbrev pub rounded : List ℕ → List ℕ → List ℕ
rounded a step = answer (rounded_to (num a) (num step))

abbrev pub quantile : List ℕ → List (List ℕ) → List ℕ
quantile phi values = shown (quantile_of (num phi) (map num values))

abbrev pub sum : List (List ℕ) → List ℕ
sum values = answer (value_of (total_of (map num values)))

abbrev pub mean : List (List ℕ) → List ℕ
mean values = shown (mean_of (total_of (map num values)))
