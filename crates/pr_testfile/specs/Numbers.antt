-- Numbers and counts in the values of a series.
use Rattle.std.specs.Prelude.{ℕ, ◌^◌, ◌==◌, ◌||◌, Bool, min, List, [], ◌∷◌, Option, Some, None, Result, Ok, Err, if◌then◌else◌}
use Prim.Native.Char.{code}
use Rattle.std.specs.Str.Parse.{digits_value}
use Rattle.pr_words.specs.Decimals.{is_plain_decimal}
use Rattle.pr_num.specs.declared.value.Num.{Num}
use Rattle.pr_num.specs.declared.text.NumFault.{NumFault}
use Rattle.pr_num.specs.Reads.{reads}

-- the value of a number text, where it is not too wide
abbrev pub if_number : Result Num NumFault → Option Num
if_number (Ok v) = Some v
if_number (Err f) = None

unfoldable pub number_of : List ℕ → Option Num
number_of text = if_number (reads text)

abbrev pub is_sign : ℕ → Bool
is_sign b = b == code "+" || b == code "-"

-- the same of one without a sign
abbrev pub unsigned_number : List ℕ → Option Num
unsigned_number [] = None
unsigned_number (b ∷ bs) = if is_sign b then None else number_of (b ∷ bs)

-- How often: a plain decimal. From 2^100 on it counts as that, which is too often for any series,
-- and makes each step that is not 0 too wide.
unfoldable pub count_of : List ℕ → Option ℕ
count_of text = if is_plain_decimal text then Some (min (digits_value 10 text) (2 ^ 100)) else None
