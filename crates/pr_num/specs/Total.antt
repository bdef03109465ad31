-- Exact sums.
use Rattle.std.specs.Prelude.{ℕ, ◌+◌, ◌==◌, Bool, nat_lt, ◌&&◌, ◌||◌, ℤ, pos, ◌+ℤ◌, List, [], ◌∷◌, if◌then◌else◌, Result, Ok}
use Rattle.pr_num.specs.declared.value.Num.{Num}
use Rattle.pr_num.specs.declared.value.Num.TheVariants.{Finite, NaN, PosInf, NegInf}
use Rattle.pr_num.specs.declared.value.TooWide.{TooWide}
use Rattle.pr_num.specs.Half.{half}
use Rattle.pr_num.specs.Arithmetic.{fitted}

-- what a list of values adds up to: the units of the finite ones, how many values there are, and
-- how many of these are not finite, of each kind
pub record Tally : Type 0 where
  pub units : ℤ
  pub count : ℕ
  pub nans : ℕ
  pub pos_infs : ℕ
  pub neg_infs : ℕ

abbrev pub no_values : Tally
no_values = record { units = pos 0; count = 0; nans = 0; pos_infs = 0; neg_infs = 0 }

-- one value alone
abbrev pub one_value : Num → Tally
one_value (Finite a) = record { units = a; count = 1; nans = 0; pos_infs = 0; neg_infs = 0 }
one_value NaN = record { units = pos 0; count = 1; nans = 1; pos_infs = 0; neg_infs = 0 }
one_value PosInf = record { units = pos 0; count = 1; nans = 0; pos_infs = 1; neg_infs = 0 }
one_value NegInf = record { units = pos 0; count = 1; nans = 0; pos_infs = 0; neg_infs = 1 }

-- two lists, one after the other
abbrev pub joined : Tally → Tally → Tally
joined a b = record {
  units = a.units +ℤ b.units;
  count = a.count + b.count;
  nans = a.nans + b.nans;
  pos_infs = a.pos_infs + b.pos_infs;
  neg_infs = a.neg_infs + b.neg_infs;
}

-- a list of values
abbrev pub total_of : List Num → Tally
total_of [] = no_values
total_of (v ∷ vs) = joined (one_value v) (total_of vs)

-- whether the sum is no number, by a NaN or by opposite infinities
abbrev pub has_no_sum : Tally → Bool
has_no_sum t = nat_lt 0 t.nans || (nat_lt 0 t.pos_infs && nat_lt 0 t.neg_infs)

-- the exact sum: no number, else an infinity that is there, else the finite values' sum
unfoldable pub value_of : Tally → Result Num TooWide
value_of t =
    if has_no_sum t then Ok NaN
    else (if nat_lt 0 t.pos_infs then Ok PosInf
    else (if nat_lt 0 t.neg_infs then Ok NegInf
    else fitted t.units))

-- the mean of the values, rounded once, half to even; no number for none
unfoldable pub mean_of : Tally → Num
mean_of t =
    if has_no_sum t || (t.count == 0) then NaN
    else (if nat_lt 0 t.pos_infs then PosInf
    else (if nat_lt 0 t.neg_infs then NegInf
    else Finite (half t.units (pos t.count))))
