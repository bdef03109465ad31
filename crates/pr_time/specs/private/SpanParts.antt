-- Span texts told without a grammar: a zero, or parts.
use Rattle.std.specs.Prelude.{ℕ, zero, ◌+◌, ◌*◌, ◌≤◌, List, [], ◌∷◌, ◌++◌}
use Rattle.pr_time.specs.declared.text.Letter.{Letter}
use Rattle.pr_time.specs.declared.text.Letter.TheVariants.{Digit, Y, W, D, H, M, S}
use Rattle.pr_time.specs.declared.text.Unit.{Unit as TimeUnit}
use Rattle.pr_time.specs.declared.text.Unit.TheVariants.{Year, Week, Day, Hour, Minute, Second, Millisecond}
use Rattle.pr_time.specs.SpanText.{ms_of, rank}

-- how a unit is written
abbrev pub letters_of : TimeUnit → List Letter
letters_of Year = Y ∷ []
letters_of Week = W ∷ []
letters_of Day = D ∷ []
letters_of Hour = H ∷ []
letters_of Minute = M ∷ []
letters_of Second = S ∷ []
letters_of Millisecond = M ∷ S ∷ []

-- Digits, one at least, and the number that they write.
pub data IsNumber : List Letter → ℕ → Type 0 where
  one_digit : (d : ℕ) → IsNumber (Digit d ∷ []) d
  digit_more : (ts : List Letter) (n d : ℕ) → IsNumber ts n → IsNumber (ts ++ Digit d ∷ []) (n * 10 + d)

-- Parts, each a number and a unit, with units of this rank on, each smaller than the one before;
-- and their milliseconds.
pub data AreParts : ℕ → List Letter → ℕ → Type 0 where
  no_part : {k : ℕ} → AreParts k [] 0
  a_part : {k : ℕ} (u : TimeUnit) (ds ts : List Letter) (n ms : ℕ) → k ≤ rank u → IsNumber ds n → AreParts (rank u + 1) ts ms →
      AreParts k (ds ++ (letters_of u ++ ts)) (n * ms_of u + ms)

-- A zero alone, or one part at least.
pub data IsSpanText : List Letter → ℕ → Type 0 where
  zero_alone : IsSpanText (Digit zero ∷ []) 0
  some_parts : (u : TimeUnit) (ds ts : List Letter) (n ms : ℕ) → IsNumber ds n → AreParts (rank u + 1) ts ms → IsSpanText (ds ++ (letters_of u ++ ts)) (n * ms_of u + ms)
