-- Printed texts are ASCII.
use Rattle.std.proofs.Common.{ℕ, zero, suc, ◌+◌, ◌*◌, ◌/◌, ◌%◌, ◌^◌, ◌<◌, List, [], ◌∷◌, Bool, true, false, codes, decimal, ℤ, pos, negsuc, if◌then◌else◌, nat_eq, arith, lit<}
use Rattle.std.specs.Str.{IsAscii}
use Rattle.std.proofs.lemmas.Fmt.{IsAscii-decimal_wide}
use Rattle.std.proofs.lemmas.Str.{IsAscii-append}
use Rattle.std.proofs.lemmas.Str.Ascii.{IsAscii-nil, IsAscii-cons}
use Rattle.pr_num.specs.declared.value.Num.{Num}
use Rattle.pr_num.specs.declared.value.Num.TheVariants.{Finite, NaN, PosInf, NegInf}
use Rattle.pr_num.specs.Arithmetic.{IsFit}
use Rattle.pr_num.specs.Units.{IsNano}
use Rattle.pr_num.specs.Shown.{fraction_text, point_text, magnitude_text, shown}

either : (b : Bool) (c : ℕ) (cs : List ℕ) → IsAscii (c ∷ cs) → IsAscii (if b then [] else c ∷ cs)
either true c cs h = IsAscii-nil
either false c cs h = h

fraction_ascii : (n u : ℕ) → u < 10 ^ 9 → IsAscii (fraction_text n u)
unfolding fraction_text
fraction_ascii zero u lt = IsAscii-nil
fraction_ascii (suc n) u lt =
    either (nat_eq u 0) (48 + u * 10 / 10 ^ 9) (fraction_text n (u * 10 % 10 ^ 9))
    (IsAscii-cons (48 + u * 10 / 10 ^ 9) (fraction_text n (u * 10 % 10 ^ 9)) (omega arith) (fraction_ascii n (u * 10 % 10 ^ 9) (omega arith)))

magnitude_ascii : (n : ℕ) → n < 10 ^ 29 → IsAscii (magnitude_text n)
magnitude_ascii n lt =
    IsAscii-append (decimal (n / 10 ^ 9)) (point_text (n % 10 ^ 9)) (IsAscii-decimal_wide (n / 10 ^ 9) (omega arith))
    (either (nat_eq (n % 10 ^ 9) 0) 46 (fraction_text 9 (n % 10 ^ 9)) (IsAscii-cons 46 (fraction_text 9 (n % 10 ^ 9)) (lit< tt) (fraction_ascii 9 (n % 10 ^ 9) (omega arith))))

pub finite_ascii : (z : ℤ) → IsNano z → IsAscii (shown (Finite z))
unfolding shown
finite_ascii (pos n) lt = magnitude_ascii n lt
finite_ascii (negsuc n) lt = IsAscii-cons 45 (magnitude_text (suc n)) (lit< tt) (magnitude_ascii (suc n) lt)

word : (a b c : ℕ) → a < 128 → b < 128 → c < 128 → IsAscii (a ∷ b ∷ c ∷ [])
word a b c h i j = IsAscii-cons a (b ∷ c ∷ []) h (IsAscii-cons b (c ∷ []) i (IsAscii-cons c [] j IsAscii-nil))

pub nan_ascii : IsAscii (shown NaN)
unfolding shown
nan_ascii = word 78 97 78 (lit< tt) (lit< tt) (lit< tt)

pub above_ascii : IsAscii (shown PosInf)
unfolding shown
above_ascii = IsAscii-cons 43 (codes "Inf") (lit< tt) (word 73 110 102 (lit< tt) (lit< tt) (lit< tt))

pub below_ascii : IsAscii (shown NegInf)
unfolding shown
below_ascii = IsAscii-cons 45 (codes "Inf") (lit< tt) (word 73 110 102 (lit< tt) (lit< tt) (lit< tt))

pub shown_ascii : (v : Num) → IsFit v → IsAscii (shown v)
shown_ascii (Finite z) fit = finite_ascii z fit
shown_ascii NaN fit = nan_ascii
shown_ascii PosInf fit = above_ascii
shown_ascii NegInf fit = below_ascii
