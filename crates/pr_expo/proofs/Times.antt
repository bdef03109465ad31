-- A sign and up to 18 digits are read as a number of 64 bits.
use Rattle.std.proofs.Common.{◌≡◌, refl, ap, subst, ℕ, ◌<◌, ◌≤◌, List, ◌∷◌, ◌++◌, length, true, Result, Ok, Err, ℤ, arith, rules}
use Rattle.std.specs.Char.{is_ascii_digit}
use Rattle.std.specs.List.{list_all}
use Rattle.std.specs.Str.Parse.{ParsesSigned, digits_value, signed_digits_value}
use Rattle.std.proofs.lemmas.Str.Parse.{IsNumeralModel, digits_value_short, numerals_by_value, parse_signed_digits, parse_signed_minus, parse_signed_plus}
use mir.Syntax.{w64}
use Rattle.pr_num.specs.private.Forms.{AreDigits, Sign, sign_text, no_sign, plus, minus}
use Rattle.pr_expo.specs.private.Sound.{IsSignedDigits}

own : IsNumeralModel (λ ds. list_all is_ascii_digit ds ≡ true) (digits_value 10)
own = numerals_by_value _ (search rules)

never : {E : Type 0} (sign : Sign) (digits : List ℕ) (e : E) → ParsesSigned w64 10 (sign_text sign ++ digits) (Err e) → AreDigits digits → 0 < length digits → length digits ≤ 18 → ⊥
never no_sign digits e h d some few =
    parse_signed_digits own w64 digits (Err e) h d (some, omega (arith, digits_value_short own digits 18 d few))
never plus digits e h d some few =
    parse_signed_plus own w64 (43 ∷ digits) (Err e) h refl (d, some, omega (arith, digits_value_short own digits 18 d few))
never minus digits e h d some few =
    parse_signed_minus own w64 (45 ∷ digits) (Err e) h refl (d, some, omega (arith, digits_value_short own digits 18 d few))

pub time_parses : {E : Type 0} (text : List ℕ) (count : ℕ) (r : Result ℤ E) → count ≤ 18 → IsSignedDigits text count → ParsesSigned w64 10 text r → r ≡ Ok (signed_digits_value 10 text)
time_parses text count (Ok x) few d h = ap Ok h.1
time_parses text count (Err e) few d h =
    absurd (never d.sign d.digits e (subst (λ t. ParsesSigned w64 10 t (Err e)) d.parts h) d.digits_alone d.some (omega (arith, d.counted)))
