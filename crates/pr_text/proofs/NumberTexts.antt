-- Number texts are ASCII, and so UTF-8.
use Rattle.std.proofs.Common.{◌≡◌, ℕ, ◌<◌, Bool, true, false, List, [], ◌∷◌, ◌++◌, inl, inr, ◌⊎◌, codes, subst, sym, refl, arith, nat_lt, lit<}
use Rattle.std.specs.Prelude.{map, ◌&&◌}
use Rattle.std.specs.Char.{is_ascii_digit, to_ascii_lowercase}
use Rattle.std.specs.List.{list_all}
use Rattle.std.specs.Str.{IsAscii, str_eq_ignore_ascii_case, str_to_ascii_lowercase}
use Rattle.std.proofs.lemmas.Bool.Decides.{nat_tests}
use Rattle.std.proofs.lemmas.Slice.Eq.{bytes_eq-Decides}
use Rattle.std.proofs.lemmas.Str.{IsAscii-append}
use Rattle.std.proofs.lemmas.Str.Ascii.{IsAscii-nil, IsAscii-cons}
use Rattle.spec_world.specs.pr_num.private.Forms.{Sign, no_sign, plus, minus, Fraction, no_point, point, Exponent, no_exponent, small_e, capital_e, sign_text, fraction_part, decimals, exponent_part, AreDigits, IsExponent, IsInfinityWord, HasUnsignedForm, IsNumberText}

left : (a b : Bool) → (a && b) ≡ true → a ≡ true
left true b h = refl
left false b h = h

right : (a b : Bool) → (a && b) ≡ true → b ≡ true
right true b h = h
right false b h = cc

digit_byte : (b : ℕ) → is_ascii_digit b ≡ true → b < 128
digit_byte b h = grind (arith, nat_tests)

digits_ascii : (ds : List ℕ) → AreDigits ds → IsAscii ds
digits_ascii [] h = IsAscii-nil
digits_ascii (d ∷ ds) h =
    IsAscii-cons d ds (digit_byte d (left (is_ascii_digit d) (list_all is_ascii_digit ds) h)) (digits_ascii ds (right (is_ascii_digit d) (list_all is_ascii_digit ds) h))

sign_ascii : (s : Sign) → IsAscii (sign_text s)
sign_ascii no_sign = IsAscii-nil
sign_ascii plus = IsAscii-cons 43 [] (lit< tt) IsAscii-nil
sign_ascii minus = IsAscii-cons 45 [] (lit< tt) IsAscii-nil

fraction_ascii : (f : Fraction) → AreDigits (decimals f) → IsAscii (fraction_part f)
fraction_ascii no_point h = IsAscii-nil
fraction_ascii (point ds) h = IsAscii-cons 46 ds (lit< tt) (digits_ascii ds h)

exponent_ascii : (e : Exponent) → IsExponent e → IsAscii (exponent_part e)
exponent_ascii no_exponent h = IsAscii-nil
exponent_ascii (small_e s ds) h = IsAscii-cons 101 (sign_text s ++ ds) (lit< tt) (IsAscii-append (sign_text s) ds (sign_ascii s) (digits_ascii ds h.1))
exponent_ascii (capital_e s ds) h = IsAscii-cons 69 (sign_text s ++ ds) (lit< tt) (IsAscii-append (sign_text s) ds (sign_ascii s) (digits_ascii ds h.1))

form_ascii : (text : List ℕ) → HasUnsignedForm text → IsAscii text
form_ascii text h =
    subst IsAscii (sym h.parts)
    (IsAscii-append h.whole (fraction_part h.fraction ++ exponent_part h.exponent) (digits_ascii h.whole h.form.whole_digits)
    (IsAscii-append (fraction_part h.fraction) (exponent_part h.exponent) (fraction_ascii h.fraction h.form.decimal_digits) (exponent_ascii h.exponent h.form.exponent_form)))

-- a word in any case
lowered_byte : (b : ℕ) → to_ascii_lowercase b < 128 → b < 128
lowered_byte b h = grind (arith, nat_tests)

small_byte : (b : ℕ) → nat_lt b 128 ≡ true → b < 128
small_byte b h = grind (arith, nat_tests)

lowered_ascii : (text : List ℕ) → list_all (λ b. nat_lt b 128) (map to_ascii_lowercase text) ≡ true → IsAscii text
lowered_ascii [] h = IsAscii-nil
lowered_ascii (b ∷ text) h =
    IsAscii-cons b text (lowered_byte b (small_byte (to_ascii_lowercase b) (left (nat_lt (to_ascii_lowercase b) 128) (list_all (λ c. nat_lt c 128) (map to_ascii_lowercase text)) h)))
    (lowered_ascii text (right (nat_lt (to_ascii_lowercase b) 128) (list_all (λ c. nat_lt c 128) (map to_ascii_lowercase text)) h))

pub word_ascii : (text word : List ℕ) → list_all (λ b. nat_lt b 128) (map to_ascii_lowercase word) ≡ true → str_eq_ignore_ascii_case text word ≡ true → IsAscii text
word_ascii text word small h =
    let e : str_to_ascii_lowercase text ≡ str_to_ascii_lowercase word = (bytes_eq-Decides (str_to_ascii_lowercase text) (str_to_ascii_lowercase word)).0 h in
    lowered_ascii text (subst (λ (t : List ℕ). list_all (λ b. nat_lt b 128) t ≡ true) (sym e) small)

infinity_ascii : (text : List ℕ) → IsInfinityWord text → IsAscii text
infinity_ascii text (inl h) = word_ascii text (codes "inf") refl h
infinity_ascii text (inr h) = word_ascii text (codes "infinity") refl h

unsigned_ascii : (text : List ℕ) → IsInfinityWord text ⊎ HasUnsignedForm text → IsAscii text
unsigned_ascii text (inl h) = infinity_ascii text h
unsigned_ascii text (inr h) = form_ascii text h

pub number_ascii : (text : List ℕ) → IsNumberText text → IsAscii text
number_ascii text (inl h) = word_ascii text (codes "nan") refl h
number_ascii text (inr h) = subst IsAscii (sym h.parts) (IsAscii-append (sign_text h.sign) h.rest (sign_ascii h.sign) (unsigned_ascii h.rest h.form))
