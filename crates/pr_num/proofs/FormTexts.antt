-- A text of the form reads as its exact fraction, rounded.
use Rattle.std.proofs.Common.{◌≡◌, ℕ, ◌+◌, ◌<◌, ◌≤◌, ◌⊎◌, Bool, true, false, List, [], ◌∷◌, ◌++◌, length, codes, Some, Ok, inl, inr, ◌&&◌, eqb-true, ◌∙◌, refl, arith, lit≤, nat_eq, nat_lt}
use Rattle.std.specs.List.{list_all, prefix_len}
use Rattle.std.specs.Char.{is_ascii_digit, to_ascii_lowercase}
use Rattle.std.specs.Str.{str_eq_ignore_ascii_case}
use Rattle.pr_num.specs.Reads.{reads, reads_unsigned, number_of, text_magnitude, ending, signed_scale, scale_of, fraction_digits, after_fraction}
use Rattle.pr_num.specs.private.Forms.{Sign, no_sign, plus, minus, Fraction, no_point, point, Exponent, no_exponent, small_e, capital_e, sign_text, is_minus, fraction_part, decimals, exponent_part, scale_part, AreDigits, IsExponent, IsUnsignedForm, unsigned_text, form_text, IsInfinityWord}
use Rattle.pr_num.specs.declared.value.Num.TheVariants.{NaN}
use Rattle.pr_num.specs.Arithmetic.{infinity}
use Rattle.pr_num.proofs.RoundTrip.{front_all, after_all, and_first, not_word, digit_start}

-- an exponent begins with no digit and no point
exponent_stops : (e : Exponent) → prefix_len is_ascii_digit (exponent_part e) ≡ 0
exponent_stops no_exponent = refl
exponent_stops (small_e s ds) = refl
exponent_stops (capital_e s ds) = refl

part_stops : (f : Fraction) (e : Exponent) → prefix_len is_ascii_digit (fraction_part f ++ exponent_part e) ≡ 0
part_stops no_point e = exponent_stops e
part_stops (point ds) e = refl

exponent_no_point : (e : Exponent) → fraction_digits (exponent_part e) ≡ []
exponent_no_point no_exponent = refl
exponent_no_point (small_e s ds) = refl
exponent_no_point (capital_e s ds) = refl

exponent_after : (e : Exponent) → after_fraction (exponent_part e) ≡ exponent_part e
exponent_after no_exponent = refl
exponent_after (small_e s ds) = refl
exponent_after (capital_e s ds) = refl

decimals_read : (f : Fraction) (e : Exponent) → AreDigits (decimals f) → fraction_digits (fraction_part f ++ exponent_part e) ≡ decimals f
decimals_read no_point e h = exponent_no_point e
decimals_read (point ds) e h = front_all ds (exponent_part e) h (exponent_stops e)

rest_read : (f : Fraction) (e : Exponent) → AreDigits (decimals f) → after_fraction (fraction_part f ++ exponent_part e) ≡ exponent_part e
rest_read no_point e h = exponent_after e
rest_read (point ds) e h = after_all ds (exponent_part e) h (exponent_stops e)

numeral : (divides : Bool) (ds : List ℕ) → 0 < length ds → AreDigits ds → scale_of divides ds ≡ Some (record { divides = divides; digits = ds })
numeral divides ds some h = let l : nat_lt 0 (length ds) ≡ true = grind arith in rw (l, h) refl

signed_read : (s : Sign) (ds : List ℕ) → 0 < length ds → AreDigits ds → signed_scale (sign_text s ++ ds) ≡ Some (record { divides = is_minus s; digits = ds })
signed_read plus ds some h = numeral false ds some h
signed_read minus ds some h = numeral true ds some h
signed_read no_sign [] some h = absurd (omega arith)
signed_read no_sign (d ∷ ds) some h =
    let first = and_first (is_ascii_digit d) (list_all is_ascii_digit ds) h in
    let a : nat_eq d 45 ≡ false = grind arith in
    let b : nat_eq d 43 ≡ false = grind arith in
    rw (a, b) (numeral false (d ∷ ds) some h)

ending_read : (e : Exponent) → IsExponent e → ending (exponent_part e) ≡ Some (scale_part e)
ending_read no_exponent h = refl
ending_read (small_e s ds) h = signed_read s ds h.0 h.1
ending_read (capital_e s ds) h = signed_read s ds h.0 h.1

-- a text of the form is none of the words
no_word : (whole : List ℕ) (f : Fraction) (e : Exponent) (w : ℕ) (ws : List ℕ) → IsUnsignedForm whole f e → 97 ≤ w → str_eq_ignore_ascii_case (unsigned_text whole f e) (w ∷ ws) ≡ false
no_word [] no_point e w ws h lower = absurd (let s = h.some in omega arith)
no_word [] (point ds) e w ws h lower = let n : nat_eq 46 (to_ascii_lowercase w) ≡ false = grind arith in rw n refl
no_word (c ∷ whole) f e w ws h lower = not_word c w (whole ++ (fraction_part f ++ exponent_part e)) ws (and_first (is_ascii_digit c) (list_all is_ascii_digit whole) h.whole_digits) lower

unsigned_form_reads : (negative : Bool) (whole : List ℕ) (f : Fraction) (e : Exponent) → IsUnsignedForm whole f e →
    reads_unsigned negative (unsigned_text whole f e) ≡ number_of negative (text_magnitude whole (decimals f) (scale_part e))
unsigned_form_reads negative whole f e h =
    let i = no_word whole f e 105 (codes "nf") h (lit≤ tt) in
    let j = no_word whole f e 105 (codes "nfinity") h (lit≤ tt) in
    let front = front_all whole (fraction_part f ++ exponent_part e) h.whole_digits (part_stops f e) in
    let after = after_all whole (fraction_part f ++ exponent_part e) h.whole_digits (part_stops f e) in
    let some : nat_lt 0 (length whole + length (decimals f)) ≡ true = (let s = h.some in grind arith) in
    rw (i, j, front, after, decimals_read f e h.decimal_digits, rest_read f e h.decimal_digits, ending_read e h.exponent_form, some) refl

pub form_reads : (sign : Sign) (whole : List ℕ) (f : Fraction) (e : Exponent) → IsUnsignedForm whole f e →
    reads (form_text sign whole f e) ≡ number_of (is_minus sign) (text_magnitude whole (decimals f) (scale_part e))
unfolding reads
form_reads plus whole f e h = unsigned_form_reads false whole f e h
form_reads minus whole f e h = unsigned_form_reads true whole f e h
form_reads no_sign [] no_point e h = absurd (let s = h.some in omega arith)
form_reads no_sign [] (point ds) e h = unsigned_form_reads false [] (point ds) e h
form_reads no_sign (c ∷ whole) f e h = digit_start c (whole ++ (fraction_part f ++ exponent_part e)) (and_first (is_ascii_digit c) (list_all is_ascii_digit whole) h.whole_digits) ∙ unsigned_form_reads false (c ∷ whole) f e h

cases_bool : (b : Bool) → (b ≡ true) ⊎ (b ≡ false)
cases_bool true = inl refl
cases_bool false = inr refl

-- the first letter of a word is no sign
letter_plain : (c w : ℕ) (b : Bool) → (nat_eq (to_ascii_lowercase c) w && b) ≡ true → 97 ≤ w → (nat_eq c 45 ≡ false) × (nat_eq c 43 ≡ false) × (to_ascii_lowercase c ≡ w)
letter_plain c w b h lower =
    let first = and_first (nat_eq (to_ascii_lowercase c) w) b h in
    let e : to_ascii_lowercase c ≡ w = eqb-true (to_ascii_lowercase c) w first in
    (grind arith, grind arith, e)

pub nan_reads : (text : List ℕ) → str_eq_ignore_ascii_case text (codes "nan") ≡ true → reads text ≡ Ok NaN
unfolding reads
nan_reads [] h = absurd (let e : false ≡ true = h in cc)
nan_reads (c ∷ rest) h =
    let p = letter_plain c 110 _ h (lit≤ tt) in
    rw (p.0, p.1, h) refl

infinite_rest : (negative : Bool) (word : List ℕ) → IsInfinityWord word → reads_unsigned negative word ≡ Ok (infinity negative)
infinite_rest negative word h =
    elim h [
      | inl t ↦ rw t refl
      | inr t ↦ elim (cases_bool (str_eq_ignore_ascii_case word (codes "inf"))) [
        | inl a ↦ rw a refl
        | inr b ↦ rw (b, t) refl
      ]
    ]

infinite_start : (c : ℕ) (rest : List ℕ) → IsInfinityWord (c ∷ rest) → (nat_eq c 45 ≡ false) × (nat_eq c 43 ≡ false) × (to_ascii_lowercase c ≡ 105)
infinite_start c rest h =
    elim h [
      | inl t ↦ letter_plain c 105 _ t (lit≤ tt)
      | inr t ↦ letter_plain c 105 _ t (lit≤ tt)
    ]

infinite_plain : (word : List ℕ) → IsInfinityWord word → reads word ≡ reads_unsigned false word
unfolding reads
infinite_plain [] h = absurd (elim h [ inl t ↦ (let e : false ≡ true = t in cc) | inr t ↦ (let e : false ≡ true = t in cc) ])
infinite_plain (c ∷ rest) h =
    let p = infinite_start c rest h in
    let n : nat_eq (to_ascii_lowercase c) 110 ≡ false = rw p.2 refl in
    rw (p.0, p.1, n) refl

pub infinity_reads : (sign : Sign) (word : List ℕ) → IsInfinityWord word → reads (sign_text sign ++ word) ≡ Ok (infinity (is_minus sign))
unfolding reads
infinity_reads plus word h = infinite_rest false word h
infinity_reads minus word h = infinite_rest true word h
infinity_reads no_sign word h = infinite_plain word h ∙ infinite_rest false word h
