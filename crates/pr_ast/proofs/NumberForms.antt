-- The grammar of numbers reads the unsigned number texts.
use Rattle.std.proofs.Common.{◌≡◌, ℕ, ◌<◌, Some, true, List, [], ◌∷◌, ◌++◌, length, refl, subst, arith}
use Rattle.std.specs.List.{list_all}
use Rattle.std.specs.Char.{is_ascii_digit}
use Rattle.std.proofs.lemmas.List.{append-nil}
use Rattle.pr_time.specs.pr_forms.Form.{Reads, rule, is_token, is_nothing, is_pair, is_left, is_right, is_stop, is_turn, is_rule}
use Rattle.pr_num.specs.private.Forms.{Sign, no_sign, plus, minus, Fraction, no_point, point, Exponent, no_exponent, small_e, capital_e, sign_text, fraction_part, decimals, exponent_part, AreDigits, IsExponent, IsUnsignedForm, unsigned_text}
use Rattle.pr_num.proofs.RoundTrip.{and_first, and_second}
use Rattle.pr_ast.specs.Number.{production, letter_of, seen, mark, Number, Fraction as FractionRule, Power, Exponent as ExponentRule, Digits, digits, digit_at}

digit_is : (d : ℕ) → is_ascii_digit d ≡ true → digit_at (letter_of d) ≡ Some mark
digit_is d h = rw h refl

turns_read : (ds after : List ℕ) → AreDigits ds → Reads production digits (seen (ds ++ after)) mark (seen after)
turns_read [] after h = is_stop
turns_read (d ∷ ds) after h = is_turn (is_token (digit_is d (and_first (is_ascii_digit d) (list_all is_ascii_digit ds) h)))
    (turns_read ds after (and_second (is_ascii_digit d) (list_all is_ascii_digit ds) h))

digits_read : (ds after : List ℕ) → 0 < length ds → AreDigits ds → Reads production (rule Digits) (seen (ds ++ after)) mark (seen after)
digits_read [] after some h = absurd (omega arith)
digits_read (d ∷ ds) after some h = is_rule (is_pair (is_token (digit_is d (and_first (is_ascii_digit d) (list_all is_ascii_digit ds) h)))
    (turns_read ds after (and_second (is_ascii_digit d) (list_all is_ascii_digit ds) h)))

all_read : (ds : List ℕ) → 0 < length ds → AreDigits ds → Reads production (rule Digits) (seen ds) mark []
all_read ds some h = subst (λ x. Reads production (rule Digits) (seen x) mark []) (append-nil ds) (digits_read ds [] some h)

exponent_read : (s : Sign) (ds : List ℕ) → 0 < length ds → AreDigits ds → Reads production (rule ExponentRule) (seen (sign_text s ++ ds)) mark []
exponent_read no_sign ds some h = is_rule (is_right (all_read ds some h))
exponent_read plus ds some h = is_rule (is_left (is_pair (is_token refl) (all_read ds some h)))
exponent_read minus ds some h = is_rule (is_left (is_pair (is_token refl) (all_read ds some h)))

power_read : (e : Exponent) → IsExponent e → Reads production (rule Power) (seen (exponent_part e)) mark []
power_read no_exponent h = is_rule (is_right is_nothing)
power_read (small_e s ds) h = is_rule (is_left (is_pair (is_token refl) (exponent_read s ds h.0 h.1)))
power_read (capital_e s ds) h = is_rule (is_left (is_pair (is_token refl) (exponent_read s ds h.0 h.1)))

fraction_read : (f : Fraction) (e : Exponent) → AreDigits (decimals f) → IsExponent e → Reads production (rule FractionRule) (seen (fraction_part f ++ exponent_part e)) mark []
fraction_read no_point e h k = is_rule (is_right (power_read e k))
fraction_read (point ds) e h k = is_rule (is_left (is_pair (is_token refl) (is_pair (turns_read ds (exponent_part e) h) (power_read e k))))

pub form_read : (whole : List ℕ) (f : Fraction) (e : Exponent) → IsUnsignedForm whole f e → Reads production (rule Number) (seen (unsigned_text whole f e)) mark []
form_read [] no_point e h = absurd (let s = h.some in omega arith)
form_read [] (point ds) e h = is_rule (is_left (is_pair (is_token refl) (is_rule (is_pair (digits_read ds (exponent_part e) (let s = h.some in omega arith) h.decimal_digits) (power_read e h.exponent_form)))))
form_read (d ∷ ds) f e h =
    is_rule (is_right (is_pair (digits_read (d ∷ ds) (fraction_part f ++ exponent_part e) (omega arith) h.whole_digits) (fraction_read f e h.decimal_digits h.exponent_form)))
