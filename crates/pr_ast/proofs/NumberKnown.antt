-- What the grammar of numbers reads whole has the form of an unsigned number.
use Rattle.std.proofs.Common.{◌≡◌, ℕ, ◌<◌, Option, Some, Bool, true, false, List, [], ◌∷◌, ◌++◌, length, length-append, refl, ap, sym, ◌∙◌, arith, inl, inr, eqb-true}
use Rattle.std.specs.Prelude.{◌⊎◌, ◌||◌, ◌==◌, if◌then◌else◌}
use Rattle.std.specs.List.{list_all}
use Rattle.std.specs.Char.{is_ascii_digit}
use Rattle.std.proofs.lemmas.List.{append_assoc, append-nil}
use Rattle.pr_time.specs.pr_forms.Form.{Reads, token, turns, rule, is_token, is_nothing, is_pair, is_left, is_right, is_stop, is_turn, is_rule}
use Rattle.pr_num.specs.private.Forms.{Sign, no_sign, plus, minus, Fraction, no_point, point, Exponent, no_exponent, small_e, capital_e, sign_text, fraction_part, decimals, exponent_part, AreDigits, IsExponent, HasUnsignedForm}
use Rattle.pr_num.proofs.RoundTrip.{and_first, and_second}
use Rattle.pr_ast.specs.declared.lex.number.Letter.{Letter}
use Rattle.pr_ast.specs.declared.lex.number.Letter.TheVariants.{Digit, Point, E, PlusMinus, Other}
use Rattle.pr_ast.specs.Number.{production, letter_of, seen, NumberValue, Number, Tail, Fraction as FractionRule, Power, Exponent as ExponentRule, Digits, digit, both, digit_at, point_at, e_at, plus_minus_at}

-- a letter, by the tests of its byte
abbrev picked : Bool → Bool → Bool → Bool → Letter
picked d p e s = if d then Digit else (if p then Point else (if e then E else (if s then PlusMinus else Other)))

digit_test : (d p e s : Bool) (v : NumberValue) → digit_at (picked d p e s) ≡ Some v → d ≡ true
digit_test true p e s v h = refl
digit_test false true e s v h = cc
digit_test false false true s v h = cc
digit_test false false false true v h = cc
digit_test false false false false v h = cc

point_test : (d p e s : Bool) (v : NumberValue) → point_at (picked d p e s) ≡ Some v → p ≡ true
point_test true p e s v h = cc
point_test false true e s v h = refl
point_test false false true s v h = cc
point_test false false false true v h = cc
point_test false false false false v h = cc

e_test : (d p e s : Bool) (v : NumberValue) → e_at (picked d p e s) ≡ Some v → e ≡ true
e_test true p e s v h = cc
e_test false true e s v h = cc
e_test false false true s v h = refl
e_test false false false true v h = cc
e_test false false false false v h = cc

sign_test : (d p e s : Bool) (v : NumberValue) → plus_minus_at (picked d p e s) ≡ Some v → s ≡ true
sign_test true p e s v h = cc
sign_test false true e s v h = cc
sign_test false false true s v h = cc
sign_test false false false true v h = refl
sign_test false false false false v h = cc

either_byte : (b j k : ℕ) → (b == j || b == k) ≡ true → (b ≡ j) ⊎ (b ≡ k)
either_byte b j k h = by (b == j) refl
  where
    by : (x : Bool) → (b == j) ≡ x → (b ≡ j) ⊎ (b ≡ k)
    by true e = inl (eqb-true b j e)
    by false e = inr (eqb-true b k (let g = rw e at h in g))

-- The bytes whose letters stand before a rest, and what is so of them.
record Front (P : List ℕ → Type 0) (text : List ℕ) (rest : List Letter) : Type 0 where
  front : List ℕ
  after : List ℕ
  parts : text ≡ front ++ after
  left : seen after ≡ rest
  so : P front

module _ {P Q : List ℕ → Type 0} {text : List ℕ} {rest : List Letter} where
  turned : ((a : List ℕ) → P a → Q a) → Front P text rest → Front Q text rest
  turned h x = record { front = x.front; after = x.after; parts = x.parts; left = x.left; so = h x.front x.so }

  joined : {R : List ℕ → Type 0} {mid : List Letter} → ((a b : List ℕ) → P a → Q b → R (a ++ b)) → Front P text mid → ((t : List ℕ) → seen t ≡ mid → Front Q t rest) → Front R text rest
  joined h x k = let y = k x.after x.left in record {
    front = x.front ++ y.front;
    after = y.after;
    parts = x.parts ∙ ap (λ (r : List ℕ). x.front ++ r) y.parts ∙ sym (append_assoc x.front y.front y.after);
    left = y.left;
    so = h x.front y.front x.so y.so;
  }

-- one byte
abbrev Tells : (Letter → Option NumberValue) → (List ℕ → Type 0) → Type 0
Tells p P = (b : ℕ) (v : NumberValue) → p (letter_of b) ≡ Some v → P (b ∷ [])

one : {p : Letter → Option NumberValue} {P : List ℕ → Type 0} {ts rest : List Letter} {v : NumberValue} → Tells p P → Reads production (token p) ts v rest → (text : List ℕ) → seen text ≡ ts → Front P text rest
one h (is_token e) [] s = cc
one {p} h (is_token {t = t} {v = v} e) (b ∷ text) s =
    let x : letter_of b ≡ t = cc in
    record { front = b ∷ []; after = text; parts = refl; left = cc; so = h b v (ap p x ∙ e) }

-- digits
abbrev Numeral : List ℕ → Type 0
Numeral ds = (0 < length ds) × AreDigits ds

digit_tells : Tells digit_at Numeral
digit_tells b v h = let x : is_ascii_digit b ≡ true = digit_test _ _ _ _ v h in (omega arith, rw x refl)

more_digits : (a b : List ℕ) → AreDigits a → AreDigits b → AreDigits (a ++ b)
more_digits [] b h k = k
more_digits (d ∷ a) b h k =
    let x = and_first (is_ascii_digit d) (list_all is_ascii_digit a) h in
    let ih = more_digits a b (and_second (is_ascii_digit d) (list_all is_ascii_digit a) h) k in
    rw (x, ih) refl

long_numeral : (a b : List ℕ) → Numeral a → AreDigits b → Numeral (a ++ b)
long_numeral a b h k = (let s = h.0 in omega (arith, s, length-append a b), more_digits a b h.1 k)

longer_digits : (a b : List ℕ) → Numeral a → AreDigits b → AreDigits (a ++ b)
longer_digits a b h k = more_digits a b h.1 k

turns_front : {ts rest : List Letter} {v w : NumberValue} → Reads production (turns both v digit) ts w rest → (text : List ℕ) → seen text ≡ ts → Front AreDigits text rest
turns_front is_stop text s = record { front = []; after = text; parts = refl; left = s; so = refl }
turns_front (is_turn d k) text s = joined longer_digits (one digit_tells d text s) (turns_front k)

digits_front : {ts rest : List Letter} {v : NumberValue} → Reads production (rule Digits) ts v rest → (text : List ℕ) → seen text ≡ ts → Front Numeral text rest
digits_front (is_rule (is_pair d k)) text s = joined long_numeral (one digit_tells d text s) (turns_front k)

-- an exponent after its letter
record IsSigned (text : List ℕ) : Type 0 where
  sign : Sign
  digits : List ℕ
  numeral : Numeral digits
  parts : text ≡ sign_text sign ++ digits

abbrev IsSign : List ℕ → Type 0
IsSign text = (sign : Sign) × (text ≡ sign_text sign)

sign_tells : Tells plus_minus_at IsSign
sign_tells b v h = elim (either_byte b 43 45 (sign_test _ _ _ _ v h)) [ inl e ↦ (plus, ap (λ x. x ∷ []) e) | inr e ↦ (minus, ap (λ x. x ∷ []) e) ]

signed : (a b : List ℕ) → IsSign a → Numeral b → IsSigned (a ++ b)
signed a b h i = record { sign = h.0; digits = b; numeral = i; parts = ap (λ (r : List ℕ). r ++ b) h.1 }

unsigned : (a : List ℕ) → Numeral a → IsSigned a
unsigned a h = record { sign = no_sign; digits = a; numeral = h; parts = refl }

exponent_front : {ts rest : List Letter} {v : NumberValue} → Reads production (rule ExponentRule) ts v rest → (text : List ℕ) → seen text ≡ ts → Front IsSigned text rest
exponent_front (is_rule (is_left (is_pair d k))) text s =
    joined signed (one sign_tells d text s) (digits_front k)
exponent_front (is_rule (is_right d)) text s = turned unsigned (digits_front d text s)

-- an exponent, or none
record IsPower (text : List ℕ) : Type 0 where
  exponent : Exponent
  form : IsExponent exponent
  parts : text ≡ exponent_part exponent

abbrev IsLetter : List ℕ → Type 0
IsLetter text = (text ≡ 101 ∷ []) ⊎ (text ≡ 69 ∷ [])

letter_tells : Tells e_at IsLetter
letter_tells b v h = elim (either_byte b 101 69 (e_test _ _ _ _ v h)) [ inl e ↦ inl (ap (λ x. x ∷ []) e) | inr e ↦ inr (ap (λ x. x ∷ []) e) ]

lettered : (a b : List ℕ) → IsLetter a → IsSigned b → IsPower (a ++ b)
lettered a b (inl e) i = record { exponent = small_e i.sign i.digits; form = i.numeral; parts = ap (λ (r : List ℕ). r ++ b) e ∙ ap (λ (r : List ℕ). 101 ∷ r) i.parts }
lettered a b (inr e) i = record { exponent = capital_e i.sign i.digits; form = i.numeral; parts = ap (λ (r : List ℕ). r ++ b) e ∙ ap (λ (r : List ℕ). 69 ∷ r) i.parts }

power_front : {ts rest : List Letter} {v : NumberValue} → Reads production (rule Power) ts v rest → (text : List ℕ) → seen text ≡ ts → Front IsPower text rest
power_front (is_rule (is_left (is_pair d k))) text s = joined lettered (one letter_tells d text s) (exponent_front k)
power_front (is_rule (is_right is_nothing)) text s = record { front = []; after = text; parts = refl; left = s; so = record { exponent = no_exponent; form = tt; parts = refl } }

-- what stands after the first digits
record IsRest (text : List ℕ) : Type 0 where
  fraction : Fraction
  exponent : Exponent
  digits : AreDigits (decimals fraction)
  form : IsExponent exponent
  parts : text ≡ fraction_part fraction ++ exponent_part exponent

abbrev IsPoint : List ℕ → Type 0
IsPoint text = text ≡ 46 ∷ []

point_tells : Tells point_at IsPoint
point_tells b v h = ap (λ x. x ∷ []) (eqb-true b 46 (point_test _ _ _ _ v h))

-- digits with an exponent
record IsScaled (P : List ℕ → Type 0) (text : List ℕ) : Type 0 where
  digits : List ℕ
  exponent : Exponent
  so : P digits
  form : IsExponent exponent
  parts : text ≡ digits ++ exponent_part exponent

scaled : (P : List ℕ → Type 0) (a b : List ℕ) → P a → IsPower b → IsScaled P (a ++ b)
scaled P a b h i = record { digits = a; exponent = i.exponent; so = h; form = i.form; parts = ap (λ (r : List ℕ). a ++ r) i.parts }

pointed : (a b : List ℕ) → IsPoint a → IsScaled AreDigits b → IsRest (a ++ b)
pointed a b h i = record { fraction = point i.digits; exponent = i.exponent; digits = i.so; form = i.form; parts = ap (λ (r : List ℕ). r ++ b) h ∙ ap (λ (r : List ℕ). 46 ∷ r) i.parts }

unpointed : (a : List ℕ) → IsPower a → IsRest a
unpointed a h = record { fraction = no_point; exponent = h.exponent; digits = refl; form = h.form; parts = h.parts }

fraction_front : {ts rest : List Letter} {v : NumberValue} → Reads production (rule FractionRule) ts v rest → (text : List ℕ) → seen text ≡ ts → Front IsRest text rest
fraction_front (is_rule (is_left (is_pair d (is_pair k l)))) text s =
    joined pointed (one point_tells d text s) (λ t u. joined (scaled AreDigits) (turns_front k t u) (power_front l))
fraction_front (is_rule (is_right d)) text s = turned unpointed (power_front d text s)

tail_front : {ts rest : List Letter} {v : NumberValue} → Reads production (rule Tail) ts v rest → (text : List ℕ) → seen text ≡ ts → Front (IsScaled Numeral) text rest
tail_front (is_rule (is_pair d k)) text s = joined (scaled Numeral) (digits_front d text s) (power_front k)

-- a number
by_point : (a b : List ℕ) → IsPoint a → IsScaled Numeral b → HasUnsignedForm (a ++ b)
by_point a b h i = record {
  whole = [];
  fraction = point i.digits;
  exponent = i.exponent;
  form = record { whole_digits = refl; decimal_digits = i.so.1; some = (let s = i.so.0 in omega arith); exponent_form = i.form };
  parts = ap (λ (r : List ℕ). r ++ b) h ∙ ap (λ (r : List ℕ). 46 ∷ r) i.parts;
}

by_digits : (a b : List ℕ) → Numeral a → IsRest b → HasUnsignedForm (a ++ b)
by_digits a b h i = record {
  whole = a;
  fraction = i.fraction;
  exponent = i.exponent;
  form = record { whole_digits = h.1; decimal_digits = i.digits; some = (let s = h.0 in omega arith); exponent_form = i.form };
  parts = ap (λ (r : List ℕ). a ++ r) i.parts;
}

number_front : {ts rest : List Letter} {v : NumberValue} → Reads production (rule Number) ts v rest → (text : List ℕ) → seen text ≡ ts → Front HasUnsignedForm text rest
number_front (is_rule (is_left (is_pair d k))) text s = joined by_point (one point_tells d text s) (tail_front k)
number_front (is_rule (is_right (is_pair d k))) text s = joined by_digits (digits_front d text s) (fraction_front k)

none_after : (text front after : List ℕ) → text ≡ front ++ after → seen after ≡ [] → text ≡ front
none_after text front [] h s = h ∙ append-nil front
none_after text front (b ∷ after) h s = cc

pub has_form : (text : List ℕ) (v : NumberValue) → Reads production (rule Number) (seen text) v [] → HasUnsignedForm text
has_form text v d =
    let x = number_front d text refl in
    record { whole = x.so.whole; fraction = x.so.fraction; exponent = x.so.exponent; form = x.so.form; parts = none_after text x.front x.after x.parts x.left ∙ x.so.parts }
