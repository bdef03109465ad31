-- What a number text is so far, at each place of it.
use Rattle.std.proofs.Common.{◌≡◌, refl, sym, ap, ◌∙◌, subst, ℕ, ◌+◌, ◌<◌, List, [], ◌∷◌, ◌++◌, length, length-append, Bool, true, false, ◌&&◌, Option, Some, None, append_assoc, append-nil, arith, lit<, encode_utf8, ◌⊎◌, inl, inr, codes, ◌≢◌, ◌^◌, nat_lt, Ok, Err}
use Prim.Native.Char.{code}
use Rattle.std.specs.Prelude.{◌==◌, if◌then◌else◌}
use Rattle.std.specs.Char.{eq_ignore_ascii_case, is_ascii_digit, to_ascii_lowercase}
use Rattle.std.specs.Str.{bytes_eq, str_to_ascii_lowercase}
use Rattle.std.proofs.lemmas.Bool.Decides.{nat_tests}
use Rattle.std.proofs.lemmas.List.{map-append}
use Rattle.std.proofs.lemmas.List.Folds.{list_all-append}
use Rattle.std.proofs.lemmas.Str.{encode_ascii}
use Rattle.pr_num.specs.declared.value.Num.TheVariants.{Finite, NaN}
use Rattle.pr_num.specs.declared.text.NumFault.TheVariants.{NotNumber, TooWide}
use Rattle.pr_num.specs.Arithmetic.{infinity}
use Rattle.pr_num.specs.Half.{signed}
use Rattle.pr_num.specs.Reads.{number_of, reads, text_magnitude}
use Rattle.pr_num.specs.private.Forms.{is_minus, scale_part, AreDigits, Fraction, HasUnsignedForm, IsInfinityWord, IsNumberText, Sign, capital_e, decimals, fraction_part, minus, no_exponent, no_point, no_sign, plus, point, sign_text, small_e}
use Rattle.pr_num.proofs.FormTexts.{form_reads, infinity_reads, nan_reads}
use Rattle.pr_expo.specs.Characters.{is_sign}
use Rattle.pr_expo.specs.declared.expo_line.number.NumberPlace.{NumberPlace}
use Rattle.pr_expo.specs.declared.expo_line.number.NumberPlace.TheVariants as place
use Rattle.pr_expo.specs.Line.{grown}
use Rattle.pr_expo.specs.Number.{exponent_digit, exponent_start, is_number_end, number_next, number_start, unsigned_start}

-- a text after a sign, which may be missing
pub record AfterSign (P : List ℕ → Type 0) (text : List ℕ) : Type 0 where
  pub sign : Sign
  pub rest : List ℕ
  pub parts : text ≡ sign_text sign ++ rest
  pub holds : P rest

pub record AreSomeDigits (text : List ℕ) : Type 0 where
  pub some : 0 < length text
  pub digits : AreDigits text

-- digits with a point among them
pub record HasPoint (text : List ℕ) : Type 0 where
  pub whole : List ℕ
  pub decimals : List ℕ
  pub parts : text ≡ whole ++ (codes "." ++ decimals)
  pub whole_digits : AreDigits whole
  pub decimal_digits : AreDigits decimals
  pub some : 0 < length whole + length decimals

-- digits with or without a point
pub record IsMantissa (text : List ℕ) : Type 0 where
  pub whole : List ℕ
  pub fraction : Fraction
  pub parts : text ≡ whole ++ fraction_part fraction
  pub whole_digits : AreDigits whole
  pub decimal_digits : AreDigits (decimals fraction)
  pub some : 0 < length whole + length (decimals fraction)

-- the same with the letter of an exponent, a sign and digits
pub record HasLetter (sign : Sign) (digits text : List ℕ) : Type 0 where
  pub mantissa : List ℕ
  pub is : IsMantissa mantissa
  pub letter : List ℕ
  pub case : (letter ≡ codes "e") ⊎ (letter ≡ codes "E")
  pub parts : text ≡ mantissa ++ (letter ++ (sign_text sign ++ digits))

pub record HasSignedLetter (text : List ℕ) : Type 0 where
  pub sign : Sign
  pub letter : HasLetter sign [] text

pub record HasExponentDigits (text : List ℕ) : Type 0 where
  pub sign : Sign
  pub digits : List ℕ
  pub are : AreSomeDigits digits
  pub letter : HasLetter sign digits text

abbrev pub IsWord : List ℕ → List ℕ → Type 0
IsWord word text = str_to_ascii_lowercase text ≡ word

abbrev pub NumberSoFar : NumberPlace → List ℕ → Type 0
NumberSoFar place.Signed text = AfterSign (λ t. t ≡ []) text
NumberSoFar place.Whole text = AfterSign AreSomeDigits text
NumberSoFar place.Point text = AfterSign (λ t. t ≡ codes ".") text
NumberSoFar place.Fraction text = AfterSign HasPoint text
NumberSoFar place.Exponent text = AfterSign (HasLetter no_sign []) text
NumberSoFar place.ExponentSign text = AfterSign HasSignedLetter text
NumberSoFar place.ExponentDigits text = AfterSign HasExponentDigits text
NumberSoFar place.I text = AfterSign (IsWord (codes "i")) text
NumberSoFar place.In text = AfterSign (IsWord (codes "in")) text
NumberSoFar place.Inf text = AfterSign (IsWord (codes "inf")) text
NumberSoFar place.Infi text = AfterSign (IsWord (codes "infi")) text
NumberSoFar place.Infin text = AfterSign (IsWord (codes "infin")) text
NumberSoFar place.Infini text = AfterSign (IsWord (codes "infini")) text
NumberSoFar place.Infinit text = AfterSign (IsWord (codes "infinit")) text
NumberSoFar place.Infinity text = AfterSign (IsWord (codes "infinity")) text
NumberSoFar place.N text = IsWord (codes "n") text
NumberSoFar place.Na text = IsWord (codes "na") text
NumberSoFar place.Nan text = IsWord (codes "nan") text

abbrev pub IfNumber : Option NumberPlace → List ℕ → Type 0
IfNumber None text = Unit {0}
IfNumber (Some p) text = NumberSoFar p text

number_ways : (text : List ℕ) (b : Bool) (x y : Option NumberPlace) → (b ≡ true → IfNumber x text) → (b ≡ false → IfNumber y text) → IfNumber (if b then x else y) text
number_ways text true x y f g = f refl
number_ways text false x y f g = g refl

-- characters
digit_text : (c : ℕ) → is_ascii_digit c ≡ true → encode_utf8 c ≡ c ∷ []
digit_text c h = let small : c < 128 = grind (arith, nat_tests) in encode_ascii c small

same_code : (c k : ℕ) → k < 128 → (c == k) ≡ true → encode_utf8 c ≡ k ∷ []
same_code c k s h = let is : c ≡ k = grind (arith, nat_tests) in ap encode_utf8 is ∙ encode_ascii k s

pub sign_text_of : (c : ℕ) → is_sign c ≡ true → (s : Sign) × (encode_utf8 c ≡ sign_text s)
sign_text_of c h = by (c == code "+") refl h where
  by : (b : Bool) → (c == code "+") ≡ b → is_sign c ≡ true → (s : Sign) × (encode_utf8 c ≡ sign_text s)
  by true e k = (plus, same_code c (code "+") (lit< tt) e)
  by false e k = (minus, same_code c (code "-") (lit< tt) (grind (arith, nat_tests)))

small_letter : (c k : ℕ) → k < 128 → eq_ignore_ascii_case c k ≡ true → c < 128
small_letter c k s h = grind (arith, nat_tests)

lower_is : (c k : ℕ) → to_ascii_lowercase k ≡ k → eq_ignore_ascii_case c k ≡ true → to_ascii_lowercase c ≡ k
lower_is c k e h = let is : to_ascii_lowercase c ≡ to_ascii_lowercase k = grind (arith, nat_tests) in is ∙ e

letter_more : (word text : List ℕ) (c k : ℕ) → k < 128 → to_ascii_lowercase k ≡ k → IsWord word text → eq_ignore_ascii_case c k ≡ true → IsWord (word ++ k ∷ []) (grown text c)
letter_more word text c k s e w h =
    ap (λ x. str_to_ascii_lowercase (text ++ x)) (encode_ascii c (small_letter c k s h)) ∙ map-append to_ascii_lowercase text (c ∷ [])
    ∙ (λ i. w i ++ lower_is c k e h i ∷ [])

-- one character more after a sign
signed_more : (P Q : List ℕ → Type 0) (text : List ℕ) (c : ℕ) → AfterSign P text → ((t : List ℕ) → P t → Q (grown t c)) → AfterSign Q (grown text c)
signed_more P Q text c a f = record {
  sign = a.sign;
  rest = grown a.rest c;
  parts = ap (λ t. t ++ encode_utf8 c) a.parts ∙ append_assoc (sign_text a.sign) a.rest (encode_utf8 c);
  holds = f a.rest a.holds;
}

more_digits : (t : List ℕ) (c : ℕ) → AreDigits t → is_ascii_digit c ≡ true → AreDigits (t ++ c ∷ [])
more_digits t c d h = list_all-append is_ascii_digit t (c ∷ []) ∙ ap (λ b. b && (is_ascii_digit c && true)) d ∙ ap (λ b. true && (b && true)) h

some_more : (t : List ℕ) (c : ℕ) → AreDigits t → is_ascii_digit c ≡ true → AreSomeDigits (grown t c)
some_more t c d h = subst AreSomeDigits (ap (λ x. t ++ x) (sym (digit_text c h))) (record { some = omega (arith, length-append t (c ∷ [])); digits = more_digits t c d h })

point_digit : (t : List ℕ) (c : ℕ) → HasPoint t → is_ascii_digit c ≡ true → HasPoint (grown t c)
point_digit t c p h = record {
  whole = p.whole;
  decimals = p.decimals ++ c ∷ [];
  parts = (λ i. p.parts i ++ digit_text c h i) ∙ append_assoc p.whole (codes "." ++ p.decimals) (c ∷ []);
  whole_digits = p.whole_digits;
  decimal_digits = more_digits p.decimals c p.decimal_digits h;
  some = omega (arith, length-append p.decimals (c ∷ []), p.some);
}

-- a point after digits, and digits after a point
point_after : (t : List ℕ) (c : ℕ) → AreSomeDigits t → (c == code ".") ≡ true → HasPoint (grown t c)
point_after t c d h = record {
  whole = t;
  decimals = [];
  parts = ap (λ x. t ++ x) (same_code c (code ".") (lit< tt) h);
  whole_digits = d.digits;
  decimal_digits = refl;
  some = omega (arith, d.some);
}

after_point : (t : List ℕ) (c : ℕ) → t ≡ codes "." → is_ascii_digit c ≡ true → HasPoint (grown t c)
after_point t c e h = record {
  whole = [];
  decimals = c ∷ [];
  parts = λ i. e i ++ digit_text c h i;
  whole_digits = refl;
  decimal_digits = ap (λ b. b && true) h;
  some = omega arith;
}

mantissa_of_digits : (t : List ℕ) → AreSomeDigits t → IsMantissa t
mantissa_of_digits t d = record { whole = t; fraction = no_point; parts = sym (append-nil t); whole_digits = d.digits; decimal_digits = refl; some = omega (arith, d.some) }

mantissa_of_point : (t : List ℕ) → HasPoint t → IsMantissa t
mantissa_of_point t p = record { whole = p.whole; fraction = point p.decimals; parts = p.parts; whole_digits = p.whole_digits; decimal_digits = p.decimal_digits; some = p.some }

letter_is : (c : ℕ) → eq_ignore_ascii_case c (code "e") ≡ true → (encode_utf8 c ≡ codes "e") ⊎ (encode_utf8 c ≡ codes "E")
letter_is c h = by (c == code "e") refl where
  by : (b : Bool) → (c == code "e") ≡ b → (encode_utf8 c ≡ codes "e") ⊎ (encode_utf8 c ≡ codes "E")
  by true e = inl (same_code c (code "e") (lit< tt) e)
  by false e = inr (same_code c (code "E") (lit< tt) (grind (arith, nat_tests)))

letter_after : (t : List ℕ) (c : ℕ) → IsMantissa t → eq_ignore_ascii_case c (code "e") ≡ true → HasLetter no_sign [] (grown t c)
letter_after t c m h = record { mantissa = t; is = m; letter = encode_utf8 c; case = letter_is c h; parts = ap (λ x. t ++ x) (sym (append-nil (encode_utf8 c))) }

sign_after : (t : List ℕ) (c : ℕ) → HasLetter no_sign [] t → is_sign c ≡ true → HasSignedLetter (grown t c)
sign_after t c l h =
    let s = sign_text_of c h in
    record {
      sign = s.0;
      letter = record {
        mantissa = l.mantissa;
        is = l.is;
        letter = l.letter;
        case = l.case;
        parts = (λ i. l.parts i ++ s.1 i) ∙ append_assoc l.mantissa (l.letter ++ []) (sign_text s.0)
            ∙ ap (λ x. l.mantissa ++ x) (ap (λ x. x ++ sign_text s.0) (append-nil l.letter) ∙ ap (λ x. l.letter ++ x) (sym (append-nil (sign_text s.0))));
      };
    }

exponent_more : (sign : Sign) (ds t : List ℕ) (c : ℕ) → AreDigits ds → HasLetter sign ds t → is_ascii_digit c ≡ true → HasExponentDigits (grown t c)
exponent_more sign ds t c d l h = record {
  sign = sign;
  digits = ds ++ c ∷ [];
  are = record { some = omega (arith, length-append ds (c ∷ [])); digits = more_digits ds c d h };
  letter = record {
    mantissa = l.mantissa;
    is = l.is;
    letter = l.letter;
    case = l.case;
    parts = (λ i. l.parts i ++ digit_text c h i) ∙ append_assoc l.mantissa (l.letter ++ (sign_text sign ++ ds)) (c ∷ [])
        ∙ ap (λ x. l.mantissa ++ x) (append_assoc l.letter (sign_text sign ++ ds) (c ∷ []) ∙ ap (λ x. l.letter ++ x) (append_assoc (sign_text sign) ds (c ∷ [])));
  };
}

-- the first character after a sign
unsigned_first : (sign : Sign) (text : List ℕ) (c : ℕ) → text ≡ sign_text sign → IfNumber (unsigned_start c) (grown text c)
unsigned_first sign text c e =
    number_ways (grown text c) (is_ascii_digit c) _ _ (λ h. first (λ t. some_more [] c refl h))
    (λ _. number_ways (grown text c) (c == code ".") _ _ (λ h. first (λ t. same_code c (code ".") (lit< tt) h))
    (λ _. number_ways (grown text c) (eq_ignore_ascii_case c (code "i")) _ _ (λ h. first (λ t. letter_more [] [] c (code "i") (lit< tt) refl refl h)) (λ _. tt))) where
      first : {P : List ℕ → Type 0} → (Unit {0} → P (encode_utf8 c)) → AfterSign P (grown text c)
      first f = record { sign = sign; rest = encode_utf8 c; parts = ap (λ t. t ++ encode_utf8 c) e; holds = f tt }

pub number_first : (c : ℕ) → IfNumber (number_start c) (encode_utf8 c)
number_first c =
    number_ways (encode_utf8 c) (is_sign c) _ _ (λ h. let s = sign_text_of c h in record { sign = s.0; rest = []; parts = s.1 ∙ sym (append-nil (sign_text s.0)); holds = refl })
    (λ _. number_ways (encode_utf8 c) (eq_ignore_ascii_case c (code "n")) _ _ (λ h. letter_more [] [] c (code "n") (lit< tt) refl refl h) (λ _. unsigned_first no_sign [] c refl))

word_more : (word text : List ℕ) (c k : ℕ) (next : NumberPlace) → k < 128 → to_ascii_lowercase k ≡ k → AfterSign (IsWord word) text →
    (AfterSign (IsWord (word ++ k ∷ [])) (grown text c) → NumberSoFar next (grown text c)) → IfNumber (if eq_ignore_ascii_case c k then Some next else None) (grown text c)
word_more word text c k next s e a f =
    number_ways (grown text c) (eq_ignore_ascii_case c k) _ _ (λ h. f (signed_more (IsWord word) (IsWord (word ++ k ∷ [])) text c a (λ t w. letter_more word t c k s e w h))) (λ _. tt)

exponent_ways : (P : List ℕ → Type 0) (text : List ℕ) (c : ℕ) → AfterSign P text → ((t : List ℕ) → P t → IsMantissa t) → IfNumber (exponent_start c) (grown text c)
exponent_ways P text c a f =
    number_ways (grown text c) (eq_ignore_ascii_case c (code "e")) _ _ (λ h. signed_more P (HasLetter no_sign []) text c a (λ t p. letter_after t c (f t p) h)) (λ _. tt)

digit_ways : (P : List ℕ → Type 0) (text : List ℕ) (c : ℕ) → AfterSign P text → ((t : List ℕ) → P t → is_ascii_digit c ≡ true → HasExponentDigits (grown t c)) → IfNumber (exponent_digit c) (grown text c)
digit_ways P text c a f = number_ways (grown text c) (is_ascii_digit c) _ _ (λ h. signed_more P HasExponentDigits text c a (λ t p. f t p h)) (λ _. tt)

pub number_more : (p : NumberPlace) (text : List ℕ) (c : ℕ) → NumberSoFar p text → IfNumber (number_next p c) (grown text c)
number_more place.Signed text c a = unsigned_first a.sign text c (a.parts ∙ ap (λ r. sign_text a.sign ++ r) a.holds ∙ append-nil (sign_text a.sign))
number_more place.Whole text c a =
    number_ways (grown text c) (is_ascii_digit c) _ _ (λ h. signed_more AreSomeDigits AreSomeDigits text c a (λ t d. some_more t c d.digits h))
    (λ _. number_ways (grown text c) (c == code ".") _ _ (λ h. signed_more AreSomeDigits HasPoint text c a (λ t d. point_after t c d h))
    (λ _. exponent_ways AreSomeDigits text c a mantissa_of_digits))
number_more place.Point text c a =
    number_ways (grown text c) (is_ascii_digit c) _ _ (λ h. signed_more (λ t. t ≡ codes ".") HasPoint text c a (λ t e. after_point t c e h)) (λ _. tt)
number_more place.Fraction text c a =
    number_ways (grown text c) (is_ascii_digit c) _ _ (λ h. signed_more HasPoint HasPoint text c a (λ t p. point_digit t c p h)) (λ _. exponent_ways HasPoint text c a mantissa_of_point)
number_more place.Exponent text c a =
    number_ways (grown text c) (is_sign c) _ _ (λ h. signed_more (HasLetter no_sign []) HasSignedLetter text c a (λ t l. sign_after t c l h))
    (λ _. digit_ways (HasLetter no_sign []) text c a (λ t l h. exponent_more no_sign [] t c refl l h))
number_more place.ExponentSign text c a = digit_ways HasSignedLetter text c a (λ t l h. exponent_more l.sign [] t c refl l.letter h)
number_more place.ExponentDigits text c a = digit_ways HasExponentDigits text c a (λ t l h. exponent_more l.sign l.digits t c l.are.digits l.letter h)
number_more place.I text c a = word_more (codes "i") text c (code "n") place.In (lit< tt) refl a (λ w. w)
number_more place.In text c a = word_more (codes "in") text c (code "f") place.Inf (lit< tt) refl a (λ w. w)
number_more place.Inf text c a = word_more (codes "inf") text c (code "i") place.Infi (lit< tt) refl a (λ w. w)
number_more place.Infi text c a = word_more (codes "infi") text c (code "n") place.Infin (lit< tt) refl a (λ w. w)
number_more place.Infin text c a = word_more (codes "infin") text c (code "i") place.Infini (lit< tt) refl a (λ w. w)
number_more place.Infini text c a = word_more (codes "infini") text c (code "t") place.Infinit (lit< tt) refl a (λ w. w)
number_more place.Infinit text c a = word_more (codes "infinit") text c (code "y") place.Infinity (lit< tt) refl a (λ w. w)
number_more place.Infinity text c a = tt
number_more place.N text c a = number_ways (grown text c) (eq_ignore_ascii_case c (code "a")) _ _ (λ h. letter_more (codes "n") text c (code "a") (lit< tt) refl a h) (λ _. tt)
number_more place.Na text c a = number_ways (grown text c) (eq_ignore_ascii_case c (code "n")) _ _ (λ h. letter_more (codes "na") text c (code "n") (lit< tt) refl a h) (λ _. tt)
number_more place.Nan text c a = tt

-- where a number text may end it is one
signed_form : (P : List ℕ → Type 0) (text : List ℕ) → AfterSign P text → ((t : List ℕ) → P t → IsInfinityWord t ⊎ HasUnsignedForm t) → IsNumberText text
signed_form P text a f = inr (record { sign = a.sign; rest = a.rest; parts = a.parts; form = f a.rest a.holds })

mantissa_form : (t : List ℕ) → IsMantissa t → HasUnsignedForm t
mantissa_form t m = record {
  whole = m.whole;
  fraction = m.fraction;
  exponent = no_exponent;
  form = record { whole_digits = m.whole_digits; decimal_digits = m.decimal_digits; some = m.some; exponent_form = tt };
  parts = m.parts ∙ ap (λ x. m.whole ++ x) (sym (append-nil (fraction_part m.fraction)));
}

exponent_form : (t : List ℕ) → HasExponentDigits t → HasUnsignedForm t
exponent_form t x = by x.letter.case where
  m : IsMantissa x.letter.mantissa
  m = x.letter.is

  parts_by : (letter : List ℕ) → x.letter.letter ≡ letter → t ≡ m.whole ++ (fraction_part m.fraction ++ (letter ++ (sign_text x.sign ++ x.digits)))
  parts_by letter e =
      x.letter.parts ∙ (λ i. m.parts i ++ (e i ++ (sign_text x.sign ++ x.digits))) ∙ append_assoc m.whole (fraction_part m.fraction) (letter ++ (sign_text x.sign ++ x.digits))

  by : (x.letter.letter ≡ codes "e") ⊎ (x.letter.letter ≡ codes "E") → HasUnsignedForm t
  by (inl e) = record {
    whole = m.whole;
    fraction = m.fraction;
    exponent = small_e x.sign x.digits;
    form = record { whole_digits = m.whole_digits; decimal_digits = m.decimal_digits; some = m.some; exponent_form = (x.are.some, x.are.digits) };
    parts = parts_by (codes "e") e;
  }
  by (inr e) = record {
    whole = m.whole;
    fraction = m.fraction;
    exponent = capital_e x.sign x.digits;
    form = record { whole_digits = m.whole_digits; decimal_digits = m.decimal_digits; some = m.some; exponent_form = (x.are.some, x.are.digits) };
    parts = parts_by (codes "E") e;
  }

pub number_ends : (p : NumberPlace) (text : List ℕ) → NumberSoFar p text → is_number_end p ≡ true → IsNumberText text
number_ends place.Whole text a h = signed_form AreSomeDigits text a (λ t d. inr (mantissa_form t (mantissa_of_digits t d)))
number_ends place.Fraction text a h = signed_form HasPoint text a (λ t p. inr (mantissa_form t (mantissa_of_point t p)))
number_ends place.ExponentDigits text a h = signed_form HasExponentDigits text a (λ t x. inr (exponent_form t x))
number_ends place.Inf text a h = signed_form (IsWord (codes "inf")) text a (λ t w. inl (inl (ap (λ x. bytes_eq x (codes "inf")) w)))
number_ends place.Infinity text a h = signed_form (IsWord (codes "infinity")) text a (λ t w. inl (inr (ap (λ x. bytes_eq x (codes "infinity")) w)))
number_ends place.Nan text a h = inl (ap (λ x. bytes_eq x (codes "nan")) a)
number_ends place.Signed text a h = cc
number_ends place.Point text a h = cc
number_ends place.Exponent text a h = cc
number_ends place.ExponentSign text a h = cc
number_ends place.I text a h = cc
number_ends place.In text a h = cc
number_ends place.Infi text a h = cc
number_ends place.Infin text a h = cc
number_ends place.Infini text a h = cc
number_ends place.Infinit text a h = cc
number_ends place.N text a h = cc
number_ends place.Na text a h = cc

-- a number text is read as a number, or is too wide
number_of_is : (negative : Bool) (magnitude : ℕ) → number_of negative magnitude ≢ Err NotNumber
number_of_is negative magnitude = by (nat_lt magnitude (10 ^ 29)) where
  by : (b : Bool) → (if b then Ok (Finite (signed negative magnitude)) else Err TooWide) ≡ Err NotNumber → ⊥
  by true h = cc
  by false h = cc

pub number_is_read : (text : List ℕ) → IsNumberText text → reads text ≢ Err NotNumber
number_is_read text (inl h) e = let k : Ok NaN ≡ Err NotNumber = sym (nan_reads text h) ∙ e in cc
number_is_read text (inr s) e = by s.form where
  is : reads (sign_text s.sign ++ s.rest) ≡ Err NotNumber
  is = ap reads (sym s.parts) ∙ e

  by : IsInfinityWord s.rest ⊎ HasUnsignedForm s.rest → ⊥
  by (inl w) = let k : Ok (infinity (is_minus s.sign)) ≡ Err NotNumber = sym (infinity_reads s.sign s.rest w) ∙ is in cc
  by (inr f) =
      number_of_is (is_minus s.sign) (text_magnitude f.whole (decimals f.fraction) (scale_part f.exponent))
      (sym (form_reads s.sign f.whole f.fraction f.exponent f.form) ∙ ap (λ x. reads (sign_text s.sign ++ x)) (sym f.parts) ∙ is)
