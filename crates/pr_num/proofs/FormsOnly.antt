-- A text that is read as a number has the form.
use Rattle.std.proofs.Common.{◌≡◌, ◌≢◌, ℕ, ◌+◌, ◌<◌, ◌⊎◌, inl, inr, Bool, true, false, List, [], ◌∷◌, ◌++◌, length, codes, Option, Some, None, Err, sym, ◌∙◌, ap, refl, subst, nat_eq, nat_lt, eqb-true, ltb-true}
use Rattle.std.specs.List.{list_all, prefix_len}
use Rattle.std.specs.Char.{is_ascii_digit}
use Rattle.std.specs.Str.{str_eq_ignore_ascii_case}
use Rattle.std.proofs.lemmas.List.{take-append-drop}
use Rattle.pr_num.specs.declared.text.NumFault.TheVariants.{NotNumber}
use Rattle.pr_num.specs.Reads.{Scale, reads, reads_unsigned, reads_number, ending, signed_scale, scale_of, front_digits, after_digits, fraction_digits, after_fraction, is_numeral}
use Rattle.pr_num.specs.private.Forms.{Sign, no_sign, plus, minus, Fraction, no_point, point, Exponent, no_exponent, small_e, capital_e, sign_text, fraction_part, decimals, exponent_part, AreDigits, IsExponent, IsInfinityWord, HasUnsignedForm, IsNumberText}
use Rattle.pr_num.proofs.Digits.{front_passes}
use Rattle.pr_num.proofs.RoundTrip.{and_first, and_second}

-- which of two a test answers
which : (b : Bool) → (b ≡ true) ⊎ (b ≡ false)
which true = inl refl
which false = inr refl

-- digits and an exponent that are read have a digit and an exponent
record Given (W F : List ℕ) (o : Option Scale) : Type 0 where
  scale : Scale
  is : o ≡ Some scale
  some : 0 < length W + length F

number_given : (negative : Bool) (W F : List ℕ) (o : Option Scale) → reads_number negative W F o ≢ Err NotNumber → Given W F o
number_given negative W F None h = absurd (h refl)
number_given negative W F (Some s) h =
    elim (which (nat_lt 0 (length W + length F))) [
      | inl t ↦ record { scale = s; is = refl; some = ltb-true 0 (length W + length F) t }
      | inr f ↦ absurd (h (rw f refl))
    ]

numeral_given : (divides : Bool) (ds : List ℕ) (s : Scale) → scale_of divides ds ≡ Some s → (0 < length ds) × AreDigits ds
numeral_given divides ds s h =
    elim (which (is_numeral ds)) [
      | inl t ↦ (ltb-true 0 (length ds) (and_first (nat_lt 0 (length ds)) (list_all is_ascii_digit ds) t), and_second (nat_lt 0 (length ds)) (list_all is_ascii_digit ds) t)
      | inr f ↦ absurd (let e : None ≡ Some s = (let g = rw f at h in g) in cc)
    ]

-- digits after a sign
record Signed (text : List ℕ) : Type 0 where
  sign : Sign
  digits : List ℕ
  form : (0 < length digits) × AreDigits digits
  parts : text ≡ sign_text sign ++ digits

signed_given : (text : List ℕ) (s : Scale) → signed_scale text ≡ Some s → Signed text
signed_given [] s h = absurd (let e : None ≡ Some s = h in cc)
signed_given (c ∷ ds) s h =
    elim (which (nat_eq c 45)) [
      | inl m ↦ record { sign = minus; digits = ds; form = numeral_given true ds s (rw m at h); parts = ap (λ x. x ∷ ds) (eqb-true c 45 m) }
      | inr n ↦ elim (which (nat_eq c 43)) [
        | inl p ↦ record { sign = plus; digits = ds; form = numeral_given false ds s (let g = rw n at h in rw p at g); parts = ap (λ x. x ∷ ds) (eqb-true c 43 p) }
        | inr q ↦ record { sign = no_sign; digits = c ∷ ds; form = numeral_given false (c ∷ ds) s (let g = rw n at h in rw q at g); parts = refl }
      ]
    ]

record Ended (text : List ℕ) : Type 0 where
  exponent : Exponent
  form : IsExponent exponent
  parts : text ≡ exponent_part exponent

ending_given : (text : List ℕ) (s : Scale) → ending text ≡ Some s → Ended text
ending_given [] s h = record { exponent = no_exponent; form = tt; parts = refl }
ending_given (c ∷ rest) s h =
    elim (which (nat_eq c 101)) [
      | inl m ↦
          let g = signed_given rest s (rw m at h) in
          record { exponent = small_e g.sign g.digits; form = g.form; parts = ap (λ x. x ∷ rest) (eqb-true c 101 m) ∙ ap (λ (r : List ℕ). 101 ∷ r) g.parts }
      | inr n ↦ elim (which (nat_eq c 69)) [
        | inl p ↦
            let g = signed_given rest s (let k = rw n at h in rw p at k) in
            record { exponent = capital_e g.sign g.digits; form = g.form; parts = ap (λ x. x ∷ rest) (eqb-true c 69 p) ∙ ap (λ (r : List ℕ). 69 ∷ r) g.parts }
        | inr q ↦ absurd (let e : None ≡ Some s = (let k = rw n at h in rw q at k) in cc)
      ]
    ]

-- what stands after the digits before a point
record Pointed (text : List ℕ) : Type 0 where
  fraction : Fraction
  digits : AreDigits (decimals fraction)
  same : decimals fraction ≡ fraction_digits text
  parts : text ≡ fraction_part fraction ++ after_fraction text

pointed : (text : List ℕ) → Pointed text
pointed [] = record { fraction = no_point; digits = refl; same = refl; parts = refl }
pointed (c ∷ rest) =
    elim (which (nat_eq c 46)) [
      | inl m ↦ record {
        fraction = point (front_digits rest);
        digits = front_passes is_ascii_digit rest;
        same = rw m refl;
        parts = rw m (ap (λ x. x ∷ rest) (eqb-true c 46 m) ∙ ap (λ (r : List ℕ). 46 ∷ r) (sym (take-append-drop (prefix_len is_ascii_digit rest) rest)));
      }
      | inr n ↦ record { fraction = no_point; digits = refl; same = rw n refl; parts = rw n refl }
    ]

unsigned_given : (negative : Bool) (text : List ℕ) → reads_number negative (front_digits text) (fraction_digits (after_digits text)) (ending (after_fraction (after_digits text))) ≢ Err NotNumber → HasUnsignedForm text
unsigned_given negative text h =
    let rest = after_digits text in
    let g = number_given negative (front_digits text) (fraction_digits rest) (ending (after_fraction rest)) h in
    let p = pointed rest in
    let e = ending_given (after_fraction rest) g.scale g.is in
    record {
      whole = front_digits text;
      fraction = p.fraction;
      exponent = e.exponent;
      form = record {
        whole_digits = front_passes is_ascii_digit text;
        decimal_digits = p.digits;
        some = subst (λ (ds : List ℕ). 0 < length (front_digits text) + length ds) (sym p.same) g.some;
        exponent_form = e.form;
      };
      parts = sym (take-append-drop (prefix_len is_ascii_digit text) text)
          ∙ ap (λ (r : List ℕ). front_digits text ++ r) (p.parts ∙ ap (λ (r : List ℕ). fraction_part p.fraction ++ r) e.parts);
    }

unsigned_only : (negative : Bool) (text : List ℕ) → reads_unsigned negative text ≢ Err NotNumber → IsInfinityWord text ⊎ HasUnsignedForm text
unsigned_only negative text h =
    elim (which (str_eq_ignore_ascii_case text (codes "inf"))) [
      | inl t ↦ inl (inl t)
      | inr f ↦ elim (which (str_eq_ignore_ascii_case text (codes "infinity"))) [
        | inl t ↦ inl (inr t)
        | inr g ↦ inr (unsigned_given negative text (let k = rw f at h in rw g at k))
      ]
    ]

pub only_number_texts : (text : List ℕ) → reads text ≢ Err NotNumber → IsNumberText text
unfolding reads
only_number_texts [] h = absurd (h refl)
only_number_texts (c ∷ rest) h =
    elim (which (nat_eq c 45)) [
      | inl m ↦ inr (record { sign = minus; rest = rest; parts = ap (λ x. x ∷ rest) (eqb-true c 45 m); form = unsigned_only true rest (rw m at h) })
      | inr n ↦ elim (which (nat_eq c 43)) [
        | inl p ↦ inr (record { sign = plus; rest = rest; parts = ap (λ x. x ∷ rest) (eqb-true c 43 p); form = unsigned_only false rest (let k = rw n at h in rw p at k) })
        | inr q ↦ elim (which (str_eq_ignore_ascii_case (c ∷ rest) (codes "nan"))) [
          | inl t ↦ inl t
          | inr f ↦ inr (record { sign = no_sign; rest = c ∷ rest; parts = refl; form = unsigned_only false (c ∷ rest) (let k = rw n at h in let l = rw q at k in rw f at l) })
        ]
      ]
    ]
