-- Plain decimals: their digits one by one, and that they are the texts that print numbers.
use Rattle.std.proofs.Common.{rules, ◌≡◌, ℕ, zero, suc, ◌+◌, ◌-◌, ◌*◌, ◌<◌, ◌≤◌, ◌^◌, min, Bool, true, false, List, [], ◌∷◌, length, take, get_or, refl, sym, ◌∙◌, ap, arith, nat_lt, Some, None}
use Rattle.std.specs.Prelude.{decimal, not, ◌&&◌, ◌==◌, if◌then◌else◌}
use Rattle.std.specs.List.{list_all}
use Rattle.std.specs.Char.{is_ascii_digit, digit_value}
use Rattle.std.specs.Str.Parse.{digits_value}
use Rattle.std.proofs.lemmas.Int.Digits.{digits_value_more}
use Rattle.std.proofs.lemmas.Str.Parse.{IsNumeralModel, numerals_by_fold}
use Rattle.std.proofs.lemmas.Fmt.{digits_value-decimal, digits_decimal, decimal-digits_value, first_decimal, decimal_nonempty, decimal_digit}
use Rattle.std.proofs.lemmas.Bool.Decides.{nat_tests}
use Rattle.std.proofs.lemmas.Grind.{common_steps}
use Rattle.pr_words.specs.Decimals.{is_plain_decimal, plain_decimal}

digit_value-is : (c : ℕ) → is_ascii_digit c ≡ true → digit_value c ≡ c - 48
digit_value-is c h = grind arith

digit-at : (bs : List ℕ) (i : ℕ) → list_all is_ascii_digit bs ≡ true → i < length bs → is_ascii_digit (get_or bs i 0) ≡ true
digit-at bs i h lt = grind (arith, common_steps)

pub value-more : (bs : List ℕ) (i : ℕ) → list_all is_ascii_digit bs ≡ true → i < length bs → digits_value 10 (take (i + 1) bs) ≡ digits_value 10 (take i bs) * 10 + (get_or bs i 0 - 48)
value-more bs i h lt = digits_value_more 10 bs i lt ∙ ap (λ d. digits_value 10 (take i bs) * 10 + d) (digit_value-is (get_or bs i 0) (digit-at bs i h lt))

pub capped-more : (cap v n d : ℕ) → v ≡ min n cap → min (v * 10 + d) cap ≡ min (n * 10 + d) cap
capped-more cap v n d h = omega arith

-- digits by std's words
pub read_on : ℕ → List ℕ → ℕ
read_on n [] = n
read_on n (c ∷ cs) = read_on (10 * n + (c - 48)) cs

pub own : IsNumeralModel (λ ds. list_all is_ascii_digit ds ≡ true) (read_on 0)
unfolding read_on
own = numerals_by_fold _ (search rules) read_on (search rules)

pub held : (limit v d : ℕ) → limit < 2 ^ 64 → min (min (min (v * 10) (2 ^ 64 - 1) + d) (2 ^ 64 - 1)) limit ≡ min (v * 10 + d) limit
held limit v d h = omega arith

-- what a plain decimal is, in parts
record Parts (text : List ℕ) : Type 0 where
  some : 0 < length text
  digits : list_all is_ascii_digit text ≡ true
  leads : get_or text 0 0 ≡ 48 → length text ≡ 1

both : (a b : Bool) → a && b ≡ true → (a ≡ true) × (b ≡ true)
both true b e = (refl, e)
both false b e = cc

no_zero : (b : ℕ) → not (b == 48) ≡ true → b ≡ 48 → ⊥
no_zero b h e = grind (arith, nat_tests)

parts_of : (text : List ℕ) → is_plain_decimal text ≡ true → Parts text
parts_of [] h = cc
parts_of (b ∷ []) h = record { some = omega arith; digits = rw h refl; leads = λ e. refl }
parts_of (b ∷ c ∷ text) h =
    let p = both (not (b == 48)) (list_all is_ascii_digit (b ∷ c ∷ text)) h in
    record { some = omega arith; digits = p.1; leads = λ e. absurd (no_zero b p.0 e) }

no_zero_leads : (b n : ℕ) → (b ≡ 48 → suc (suc n) ≡ 1) → not (b == 48) ≡ true
no_zero_leads b n h = grind (arith, nat_tests)

left_of : (a b : Bool) → a && b ≡ true → a ≡ true
left_of a b h = (both a b h).0

whole_of : (text : List ℕ) → Parts text → is_plain_decimal text ≡ true
whole_of [] p = absurd (omega (arith, p.some))
whole_of (b ∷ []) p = left_of (is_ascii_digit b) true p.digits
whole_of (b ∷ c ∷ text) p = rw p.digits (rw (no_zero_leads b (length text) p.leads) refl)

digits_are : (text : List ℕ) → list_all is_ascii_digit text ≡ true → read_on 0 text ≡ digits_value 10 text
digits_are text h = own.same text (own.to text h)

taken : (b : Bool) (v : ℕ) {n : ℕ} → (if b then Some v else None) ≡ Some n → (b ≡ true) × (v ≡ n)
taken true v e = (refl, cc)
taken false v e = cc

is_less : (m n : ℕ) → nat_lt m n ≡ true → m < n
is_less m n h = grind (arith, nat_tests)

pub printed_of_read : (limit n : ℕ) (text : List ℕ) → limit ≤ 2 ^ 64 → plain_decimal limit text ≡ Some n → (n < limit) × (text ≡ decimal n)
printed_of_read limit n text small e =
    let t = taken (is_plain_decimal text && nat_lt (digits_value 10 text) limit) (digits_value 10 text) e in
    let b = both (is_plain_decimal text) (nat_lt (digits_value 10 text) limit) t.0 in
    let p = parts_of text b.0 in
    let d : read_on 0 text ≡ n = digits_are text p.digits ∙ t.1 in
    let lt : n < limit = rw t.1 at (is_less (digits_value 10 text) limit b.1) in
    let far : read_on 0 text < 2 ^ 64 = omega (arith, d, lt, small) in
    (lt, sym (decimal-digits_value own text p.digits p.some p.leads far) ∙ ap decimal d)

leads_once : (n : ℕ) → n < 2 ^ 64 → get_or (decimal n) 0 0 ≡ 48 → length (decimal n) ≡ 1
leads_once zero h e = ap length (decimal_digit 0 (omega arith))
leads_once (suc n) h e = let f = first_decimal (suc n) (omega arith) h in absurd (omega (arith, f, e))

pub read_of_printed : (limit n : ℕ) → limit ≤ 2 ^ 64 → n < limit → plain_decimal limit (decimal n) ≡ Some n
read_of_printed limit n small lt =
    let far : n < 2 ^ 64 = omega (arith, lt, small) in
    let ds : list_all is_ascii_digit (decimal n) ≡ true = digits_decimal own n far in
    let v : digits_value 10 (decimal n) ≡ n = sym (digits_are (decimal n) ds) ∙ digits_value-decimal own n far in
    let w : is_plain_decimal (decimal n) ≡ true = whole_of (decimal n) (record { some = decimal_nonempty n far; digits = ds; leads = leads_once n far }) in
    let l : nat_lt n limit ≡ true = less_is n limit lt in
    rw w (rw v (rw l refl)) where
      less_is : (m n : ℕ) → m < n → nat_lt m n ≡ true
      less_is m n h = grind (arith, nat_tests)
