-- A printed value is read again.
use Rattle.std.proofs.Common.{◌≡◌, ℕ, zero, suc, ◌+◌, ◌*◌, ◌/◌, ◌%◌, ◌^◌, ◌<◌, ◌≤◌, List, [], ◌∷◌, ◌++◌, length, sym, ◌∙◌, ap, refl, subst, arith, nat_lt, nat_eq, true, false, Bool, inl, inr, Ok, pos, negsuc, add-zero, lit<, lit≤, codes, decimal, Some}
use mathlib.Core.Bool.{◌&&◌}
use Rattle.std.specs.List.{prefix_len, list_all}
use Rattle.std.specs.Int.{IsInRange}
use Rattle.std.specs.Char.{is_ascii_digit, digit_value, to_ascii_lowercase}
use Rattle.std.specs.Str.{str_eq_ignore_ascii_case}
use Rattle.std.specs.Str.Parse.{digits_value, digits_value_after, AllDigits}
use Rattle.std.proofs.Math.Nat.{pow-suc}
use Rattle.std.proofs.lemmas.Nat.{div-add-mod'}
use Rattle.std.proofs.lemmas.Bool.{cases_eq, and_left as and_false}
use Rattle.std.proofs.lemmas.List.{append-nil, take_at, drop_at}
use Rattle.std.proofs.lemmas.Fmt.{decimal_is_IsNumeral_wide}
use Rattle.std.proofs.lemmas.Str.Parse.{digit_from_value}
use Rattle.pr_num.specs.Arithmetic.{IsFit}
use Rattle.pr_num.specs.Half.{half_abs, signed}
use Rattle.pr_num.specs.Reads.{reads, reads_unsigned, reads_number, front_digits, after_digits, fraction_digits, after_fraction, ending, text_magnitude, Scale}
use Rattle.pr_num.specs.Shown.{fraction_text, point_text, magnitude_text, shown}
use Rattle.pr_num.specs.declared.value.Num.{Num}
use Rattle.pr_num.specs.declared.value.Num.TheVariants.{Finite, NaN, PosInf, NegInf}
use Rattle.pr_num.proofs.Dropping.{ten_pos}
use Rattle.pr_num.proofs.Digits.{after-append}
use Rattle.pr_num.proofs.Scaling.{half_abs-whole}
use Rattle.pr_num.proofs.Printing.{fraction-some, next_digit, step_whole}

-- ---- values of digits
after-value : (n : ℕ) (ds : List ℕ) → digits_value_after 10 n ds ≡ n * 10 ^ length ds + digits_value_after 10 0 ds
after-value n [] = omega arith
after-value n (x ∷ ds) =
    let a = after-value (n * 10 + digit_value x) ds in
    let b = after-value (0 * 10 + digit_value x) ds in
    let p = pow-suc 10 (length ds) in
    let q : n * 10 ^ suc (length ds) ≡ n * (10 ^ length ds * 10) = ap (λ x. n * x) p in
    omega (arith, a, b, q)

ranged : (x : ℕ) → IsInRange 48 57 x → is_ascii_digit x ≡ true
ranged x h = grind arith

digit_of : (d : ℕ) → d < 10 → digit_value (48 + d) ≡ d
digit_of d h = grind arith

glyph : (d : ℕ) → d < 10 → is_ascii_digit (48 + d) ≡ true
glyph d h = grind arith

-- ---- the digits of a fraction
fraction_digits_all : (n u : ℕ) → u < 10 ^ 9 → list_all is_ascii_digit (fraction_text n u) ≡ true
unfolding fraction_text
fraction_digits_all zero u h = refl
fraction_digits_all (suc n) u h =
    elim (cases_eq u 0) [
      | inl z ↦ rw z refl
      | inr s ↦
          rw (fraction-some n u s, glyph (u * 10 / 10 ^ 9) (next_digit u h)) (fraction_digits_all n (u * 10 % 10 ^ 9) (omega arith))
    ]

value_step : (u d r P V : ℕ) → d * 10 ^ 9 + r ≡ u * 10 → V * 10 ^ 9 ≡ r * P → (d * P + V) * 10 ^ 9 ≡ u * (P * 10)
value_step u d r P V e h = let m : (d * 10 ^ 9 + r) * P ≡ u * 10 * P = ap (λ x. x * P) e in omega (arith, m, h)

-- a fraction that ends within n digits is what its digits say
fraction_value : (n u : ℕ) → u < 10 ^ 9 → (u * 10 ^ n) % 10 ^ 9 ≡ 0 → digits_value 10 (fraction_text n u) * 10 ^ 9 ≡ u * 10 ^ length (fraction_text n u)
unfolding fraction_text
fraction_value zero u h w = let z : u ≡ 0 = omega arith in rw z refl
fraction_value (suc n) u h w =
    elim (cases_eq u 0) [
      | inl z ↦ rw z (omega arith)
      | inr s ↦
          let d : u * 10 / 10 ^ 9 < 10 = next_digit u h in
          let rest = fraction_text n (u * 10 % 10 ^ 9) in
          let ih = fraction_value n (u * 10 % 10 ^ 9) (omega arith) (step_whole n u w) in
          let v : digits_value 10 ((48 + u * 10 / 10 ^ 9) ∷ rest) ≡ u * 10 / 10 ^ 9 * 10 ^ length rest + digits_value 10 rest
          = after-value (0 * 10 + digit_value (48 + u * 10 / 10 ^ 9)) rest ∙ ap (λ x. (0 * 10 + x) * 10 ^ length rest + digits_value 10 rest) (digit_of (u * 10 / 10 ^ 9) d) ∙ omega arith in
          rw (fraction-some n u s, v, pow-suc 10 (length rest))
          (value_step u (u * 10 / 10 ^ 9) (u * 10 % 10 ^ 9) (10 ^ length rest) (digits_value 10 rest) (div-add-mod' (u * 10) (10 ^ 9)) ih)
    ]

-- ---- the front digits of a printed number
pub and_first : (a b : Bool) → (a && b) ≡ true → a ≡ true
and_first true b h = refl
and_first false b h = h

pub and_second : (a b : Bool) → (a && b) ≡ true → b ≡ true
and_second true b h = h
and_second false b h = cc

prefix_all : (ds rest : List ℕ) → list_all is_ascii_digit ds ≡ true → prefix_len is_ascii_digit rest ≡ 0 → prefix_len is_ascii_digit (ds ++ rest) ≡ length ds
prefix_all [] rest h z = z
prefix_all (x ∷ ds) rest h z =
    let a = and_first (is_ascii_digit x) (list_all is_ascii_digit ds) h in
    let ih = prefix_all ds rest (and_second (is_ascii_digit x) (list_all is_ascii_digit ds) h) z in
    rw (a, ih) (omega arith)

pub front_all : (ds rest : List ℕ) → list_all is_ascii_digit ds ≡ true → prefix_len is_ascii_digit rest ≡ 0 → front_digits (ds ++ rest) ≡ ds
front_all ds rest h z = rw (prefix_all ds rest h z) (take_at ds rest (length ds) refl)

pub after_all : (ds rest : List ℕ) → list_all is_ascii_digit ds ≡ true → prefix_len is_ascii_digit rest ≡ 0 → after_digits (ds ++ rest) ≡ rest
after_all ds rest h z = rw (prefix_all ds rest h z) (drop_at ds rest (length ds) refl)

-- ---- the text of a size is read as the size
no_scale : Scale
no_scale = record { divides = false; digits = [] }

point_stops : (u : ℕ) → prefix_len is_ascii_digit (point_text u) ≡ 0
point_stops u = elim (cases_eq u 0) [ inl z ↦ rw z refl | inr s ↦ grind arith ]

-- what a whole number and a fraction read as
fraction_read : (n u : ℕ) (W : List ℕ) → u < 10 ^ 9 → digits_value 10 W ≡ n → half_abs (digits_value 10 (W ++ fraction_text 9 u) * 10 ^ 9) (10 ^ length (fraction_text 9 u)) ≡ n * 10 ^ 9 + u
fraction_read n u W small w =
    let L = length (fraction_text 9 u) in
    let V = digits_value 10 (fraction_text 9 u) in
    let a : digits_value 10 (W ++ fraction_text 9 u) ≡ n * 10 ^ L + V = after-append 0 W (fraction_text 9 u) ∙ after-value (digits_value 10 W) (fraction_text 9 u) ∙ ap (λ x. x * 10 ^ L + V) w in
    let f : V * 10 ^ 9 ≡ u * 10 ^ L = fraction_value 9 u small (omega arith) in
    let e : digits_value 10 (W ++ fraction_text 9 u) * 10 ^ 9 ≡ (n * 10 ^ 9 + u) * 10 ^ L = ap (λ x. x * 10 ^ 9) a ∙ omega (arith, f) in
    rw e (half_abs-whole (n * 10 ^ 9 + u) (10 ^ L) (ten_pos L))

half_abs-one : (x : ℕ) → half_abs x 1 ≡ x
half_abs-one x = let e : x * 1 ≡ x = omega arith in subst (λ (y : ℕ). half_abs y 1 ≡ x) e (half_abs-whole x 1 (lit< tt))

whole_read : (n : ℕ) (W : List ℕ) → digits_value 10 W ≡ n → half_abs (digits_value 10 (W ++ []) * 10 ^ 9) (10 ^ 0) ≡ n * 10 ^ 9
whole_read n W w = rw (append-nil W, w) (half_abs-one (n * 10 ^ 9))

-- a text that begins with a digit is no word
not_letter : (c w : ℕ) → is_ascii_digit c ≡ true → 97 ≤ w → nat_eq (to_ascii_lowercase c) (to_ascii_lowercase w) ≡ false
not_letter c w h lower = grind arith

pub not_word : (c w : ℕ) (bs ws : List ℕ) → is_ascii_digit c ≡ true → 97 ≤ w → str_eq_ignore_ascii_case (c ∷ bs) (w ∷ ws) ≡ false
not_word c w bs ws h lower = and_false _ _ (not_letter c w h lower)

-- ---- the printed text
number_read : (negative : Bool) (W F : List ℕ) (s : Scale) (m : ℕ) → 0 < length W → text_magnitude W F s ≡ m → m < 10 ^ 29 → reads_number negative W F (Some s) ≡ Ok (Finite (signed negative m))
number_read negative W F s m some size fits =
    let a : nat_lt 0 (length W + length F) ≡ true = grind arith in
    let b : nat_lt m (10 ^ 29) ≡ true = grind arith in
    rw (a, size, b) refl

point-some : (u : ℕ) → (u ≡ 0 → ⊥) → point_text u ≡ 46 ∷ fraction_text 9 u
point-some u s = grind arith

front_whole : (ds : List ℕ) → list_all is_ascii_digit ds ≡ true → front_digits ds ≡ ds
front_whole ds h = let f = front_all ds [] h refl in rw append-nil at f

after_whole : (ds : List ℕ) → list_all is_ascii_digit ds ≡ true → after_digits ds ≡ []
after_whole ds h = let f = after_all ds [] h refl in rw append-nil at f

parts_read : (negative : Bool) (W : List ℕ) (u n : ℕ) → 0 < length W → digits_value 10 W ≡ n → u < 10 ^ 9 → n * 10 ^ 9 + u < 10 ^ 29 →
    reads_number negative W (fraction_digits (point_text u)) (ending (after_fraction (point_text u))) ≡ Ok (Finite (signed negative (n * 10 ^ 9 + u)))
parts_read negative W u n some value small fits =
    let none : Scale = record { divides = false; digits = [] } in
    elim (cases_eq u 0) [
      | inl z ↦
          let size : text_magnitude W [] none ≡ n * 10 ^ 9 + 0 = whole_read n W value ∙ sym (add-zero (n * 10 ^ 9)) in
          rw z (number_read negative W [] none (n * 10 ^ 9 + 0) some size (omega arith))
      | inr s ↦
          let digits = fraction_digits_all 9 u small in
          let size : text_magnitude W (fraction_text 9 u) none ≡ n * 10 ^ 9 + u = simp add-zero (fraction_read n u W small value) in
          rw (point-some u s, front_whole (fraction_text 9 u) digits, after_whole (fraction_text 9 u) digits)
          (number_read negative W (fraction_text 9 u) none (n * 10 ^ 9 + u) some size fits)
    ]

unsigned_read : (negative : Bool) (c : ℕ) (W : List ℕ) (u n : ℕ) → list_all is_ascii_digit (c ∷ W) ≡ true → digits_value 10 (c ∷ W) ≡ n → u < 10 ^ 9 → n * 10 ^ 9 + u < 10 ^ 29 →
    reads_unsigned negative (c ∷ (W ++ point_text u)) ≡ Ok (Finite (signed negative (n * 10 ^ 9 + u)))
unsigned_read negative c W u n digits value small fits =
    let d = and_first (is_ascii_digit c) (list_all is_ascii_digit W) digits in
    let i : str_eq_ignore_ascii_case (c ∷ (W ++ point_text u)) (codes "inf") ≡ false = not_word c 105 (W ++ point_text u) (codes "nf") d (lit≤ tt) in
    let j : str_eq_ignore_ascii_case (c ∷ (W ++ point_text u)) (codes "infinity") ≡ false = not_word c 105 (W ++ point_text u) (codes "nfinity") d (lit≤ tt) in
    let f : front_digits (c ∷ (W ++ point_text u)) ≡ c ∷ W = front_all (c ∷ W) (point_text u) digits (point_stops u) in
    let a : after_digits (c ∷ (W ++ point_text u)) ≡ point_text u = after_all (c ∷ W) (point_text u) digits (point_stops u) in
    rw (i, j, f, a) (parts_read negative (c ∷ W) u n (omega arith) value small fits)

pub digit_start : (c : ℕ) (bs : List ℕ) → is_ascii_digit c ≡ true → reads (c ∷ bs) ≡ reads_unsigned false (c ∷ bs)
unfolding reads
digit_start c bs d =
    let a : nat_eq c 45 ≡ false = grind arith in
    let b : nat_eq c 43 ≡ false = grind arith in
    let n : str_eq_ignore_ascii_case (c ∷ bs) (codes "nan") ≡ false = not_word c 110 bs (codes "an") d (lit≤ tt) in
    rw (a, b, n) refl

all_from_digits : (ds : List ℕ) → AllDigits 10 ds → list_all is_ascii_digit ds ≡ true
all_from_digits [] h = refl
all_from_digits (x ∷ ds) h =
    let r = digit_from_value x h.0 in
    let d : is_ascii_digit x ≡ true = ranged x r in
    rw (d, all_from_digits ds h.1) refl

list_read : (negative : Bool) (W : List ℕ) (m : ℕ) → list_all is_ascii_digit W ≡ true → 0 < length W → digits_value 10 W ≡ m / 10 ^ 9 → m < 10 ^ 29 →
    reads_unsigned negative (W ++ point_text (m % 10 ^ 9)) ≡ Ok (Finite (signed negative m))
list_read negative [] m digits some value fits = absurd (omega arith)
list_read negative (c ∷ W) m digits some value fits =
    let e : m / 10 ^ 9 * 10 ^ 9 + m % 10 ^ 9 ≡ m = div-add-mod' m (10 ^ 9) in
    unsigned_read negative c W (m % 10 ^ 9) (m / 10 ^ 9) digits value (omega arith) (omega (arith, e)) ∙ ap (λ (x : ℕ). Ok (Finite (signed negative x))) e

list_start : (W rest : List ℕ) → list_all is_ascii_digit W ≡ true → 0 < length W → reads (W ++ rest) ≡ reads_unsigned false (W ++ rest)
list_start [] rest digits some = absurd (omega arith)
list_start (c ∷ W) rest digits some = digit_start c (W ++ rest) (and_first (is_ascii_digit c) (list_all is_ascii_digit W) digits)

size_read : (negative : Bool) (m : ℕ) → m < 10 ^ 29 → reads_unsigned negative (magnitude_text m) ≡ Ok (Finite (signed negative m))
size_read negative m fits =
    let w = decimal_is_IsNumeral_wide (m / 10 ^ 9) (omega arith) in
    list_read negative (decimal (m / 10 ^ 9)) m (all_from_digits _ w.0.1) w.0.0 w.1 fits

-- the printed text of a value is read as that value
pub reads_shown : (v : Num) → IsFit v → reads (shown v) ≡ Ok v
unfolding reads shown
reads_shown (Finite (pos m)) h =
    let w = decimal_is_IsNumeral_wide (m / 10 ^ 9) (omega arith) in
    list_start (decimal (m / 10 ^ 9)) (point_text (m % 10 ^ 9)) (all_from_digits _ w.0.1) w.0.0 ∙ size_read false m h
reads_shown (Finite (negsuc m)) h = size_read true (suc m) h
reads_shown NaN h = refl
reads_shown PosInf h = refl
reads_shown NegInf h = refl
