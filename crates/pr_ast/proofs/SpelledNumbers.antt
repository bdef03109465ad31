-- The spelling of numbers: an unsigned number text before anything that does not go on it.
use Rattle.std.proofs.Common.{◌≡◌, ℕ, ◌-◌, ◌+◌, ◌<◌, ◌^◌, Bool, true, false, List, [], ◌∷◌, ◌++◌, Ok, length, drop, refl, ap, sym, ◌∙◌, subst, arith, append_assoc, inl, inr, pos}
use Rattle.std.specs.Prelude.{not, ◌==◌, ◌&&◌, ◌||◌, ◌/◌, ◌%◌, ◌⊎◌, if◌then◌else◌, decimal, codes}
use Rattle.std.specs.List.{list_all, prefix_len}
use Rattle.std.specs.Char.{is_ascii_digit}
use Rattle.std.proofs.lemmas.List.{length-map, map-append, append-nil}
use Rattle.std.proofs.lemmas.Fmt.{decimal_is_IsNumeral_wide}
use Rattle.std.proofs.lemmas.Bool.Decides.{nat_tests}
use Rattle.pr_labels.proofs.WordsDecimals.{own}
use Rattle.pr_labels.specs.pr_words.Bytes.{is_whitespace}
use Rattle.pr_time.specs.pr_forms.Form.{rule, Reads}
use Rattle.pr_time.specs.pr_forms.Table.{is_more}
use Rattle.pr_time.proofs.FormsEnding.{rule_answered}
use Rattle.pr_time.proofs.FormsParts.{other_rest}
use Rattle.pr_num.specs.declared.value.Num.{Num}
use Rattle.pr_num.specs.declared.value.Num.TheVariants.{Finite}
use Rattle.pr_num.specs.private.Forms.{Sign, no_sign, plus, minus, sign_text, Fraction, no_point, point, Exponent, no_exponent, small_e, capital_e, IsUnsignedForm, HasUnsignedForm, IsNumberText, IsInfinityWord, unsigned_text, fraction_part, exponent_part}
use Rattle.pr_num.specs.Reads.{reads}
use Rattle.pr_num.specs.Shown.{shown, point_text}
use Rattle.pr_num.specs.Arithmetic.{IsFit}
use Rattle.pr_num.proofs.RoundTrip.{reads_shown, not_word}
use Rattle.pr_num.proofs.FormsOnly.{only_number_texts}
use Rattle.pr_ast.specs.declared.lex.number.Letter.{Letter}
use Rattle.pr_ast.specs.declared.lex.token.TokenKind.{TokenKind}
use Rattle.pr_ast.specs.declared.lex.token.TokenKind.TheVariants.{Number as NumberKind}
use Rattle.pr_ast.specs.declared.lex.part.Class.TheVariants.{Digit}
use Rattle.pr_ast.specs.declared.lex.part.Lexeme.{Lexeme}
use Rattle.pr_ast.specs.declared.lex.part.Lexeme.TheVariants.{Number as NumberLexeme}
use Rattle.pr_ast.specs.declared.lex.part.Part.TheVariants.{Token as TokenPart}
use Rattle.pr_ast.specs.Bytes.{part_at, is_of, is_unit_letter, starts_name, starts_unit, digits_lexeme, front_len}
use Rattle.pr_ast.specs.Number.{production, letter_of, seen, NumberValue, mark, Number, IsNumberEnd}
use Rattle.pr_ast.specs.private.Spelled.{Spells, a_token, ends_number}
use Rattle.pr_ast.proofs.NumberTable.{known}
use Rattle.pr_ast.proofs.NumberEnds.{ends, rank, steps}
use Rattle.pr_ast.proofs.NumberForms.{form_read}
use Rattle.pr_ast.proofs.Spelling.{both_left, both_right, not_true, take_front, drop_front}
use Rattle.pr_ast.proofs.SpelledTexts.{longest, front_length}
use Rattle.pr_ast.specs.NumberTable.{table}

-- digits before what is none
abbrev pub stops : List ℕ → Bool
stops [] = true
stops (b ∷ rest) = not (is_ascii_digit b)

front_digits : (ds more : List ℕ) → list_all is_ascii_digit ds ≡ true → stops more ≡ true → prefix_len (is_of Digit) (ds ++ more) ≡ length ds
front_digits [] [] e h = refl
front_digits [] (b ∷ more) e h = rw (not_true (is_ascii_digit b) h) refl
front_digits (d ∷ ds) more e h =
    let k : is_ascii_digit d ≡ true = both_left (is_ascii_digit d) (list_all is_ascii_digit ds) e in
    let r : prefix_len (is_of Digit) (ds ++ more) ≡ length ds = front_digits ds more (both_right (is_ascii_digit d) (list_all is_ascii_digit ds) e) h in
    rw k (omega (arith, r))

pub past_digits : (ds more : List ℕ) → list_all is_ascii_digit ds ≡ true → stops more ≡ true → drop (front_len Digit (ds ++ more)) (ds ++ more) ≡ more
past_digits ds more e h = rw (front_digits ds more e h) (drop_front ds more)

no_blank : (b : ℕ) → is_ascii_digit b ≡ true → is_whitespace b ≡ false
no_blank b h = grind (arith, nat_tests)

no_comment : (b : ℕ) → is_ascii_digit b ≡ true → b == 35 ≡ false
no_comment b h = grind (arith, nat_tests)

no_name : (inside : Bool) (b : ℕ) → is_ascii_digit b ≡ true → starts_name inside b ≡ false
no_name true b h = grind (arith, nat_tests)
no_name false b h = grind (arith, nat_tests)

when : (b : Bool) (x y : Lexeme) → b ≡ true → (if b then x else y) ≡ x
when true x y e = refl
when false x y e = cc

pub digit_part : (inside : Bool) (d : ℕ) (rest : List ℕ) (l : Lexeme) → is_ascii_digit d ≡ true → digits_lexeme (d ∷ rest) ≡ l → part_at inside (d ∷ rest) ≡ TokenPart l
digit_part inside d rest l h e = rw (no_blank d h, no_comment d h, no_name inside d h) (ap TokenPart (when (is_ascii_digit d) (digits_lexeme (d ∷ rest)) _ h ∙ e))

number_lexeme : (ds more : List ℕ) → list_all is_ascii_digit ds ≡ true → stops more ≡ true → starts_unit more ≡ false → digits_lexeme (ds ++ more) ≡ NumberLexeme
number_lexeme ds more e h k = rw (past_digits ds more e h) (rw k refl)

-- what follows the first digits of a number is neither a digit nor a unit letter
record Follows (more : List ℕ) : Type 0 where
  stop : stops more ≡ true
  unit : starts_unit more ≡ false

of_rest : (rest : List ℕ) → ends_number rest ≡ true → Follows rest
of_rest [] h = record { stop = refl; unit = refl }
of_rest (b ∷ rest) h =
    let x = both_right (not (is_ascii_digit b)) (not (b == 46) && (not (b == 101 || b == 69) && not (is_unit_letter b))) h in
    let y = both_right (not (b == 46)) (not (b == 101 || b == 69) && not (is_unit_letter b)) x in
    let z = both_right (not (b == 101 || b == 69)) (not (is_unit_letter b)) y in
    record { stop = both_left (not (is_ascii_digit b)) (not (b == 46) && (not (b == 101 || b == 69) && not (is_unit_letter b))) h; unit = not_true (is_unit_letter b) z }

follows : (f : Fraction) (e : Exponent) (rest : List ℕ) → ends_number rest ≡ true → Follows ((fraction_part f ++ exponent_part e) ++ rest)
follows (point ds) e rest h = record { stop = refl; unit = refl }
follows no_point (small_e s ds) rest h = record { stop = refl; unit = refl }
follows no_point (capital_e s ds) rest h = record { stop = refl; unit = refl }
follows no_point no_exponent rest h = of_rest rest h

number_part : (inside : Bool) (whole : List ℕ) (f : Fraction) (e : Exponent) (rest : List ℕ) → IsUnsignedForm whole f e → ends_number rest ≡ true → part_at inside (unsigned_text whole f e ++ rest) ≡ TokenPart NumberLexeme
number_part inside [] no_point e rest h k = absurd (let s = h.some in omega arith)
number_part true [] (point ds) e rest h k = refl
number_part false [] (point ds) e rest h k = refl
number_part inside (d ∷ ds) f e rest h k =
    let more = (fraction_part f ++ exponent_part e) ++ rest in
    let x = follows f e rest k in
    let q : (d ∷ ds) ++ more ≡ ((d ∷ ds) ++ (fraction_part f ++ exponent_part e)) ++ rest = sym (append_assoc (d ∷ ds) (fraction_part f ++ exponent_part e) rest) in
    subst (λ t. part_at inside t ≡ TokenPart NumberLexeme) q
    (digit_part inside d (ds ++ more) NumberLexeme (both_left (is_ascii_digit d) (list_all is_ascii_digit ds) h.whole_digits) (number_lexeme (d ∷ ds) more h.whole_digits x.stop x.unit))

-- the number is read before the rest, which does not go on it
before_rest : (text rest : List ℕ) → Reads production (rule Number) (seen text) mark [] → Reads production (rule Number) (seen (text ++ rest)) mark (seen rest)
before_rest text rest d =
    let e : Reads production (rule Number) (seen text ++ []) mark [] = subst (λ ts. Reads production (rule Number) ts mark []) (sym (append-nil (seen text))) d in
    subst (λ ts. Reads production (rule Number) ts mark (seen rest)) (sym (map-append letter_of text rest)) (other_rest production (rule Number) (seen text) [] (seen rest) mark e)

plus_minus : (b : Bool) → is_more {V = NumberValue} table (rule Number) ((if b then Letter.PlusMinus else Letter.Other) ∷ []) ≡ false
plus_minus true = refl
plus_minus false = refl

no_more : (rest : List ℕ) → ends_number rest ≡ true → is_more {V = NumberValue} table (rule Number) (seen rest) ≡ false
no_more [] h = refl
no_more (b ∷ rest) h =
    let x = both_right (not (is_ascii_digit b)) (not (b == 46) && (not (b == 101 || b == 69) && not (is_unit_letter b))) h in
    let y = both_right (not (b == 46)) (not (b == 101 || b == 69) && not (is_unit_letter b)) x in
    let d = not_true (is_ascii_digit b) (both_left (not (is_ascii_digit b)) (not (b == 46) && (not (b == 101 || b == 69) && not (is_unit_letter b))) h) in
    let p = not_true (b == 46) (both_left (not (b == 46)) (not (b == 101 || b == 69) && not (is_unit_letter b)) x) in
    let e = not_true (b == 101 || b == 69) (both_left (not (b == 101 || b == 69)) (not (is_unit_letter b)) y) in
    rw (d, p, e) (plus_minus (b == 43 || b == 45))

number_end : (text rest : List ℕ) → Reads production (rule Number) (seen text) mark [] → ends_number rest ≡ true → IsNumberEnd (text ++ rest) (length text)
number_end text rest d h =
    let a = rule_answered production table known rank steps ends Number (seen (text ++ rest)) in
    let p = longest production table known Number (seen (text ++ rest)) (seen rest) a.outcome mark a.runs (before_rest text rest d) (no_more rest h) in
    let l = length-map (text ++ rest) letter_of in let m = length-map rest letter_of in let f = front_length text rest in
    let e : length (seen (text ++ rest)) - length (seen rest) ≡ length text = omega (arith, l, m, f) in
    subst (λ k. IsNumberEnd (text ++ rest) k) e p

form_spelled : (inside : Bool) (whole : List ℕ) (f : Fraction) (e : Exponent) (rest : List ℕ) (value : Num) (ks : List TokenKind) →
    IsUnsignedForm whole f e → reads (unsigned_text whole f e) ≡ Ok value → ends_number rest ≡ true → Spells inside rest ks → Spells inside (unsigned_text whole f e ++ rest) (NumberKind value ∷ ks)
form_spelled inside whole f e rest value ks h r k s =
    let text = unsigned_text whole f e in
    a_token (length text) (NumberKind value) NumberLexeme (number_part inside whole f e rest h k)
    (record { longest = number_end text rest (form_read whole f e h) k; value = value; whole = subst (λ t. reads t ≡ Ok value) (sym (take_front text rest)) r; is = refl })
    (subst (λ t. Spells inside t ks) (sym (drop_front text rest)) s)

pub number_spelled : (inside : Bool) (text rest : List ℕ) (value : Num) (ks : List TokenKind) →
    HasUnsignedForm text → reads text ≡ Ok value → ends_number rest ≡ true → Spells inside rest ks → Spells inside (text ++ rest) (NumberKind value ∷ ks)
number_spelled inside text rest value ks h r k s =
    let r' = subst (λ t. reads t ≡ Ok value) h.parts r in
    subst (λ t. Spells inside (t ++ rest) (NumberKind value ∷ ks)) (sym h.parts) (form_spelled inside h.whole h.fraction h.exponent rest value ks h.form r' k s)

-- a printed number that is not negative has the form
infinity_no : (c : ℕ) (bs : List ℕ) → is_ascii_digit c ≡ true → IsInfinityWord (c ∷ bs) → ⊥
infinity_no c bs d (inl h) = let e = not_word c 105 bs (codes "nf") d (omega arith) in cc
infinity_no c bs d (inr h) = let e = not_word c 105 bs (codes "nfinity") d (omega arith) in cc

by_sign : (c : ℕ) (bs : List ℕ) → is_ascii_digit c ≡ true → (s : Sign) (rest : List ℕ) → c ∷ bs ≡ sign_text s ++ rest → IsInfinityWord rest ⊎ HasUnsignedForm rest → HasUnsignedForm (c ∷ bs)
by_sign c bs d no_sign rest e (inl w) = absurd (infinity_no c bs d (subst IsInfinityWord (sym e) w))
by_sign c bs d no_sign rest e (inr f) = subst HasUnsignedForm (sym e) f
by_sign c bs d plus rest e f = absurd (let h : c ≡ 43 = cc in grind (arith, nat_tests))
by_sign c bs d minus rest e f = absurd (let h : c ≡ 45 = cc in grind (arith, nat_tests))

digit_first : (c : ℕ) (bs : List ℕ) → is_ascii_digit c ≡ true → IsNumberText (c ∷ bs) → HasUnsignedForm (c ∷ bs)
digit_first c bs d (inl h) = absurd (let e = not_word c 110 bs (codes "an") d (omega arith) in cc)
digit_first c bs d (inr s) = by_sign c bs d s.sign s.rest s.parts s.form

pub decimal_digits : (n : ℕ) → n < 10 ^ 64 → list_all is_ascii_digit (decimal n) ≡ true
decimal_digits n h = own.from (decimal n) (decimal_is_IsNumeral_wide n h).0.1

pub decimal_some : (n : ℕ) → n < 10 ^ 64 → 0 < length (decimal n)
decimal_some n h = (decimal_is_IsNumeral_wide n h).0.0

by_first : (ds more : List ℕ) → 0 < length ds → list_all is_ascii_digit ds ≡ true → IsNumberText (ds ++ more) → HasUnsignedForm (ds ++ more)
by_first [] more s d t = absurd (omega arith)
by_first (c ∷ ds) more s d t = digit_first c (ds ++ more) (both_left (is_ascii_digit c) (list_all is_ascii_digit ds) d) t

printed_form : (n : ℕ) → IsFit (Finite (pos n)) → HasUnsignedForm (shown (Finite (pos n)))
unfolding shown
printed_form n h =
    let small : n / 10 ^ 9 < 10 ^ 64 = omega arith in
    let e = reads_shown (Finite (pos n)) h in
    by_first (decimal (n / 10 ^ 9)) (point_text (n % 10 ^ 9)) (decimal_some (n / 10 ^ 9) small) (decimal_digits (n / 10 ^ 9) small) (only_number_texts (shown (Finite (pos n))) (λ k. cc))

pub printed_spelled : (inside : Bool) (n : ℕ) (rest : List ℕ) (ks : List TokenKind) →
    IsFit (Finite (pos n)) → ends_number rest ≡ true → Spells inside rest ks → Spells inside (shown (Finite (pos n)) ++ rest) (NumberKind (Finite (pos n)) ∷ ks)
printed_spelled inside n rest ks h k s = number_spelled inside (shown (Finite (pos n))) rest (Finite (pos n)) ks (printed_form n h) (reads_shown (Finite (pos n)) h) k s
