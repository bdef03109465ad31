-- Before a space and anything the bytes of a token begin the same kind of token again.
use Rattle.std.proofs.Common.{◌≡◌, ℕ, suc, ◌+◌, ◌-◌, ◌<◌, ◌≤◌, List, [], ◌∷◌, ◌++◌, Bool, true, false, Some, length, drop, refl, ap, sym, ◌∙◌, subst, arith, inl, inr, length-drop}
use Rattle.std.specs.Prelude.{if◌then◌else◌, ◌==◌, ◌||◌}
use Rattle.std.proofs.lemmas.List.{length-map, drop-map, drop-drop}
use Rattle.std.proofs.lemmas.Bool.{cases_lt}
use Rattle.std.proofs.lemmas.Bool.Decides.{nat_tests}
use Rattle.std.specs.Char.{is_ascii_digit}
use Rattle.pr_labels.specs.pr_words.Bytes.{is_whitespace}
use Rattle.pr_time.specs.pr_forms.Form.{Form, either, pair, rule, turns, Reads, is_token, is_stop, is_turn, is_fold, Begins, at_whole, in_first, in_second, in_left, in_right, in_rule}
use Rattle.pr_time.specs.SpanText as spans
use Rattle.pr_ast.specs.declared.lex.part.Class.TheVariants.{Digit, Whitespace, Line}
use Rattle.pr_ast.specs.declared.lex.part.Lexeme.{Lexeme}
use Rattle.pr_ast.specs.declared.lex.part.Lexeme.TheVariants.{Name, Number, Duration, Text, Sign}
use Rattle.pr_ast.specs.declared.lex.part.Part.TheVariants.{Gap, Token as TokenPart}
use Rattle.pr_ast.specs.declared.lex.token.TokenKind.{TokenKind}
use Rattle.pr_ast.specs.Bytes.{is_of, is_quote, is_unit_letter, starts_name, starts_unit, front_len, digits_lexeme, lexeme_at, part_at}
use Rattle.pr_ast.specs.Tokens.{IsTokenOf}
use Rattle.pr_ast.proofs.Ordered.{drop_one, one_longer}
use Rattle.pr_ast.proofs.LongestSigns.{is_byte}

-- what follows the digits at the front
abbrev past_digits : List ℕ → List ℕ
past_digits text = drop (front_len Digit text) text

past_digit : (b : ℕ) (rest : List ℕ) → is_ascii_digit b ≡ true → past_digits (b ∷ rest) ≡ past_digits rest
past_digit b rest e = drop_one (front_len Digit (b ∷ rest)) (front_len Digit rest) b rest (one_longer (is_of Digit) b rest e)

past_none : (b : ℕ) (rest : List ℕ) → is_ascii_digit b ≡ false → past_digits (b ∷ rest) ≡ b ∷ rest
past_none b rest e = rw e refl

-- Digits and a unit letter begin a duration. This rule reads the unit; its name is found in its
-- place, for it is private there.
abbrev last_rule : {L N V : Type 0} → N → Form L N V → N
last_rule n (either (pair c f (rule m)) g) = m
last_rule n f = n

abbrev from_year : spans.Rule
from_year = last_rule spans.NoUnit (spans.production spans.AfterZero)

any_of : {P : Type 0} (y w d h m s : Bool) → (y || w || d || h || m || s) ≡ true → (y ≡ true → P) → (w ≡ true → P) → (d ≡ true → P) → (h ≡ true → P) → (m ≡ true → P) → (s ≡ true → P) → P
any_of true w d h m s e p q r t u v = p refl
any_of false true d h m s e p q r t u v = q refl
any_of false false true h m s e p q r t u v = r refl
any_of false false false true m s e p q r t u v = t refl
any_of false false false false true s e p q r t u v = u refl
any_of false false false false false true e p q r t u v = v refl
any_of false false false false false false e p q r t u v = absurd (cc)

unit_begins : (u : ℕ) (z : List ℕ) → is_unit_letter u ≡ true → Begins spans.production (rule from_year) (spans.seen (u ∷ z)) (spans.seen z)
unit_begins u z e = any_of (u == 121) (u == 119) (u == 100) (u == 104) (u == 109) (u == 115) e
    (λ i. at 121 i (in_rule (in_left (in_first (at_whole (is_token refl))))))
    (λ i. at 119 i (in_rule (in_right (in_rule (in_left (in_first (at_whole (is_token refl))))))))
    (λ i. at 100 i (in_rule (in_right (in_rule (in_right (in_rule (in_left (in_first (at_whole (is_token refl))))))))))
    (λ i. at 104 i (in_rule (in_right (in_rule (in_right (in_rule (in_right (in_rule (in_left (in_first (at_whole (is_token refl))))))))))))
    (λ i. at 109 i (in_rule (in_right (in_rule (in_right (in_rule (in_right (in_rule (in_right (in_rule (in_left (in_first (at_whole (is_token refl))))))))))))))
    (λ i. at 115 i (in_rule (in_right (in_rule (in_right (in_rule (in_right (in_rule (in_right (in_rule (in_right (in_first (at_whole (is_token refl))))))))))))))
  where
    at : (k : ℕ) → (u == k) ≡ true → Begins spans.production (rule from_year) (spans.seen (k ∷ z)) (spans.seen z) → Begins spans.production (rule from_year) (spans.seen (u ∷ z)) (spans.seen z)
    at k i b = subst (λ c. Begins spans.production (rule from_year) (spans.seen (c ∷ z)) (spans.seen z)) (sym (is_byte u k i)) b

digit_value : (b : ℕ) → is_ascii_digit b ≡ true → spans.digit_at (spans.letter_of b) ≡ Some (spans.count (b - 48))
digit_value b e = rw e refl

zero_value : (b : ℕ) → b ≡ 48 → spans.zero_at (spans.letter_of b) ≡ Some spans.mark
zero_value b e = rw e refl

other_value : (b : ℕ) → is_ascii_digit b ≡ true → 48 < b → spans.other_digit_at (spans.letter_of b) ≡ Some (spans.count (b - 48))
other_value b e lt = let k : b - 48 ≡ suc (b - 49) = omega arith in rw (e, k) refl

abbrev DigitsRead : spans.SpanValue → List ℕ → Type 0
DigitsRead v text = (w : spans.SpanValue) × Reads spans.production (turns spans.shifted v spans.digit) (spans.seen text) w (spans.seen (past_digits text))

one_more : (v : spans.SpanValue) (b : ℕ) (rest : List ℕ) → ((w : spans.SpanValue) → DigitsRead w rest) → (x : Bool) → is_ascii_digit b ≡ x → DigitsRead v (b ∷ rest)
one_more v b rest again true e =
    let d = again (spans.shifted v (spans.count (b - 48))) in
    (d.0, subst (λ t. Reads spans.production (turns spans.shifted v spans.digit) (spans.seen (b ∷ rest)) d.0 (spans.seen t)) (sym (past_digit b rest e)) (is_turn (is_token (digit_value b e)) d.1))
one_more v b rest again false e = (v, subst (λ t. Reads spans.production (turns spans.shifted v spans.digit) (spans.seen (b ∷ rest)) v (spans.seen t)) (sym (past_none b rest e)) is_stop)

digits_read : (v : spans.SpanValue) (text : List ℕ) → DigitsRead v text
digits_read v [] = (v, is_stop)
digits_read v (b ∷ rest) = one_more v b rest (λ w. digits_read w rest) (is_ascii_digit b) refl

digits_before : (v : spans.SpanValue) (text after : List ℕ) → past_digits text ≡ after → (w : spans.SpanValue) × Reads spans.production (turns spans.shifted v spans.digit) (spans.seen text) w (spans.seen after)
digits_before v text after e = let d = digits_read v text in (d.0, subst (λ t. Reads spans.production (turns spans.shifted v spans.digit) (spans.seen text) d.0 (spans.seen t)) e d.1)

duration_begins : (b : ℕ) (rest : List ℕ) (u : ℕ) (z : List ℕ) → is_ascii_digit b ≡ true → past_digits rest ≡ u ∷ z → is_unit_letter u ≡ true → Begins spans.production (rule spans.Text) (spans.seen (b ∷ rest)) (spans.seen z)
duration_begins b rest u z e after unit = elim (cases_lt 48 b) [
  | inl lt ↦ let d = digits_before (spans.count (b - 48)) rest (u ∷ z) after in in_rule (in_right (in_second (is_fold (is_token (other_value b e lt)) d.1) (unit_begins u z unit)))
  | inr ge ↦ let d = digits_before (spans.count 0) rest (u ∷ z) after in
      let k : b ≡ 48 = grind (arith, nat_tests) in
      in_rule (in_left (in_second (is_token (zero_value b k)) (in_rule (in_left (in_second d.1 (unit_begins u z unit))))))
]

-- so a duration goes on past its first digits
past_unit : (b : ℕ) (rest : List ℕ) (n : ℕ) → is_ascii_digit b ≡ true → spans.IsBadPlace (b ∷ rest) n → (k : ℕ) (after : List ℕ) → past_digits rest ≡ after → drop k (b ∷ rest) ≡ after → starts_unit after ≡ true → k < n
past_unit b rest n e bad k [] h i unit = absurd (cc)
past_unit b rest n e bad k (u ∷ z) h i unit = elim (cases_lt k n) [
  | inl lt ↦ lt
  | inr ge ↦ absurd (bad.after (k + 1) (omega arith) short (subst (λ ts. Begins spans.production (rule spans.Text) (spans.seen (b ∷ rest)) ts) is (duration_begins b rest u z e h unit)))
]
  where
    short : k + 1 ≤ length (spans.seen (b ∷ rest))
    short = omega (arith, length-map (b ∷ rest) spans.letter_of, length-drop k (b ∷ rest), ap length i)

    is : spans.seen z ≡ drop (k + 1) (spans.seen (b ∷ rest))
    is = ap (λ t. spans.seen (drop 1 t)) (sym i) ∙ (ap spans.seen (drop-drop 1 k (b ∷ rest)) ∙ sym (drop-map spans.letter_of (k + 1) (b ∷ rest)))

pub long_duration : (b : ℕ) (rest : List ℕ) (n : ℕ) → is_ascii_digit b ≡ true → spans.IsBadPlace (b ∷ rest) n → starts_unit (past_digits (b ∷ rest)) ≡ true → front_len Digit (b ∷ rest) < n
long_duration b rest n e bad unit = past_unit b rest n e bad (front_len Digit (b ∷ rest)) (past_digits (b ∷ rest)) (sym (past_digit b rest e)) refl unit

-- What follows the digits of a front is the same byte before another rest, or the space.
no_unit : (front r more : List ℕ) → starts_unit (past_digits (front ++ r)) ≡ false → starts_unit (past_digits (front ++ 32 ∷ more)) ≡ false
no_unit [] r more e = refl
no_unit (b ∷ front) r more e = by_digit (no_unit front r more) (is_ascii_digit b) refl
  where
    by_digit : (starts_unit (past_digits (front ++ r)) ≡ false → starts_unit (past_digits (front ++ 32 ∷ more)) ≡ false) → (k : Bool) → is_ascii_digit b ≡ k → starts_unit (past_digits (b ∷ front ++ 32 ∷ more)) ≡ false
    by_digit again true d = ap starts_unit (past_digit b (front ++ 32 ∷ more) d) ∙ again (sym (ap starts_unit (past_digit b (front ++ r) d)) ∙ e)
    by_digit again false d = ap starts_unit (past_none b (front ++ 32 ∷ more) d) ∙ (sym (ap starts_unit (past_none b (front ++ r) d)) ∙ e)

same_unit : (front r s : List ℕ) → front_len Digit (front ++ r) < length front → starts_unit (past_digits (front ++ s)) ≡ starts_unit (past_digits (front ++ r))
same_unit [] r s lt = absurd (omega arith)
same_unit (b ∷ front) r s lt = by_digit (same_unit front r s) (is_ascii_digit b) refl
  where
    by_digit : (front_len Digit (front ++ r) < length front → starts_unit (past_digits (front ++ s)) ≡ starts_unit (past_digits (front ++ r))) → (k : Bool) → is_ascii_digit b ≡ k →
        starts_unit (past_digits (b ∷ front ++ s)) ≡ starts_unit (past_digits (b ∷ front ++ r))
    by_digit again true d =
        let h = one_longer (is_of Digit) b (front ++ r) d in
        ap starts_unit (past_digit b (front ++ s) d) ∙ (again (omega (arith, h, lt)) ∙ sym (ap starts_unit (past_digit b (front ++ r) d)))
    by_digit again false d = ap starts_unit (past_none b (front ++ s) d) ∙ sym (ap starts_unit (past_none b (front ++ r) d))

by_unit : (x : Bool) → (if x then Duration else Number) ≡ Number → x ≡ false
by_unit true e = cc
by_unit false e = refl

by_no_unit : (x : Bool) → (if x then Duration else Number) ≡ Duration → x ≡ true
by_no_unit true e = refl
by_no_unit false e = cc

digits_no_other : (x : Bool) (l : Lexeme) → (l ≡ Number → ⊥) → (l ≡ Duration → ⊥) → (if x then Duration else Number) ≡ l → ⊥
digits_no_other true l n d e = d (sym e)
digits_no_other false l n d e = n (sym e)

-- digits begin the same lexeme again
same_digits : (inside : Bool) (b : ℕ) (front r more : List ℕ) (token : TokenKind) → is_ascii_digit b ≡ true → (l : Lexeme) → IsTokenOf l inside (b ∷ front ++ r) (length (b ∷ front)) token →
    digits_lexeme (b ∷ front ++ r) ≡ l → digits_lexeme (b ∷ front ++ 32 ∷ more) ≡ l
same_digits inside b front r more token d Number x e =
    ap (λ k. if k then Duration else Number) (no_unit (b ∷ front) r more (by_unit (starts_unit (past_digits (b ∷ front ++ r))) e))
same_digits inside b front r more token d Duration x e =
    let u = by_no_unit (starts_unit (past_digits (b ∷ front ++ r))) e in
    ap (λ k. if k then Duration else Number) (same_unit (b ∷ front) r (32 ∷ more) (long_duration b (front ++ r) (length (b ∷ front)) d x.longest u) ∙ u)
same_digits inside b front r more token d Name x e = absurd (digits_no_other (starts_unit (past_digits (b ∷ front ++ r))) Name (λ h. cc) (λ h. cc) e)
same_digits inside b front r more token d Text x e = absurd (digits_no_other (starts_unit (past_digits (b ∷ front ++ r))) Text (λ h. cc) (λ h. cc) e)
same_digits inside b front r more token d Sign x e = absurd (digits_no_other (starts_unit (past_digits (b ∷ front ++ r))) Sign (λ h. cc) (λ h. cc) e)

by_tests : (n d p q : Bool) (x y l : Lexeme) → (d ≡ true → x ≡ l → y ≡ l) →
    (if n then Name else (if d then x else (if p then Number else (if q then Text else Sign)))) ≡ l → (if n then Name else (if d then y else (if p then Number else (if q then Text else Sign)))) ≡ l
by_tests true d p q x y l f e = e
by_tests false true p q x y l f e = f refl e
by_tests false false p q x y l f e = e

token_byte : (x y : Bool) (g h : ℕ) (l o : Lexeme) → (if x then Gap g else (if y then Gap h else TokenPart o)) ≡ TokenPart l → (x ≡ false) × ((y ≡ false) × (o ≡ l))
token_byte true y g h l o e = cc
token_byte false true g h l o e = cc
token_byte false false g h l o e = (refl, (refl, cc))

module _ (inside : Bool) (b : ℕ) (front r more : List ℕ) (token : TokenKind) (l : Lexeme) (e : part_at inside (b ∷ front ++ r) ≡ TokenPart l) where
  first_byte : (is_whitespace b ≡ false) × (((b == 35) ≡ false) × (lexeme_at inside b (b ∷ front ++ r) ≡ l))
  first_byte = token_byte (is_whitespace b) (b == 35) (front_len Whitespace (b ∷ front ++ r)) (front_len Line (b ∷ front ++ r)) l (lexeme_at inside b (b ∷ front ++ r)) e

  pub part_again : IsTokenOf l inside (b ∷ front ++ r) (length (b ∷ front)) token → part_at inside (b ∷ front ++ 32 ∷ more) ≡ TokenPart l
  part_again x =
      let h : lexeme_at inside b (b ∷ front ++ 32 ∷ more) ≡ l = by_tests (starts_name inside b) (is_ascii_digit b) (b == 46) (is_quote b) (digits_lexeme (b ∷ front ++ r)) (digits_lexeme (b ∷ front ++ 32 ∷ more)) l
      (λ d i. same_digits inside b front r more token d l x i) first_byte.1.1 in
      rw (first_byte.0, first_byte.1.0) (ap TokenPart h)

  pub no_blank_first : front_len Whitespace (b ∷ front ++ 32 ∷ more) ≡ 0
  no_blank_first = rw first_byte.0 refl
