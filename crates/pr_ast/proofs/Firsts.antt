-- What the first byte of a text says where a token begins there.
use Rattle.std.proofs.Common.{◌≡◌, ℕ, ◌+◌, ◌<◌, ◌≤◌, List, [], ◌∷◌, true, false, Bool, length, take, drop, arith, refl, sym, subst, cond, Ok, inl, inr}
use Rattle.std.proofs.lemmas.Bool.{cases_lt}
use Rattle.std.specs.Prelude.{if◌then◌else◌, ◌==◌, ◌⊎◌}
use Rattle.std.proofs.lemmas.List.Sums.{prefix_len-le-length}
use Rattle.std.specs.List.{prefix_len}
use Rattle.std.proofs.lemmas.Bool.Decides.{nat_tests}
use Rattle.std.specs.Char.{is_ascii_digit}
use Rattle.pr_labels.specs.pr_words.Bytes.{is_whitespace}
use Rattle.pr_time.specs.pr_forms.Form.{Reads, is_rule, is_left, is_right, is_pair, is_fold, rule}
use Rattle.pr_num.specs.declared.value.Num.{Num}
use Rattle.pr_num.specs.Reads.{reads}
use Rattle.pr_time.specs.SpanText.{production, Text as SpanText, SpanValue, ReadsSpan}
use Rattle.pr_ast.specs.declared.lex.part.Class.TheVariants.{Digit, Whitespace, Line}
use Rattle.pr_ast.specs.declared.lex.part.Lexeme.{Lexeme}
use Rattle.pr_ast.specs.declared.lex.part.Lexeme.TheVariants.{Name, Number, Duration, Text, Sign}
use Rattle.pr_ast.specs.declared.lex.part.Part.{Part}
use Rattle.pr_ast.specs.declared.lex.part.Part.TheVariants.{Gap, Token}
use Rattle.pr_ast.specs.Bytes.{is_of, is_quote, name_class, front_len, starts_name, starts_unit, lexeme_at, part_at}

past_gaps : (x y : Bool) (g h : ℕ) (p : Part) (l : Lexeme) → (if x then Gap g else (if y then Gap h else p)) ≡ Token l → p ≡ Token l
past_gaps true y g h p l e = cc
past_gaps false true g h p l e = cc
past_gaps false false g h p l e = e

-- the lexeme is that of the first byte
pub record First (inside : Bool) (text : List ℕ) (l : Lexeme) : Type 0 where
  pub byte : ℕ
  pub rest : List ℕ
  pub is : text ≡ byte ∷ rest
  pub begins : lexeme_at inside byte text ≡ l

pub first : (inside : Bool) (text : List ℕ) (l : Lexeme) → part_at inside text ≡ Token l → First inside text l
first inside [] l e = cc
first inside (b ∷ rest) l e =
    let h : Token (lexeme_at inside b (b ∷ rest)) ≡ Token l = past_gaps (is_whitespace b) (b == 35) _ _ _ l e in
    record { byte = b; rest = rest; is = refl; begins = cc }

digits_no_name : (x : Bool) → (if x then Duration else Number) ≡ Name → ⊥
digits_no_name true e = cc
digits_no_name false e = cc

digits_no_text : (x : Bool) → (if x then Duration else Number) ≡ Text → ⊥
digits_no_text true e = cc
digits_no_text false e = cc

only_name : (n d p q x : Bool) → (if n then Name else (if d then (if x then Duration else Number) else (if p then Number else (if q then Text else Sign)))) ≡ Name → n ≡ true
only_name true d p q x e = refl
only_name false true p q x e = absurd (digits_no_name x e)
only_name false false true q x e = cc
only_name false false false true x e = cc
only_name false false false false x e = cc

only_text : (n d p q x : Bool) → (if n then Name else (if d then (if x then Duration else Number) else (if p then Number else (if q then Text else Sign)))) ≡ Text → q ≡ true
only_text true d p q x e = cc
only_text false true p q x e = absurd (digits_no_text x e)
only_text false false true q x e = cc
only_text false false false true x e = refl
only_text false false false false x e = cc

letter_in_name : (inside : Bool) (b : ℕ) → starts_name inside b ≡ true → is_of (name_class inside) b ≡ true
letter_in_name true b h = grind (arith, nat_tests)
letter_in_name false b h = grind (arith, nat_tests)

long_front : (p : ℕ → Bool) (b : ℕ) (rest : List ℕ) → p b ≡ true → 0 < prefix_len p (b ∷ rest)
long_front p b rest e = let k : 0 < cond true (1 + prefix_len p rest) 0 = omega arith in subst (λ x. 0 < cond x (1 + prefix_len p rest) 0) (sym e) k

-- a name has a byte
pub name_long : (inside : Bool) (text : List ℕ) → part_at inside text ≡ Token Name → 0 < front_len (name_class inside) text
name_long inside text e =
    let f = first inside text Name e in
    let h = only_name (starts_name inside f.byte) (is_ascii_digit f.byte) (f.byte == 46) (is_quote f.byte) (starts_unit (drop (front_len Digit text) text)) f.begins in
    subst (λ t. 0 < front_len (name_class inside) t) (sym f.is) (long_front (is_of (name_class inside)) f.byte f.rest (letter_in_name inside f.byte h))

quote_small : (b : ℕ) → is_quote b ≡ true → b < 128
quote_small b h = grind (arith, nat_tests)

-- a string begins with an ASCII byte
pub text_first : (inside : Bool) (text : List ℕ) → part_at inside text ≡ Token Text → (b : ℕ) × (rest : List ℕ) × (text ≡ b ∷ rest) × (b < 128)
text_first inside text e =
    let f = first inside text Text e in
    let h = only_text (starts_name inside f.byte) (is_ascii_digit f.byte) (f.byte == 46) (is_quote f.byte) (starts_unit (drop (front_len Digit text) text)) f.begins in
    (f.byte, f.rest, f.is, quote_small f.byte h)

-- no number and no duration is empty
pub no_empty_number : (value : Num) → reads [] ≡ Ok value → ⊥
unfolding reads
no_empty_number value e = cc

no_empty_span : (v : SpanValue) → Reads production (rule SpanText) [] v [] → ⊥
no_empty_span v (is_rule (is_left (is_pair d e))) = elim d [ ]
no_empty_span v (is_rule (is_right (is_pair (is_fold d f) e))) = elim d [ ]

taken_none : (n : ℕ) (text : List ℕ) → n ≡ 0 → take n text ≡ []
taken_none n text e = rw e refl

pub number_long : (text : List ℕ) (n : ℕ) (value : Num) → reads (take n text) ≡ Ok value → 0 < n
number_long text n value e = elim (cases_lt 0 n) [ inl lt ↦ lt | inr ge ↦ absurd (no_empty_number value (subst (λ t. reads t ≡ Ok value) (taken_none n text (omega arith)) e)) ]

pub span_long : (text : List ℕ) (n ms : ℕ) → ReadsSpan (take n text) ms → 0 < n
span_long text n ms d = elim (cases_lt 0 n) [ inl lt ↦ lt | inr ge ↦ absurd (no_empty_span _ (subst (λ t. ReadsSpan t ms) (taken_none n text (omega arith)) d)) ]

-- a gap has a byte, and ends within the text
line_byte : (b : ℕ) → (b == 35) ≡ true → is_of Line b ≡ true
line_byte b h = grind (arith, nat_tests)

pub gap_is : (text : List ℕ) (x y : Bool) (g h n : ℕ) (l : Lexeme) → (if x then Gap g else (if y then Gap h else Token l)) ≡ Gap n → ((x ≡ true) × (g ≡ n)) ⊎ ((y ≡ true) × (h ≡ n))
gap_is text true y g h n l e = inl (refl, cc)
gap_is text false true g h n l e = inr (refl, cc)
gap_is text false false g h n l e = cc

pub gap_long : (inside : Bool) (text : List ℕ) (n : ℕ) → part_at inside text ≡ Gap n → 0 < n
gap_long inside [] n e = cc
gap_long inside (b ∷ rest) n e = elim (gap_is (b ∷ rest) (is_whitespace b) (b == 35) _ _ n _ e) [
  | inl x ↦ subst (λ k. 0 < k) x.1 (long_front (is_of Whitespace) b rest x.0)
  | inr x ↦ subst (λ k. 0 < k) x.1 (long_front (is_of Line) b rest (line_byte b x.0))
]

pub gap_within : (inside : Bool) (text : List ℕ) (n : ℕ) → part_at inside text ≡ Gap n → n ≤ length text
gap_within inside [] n e = cc
gap_within inside (b ∷ rest) n e = elim (gap_is (b ∷ rest) (is_whitespace b) (b == 35) _ _ n _ e) [
  | inl x ↦ subst (λ k. k ≤ length (b ∷ rest)) x.1 (prefix_len-le-length (is_of Whitespace) (b ∷ rest))
  | inr x ↦ subst (λ k. k ≤ length (b ∷ rest)) x.1 (prefix_len-le-length (is_of Line) (b ∷ rest))
]
