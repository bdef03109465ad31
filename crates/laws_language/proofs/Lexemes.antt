-- What the tokens of a text hold.
use Rattle.std.proofs.Common.{◌≡◌, ℕ, zero, suc, ◌+◌, ◌<◌, ◌≤◌, ◌^◌, Option, Some, None, Bool, true, false, ◌||◌, List, [], ◌∷◌, length, take, refl, sym, ◌∙◌, subst, arith}
use Rattle.std.specs.Prelude.{◌==◌, codes, if◌then◌else◌, pos, Result, Ok, Err, nat_lt, nat_le, drop}
use Rattle.std.specs.List.{list_all, prefix_len}
use Rattle.std.specs.Char.{is_ascii_digit}
use Rattle.std.specs.Str.{str_eq_ignore_ascii_case}
use Rattle.std.proofs.lemmas.Bool.Decides.{nat_tests}
use Rattle.pr_words.specs.Bytes.{is_whitespace}
use Rattle.pr_forms.proofs.ByRules.{Each}
use Rattle.pr_num.specs.declared.value.Num.{Num}
use Rattle.pr_num.specs.declared.value.Num.TheVariants.{Finite}
use Rattle.pr_num.specs.declared.text.NumFault.{NumFault}
use Rattle.pr_num.specs.declared.text.NumFault.TheVariants.{TooWide, NotNumber}
use Rattle.pr_num.specs.Arithmetic.{IsFit}
use Rattle.pr_num.specs.Reads.{reads, reads_unsigned, reads_number, number_of, text_magnitude, Scale, front_digits, fraction_digits, after_digits, after_fraction, ending}
use Rattle.pr_num.proofs.Digits.{front_passes}
use Rattle.pr_num.proofs.RoundTrip.{not_word, digit_start}
use Rattle.pr_time.specs.SpanAnswer.{span_of, bad_span_place}
use Rattle.pr_ast.specs.declared.lex.token.Token.{Token}
use Rattle.pr_ast.specs.declared.lex.token.TokenKind.{TokenKind}
use Rattle.pr_ast.specs.declared.lex.token.TokenKind.TheVariants.{Name, Number as NumberToken, Duration, Text as TextToken, Sign as SignToken}
use Rattle.pr_ast.specs.Bytes.{part_at, is_of, is_quote, starts_name, starts_unit, name_class, front_len}
use Rattle.pr_ast.specs.declared.lex.token.Sign.{Sign}
use Rattle.pr_ast.specs.declared.lex.fault.LexKind.TheVariants.{OpenText, BadEscape, SpanTooLong}
use Rattle.pr_ast.specs.Tokens.{HasTokens}
use Rattle.pr_ast.specs.Lexed.{Lexed, gives_tokens, gives_fault, a_token, a_fault, number_by, span_by, text_by, would_end, sign_by, with_token, after_first, by_part, lexed_in, lexed}
use Rattle.pr_ast.proofs.LexedLaws.{tokens_both}
use Rattle.pr_ast.specs.private.Spelled.{IsNameText, name_text}
use Rattle.pr_ast.proofs.Spelling.{both_left, both_right}
use Rattle.pr_parse.specs.declared.grammar.kind.TokenClass.{TokenClass}
use Rattle.pr_parse.specs.Seen.{Seen, lexed as seen_as, seen_tokens, kind_of}
use Rattle.pr_parse.proofs.StepsLaw.{both}

-- A number has no sign and is a finite one.
pub record IsDigits (v : Num) : Type 0 where
  pub units : ℕ
  pub is : v ≡ Finite (pos units)
  pub fits : IsFit (Finite (pos units))

abbrev pub IsHeld : TokenKind → Type 0
IsHeld (Name n) = IsNameText false n
IsHeld (NumberToken v) = IsDigits v
IsHeld (Duration ms) = ms ≤ 2 ^ 40
IsHeld (TextToken t) = Unit {0}
IsHeld (SignToken s) = Unit {0}

-- a token of a text, seen with its own kind
pub record IsOwn (k : TokenClass) (t : TokenKind) : Type 0 where
  pub is : k ≡ kind_of t
  pub holds : IsHeld t

abbrev pub IsProper : Seen → Type 0
IsProper (seen_as k t) = IsOwn k t.kind

-- names
out_of_brackets : (inside : Bool) (b : ℕ) → starts_name inside b ≡ true → starts_name false b ≡ true
out_of_brackets true b h = grind (arith, nat_tests)
out_of_brackets false b h = h

any_name_byte : (b : ℕ) → is_of (name_class true) b ≡ true → is_of (name_class false) b ≡ true
any_name_byte b h = grind (arith, nat_tests)

any_name_bytes : (inside : Bool) (bs : List ℕ) → list_all (is_of (name_class inside)) bs ≡ true → list_all (is_of (name_class false)) bs ≡ true
any_name_bytes false bs h = h
any_name_bytes true [] h = refl
any_name_bytes true (b ∷ bs) h =
    both (is_of (name_class false) b) (list_all (is_of (name_class false)) bs) (any_name_byte b (both_left (is_of (name_class true) b) (list_all (is_of (name_class true)) bs) h))
    (any_name_bytes true bs (both_right (is_of (name_class true) b) (list_all (is_of (name_class true)) bs) h))

name_of_front : (inside : Bool) (b : ℕ) (rest : List ℕ) (n : ℕ) → starts_name inside b ≡ true → 0 < n → list_all (is_of (name_class inside)) (take n (b ∷ rest)) ≡ true → IsNameText false (take n (b ∷ rest))
name_of_front inside b rest zero s p h = absurd (omega arith)
name_of_front inside b rest (suc n) s p h =
    name_text (out_of_brackets inside b s) (any_name_bytes inside (take n rest) (both_right (is_of (name_class inside) b) (list_all (is_of (name_class inside)) (take n rest)) h))

goes_on : (inside : Bool) (b : ℕ) → starts_name inside b ≡ true → is_of (name_class inside) b ≡ true
goes_on true b h = grind (arith, nat_tests)
goes_on false b h = grind (arith, nat_tests)

some_front : (inside : Bool) (b : ℕ) (rest : List ℕ) → starts_name inside b ≡ true → 0 < front_len (name_class inside) (b ∷ rest)
some_front inside b rest h = rw (goes_on inside b h) (omega arith)

-- numbers
number_fits : (m : ℕ) (b : Bool) (v : Num) → nat_lt m (10 ^ 29) ≡ b → (if b then Ok (Finite (pos m)) else Err TooWide) ≡ Ok v → IsDigits v
number_fits m true v h e = let same : Finite (pos m) ≡ v = cc in record { units = m; is = sym same; fits = grind (arith, nat_tests) }
number_fits m false v h e = absurd (cc)

number_given : (m : ℕ) (v : Num) → number_of false m ≡ Ok v → IsDigits v
number_given m v e = number_fits m (nat_lt m (10 ^ 29)) v refl e

some_digits : (b : Bool) (m : ℕ) (v : Num) → (if b then number_of false m else Err NotNumber) ≡ Ok v → IsDigits v
some_digits true m v e = number_given m v e
some_digits false m v e = absurd (cc)

number_read : (W F : List ℕ) (s : Option Scale) (v : Num) → reads_number false W F s ≡ Ok v → IsDigits v
number_read W F None v e = absurd (cc)
number_read W F (Some s) v e = some_digits (nat_lt 0 (length W + length F)) (text_magnitude W F s) v e

no_infinity : (bs : List ℕ) (v : Num) → str_eq_ignore_ascii_case bs (codes "inf") ≡ false → str_eq_ignore_ascii_case bs (codes "infinity") ≡ false → reads_unsigned false bs ≡ Ok v → IsDigits v
no_infinity bs v i j e =
    number_read (front_digits bs) (fraction_digits (after_digits bs)) (ending (after_fraction (after_digits bs))) v (sym (rw (i, j) refl) ∙ e)

digit_value : (c : ℕ) (bs : List ℕ) (v : Num) → is_ascii_digit c ≡ true → reads (c ∷ bs) ≡ Ok v → IsDigits v
digit_value c bs v d e =
    no_infinity (c ∷ bs) v (not_word c 105 bs (codes "nf") d (omega arith)) (not_word c 105 bs (codes "nfinity") d (omega arith)) (sym (digit_start c bs d) ∙ e)

point_value : (bs : List ℕ) (v : Num) → reads (46 ∷ bs) ≡ Ok v → IsDigits v
unfolding reads
point_value bs v e = no_infinity (46 ∷ bs) v refl refl e

first_value : (c : ℕ) (bs : List ℕ) (v : Num) (d p : Bool) → is_ascii_digit c ≡ d → c == 46 ≡ p → d || p ≡ true → reads (c ∷ bs) ≡ Ok v → IsDigits v
first_value c bs v true p h k e r = digit_value c bs v h r
first_value c bs v false true h k e r = let same : c ≡ 46 = grind (arith, nat_tests) in point_value bs v (subst (λ x. reads (x ∷ bs) ≡ Ok v) same r)
first_value c bs v false false h k e r = absurd (cc)

no_value : (v : Num) → reads [] ≡ Ok v → ⊥
unfolding reads
no_value v e = cc

front_value : (b : ℕ) (rest : List ℕ) (n : ℕ) (v : Num) → is_ascii_digit b || b == 46 ≡ true → reads (take n (b ∷ rest)) ≡ Ok v → IsDigits v
front_value b rest zero v d e = absurd (no_value v e)
front_value b rest (suc n) v d e = first_value b (take n rest) v (is_ascii_digit b) (b == 46) refl refl d e

-- a token before others
with_inverse : (t : Token) (l : Lexed) (ts : List Token) → with_token t l ≡ gives_tokens ts → (us : List Token) × ((l ≡ gives_tokens us) × (ts ≡ t ∷ us))
with_inverse t (gives_tokens us) ts e = let same : ts ≡ t ∷ us = cc in (us, (refl, same))
with_inverse t (gives_fault at kind) ts e = absurd (cc)

nothing_proper : (ts : List Token) → gives_tokens [] ≡ gives_tokens ts → Each IsProper (seen_tokens ts)
nothing_proper [] e = tt
nothing_proper (t ∷ ts) e = absurd (cc)

abbrev Again : (Bool → ℕ → List ℕ → Lexed) → Type 0
Again again = (inside : Bool) (at : ℕ) (text : List ℕ) (ts : List Token) → again inside at text ≡ gives_tokens ts → Each IsProper (seen_tokens ts)

one_proper : (l : Lexed) (ts : List Token) (t : Token) → ((us : List Token) → l ≡ gives_tokens us → Each IsProper (seen_tokens us)) → IsHeld t.kind → with_token t l ≡ gives_tokens ts → Each IsProper (seen_tokens ts)
one_proper l ts t next h e =
    let x = with_inverse t l ts e in
    subst (λ us. Each IsProper (seen_tokens us)) (sym x.1.1) (record { is = refl; holds = h }, next x.0 x.1.0)

module _ (again : Bool → ℕ → List ℕ → Lexed) (next : Again again) (inside : Bool) (at : ℕ) (ts : List Token) where
  a_number_here : (b : ℕ) (rest : List ℕ) (n : ℕ) (r : Result Num NumFault) → is_ascii_digit b || b == 46 ≡ true → reads (take n (b ∷ rest)) ≡ r → after_first again inside at (b ∷ rest) (number_by n r) ≡ gives_tokens ts → Each IsProper (seen_tokens ts)
  a_number_here b rest n (Ok v) d h e = one_proper _ ts _ (λ us k. next _ _ _ us k) (front_value b rest n v d h) e
  a_number_here b rest n (Err NotNumber) d h e = absurd (cc)
  a_number_here b rest n (Err TooWide) d h e = absurd (cc)

  a_span_of : (text : List ℕ) (n ms : ℕ) (z : Bool) → nat_le ms (2 ^ 40) ≡ z → after_first again inside at text (if z then a_token n (Duration ms) else a_fault 0 SpanTooLong) ≡ gives_tokens ts → Each IsProper (seen_tokens ts)
  a_span_of text n ms true h e = let small : ms ≤ 2 ^ 40 = grind (arith, nat_tests) in one_proper _ ts _ (λ us k. next _ _ _ us k) small e
  a_span_of text n ms false h e = absurd (cc)

  a_span_here : (text : List ℕ) (n : ℕ) (o : Option ℕ) → after_first again inside at text (span_by n o) ≡ gives_tokens ts → Each IsProper (seen_tokens ts)
  a_span_here text n (Some ms) e = a_span_of text n ms (nat_le ms (2 ^ 40)) refl e
  a_span_here text n None e = absurd (cc)

  no_text_here : (text : List ℕ) (n : ℕ) (z : Bool) → after_first again inside at text (if z then a_fault 0 OpenText else a_fault n BadEscape) ≡ gives_tokens ts → Each IsProper (seen_tokens ts)
  no_text_here text n true e = absurd (cc)
  no_text_here text n false e = absurd (cc)

  a_text_here : (text : List ℕ) (n : ℕ) (o : Option (List ℕ)) → after_first again inside at text (text_by text n o) ≡ gives_tokens ts → Each IsProper (seen_tokens ts)
  a_text_here text n (Some t) e = one_proper _ ts _ (λ us k. next _ _ _ us k) tt e
  a_text_here text n None e = no_text_here text n (n == length text || would_end text n) e

  a_sign_here : (text : List ℕ) (r : Result (Sign × ℕ) ℕ) → after_first again inside at text (sign_by r) ≡ gives_tokens ts → Each IsProper (seen_tokens ts)
  a_sign_here text (Ok x) e = one_proper _ ts _ (λ us k. next _ _ _ us k) tt e
  a_sign_here text (Err n) e = absurd (cc)

  a_name_here : (b : ℕ) (rest : List ℕ) (n : ℕ) → n ≡ front_len (name_class inside) (b ∷ rest) → starts_name inside b ≡ true → after_first again inside at (b ∷ rest) (a_token n (Name (take n (b ∷ rest)))) ≡ gives_tokens ts → Each IsProper (seen_tokens ts)
  a_name_here b rest n l s e =
      let f : list_all (is_of (name_class inside)) (take n (b ∷ rest)) ≡ true = subst (λ k. list_all (is_of (name_class inside)) (take k (b ∷ rest)) ≡ true) (sym l) (front_passes (is_of (name_class inside)) (b ∷ rest)) in
      let p : 0 < n = subst (λ k. 0 < k) (sym l) (some_front inside b rest s) in
      one_proper _ ts _ (λ us k. next _ _ _ us k) (name_of_front inside b rest n s p f) e

  module _ (b : ℕ) (rest : List ℕ) where
    abbrev Here : Type 0
    Here = by_part again inside at (b ∷ rest) (part_at inside (b ∷ rest)) ≡ gives_tokens ts

    by_quote : (q : Bool) → is_quote b ≡ q → is_whitespace b ≡ false → b == 35 ≡ false → starts_name inside b ≡ false → is_ascii_digit b ≡ false → b == 46 ≡ false → Here → Each IsProper (seen_tokens ts)
    by_quote true hq hx hy hs hd hp e = a_text_here (b ∷ rest) _ _ (rw (hx, hy, hs, hd, hp, hq) at e)
    by_quote false hq hx hy hs hd hp e = a_sign_here (b ∷ rest) _ (rw (hx, hy, hs, hd, hp, hq) at e)

    by_point : (p : Bool) → b == 46 ≡ p → is_whitespace b ≡ false → b == 35 ≡ false → starts_name inside b ≡ false → is_ascii_digit b ≡ false → Here → Each IsProper (seen_tokens ts)
    by_point true hp hx hy hs hd e = a_number_here b rest _ _ (rw (hp, hd) refl) refl (rw (hx, hy, hs, hd, hp) at e)
    by_point false hp hx hy hs hd e = by_quote (is_quote b) refl hx hy hs hd hp e

    by_unit : (u : Bool) → starts_unit (drop (prefix_len is_ascii_digit (b ∷ rest)) (b ∷ rest)) ≡ u → is_whitespace b ≡ false → b == 35 ≡ false → starts_name inside b ≡ false → is_ascii_digit b ≡ true → Here → Each IsProper (seen_tokens ts)
    by_unit true hu hx hy hs hd e = a_span_here (b ∷ rest) (bad_span_place (b ∷ rest)) (span_of (take (bad_span_place (b ∷ rest)) (b ∷ rest))) (rw (hu, hx, hy, hs, hd) at e)
    by_unit false hu hx hy hs hd e = a_number_here b rest _ _ (rw hd refl) refl (rw (hu, hx, hy, hs, hd) at e)

    by_digit : (d : Bool) → is_ascii_digit b ≡ d → is_whitespace b ≡ false → b == 35 ≡ false → starts_name inside b ≡ false → Here → Each IsProper (seen_tokens ts)
    by_digit true hd hx hy hs e = by_unit (starts_unit (drop (prefix_len is_ascii_digit (b ∷ rest)) (b ∷ rest))) refl hx hy hs hd e
    by_digit false hd hx hy hs e = by_point (b == 46) refl hx hy hs hd e

    by_name : (s : Bool) → starts_name inside b ≡ s → is_whitespace b ≡ false → b == 35 ≡ false → Here → Each IsProper (seen_tokens ts)
    by_name true hs hx hy e = a_name_here b rest _ refl hs (rw (hx, hy, hs) at e)
    by_name false hs hx hy e = by_digit (is_ascii_digit b) refl hx hy hs e

    by_hash : (y : Bool) → b == 35 ≡ y → is_whitespace b ≡ false → Here → Each IsProper (seen_tokens ts)
    by_hash true hy hx e = next _ _ _ ts (rw (hx, hy) at e)
    by_hash false hy hx e = by_name (starts_name inside b) refl hx hy e

    by_blank : (x : Bool) → is_whitespace b ≡ x → Here → Each IsProper (seen_tokens ts)
    by_blank true hx e = next _ _ _ ts (rw hx at e)
    by_blank false hx e = by_hash (b == 35) refl hx e

proper_in : (parts : ℕ) → Again (lexed_in parts)
proper_in zero inside at text ts e = nothing_proper ts e
proper_in (suc parts) inside at [] ts e = nothing_proper ts e
proper_in (suc parts) inside at (b ∷ rest) ts e = by_blank (lexed_in parts) (proper_in parts) inside at ts b rest (is_whitespace b) refl e

given_proper : (text : List ℕ) (tokens : List Token) → lexed text ≡ gives_tokens tokens → Each IsProper (seen_tokens tokens)
unfolding lexed
given_proper text tokens e = proper_in (suc (length text)) false 0 text tokens e

pub tokens_are_proper : (text : List ℕ) (tokens : List Token) → HasTokens text tokens → Each IsProper (seen_tokens tokens)
tokens_are_proper text tokens h = given_proper text tokens ((tokens_both text tokens).1 h)
