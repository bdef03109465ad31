-- What a text gives, as a function of it, are its tokens or its first fault.
use Rattle.std.proofs.Common.{◌≡◌, ℕ, zero, suc, ◌+◌, ◌-◌, ◌<◌, ◌≤◌, ◌^◌, List, [], ◌∷◌, ◌++◌, Bool, true, false, Some, None, Result, Ok, Err, length, take, drop, refl, ap, sym, ◌∙◌, subst, arith, inl, inr, length-drop}
use Rattle.std.specs.Prelude.{◌⊎◌, ◌==◌, ◌||◌, nat_le, Option, is_some}
use Rattle.std.proofs.lemmas.List.{length-map, drop-map, take-map, map-append, append-nil, take-append-drop}
use Rattle.std.proofs.lemmas.Bool.Decides.{nat_tests}
use Rattle.pr_time.specs.pr_forms.Form.{rule, Reads}
use Rattle.pr_time.specs.pr_forms.Reading.{reading}
use Rattle.pr_time.proofs.FormsEnding.{given_reads, reads_given, given_place}
use Rattle.pr_time.proofs.FormsParts.{other_rest}
use Rattle.pr_num.specs.declared.value.Num.{Num}
use Rattle.pr_num.specs.declared.text.NumFault.{NumFault}
use Rattle.pr_num.specs.declared.text.NumFault.TheVariants.{NotNumber, TooWide as WideNumber}
use Rattle.pr_num.specs.Reads.{reads}
use Rattle.pr_time.specs.SpanText.{ReadsSpan}
use Rattle.pr_time.specs.SpanAnswer.{span_of, bad_span_place}
use Rattle.pr_time.proofs.SpanTotal.{span_of_reading, reading_of_span, place_of_text as span_place}
use Rattle.pr_labels.specs.pr_words.Strings as strings
use Rattle.pr_labels.specs.pr_words.StringAnswer.{string_of, bad_string_place}
use Rattle.pr_labels.proofs.WordsStringTable as string_table
use Rattle.pr_labels.proofs.WordsStringEnds as string_ends
use Rattle.pr_labels.proofs.WordsStringAnswers.{string_of_reading, reading_of_string, place_of_text as string_place}
use Rattle.pr_ast.specs.declared.lex.token.Token.{Token}
use Rattle.pr_ast.specs.declared.lex.token.TokenKind.{TokenKind}
use Rattle.pr_ast.specs.declared.lex.token.TokenKind.TheVariants.{Name as NameKind, Number as NumberKind, Duration as DurationKind, Text as TextKind, Sign as SignKind}
use Rattle.pr_ast.specs.declared.lex.token.Sign.{Sign as SignName}
use Rattle.pr_ast.specs.declared.lex.fault.LexKind.{LexKind}
use Rattle.pr_ast.specs.declared.lex.fault.LexKind.TheVariants.{BadChar, OpenText, BadEscape, BadNumber, TooWide, BadSpan, SpanTooLong}
use Rattle.pr_ast.specs.declared.lex.part.Lexeme.{Lexeme}
use Rattle.pr_ast.specs.declared.lex.part.Lexeme.TheVariants.{Name, Number, Duration, Text, Sign}
use Rattle.pr_ast.specs.declared.lex.part.Part.{Part}
use Rattle.pr_ast.specs.declared.lex.part.Part.TheVariants.{End, Gap, Token as TokenPart}
use Rattle.pr_ast.specs.Bytes.{part_at}
use Rattle.pr_ast.specs.Number as numbers
use Rattle.pr_ast.specs.NumberTable as number_tables
use Rattle.pr_ast.specs.SignAt.{sign_at}
use Rattle.pr_ast.specs.Tokens.{IsTokenOf, IsFaultOf, IsLeftOpen, AreTokens, no_more, past_gap, one_more, inside_after, IsFirstFault, fault_here, fault_past_gap, fault_past_token, HasTokens, HasFault}
use Rattle.pr_ast.proofs.NumberTable.{known}
use Rattle.pr_ast.proofs.NumberEnds as number_ends
use Rattle.pr_ast.proofs.Firsts.{gap_long, gap_within}
use Rattle.pr_ast.proofs.Ordered.{token_part}
use Rattle.pr_ast.proofs.TakenSigns.{sign_is, fault_is}
use Rattle.pr_ast.proofs.Unique.{one_list, one_fault, not_both}
use Rattle.pr_ast.proofs.OpenStrings.{is_open, not_open}
use Rattle.pr_ast.specs.Lexed.{Lexed, gives_tokens, gives_fault, First, a_token, a_fault, number_place, number_by, span_by, would_end, text_by, sign_by, first_of, with_token, after_first, by_part, lexed_in, lexed}

-- What is given for a token is the token, or its fault.
abbrev Tells : Lexeme → Bool → List ℕ → First → Type 0
Tells l inside text (a_token n token) = IsTokenOf l inside text n token
Tells l inside text (a_fault place kind) = IsFaultOf l text place kind

number_tells : (inside : Bool) (text : List ℕ) → Tells Number inside text (number_by (number_place text) (reads (take (number_place text) text)))
number_tells inside text = by_value (reads (take (number_place text) text)) refl
  where
    end : numbers.IsNumberEnd text (number_place text)
    end = given_place numbers.production number_tables.table known number_ends.rank number_ends.steps number_ends.ends numbers.Number (numbers.seen text)

    by_value : (r : Result Num NumFault) → reads (take (number_place text) text) ≡ r → Tells Number inside text (number_by (number_place text) r)
    by_value (Ok v) e = record { longest = end; value = v; whole = e; is = refl }
    by_value (Err NotNumber) e = record { end = number_place text; longest = end; fault = rw e (refl, refl) }
    by_value (Err WideNumber) e = record { end = number_place text; longest = end; fault = rw e (refl, refl) }

is_most : (m n : ℕ) → nat_le m n ≡ true → m ≤ n
is_most m n h = grind (arith, nat_tests)

is_more : (m n : ℕ) → nat_le m n ≡ false → n < m
is_more m n h = grind (arith, nat_tests)

span_tells : (inside : Bool) (text : List ℕ) → Tells Duration inside text (span_by (bad_span_place text) (span_of (take (bad_span_place text) text)))
span_tells inside text = by_span (span_of (take (bad_span_place text) text)) refl
  where
    n : ℕ
    n = bad_span_place text

    by_width : (ms : ℕ) → ReadsSpan (take n text) ms → (b : Bool) → nat_le ms (2 ^ 40) ≡ b → Tells Duration inside text (span_by n (Some ms))
    by_width ms d true e = rw e (record { longest = span_place text; ms = ms; whole = d; fits = is_most ms (2 ^ 40) e; is = refl })
    by_width ms d false e = rw e (record { end = n; longest = span_place text; fault = (refl, (ms, d, is_more ms (2 ^ 40) e)) })

    by_span : (o : Option ℕ) → span_of (take n text) ≡ o → Tells Duration inside text (span_by n o)
    by_span (Some ms) e = by_width ms (reading_of_span (take n text) ms e) (nat_le ms (2 ^ 40)) refl
    by_span None e = record { end = n; longest = span_place text; fault = (refl, λ ms d. let h = span_of_reading (take n text) ms d in cc) }

-- a text is its bytes before a place, and those from it on
parts_seen : (text : List ℕ) (n : ℕ) → strings.seen text ≡ strings.seen (take n text) ++ strings.seen (drop n text)
parts_seen text n = ap strings.seen (sym (take-append-drop n text)) ∙ map-append strings.letter_of (take n text) (drop n text)

front_string : (text content : List ℕ) (n : ℕ) → strings.IsString text content (drop n text) → strings.IsString (take n text) content []
front_string text content n d =
    let a = subst (λ ts. Reads strings.production (rule strings.Text) ts (strings.content content) (strings.seen (drop n text))) (parts_seen text n) d in
    let b = other_rest strings.production (rule strings.Text) (strings.seen (take n text)) (strings.seen (drop n text)) [] (strings.content content) a in
    subst (λ ts. Reads strings.production (rule strings.Text) ts (strings.content content) []) (append-nil (strings.seen (take n text))) b

string_front : (text content : List ℕ) (n : ℕ) → strings.IsString (take n text) content [] → strings.IsString text content (drop n text)
string_front text content n d =
    let a = subst (λ ts. Reads strings.production (rule strings.Text) ts (strings.content content) []) (sym (append-nil (strings.seen (take n text)))) d in
    let b = other_rest strings.production (rule strings.Text) (strings.seen (take n text)) [] (strings.seen (drop n text)) (strings.content content) a in
    subst (λ ts. Reads strings.production (rule strings.Text) ts (strings.content content) (strings.seen (drop n text))) (sym (parts_seen text n)) b

either_holds : (a b : Bool) → a || b ≡ true → (a ≡ true) ⊎ (b ≡ true)
either_holds true b e = inl refl
either_holds false b e = inr e

neither_holds : (a b : Bool) → a || b ≡ false → (a ≡ false) × (b ≡ false)
neither_holds true b e = cc
neither_holds false b e = (refl, e)

same_place : (m n : ℕ) → m == n ≡ true → m ≡ n
same_place m n h = grind (arith, nat_tests)

other_place : (m n : ℕ) → m == n ≡ false → m ≡ n → ⊥
other_place m n h e = grind (arith, nat_tests)

text_tells : (inside : Bool) (text : List ℕ) → Tells Text inside text (text_by text (bad_string_place text) (string_of (take (bad_string_place text) text)))
text_tells inside text = by_string (string_of (take (bad_string_place text) text)) refl
  where
    n : ℕ
    n = bad_string_place text

    left_open : (n == length text ≡ true) ⊎ (would_end text n ≡ true) → IsLeftOpen text n
    left_open (inl e) = inl (same_place n (length text) e)
    left_open (inr e) = inr (is_open text n e)

    not_left_open : (n == length text ≡ false) × (would_end text n ≡ false) → IsLeftOpen text n → ⊥
    not_left_open p (inl e) = other_place n (length text) p.0 e
    not_left_open p (inr o) = not_open text n p.1 o

    by_open : ((content : List ℕ) → strings.IsString text content (drop n text) → ⊥) → (b : Bool) → (n == length text || would_end text n) ≡ b → Tells Text inside text (text_by text n None)
    by_open broken true e = rw e (record { end = n; longest = string_place text; broken = broken; fault = (refl, left_open (either_holds (n == length text) (would_end text n) e)) })
    by_open broken false e = rw e (record { end = n; longest = string_place text; broken = broken; fault = (refl, not_left_open (neither_holds (n == length text) (would_end text n) e)) })

    by_string : (o : Option (List ℕ)) → string_of (take n text) ≡ o → Tells Text inside text (text_by text n o)
    by_string (Some content) e = record { longest = string_place text; content = content; whole = string_front text content n (reading_of_string (take n text) content e); is = refl }
    by_string None e = by_open (λ content d. let h = string_of_reading (take n text) content (front_string text content n d) in cc) (n == length text || would_end text n) refl

sign_tells : (inside : Bool) (text : List ℕ) → Tells Sign inside text (sign_by (sign_at text))
sign_tells inside text = by_sign (sign_at text) refl
  where
    by_sign : (r : Result (SignName × ℕ) ℕ) → sign_at text ≡ r → Tells Sign inside text (sign_by r)
    by_sign (Ok x) e = sign_is text x.0 x.1 e
    by_sign (Err place) e = fault_is text place e

tells : (l : Lexeme) (inside : Bool) (text : List ℕ) → Tells l inside text (first_of l inside text)
tells Name inside text = record { longest = refl; is = refl }
tells Number inside text = number_tells inside text
tells Duration inside text = span_tells inside text
tells Text inside text = text_tells inside text
tells Sign inside text = sign_tells inside text

-- What is given for a text are its tokens, or its first fault.
abbrev Says : Bool → ℕ → List ℕ → Lexed → Type 0
Says inside at text (gives_tokens tokens) = AreTokens inside at text tokens
Says inside at text (gives_fault place kind) = IsFirstFault inside at text place kind

after_gap : (inside : Bool) (at n : ℕ) (text : List ℕ) (x : Lexed) → part_at inside text ≡ Gap n → Says inside (at + n) (drop n text) x → Says inside at text x
after_gap inside at n text (gives_tokens tokens) e s = past_gap n e s
after_gap inside at n text (gives_fault place kind) e s = fault_past_gap n e s

after_token : (inside : Bool) (at n : ℕ) (text : List ℕ) (token : TokenKind) (l : Lexeme) (x : Lexed) → part_at inside text ≡ TokenPart l → IsTokenOf l inside text n token →
    Says (inside_after inside token) (at + n) (drop n text) x → Says inside at text (with_token (record { start = at; end = at + n; kind = token }) x)
after_token inside at n text token l (gives_tokens tokens) e i s = one_more n token l e i s
after_token inside at n text token l (gives_fault place kind) e i s = fault_past_token n token l e i s

-- each part has a byte at least, so that the rest is shorter
Enough : ℕ → Type 0
Enough k = (inside : Bool) (at : ℕ) (text : List ℕ) → length text < k → Says inside at text (lexed_in k inside at text)

module _ (k : ℕ) (again : Enough k) (inside : Bool) (at : ℕ) (text : List ℕ) (short : length text < suc k) where
  by_first : (l : Lexeme) → part_at inside text ≡ TokenPart l → (f : First) → Tells l inside text f → Says inside at text (after_first (lexed_in k) inside at text f)
  unfolding Enough
  by_first l e (a_token n token) i =
      let p = token_part l inside text n token e i in
      let pos = p.long in let le = p.within in
      after_token inside at n text token l (lexed_in k (inside_after inside token) (at + n) (drop n text)) e i
      (again (inside_after inside token) (at + n) (drop n text) (omega (arith, length-drop n text, pos, le)))
  by_first l e (a_fault place kind) i = fault_here place l e i

  by_part_says : (p : Part) → part_at inside text ≡ p → Says inside at text (by_part (lexed_in k) inside at text p)
  unfolding Enough
  by_part_says End e = no_more e
  by_part_says (Gap n) e =
      let pos = gap_long inside text n e in let le = gap_within inside text n e in
      after_gap inside at n text (lexed_in k inside (at + n) (drop n text)) e (again inside (at + n) (drop n text) (omega (arith, length-drop n text, pos, le)))
  by_part_says (TokenPart l) e = by_first l e (first_of l inside text) (tells l inside text)

enough : (k : ℕ) → Enough k
unfolding Enough
enough zero inside at text lt = absurd (omega arith)
enough (suc k) inside at text lt = by_part_says k (enough k) inside at text lt (part_at inside text) refl

says : (text : List ℕ) → Says false 0 text (lexed text)
unfolding lexed Enough
says text = enough (suc (length text)) false 0 text (omega arith)

module _ (text : List ℕ) where
  to_tokens : (x : Lexed) → Says false 0 text x → (ts : List Token) → x ≡ gives_tokens ts → HasTokens text ts
  to_tokens (gives_tokens us) s ts e = let h : us ≡ ts = cc in subst (HasTokens text) h s
  to_tokens (gives_fault p k) s ts e = cc

  from_tokens : (x : Lexed) → Says false 0 text x → (ts : List Token) → HasTokens text ts → x ≡ gives_tokens ts
  from_tokens (gives_tokens us) s ts e = ap gives_tokens (one_list s e)
  from_tokens (gives_fault p k) s ts e = absurd (not_both e s)

  to_fault : (x : Lexed) → Says false 0 text x → (q : ℕ) (j : LexKind) → x ≡ gives_fault q j → HasFault text q j
  to_fault (gives_tokens us) s q j e = cc
  to_fault (gives_fault p k) s q j e =
      let h : p ≡ q = cc in
      let i : k ≡ j = cc in
      subst (λ x. HasFault text x j) h (subst (λ x. HasFault text p x) i s)

  from_fault : (x : Lexed) → Says false 0 text x → (q : ℕ) (j : LexKind) → HasFault text q j → x ≡ gives_fault q j
  from_fault (gives_tokens us) s q j e = absurd (not_both s e)
  from_fault (gives_fault p k) s q j e = let x = one_fault s e in rw (x.0, x.1) refl

  pub tokens_both : (ts : List Token) → (lexed text ≡ gives_tokens ts → HasTokens text ts) × (HasTokens text ts → lexed text ≡ gives_tokens ts)
  tokens_both ts = (to_tokens (lexed text) (says text) ts, from_tokens (lexed text) (says text) ts)

  pub fault_both : (q : ℕ) (j : LexKind) → (lexed text ≡ gives_fault q j → HasFault text q j) × (HasFault text q j → lexed text ≡ gives_fault q j)
  fault_both q j = (to_fault (lexed text) (says text) q j, from_fault (lexed text) (says text) q j)
