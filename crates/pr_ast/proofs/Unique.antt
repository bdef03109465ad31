-- A text has one list of tokens or one first fault, and not both.
use Rattle.std.proofs.Common.{◌≡◌, ℕ, ◌+◌, ◌<◌, ◌≤◌, ◌^◌, List, [], ◌∷◌, take, drop, refl, ap, sym, ◌∙◌, subst, Bool, true, Result, Ok, Err, arith}
use Rattle.pr_time.specs.pr_forms.Form.{rule}
use Rattle.pr_time.specs.pr_forms.Table.{is_more}
use Rattle.pr_time.proofs.FormsPlaces.{one_place}
use Rattle.pr_time.proofs.FormsReadings.{Alike, alike, first_goes_on, second_goes_on, readings_alike, one_reading}
use Rattle.pr_time.proofs.FormsDecided.{rule_decides}
use Rattle.pr_num.specs.declared.value.Num.{Num}
use Rattle.pr_num.specs.declared.text.NumFault.{NumFault}
use Rattle.pr_num.specs.declared.text.NumFault.TheVariants.{NotNumber, TooWide as WideNumber}
use Rattle.pr_num.specs.Reads.{reads}
use Rattle.pr_time.specs.SpanText as spans
use Rattle.pr_time.specs.SpanTable as span_tables
use Rattle.pr_time.proofs.SpanTable as span_table
use Rattle.pr_labels.specs.pr_words.Strings as strings
use Rattle.pr_labels.specs.pr_words.StringTable as string_tables
use Rattle.pr_labels.proofs.WordsStringTable as string_table
use Rattle.pr_ast.specs.declared.lex.token.TokenKind.{TokenKind}
use Rattle.pr_ast.specs.declared.lex.token.TokenKind.TheVariants.{Name as NameKind, Number as NumberKind, Duration as DurationKind, Text as TextKind, Sign as SignKind}
use Rattle.pr_ast.specs.declared.lex.token.Token.{Token}
use Rattle.pr_ast.specs.declared.lex.token.Sign.{Sign as SignName}
use Rattle.pr_ast.specs.declared.lex.fault.LexKind.{LexKind}
use Rattle.pr_ast.specs.declared.lex.fault.LexKind.TheVariants.{OpenText, BadEscape, BadSpan, SpanTooLong}
use Rattle.pr_ast.specs.declared.lex.part.Lexeme.{Lexeme}
use Rattle.pr_ast.specs.declared.lex.part.Lexeme.TheVariants.{Name, Number, Duration, Text, Sign}
use Rattle.pr_ast.specs.declared.lex.part.Part.{Part}
use Rattle.pr_ast.specs.declared.lex.part.Part.TheVariants.{End, Gap, Token as TokenPart}
use Rattle.pr_ast.specs.Number as numbers
use Rattle.pr_ast.specs.Tokens.{IsTokenOf, IsFaultOf, IsNumber, IsDuration, IsText, IsNumberFault, IsTextFault, NumberFault, DurationFault, TextFault, AreTokens, no_more, past_gap, one_more, inside_after, IsFirstFault, fault_here, fault_past_gap, fault_past_token}
use Rattle.pr_ast.specs.SignAt.{sign_at}
use Rattle.pr_ast.proofs.TakenSigns.{sign_known}

-- where each kind ends
number_end : (text : List ℕ) (n m : ℕ) → numbers.IsNumberEnd text n → numbers.IsNumberEnd text m → n ≡ m
number_end text n m = one_place numbers.production (rule numbers.Number) (numbers.seen text) n m

span_end : (text : List ℕ) (n m : ℕ) → spans.IsBadPlace text n → spans.IsBadPlace text m → n ≡ m
span_end text n m = one_place spans.production (rule spans.Text) (spans.seen text) n m

string_end : (text : List ℕ) (n m : ℕ) → strings.IsBadPlace text n → strings.IsBadPlace text m → n ≡ m
string_end text n m = one_place strings.production (rule strings.Text) (strings.seen text) n m

-- what each kind means
one_span : (text : List ℕ) (a b : ℕ) → spans.ReadsSpan text a → spans.ReadsSpan text b → a ≡ b
one_span text a b d e = let h : spans.span a ≡ spans.span b = one_reading spans.production span_tables.table span_table.known spans.Text (spans.seen text) (spans.span a) (spans.span b) d e in cc

pub no_longer_string : (ts : List strings.Letter) → is_more {V = strings.StringValue} string_tables.table (rule strings.Text) ts ≡ true → ⊥
no_longer_string [] h = cc
no_longer_string (t ∷ ts) h = cc

same_value : (v w : strings.StringValue) (r s : List strings.Letter) → Alike string_tables.table (rule strings.Text) v r w s → v ≡ w
same_value v w r s alike = refl
same_value v w r s (first_goes_on i) = absurd (no_longer_string r i.is)
same_value v w r s (second_goes_on i) = absurd (no_longer_string s i.is)

one_content : (text rest a b : List ℕ) → strings.IsString text a rest → strings.IsString text b rest → a ≡ b
one_content text rest a b d e =
    let h : strings.content a ≡ strings.content b = same_value _ _ _ _ (readings_alike strings.production string_tables.table string_table.known (rule_decides string_tables.table strings.Text) d e) in cc

same_sign : (r : Result (SignName × ℕ) ℕ) (s t : SignName) (n m : ℕ) → r ≡ Ok (s, n) → r ≡ Ok (t, m) → (s ≡ t) × (n ≡ m)
same_sign r s t n m e h =
    let p : ◌≡◌ {A = SignName × ℕ} (s, n) (t, m) = cc in
    (ap (λ x. x.0) p, ap (λ x. x.1) p)

module _ (inside : Bool) (text : List ℕ) (n m : ℕ) (k j : TokenKind) where
  one_number : IsNumber text n k → IsNumber text m j → (n ≡ m) × (k ≡ j)
  one_number x y =
      let e = number_end text n m x.longest y.longest in
      let h : Ok x.value ≡ Ok y.value = sym x.whole ∙ (ap (λ i. reads (take i text)) e ∙ y.whole) in
      let v : x.value ≡ y.value = cc in
      (e, x.is ∙ (ap NumberKind v ∙ sym y.is))

  one_duration : IsDuration text n k → IsDuration text m j → (n ≡ m) × (k ≡ j)
  one_duration x y =
      let e = span_end text n m x.longest y.longest in
      let v = one_span (take m text) x.ms y.ms (subst (λ i. spans.ReadsSpan (take i text) x.ms) e x.whole) y.whole in
      (e, x.is ∙ (ap DurationKind v ∙ sym y.is))

  one_text : IsText text n k → IsText text m j → (n ≡ m) × (k ≡ j)
  one_text x y =
      let e = string_end text n m x.longest y.longest in
      let v = one_content text (drop m text) x.content y.content (subst (λ i. strings.IsString text x.content (drop i text)) e x.whole) y.whole in
      (e, x.is ∙ (ap TextKind v ∙ sym y.is))

  pub one_token : (l : Lexeme) → IsTokenOf l inside text n k → IsTokenOf l inside text m j → (n ≡ m) × (k ≡ j)
  one_token Name x y = let e : n ≡ m = x.longest ∙ sym y.longest in (e, x.is ∙ (ap (λ i. NameKind (take i text)) e ∙ sym y.is))
  one_token Number x y = one_number x y
  one_token Duration x y = one_duration x y
  one_token Text x y = one_text x y
  one_token Sign x y =
      let s = same_sign (sign_at text) x.sign y.sign n m (sign_known text x.sign n x.longest x.whole) (sign_known text y.sign m y.longest y.whole) in
      (s.1, x.is ∙ (ap SignKind s.0 ∙ sym y.is))

module _ (inside : Bool) (text : List ℕ) (n place : ℕ) (token : TokenKind) (kind : LexKind) where
  number_excludes : IsNumber text n token → IsNumberFault text place kind → ⊥
  number_excludes x y =
      let e = number_end text n y.end x.longest y.longest in
      let h : reads (take y.end text) ≡ Ok x.value = ap (λ i. reads (take i text)) (sym e) ∙ x.whole in
      subst (λ r. NumberFault r y.end place kind) h y.fault

  span_whole : (end : ℕ) (x : IsDuration text n token) → spans.IsBadPlace text end → spans.ReadsSpan (take end text) x.ms
  span_whole end x b = subst (λ i. spans.ReadsSpan (take i text) x.ms) (span_end text n end x.longest b) x.whole

  above_none : (a b : ℕ) → a ≡ b → a ≤ 2 ^ 40 → 2 ^ 40 < b → ⊥
  above_none a b e h k = omega arith

  duration_excludes : (k : LexKind) (end : ℕ) (x : IsDuration text n token) → spans.IsBadPlace text end → DurationFault k text end place → ⊥
  duration_excludes BadSpan end x b f = f.1 x.ms (span_whole end x b)
  duration_excludes SpanTooLong end x b f = above_none x.ms f.1.0 (one_span (take end text) x.ms f.1.0 (span_whole end x b) f.1.1) x.fits f.1.2
  duration_excludes k end x b f = f

  text_excludes : IsText text n token → IsTextFault text place kind → ⊥
  text_excludes x y = y.broken x.content (subst (λ i. strings.IsString text x.content (drop i text)) (string_end text n y.end x.longest y.longest) x.whole)

  pub token_excludes_fault : (l : Lexeme) → IsTokenOf l inside text n token → IsFaultOf l text place kind → ⊥
  token_excludes_fault Name x y = y
  token_excludes_fault Number x y = number_excludes x y
  token_excludes_fault Duration x y = duration_excludes kind y.end x y.longest y.fault
  token_excludes_fault Text x y = text_excludes x y
  token_excludes_fault Sign x y = let b = x.longest in y.none x.sign b.begins

module _ (text : List ℕ) (p q : ℕ) where
  same_number_fault : (r : Result Num NumFault) (end : ℕ) (k j : LexKind) → NumberFault r end p k → NumberFault r end q j → (p ≡ q) × (k ≡ j)
  same_number_fault (Ok v) end k j x y = absurd x
  same_number_fault (Err NotNumber) end k j x y = (x.0 ∙ sym y.0, x.1 ∙ sym y.1)
  same_number_fault (Err WideNumber) end k j x y = (x.0 ∙ sym y.0, x.1 ∙ sym y.1)

  same_duration_fault : (end : ℕ) (k j : LexKind) → DurationFault k text end p → DurationFault j text end q → (p ≡ q) × (k ≡ j)
  same_duration_fault end BadSpan BadSpan x y = (x.0 ∙ sym y.0, refl)
  same_duration_fault end BadSpan SpanTooLong x y = absurd (x.1 y.1.0 y.1.1)
  same_duration_fault end SpanTooLong BadSpan x y = absurd (y.1 x.1.0 x.1.1)
  same_duration_fault end SpanTooLong SpanTooLong x y = (x.0 ∙ sym y.0, refl)
  same_duration_fault end BadSpan j x y = absurd y
  same_duration_fault end SpanTooLong j x y = absurd y
  same_duration_fault end k j x y = absurd x

  same_text_fault : (end : ℕ) (k j : LexKind) → TextFault k text end p → TextFault j text end q → (p ≡ q) × (k ≡ j)
  same_text_fault end OpenText OpenText x y = (x.0 ∙ sym y.0, refl)
  same_text_fault end OpenText BadEscape x y = absurd (y.1 x.1)
  same_text_fault end BadEscape OpenText x y = absurd (x.1 y.1)
  same_text_fault end BadEscape BadEscape x y = (x.0 ∙ sym y.0, refl)
  same_text_fault end OpenText j x y = absurd y
  same_text_fault end BadEscape j x y = absurd y
  same_text_fault end k j x y = absurd x

  pub one_fault_of : (l : Lexeme) (k j : LexKind) → IsFaultOf l text p k → IsFaultOf l text q j → (p ≡ q) × (k ≡ j)
  one_fault_of Name k j x y = absurd x
  one_fault_of Number k j x y = same_number_fault (reads (take y.end text)) y.end k j (subst (λ i. NumberFault (reads (take i text)) i p k) (number_end text x.end y.end x.longest y.longest) x.fault) y.fault
  one_fault_of Duration k j x y = same_duration_fault y.end k j (subst (λ i. DurationFault k text i p) (span_end text x.end y.end x.longest y.longest) x.fault) y.fault
  one_fault_of Text k j x y = same_text_fault y.end k j (subst (λ i. TextFault k text i p) (string_end text x.end y.end x.longest y.longest) x.fault) y.fault
  one_fault_of Sign k j x y = (x.after ∙ sym y.after, x.is ∙ sym y.is)

same_gap : (a : Part) (n m : ℕ) → a ≡ Gap n → a ≡ Gap m → m ≡ n
same_gap a n m e h = cc

same_lexeme : (a : Part) (l k : Lexeme) → a ≡ TokenPart l → a ≡ TokenPart k → k ≡ l
same_lexeme a l k e h = cc

end_gap : (a : Part) (n : ℕ) → a ≡ End → a ≡ Gap n → ⊥
end_gap a n e h = cc

end_token : (a : Part) (l : Lexeme) → a ≡ End → a ≡ TokenPart l → ⊥
end_token a l e h = cc

gap_token : (a : Part) (n : ℕ) (l : Lexeme) → a ≡ Gap n → a ≡ TokenPart l → ⊥
gap_token a n l e h = cc

-- the same list begun by the same token
same_list : (inside : Bool) (at : ℕ) (text : List ℕ) (n m : ℕ) (k j : TokenKind) (ts us : List Token) → (m ≡ n) × (j ≡ k) →
    (AreTokens (inside_after inside k) (at + n) (drop n text) us → ts ≡ us) → AreTokens (inside_after inside j) (at + m) (drop m text) us →
    record { start = at; end = at + n; kind = k } ∷ ts ≡ record { start = at; end = at + m; kind = j } ∷ us
same_list inside at text n m k j ts us e same d =
    let h = subst (λ i. AreTokens (inside_after inside k) (at + i) (drop i text) us) e.0 (subst (λ i. AreTokens (inside_after inside i) (at + m) (drop m text) us) e.1 d) in
    rw (e.0, e.1, same h) refl

pub one_list : {inside : Bool} {at : ℕ} {text : List ℕ} {ts us : List Token} → AreTokens inside at text ts → AreTokens inside at text us → ts ≡ us
one_list (no_more e) (no_more h) = refl
one_list (no_more e) (past_gap n h d) = absurd (end_gap _ n e h)
one_list (no_more e) (one_more n k l h x d) = absurd (end_token _ l e h)
one_list (past_gap n e c) (no_more h) = absurd (end_gap _ n h e)
one_list {inside} {at} {text} {us = us} (past_gap n e c) (past_gap m h d) = one_list c (subst (λ i. AreTokens inside (at + i) (drop i text) us) (same_gap _ n m e h) d)
one_list (past_gap n e c) (one_more m k l h x d) = absurd (gap_token _ n l e h)
one_list (one_more n k l e x c) (no_more h) = absurd (end_token _ l h e)
one_list (one_more n k l e x c) (past_gap m h d) = absurd (gap_token _ m l h e)
one_list {inside} {at} {text} (one_more n k l e x c) (one_more m j o h y d) =
    same_list inside at text n m k j _ _ (one_token inside text m n j k l (subst (λ i. IsTokenOf i inside text m j) (same_lexeme _ l o e h) y) x) (λ z. one_list c z) d

-- what goes on after the same token
moved_fault : (inside : Bool) (at place : ℕ) (text : List ℕ) (kind : LexKind) (n m : ℕ) (k j : TokenKind) → (m ≡ n) × (j ≡ k) →
    IsFirstFault (inside_after inside j) (at + m) (drop m text) place kind → IsFirstFault (inside_after inside k) (at + n) (drop n text) place kind
moved_fault inside at place text kind n m k j e d =
    subst (λ i. IsFirstFault (inside_after inside k) (at + i) (drop i text) place kind) e.0 (subst (λ i. IsFirstFault (inside_after inside i) (at + m) (drop m text) place kind) e.1 d)

pub not_both : {inside : Bool} {at place : ℕ} {text : List ℕ} {ts : List Token} {kind : LexKind} → AreTokens inside at text ts → IsFirstFault inside at text place kind → ⊥
not_both (no_more e) (fault_here p l h x) = end_token _ l e h
not_both (no_more e) (fault_past_gap n h d) = end_gap _ n e h
not_both (no_more e) (fault_past_token n k l h x d) = end_token _ l e h
not_both (past_gap n e c) (fault_here p l h x) = gap_token _ n l e h
not_both {inside} {at} {place} {text} {kind = kind} (past_gap n e c) (fault_past_gap m h d) = not_both c (subst (λ i. IsFirstFault inside (at + i) (drop i text) place kind) (same_gap _ n m e h) d)
not_both (past_gap n e c) (fault_past_token m k l h x d) = gap_token _ n l e h
not_both {inside} {text = text} {kind = kind} (one_more n k l e x c) (fault_here p o h y) = token_excludes_fault inside text n p k kind l x (subst (λ i. IsFaultOf i text p kind) (same_lexeme _ l o e h) y)
not_both (one_more n k l e x c) (fault_past_gap m h d) = gap_token _ m l h e
not_both {inside} {at} {place} {text} {kind = kind} (one_more n k l e x c) (fault_past_token m j o h y d) =
    not_both c (moved_fault inside at place text kind n m k j (one_token inside text m n j k l (subst (λ i. IsTokenOf i inside text m j) (same_lexeme _ l o e h) y) x) d)

pub one_fault : {inside : Bool} {at p q : ℕ} {text : List ℕ} {k j : LexKind} → IsFirstFault inside at text p k → IsFirstFault inside at text q j → (p ≡ q) × (k ≡ j)
one_fault {at = at} {text = text} {k = k} {j = j} (fault_here p l e x) (fault_here q o h y) =
    let s = one_fault_of text p q l k j x (subst (λ i. IsFaultOf i text q j) (same_lexeme _ l o e h) y) in (ap (λ i. at + i) s.0, s.1)
one_fault (fault_here p l e x) (fault_past_gap n h d) = absurd (gap_token _ n l h e)
one_fault {inside} {text = text} {k = k} (fault_here p l e x) (fault_past_token n t o h y d) = absurd (token_excludes_fault inside text n p t k o y (subst (λ i. IsFaultOf i text p k) (same_lexeme _ o l h e) x))
one_fault (fault_past_gap n e c) (fault_here p l h x) = absurd (gap_token _ n l e h)
one_fault {inside} {at} {q = q} {text = text} {j = j} (fault_past_gap n e c) (fault_past_gap m h d) = one_fault c (subst (λ i. IsFirstFault inside (at + i) (drop i text) q j) (same_gap _ n m e h) d)
one_fault (fault_past_gap n e c) (fault_past_token m t l h x d) = absurd (gap_token _ n l e h)
one_fault {inside} {text = text} {j = j} (fault_past_token n t l e x c) (fault_here p o h y) = absurd (token_excludes_fault inside text n p t j l x (subst (λ i. IsFaultOf i text p j) (same_lexeme _ l o e h) y))
one_fault (fault_past_token n t l e x c) (fault_past_gap m h d) = absurd (gap_token _ m l h e)
one_fault {inside} {at} {q = q} {text = text} {j = j} (fault_past_token n t l e x c) (fault_past_token m u o h y d) =
    one_fault c (moved_fault inside at q text j n m t u (one_token inside text m n u t l (subst (λ i. IsTokenOf i inside text m u) (same_lexeme _ l o e h) y) x) d)
