-- A space ends each token: its bytes before a space and anything are the same token again.
use Rattle.std.proofs.Common.{◌≡◌, ℕ, suc, ◌+◌, ◌-◌, ◌<◌, List, [], ◌∷◌, ◌++◌, Bool, true, false, Option, Some, None, Ok, length, take, drop, cond, refl, ap, sym, ◌∙◌, subst, arith, length-append}
use Rattle.std.specs.Prelude.{if◌then◌else◌, ◌==◌}
use Rattle.std.specs.List.{prefix_len}
use Rattle.std.proofs.lemmas.List.{length-map, map-append}
use Rattle.std.proofs.Math.Seq.{take-append_seam}
use Rattle.pr_time.specs.pr_forms.Form.{rule, Reads}
use Rattle.pr_time.specs.pr_forms.Run.{ReaderOutcome, left_of}
use Rattle.pr_time.proofs.FormsEnding.{rule_answered}
use Rattle.pr_time.proofs.FormsPlaces.{run_place}
use Rattle.pr_time.proofs.FormsParts.{other_rest}
use Rattle.pr_time.proofs.FormsDecided.{Agrees, same, goes_on, agrees, rule_decides}
use Rattle.pr_num.specs.Reads.{reads}
use Rattle.pr_time.specs.SpanText as spans
use Rattle.pr_labels.specs.pr_words.Strings as strings
use Rattle.pr_labels.specs.pr_words.StringTable as string_tables
use Rattle.pr_labels.proofs.WordsStringTable as string_table
use Rattle.pr_labels.proofs.WordsStringEnds as string_ends
use Rattle.pr_ast.specs.declared.lex.part.Lexeme.{Lexeme}
use Rattle.pr_ast.specs.declared.lex.part.Lexeme.TheVariants.{Name, Number, Duration, Text, Sign}
use Rattle.pr_ast.specs.declared.lex.token.TokenKind.{TokenKind}
use Rattle.pr_ast.specs.declared.lex.token.TokenKind.TheVariants.{Name as NameKind}
use Rattle.pr_ast.specs.declared.lex.token.Sign.{Sign as SignName}
use Rattle.pr_ast.specs.Number as numbers
use Rattle.pr_ast.specs.Bytes.{is_of, name_class}
use Rattle.pr_ast.specs.Tokens.{IsTokenOf}
use Rattle.pr_ast.specs.SignAt.{two_byte_sign, longer_sign, longest_sign, sign_at}
use Rattle.pr_ast.proofs.Unique.{no_longer_string}
use Rattle.pr_ast.proofs.Ordered.{same_length}
use Rattle.pr_ast.proofs.Untaken.{Untaken, drop_front, bytes_end_before}
use Rattle.pr_ast.proofs.LongestSigns.{taken}
use Rattle.pr_ast.proofs.TakenSigns.{sign_known}

-- no test of numbers and of durations takes a space
number_tests : (n : numbers.Rule) → Untaken (numbers.letter_of 32) (numbers.production n)
number_tests numbers.Number = ((refl, tt), (tt, tt))
number_tests numbers.Tail = (tt, tt)
number_tests numbers.Fraction = ((refl, (refl, tt)), tt)
number_tests numbers.Power = ((refl, tt), tt)
number_tests numbers.Exponent = ((refl, tt), tt)
number_tests numbers.Digits = (refl, refl)

span_tests : (n : spans.Rule) → Untaken (spans.letter_of 32) (spans.production n)
span_tests spans.Text = ((refl, tt), ((refl, refl), tt))
span_tests spans.AfterZero = ((refl, tt), tt)
span_tests (spans.After u) = (((refl, refl), tt), tt)
span_tests spans.NoUnit = refl
span_tests (spans.From u) = grind arith
span_tests spans.AfterM = ((refl, tt), (tt, tt))

-- the front stays where the rest is another one
front_stays : (front r s : List ℕ) → take (length front) (front ++ s) ≡ take (length front) (front ++ r)
front_stays front r s = take-append_seam front s ∙ sym (take-append_seam front r)

-- names
no_name : (inside : Bool) → is_of (name_class inside) 32 ≡ false
no_name true = refl
no_name false = refl

longer_name : (p : ℕ → Bool) (b : ℕ) (front r s : List ℕ) → (length front ≡ prefix_len p (front ++ r) → length front ≡ prefix_len p (front ++ s)) → (x : Bool) →
    suc (length front) ≡ cond x (1 + prefix_len p (front ++ r)) 0 → suc (length front) ≡ cond x (1 + prefix_len p (front ++ s)) 0
longer_name p b front r s again true e = let h = again (omega (arith, e)) in omega (arith, h)
longer_name p b front r s again false e = absurd (omega (arith, e))

same_front : (p : ℕ → Bool) (c : ℕ) (front r more : List ℕ) → p c ≡ false → length front ≡ prefix_len p (front ++ r) → length front ≡ prefix_len p (front ++ c ∷ more)
same_front p c [] r more not_c e = rw not_c refl
same_front p c (b ∷ front) r more not_c e = longer_name p b front r (c ∷ more) (same_front p c front r more not_c) (p b) e

-- signs
no_second : (w x y z : Bool) → ◌≡◌ {A = Option SignName} (if w then None else (if x then None else (if y then None else (if z then None else None)))) None
no_second true x y z = refl
no_second false true y z = refl
no_second false false true z = refl
no_second false false false true = refl
no_second false false false false = refl

no_space : (a : ℕ) → two_byte_sign a 32 ≡ None
no_space a = no_second (a == 33) (a == 61) (a == 60) (a == 62)

one_sign : (a : ℕ) (o : Option SignName) (s : SignName) → longest_sign a o ≡ Ok (s, 1) → longest_sign a None ≡ Ok (s, 1)
one_sign a None s e = e
one_sign a (Some t) s e = let h = same_length t s 2 1 e in absurd (omega (arith, h))

same_sign : (front r more : List ℕ) (s : SignName) → 0 < length front → sign_at (front ++ r) ≡ Ok (s, length front) → sign_at (front ++ 32 ∷ more) ≡ Ok (s, length front)
same_sign [] r more s pos e = absurd (omega (arith, pos))
same_sign (a ∷ []) r more s pos e = ap (longest_sign a) (no_space a) ∙ one_sign a (longer_sign a r) s e
same_sign (a ∷ b ∷ front) r more s pos e = e

-- strings
left_is : {o : ReaderOutcome strings.Letter strings.StringValue} {c : List ℕ} {s : List strings.Letter} → Agrees string_tables.table (rule strings.Text) o (strings.content c) s → left_of o ≡ s
left_is same = refl
left_is (goes_on i) = absurd (no_longer_string _ i.is)

module _ (content front r s : List ℕ) (d : strings.IsString (front ++ r) content (drop (length front) (front ++ r))) where
  letters : Reads strings.production (rule strings.Text) (strings.seen front ++ strings.seen r) (strings.content content) (strings.seen r)
  letters = subst (λ ts. Reads strings.production (rule strings.Text) ts (strings.content content) (strings.seen r)) (map-append strings.letter_of front r)
      (subst (λ x. strings.IsString (front ++ r) content x) (drop_front front r) d)

  string_again : strings.IsString (front ++ s) content s
  string_again = subst (λ ts. Reads strings.production (rule strings.Text) ts (strings.content content) (strings.seen s)) (sym (map-append strings.letter_of front s))
      (other_rest strings.production (rule strings.Text) (strings.seen front) (strings.seen r) (strings.seen s) (strings.content content) letters)

  string_ends_again : strings.IsBadPlace (front ++ s) (length front)
  string_ends_again =
      let a = rule_answered strings.production string_tables.table string_table.known string_tables.rank string_tables.steps string_ends.ends strings.Text (strings.seen (front ++ s)) in
      let left : left_of a.outcome ≡ strings.seen s = left_is (agrees strings.production string_tables.table string_table.known (rule_decides string_tables.table strings.Text) a.runs string_again) in
      let l : length (strings.seen (front ++ s)) - length (left_of a.outcome) ≡ length front =
      rw left (omega (arith, length-map (front ++ s) strings.letter_of, length-map s strings.letter_of, length-append front s)) in
      subst (λ k. strings.IsBadPlace (front ++ s) k) l (run_place strings.production string_tables.table string_table.known strings.Text (strings.seen (front ++ s)) a.outcome a.runs)

-- each kind of token
module _ (inside : Bool) (front r more : List ℕ) (token : TokenKind) (pos : 0 < length front) where
  pub token_again : (l : Lexeme) → IsTokenOf l inside (front ++ r) (length front) token → IsTokenOf l inside (front ++ 32 ∷ more) (length front) token
  token_again Name x = record {
    longest = same_front (is_of (name_class inside)) 32 front r more (no_name inside) x.longest;
    is = x.is ∙ ap NameKind (sym (front_stays front r (32 ∷ more)));
  }
  token_again Number x = record {
    longest = bytes_end_before numbers.letter_of numbers.production 32 number_tests numbers.Number front r more x.longest;
    value = x.value;
    whole = ap reads (front_stays front r (32 ∷ more)) ∙ x.whole;
    is = x.is;
  }
  token_again Duration x = record {
    longest = bytes_end_before spans.letter_of spans.production 32 span_tests spans.Text front r more x.longest;
    ms = x.ms;
    whole = subst (λ t. spans.ReadsSpan t x.ms) (sym (front_stays front r (32 ∷ more))) x.whole;
    fits = x.fits;
    is = x.is;
  }
  token_again Text x = record {
    longest = string_ends_again x.content front r (32 ∷ more) x.whole;
    content = x.content;
    whole = subst (λ t. strings.IsString (front ++ 32 ∷ more) x.content t) (sym (drop_front front (32 ∷ more))) (string_again x.content front r (32 ∷ more) x.whole);
    is = x.is;
  }
  token_again Sign x =
      let k = taken (front ++ 32 ∷ more) x.sign (length front) (same_sign front r more x.sign pos (sign_known (front ++ r) x.sign (length front) x.longest x.whole)) in
      record { sign = x.sign; longest = k.1; whole = k.0; is = x.is }
