-- Every text has its tokens, or a first fault.
use Rattle.std.proofs.Common.{◌≡◌, ℕ, zero, suc, ◌+◌, ◌-◌, ◌<◌, ◌≤◌, ◌^◌, List, [], ◌∷◌, Bool, false, Result, Ok, Err, length, take, drop, refl, ap, sym, ◌∙◌, subst, arith, inl, inr, length-drop}
use Rattle.std.specs.Prelude.{◌⊎◌}
use Rattle.std.proofs.lemmas.Bool.{cases_lt}
use Rattle.std.proofs.lemmas.List.{length-map, drop-map}
use Rattle.pr_time.specs.pr_forms.Form.{Reads, rule, is_stop, is_turn}
use Rattle.pr_time.specs.pr_forms.Run.{Runs, ReaderOutcome, good, bad, left_of}
use Rattle.pr_time.proofs.FormsEnding.{Answered, form_answered, rule_answered, consumes}
use Rattle.pr_time.proofs.FormsPlaces.{run_place}
use Rattle.pr_time.proofs.FormsSound.{meets, reads}
use Rattle.pr_time.proofs.FormsDecided.{Agrees, goes_on, agrees, rule_decides, decides_first, decides_turn}
use Rattle.pr_time.proofs.FormsSuffixes.{Suffix, here, there, suffix_trans, suffix_drop, suffix_length, reads_suffix, drop_suffix}
use Rattle.pr_num.specs.declared.value.Num.{Num}
use Rattle.pr_num.specs.declared.text.NumFault.{NumFault}
use Rattle.pr_num.specs.declared.text.NumFault.TheVariants.{NotNumber, TooWide as WideNumber}
use Rattle.pr_num.specs.Reads.{reads as number_reads}
use Rattle.pr_time.specs.SpanText as spans
use Rattle.pr_time.proofs.SpanTotal.{span_or_none, span_place}
use Rattle.pr_labels.specs.pr_words.declared.strings.kind.Mark.{Mark}
use Rattle.pr_labels.specs.pr_words.declared.strings.kind.StringByte.{StringByte}
use Rattle.pr_labels.specs.pr_words.declared.strings.kind.StringByte.TheVariants.{Quote}
use Rattle.pr_labels.specs.pr_words.Strings as strings
use Rattle.pr_labels.specs.pr_words.StringTable as string_tables
use Rattle.pr_labels.proofs.WordsStringTable as string_table
use Rattle.pr_labels.proofs.WordsStringEnds as string_ends
use Rattle.pr_labels.proofs.WordsStringOpen.{pieces_after, step_on, no_step, open_on}
use Rattle.pr_ast.specs.declared.lex.token.TokenKind.{TokenKind}
use Rattle.pr_ast.specs.declared.lex.token.TokenKind.TheVariants.{Name as NameKind, Number as NumberKind, Duration as DurationKind, Text as TextKind, Sign as SignKind}
use Rattle.pr_ast.specs.declared.lex.token.Token.{Token}
use Rattle.pr_ast.specs.declared.lex.token.Sign.{Sign as SignName}
use Rattle.pr_ast.specs.declared.lex.fault.LexKind.{LexKind}
use Rattle.pr_ast.specs.declared.lex.fault.LexKind.TheVariants.{BadChar, OpenText, BadEscape, BadNumber, TooWide, BadSpan, SpanTooLong}
use Rattle.pr_ast.specs.declared.lex.part.Lexeme.{Lexeme}
use Rattle.pr_ast.specs.declared.lex.part.Lexeme.TheVariants.{Name, Number, Duration, Text, Sign}
use Rattle.pr_ast.specs.declared.lex.part.Part.{Part}
use Rattle.pr_ast.specs.declared.lex.part.Part.TheVariants.{End, Gap, Token as TokenPart}
use Rattle.pr_ast.specs.Bytes.{part_at, front_len, name_class}
use Rattle.pr_ast.specs.Number as numbers
use Rattle.pr_ast.specs.NumberTable as number_tables
use Rattle.pr_ast.specs.Tokens.{IsTokenOf, IsFaultOf, AreTokens, no_more, past_gap, one_more, inside_after, IsFirstFault, fault_here, fault_past_gap, fault_past_token}
use Rattle.pr_ast.specs.SignAt.{sign_at}
use Rattle.pr_ast.proofs.NumberTable.{known}
use Rattle.pr_ast.proofs.NumberEnds as number_ends
use Rattle.pr_ast.proofs.Firsts.{gap_long, gap_within}
use Rattle.pr_ast.proofs.Ordered.{token_part}
use Rattle.pr_ast.proofs.Unique.{no_longer_string}
use Rattle.pr_ast.proofs.TakenSigns.{sign_is, fault_is}

-- A token, or a fault.
pub data IsReadable (l : Lexeme) (inside : Bool) (text : List ℕ) : Type 0 where
  has_token : (n : ℕ) (token : TokenKind) → IsTokenOf l inside text n token → IsReadable l inside text
  has_fault : (place : ℕ) (kind : LexKind) → IsFaultOf l text place kind → IsReadable l inside text

number_readable : (inside : Bool) (text : List ℕ) → IsReadable Number inside text
number_readable inside text = by_value (number_reads (take n text)) refl
  where
    a : Answered numbers.production number_tables.table (rule numbers.Number) (numbers.seen text)
    a = rule_answered numbers.production number_tables.table known number_ends.rank number_ends.steps number_ends.ends numbers.Number (numbers.seen text)

    n : ℕ
    n = length (numbers.seen text) - length (left_of a.outcome)

    end : numbers.IsNumberEnd text n
    end = run_place numbers.production number_tables.table known numbers.Number (numbers.seen text) a.outcome a.runs

    by_value : (r : Result Num NumFault) → number_reads (take n text) ≡ r → IsReadable Number inside text
    by_value (Ok v) e = has_token n (NumberKind v) (record { longest = end; value = v; whole = e; is = refl })
    by_value (Err NotNumber) e = has_fault n BadNumber (record { end = n; longest = end; fault = rw e (refl, refl) })
    by_value (Err WideNumber) e = has_fault 0 TooWide (record { end = n; longest = end; fault = rw e (refl, refl) })

duration_readable : (inside : Bool) (text : List ℕ) → IsReadable Duration inside text
duration_readable inside text = by_span (span_or_none (take n text))
  where
    n : ℕ
    n = (span_place text).0

    end : spans.IsBadPlace text n
    end = (span_place text).1

    by_width : (ms : ℕ) → spans.ReadsSpan (take n text) ms → (2 ^ 40 < ms) ⊎ (ms ≤ 2 ^ 40) → IsReadable Duration inside text
    by_width ms d (inl lt) = has_fault 0 SpanTooLong (record { end = n; longest = end; fault = (refl, (ms, d, lt)) })
    by_width ms d (inr le) = has_token n (DurationKind ms) (record { longest = end; ms = ms; whole = d; fits = le; is = refl })

    by_span : ((ms : ℕ) × spans.ReadsSpan (take n text) ms) ⊎ ((ms : ℕ) → spans.ReadsSpan (take n text) ms → ⊥) → IsReadable Duration inside text
    by_span (inl x) = by_width x.0 x.1 (cases_lt (2 ^ 40) x.0)
    by_span (inr h) = has_fault n BadSpan (record { end = n; longest = end; fault = (refl, h) })

-- whether whole pieces reach up to a target
abbrev Reach : Mark → strings.StringValue → List strings.Letter → List strings.Letter → Type 0
Reach m w ts target = (v : strings.StringValue) × Reads strings.production (pieces_after m w) ts v target

equal_suffixes : (ts target all : List strings.Letter) → Suffix ts all → Suffix target all → length ts ≡ length target → ts ≡ target
equal_suffixes ts target all s t e = sym (suffix_drop s) ∙ (ap (λ k. drop (length all - k) all) e ∙ suffix_drop t)

module _ (m : Mark) (target all : List strings.Letter) (t : Suffix target all) where
  abbrev Decided : strings.StringValue → List strings.Letter → Type 0
  Decided w ts = (Reach m w ts target) ⊎ (Reach m w ts target → ⊥)

  next_piece : (w x : strings.StringValue) (ts rest : List strings.Letter) → length target < length ts → Runs strings.production string_tables.table (strings.piece m) ts (good x rest) → Decided (strings.joined w x) rest → Decided w ts
  next_piece w x ts rest lt q (inl p) = inl (p.0, is_turn (reads (meets q)) p.1)
  next_piece w x ts rest lt q (inr h) = inr (λ p. h (p.0, step_on m w x p.0 ts rest target q lt p.1))

  by_piece : (w : strings.StringValue) (ts : List strings.Letter) → Suffix ts all → ((v : strings.StringValue) (us : List strings.Letter) → length us < length ts → Suffix us all → Decided v us) →
      length target < length ts → (o : ReaderOutcome strings.Letter strings.StringValue) → Runs strings.production string_tables.table (strings.piece m) ts o → Decided w ts
  by_piece w ts s again lt (bad rest) q = inr (λ p. no_step m w p.0 ts rest target q lt p.1)
  by_piece w ts s again lt (good x rest) q =
      let d = reads (meets q) in
      next_piece w x ts rest lt q (again (strings.joined w x) rest (consumes strings.production string_tables.table string_table.known d refl) (suffix_trans (reads_suffix d) s))

  at_target : (w : strings.StringValue) (ts : List strings.Letter) → Suffix ts all → length ts ≤ length target → (length ts < length target) ⊎ (length target ≤ length ts) → Decided w ts
  at_target w ts s ge (inl lt) = inr (λ p. let h = suffix_length (reads_suffix p.1) in absurd (omega arith))
  at_target w ts s ge (inr le) = inl (w, subst (λ r. Reads strings.production (pieces_after m w) ts w r) (equal_suffixes ts target all s t (omega arith)) is_stop)

  decided_by : (w : strings.StringValue) (ts : List strings.Letter) → Suffix ts all → ((v : strings.StringValue) (us : List strings.Letter) → length us < length ts → Suffix us all → Decided v us) → Decided w ts
  decided_by w ts s again =
      let a = form_answered strings.production string_tables.table string_table.known string_tables.rank string_tables.steps string_ends.ends (strings.piece m) ts (decides_turn string_tables.table (decides_first string_tables.table (string_table.known.decides (strings.Quoted m)))) (tt, (tt, refl)) in
      elim (cases_lt (length target) (length ts)) [ inl lt ↦ by_piece w ts s again lt a.outcome a.runs | inr ge ↦ at_target w ts s ge (cases_lt (length ts) (length target)) ]

  decided : (l : ℕ) (w : strings.StringValue) (ts : List strings.Letter) → length ts ≤ l → Suffix ts all → Decided w ts
  decided zero w ts le s = decided_by w ts s (λ v us lt u. absurd (omega arith))
  decided (suc l) w ts le s = decided_by w ts s (λ v us lt u. decided l v us (omega arith) u)

-- whether a string is open at a place
quoted_or_not : (b : ℕ) (rest : List ℕ) (n : ℕ) → n ≤ length (b ∷ rest) → (k : StringByte) → strings.kind_of b ≡ k → (strings.IsOpenAt (b ∷ rest) n) ⊎ (strings.IsOpenAt (b ∷ rest) n → ⊥)
quoted_or_not b rest n le (Quote m) e = by_reach (decided m (drop n (strings.seen (b ∷ rest))) (strings.seen (b ∷ rest)) (drop_suffix n _) (length (strings.seen rest)) (strings.content []) (strings.seen rest) (omega arith) (there here))
  where
    opening : strings.IsOpening (b ∷ rest) m rest
    opening = record { first = b; is = refl; opens = e }

    by_reach : (Reach m (strings.content []) (strings.seen rest) (drop n (strings.seen (b ∷ rest)))) ⊎ (Reach m (strings.content []) (strings.seen rest) (drop n (strings.seen (b ∷ rest))) → ⊥) →
        (strings.IsOpenAt (b ∷ rest) n) ⊎ (strings.IsOpenAt (b ∷ rest) n → ⊥)
    by_reach (inl p) = inl (record { quote = m; rest = rest; opening = opening; value = p.0; pieces = p.1 })
    by_reach (inr h) = inr (λ x. h (open_on (b ∷ rest) n le m rest opening x))
quoted_or_not b rest n le k e = inr (λ x. no_quote x.quote (other x.opening))
  where
    other : {q : Mark} {body : List ℕ} → strings.IsOpening (b ∷ rest) q body → k ≡ Quote q
    other o = let y = o.is in let h : b ≡ o.first = cc in sym e ∙ (ap strings.kind_of h ∙ o.opens)

    no_quote : (q : Mark) → k ≡ Quote q → ⊥
    no_quote q h = cc

open_or_not : (text : List ℕ) (n : ℕ) → n ≤ length text → (strings.IsOpenAt text n) ⊎ (strings.IsOpenAt text n → ⊥)
open_or_not [] n le = inr (λ x. let e = x.opening.is in cc)
open_or_not (b ∷ rest) n le = quoted_or_not b rest n le (strings.kind_of b) refl

text_broken : (inside : Bool) (text : List ℕ) (n : ℕ) → strings.IsBadPlace text n → ((content : List ℕ) → strings.IsString text content (drop n text) → ⊥) → n ≤ length text → IsReadable Text inside text
text_broken inside text n end broken le = elim (cases_lt n (length text)) [
  | inl lt ↦ by_open lt (open_or_not text n le)
  | inr ge ↦ let e : n ≡ length text = omega arith in has_fault 0 OpenText (record { end = n; longest = end; broken = broken; fault = (refl, inl e) })
]
  where
    by_open : n < length text → (strings.IsOpenAt text n) ⊎ (strings.IsOpenAt text n → ⊥) → IsReadable Text inside text
    by_open lt (inl o) = has_fault 0 OpenText (record { end = n; longest = end; broken = broken; fault = (refl, inr o) })
    by_open lt (inr h) = has_fault n BadEscape (record { end = n; longest = end; broken = broken; fault = (refl, λ x. elim x [ inl e ↦ absurd (omega arith) | inr o ↦ h o ]) })

no_mark : {c : List ℕ} {r s : List strings.Letter} → Agrees string_tables.table (rule strings.Text) (good strings.mark r) (strings.content c) s → ⊥
no_mark (goes_on i) = no_longer_string _ i.is

no_bad : {v : strings.StringValue} {r s : List strings.Letter} → Agrees string_tables.table (rule strings.Text) (bad r) v s → ⊥
no_bad (goes_on i) = no_longer_string _ i.is

text_readable : (inside : Bool) (text : List ℕ) → IsReadable Text inside text
text_readable inside text = let a = rule_answered strings.production string_tables.table string_table.known string_tables.rank string_tables.steps string_ends.ends strings.Text (strings.seen text) in by_outcome a.outcome a.runs
  where
    end : (o : ReaderOutcome strings.Letter strings.StringValue) → Runs strings.production string_tables.table (rule strings.Text) (strings.seen text) o → strings.IsBadPlace text (length (strings.seen text) - length (left_of o))
    end o q = run_place strings.production string_tables.table string_table.known strings.Text (strings.seen text) o q

    short : (o : ReaderOutcome strings.Letter strings.StringValue) → length (strings.seen text) - length (left_of o) ≤ length text
    short o = omega (arith, length-map text strings.letter_of)

    by_outcome : (o : ReaderOutcome strings.Letter strings.StringValue) → Runs strings.production string_tables.table (rule strings.Text) (strings.seen text) o → IsReadable Text inside text
    by_outcome (bad rest) q = text_broken inside text _ (end (bad rest) q) (λ c d. no_bad (agrees strings.production string_tables.table string_table.known (rule_decides string_tables.table strings.Text) q d)) (short (bad rest))
    by_outcome (good strings.mark rest) q =
        text_broken inside text _ (end (good strings.mark rest) q) (λ c d. no_mark (agrees strings.production string_tables.table string_table.known (rule_decides string_tables.table strings.Text) q d)) (short (good strings.mark rest))
    by_outcome (good (strings.content c) rest) q =
        let d = reads (meets q) in
        let n : ℕ = length (strings.seen text) - length rest in
        let is : rest ≡ strings.seen (drop n text) = sym (suffix_drop (reads_suffix d)) ∙ drop-map strings.letter_of n text in
        has_token n (TextKind c) (record {
          longest = end (good (strings.content c) rest) q;
          content = c;
          whole = subst (λ r. Reads strings.production (rule strings.Text) (strings.seen text) (strings.content c) r) is d;
          is = refl;
        })

sign_readable : (inside : Bool) (text : List ℕ) (r : Result (SignName × ℕ) ℕ) → sign_at text ≡ r → IsReadable Sign inside text
sign_readable inside text (Ok x) e = has_token x.1 (SignKind x.0) (sign_is text x.0 x.1 e)
sign_readable inside text (Err place) e = has_fault place BadChar (fault_is text place e)

readable : (l : Lexeme) (inside : Bool) (text : List ℕ) → IsReadable l inside text
readable Name inside text = has_token (front_len (name_class inside) text) (NameKind (take (front_len (name_class inside) text) text)) (record { longest = refl; is = refl })
readable Number inside text = number_readable inside text
readable Duration inside text = duration_readable inside text
readable Text inside text = text_readable inside text
readable Sign inside text = sign_readable inside text (sign_at text) refl

-- The tokens of a text that stands at a place, or its first fault.
pub data IsAnswered (inside : Bool) (at : ℕ) (text : List ℕ) : Type 0 where
  all_tokens : (tokens : List Token) → AreTokens inside at text tokens → IsAnswered inside at text
  first_fault : (place : ℕ) (kind : LexKind) → IsFirstFault inside at text place kind → IsAnswered inside at text

module _ (inside : Bool) (at : ℕ) (text : List ℕ) where
  after_gap : (n : ℕ) → part_at inside text ≡ Gap n → IsAnswered inside (at + n) (drop n text) → IsAnswered inside at text
  after_gap n e (all_tokens ts d) = all_tokens ts (past_gap n e d)
  after_gap n e (first_fault place kind d) = first_fault place kind (fault_past_gap n e d)

  after_token : (n : ℕ) (token : TokenKind) (l : Lexeme) → part_at inside text ≡ TokenPart l → IsTokenOf l inside text n token → IsAnswered (inside_after inside token) (at + n) (drop n text) → IsAnswered inside at text
  after_token n token l e x (all_tokens ts d) = all_tokens (record { start = at; end = at + n; kind = token } ∷ ts) (one_more n token l e x d)
  after_token n token l e x (first_fault place kind d) = first_fault place kind (fault_past_token n token l e x d)

  abbrev Goes : Type 0
  Goes = (i : Bool) (n : ℕ) → 0 < n → n ≤ length text → IsAnswered i (at + n) (drop n text)

  by_lexeme : Goes → (l : Lexeme) → part_at inside text ≡ TokenPart l → IsReadable l inside text → IsAnswered inside at text
  by_lexeme again l e (has_token n token x) = let p = token_part l inside text n token e x in after_token n token l e x (again (inside_after inside token) n p.long p.within)
  by_lexeme again l e (has_fault place kind x) = first_fault (at + place) kind (fault_here place l e x)

  by_part : Goes → (p : Part) → part_at inside text ≡ p → IsAnswered inside at text
  by_part again End e = all_tokens [] (no_more e)
  by_part again (Gap n) e = after_gap n e (again inside n (gap_long inside text n e) (gap_within inside text n e))
  by_part again (TokenPart l) e = by_lexeme again l e (readable l inside text)

up_to : (l : ℕ) (inside : Bool) (at : ℕ) (text : List ℕ) → length text ≤ l → IsAnswered inside at text
up_to zero inside at text le = by_part inside at text (λ i n pos short. absurd (omega arith)) (part_at inside text) refl
up_to (suc l) inside at text le = by_part inside at text (λ i n pos short. up_to l i (at + n) (drop n text) (omega (arith, length-drop n text))) (part_at inside text) refl

pub answer_of : (text : List ℕ) → IsAnswered false 0 text
answer_of text = up_to (length text) false 0 text (omega arith)
