-- The tokens of a text lie in it in their order.
use Rattle.std.proofs.Common.{suc, true, false, ◌∙◌, cond, inl, inr, ap, ◌-◌, ◌≡◌, ℕ, ◌+◌, ◌<◌, ◌≤◌, List, [], ◌∷◌, Bool, Option, Some, None, Result, Ok, length, drop, arith, sym, subst, length-drop, refl}
use Rattle.std.proofs.lemmas.List.{length-map, drop-drop}
use Rattle.std.proofs.lemmas.List.Sums.{prefix_len-le-length}
use Rattle.std.proofs.lemmas.Bool.Decides.{nat_tests}
use Rattle.std.specs.Prelude.{if◌then◌else◌, ◌==◌}
use Rattle.std.specs.List.{prefix_len}
use Rattle.pr_labels.specs.pr_words.Bytes.{is_whitespace}
use Rattle.pr_ast.specs.declared.lex.part.Class.TheVariants.{Whitespace, Line}
use Rattle.pr_time.specs.pr_forms.Form.{Reads, rule, is_rule, is_left, is_right, is_pair, is_token}
use Rattle.pr_time.proofs.FormsSuffixes.{reads_suffix, suffix_length}
use Rattle.pr_labels.specs.pr_words.Strings.{production, Text as StringText, Letter, letter_of, seen, StringValue}
use Rattle.pr_time.specs.SpanText as spans
use Rattle.pr_ast.specs.Number as numbers
use Rattle.pr_ast.specs.declared.lex.token.Token.{Token}
use Rattle.pr_ast.specs.declared.lex.token.TokenKind.{TokenKind}
use Rattle.pr_ast.specs.declared.lex.token.Sign.{Sign as SignName}
use Rattle.pr_ast.specs.declared.lex.part.Lexeme.{Lexeme}
use Rattle.pr_ast.specs.declared.lex.part.Lexeme.TheVariants.{Name, Number, Duration, Text, Sign}
use Rattle.pr_ast.specs.declared.lex.part.Part.TheVariants.{End, Gap, Token as TokenPart}
use Rattle.pr_ast.specs.Bytes.{part_at, is_of, front_len, name_class}
use Rattle.pr_ast.specs.Tokens.{IsTokenOf, AreTokens, no_more, past_gap, one_more}
use Rattle.pr_ast.specs.SignAt.{sign_at, longer_sign, longest_sign, shorter_sign, one_byte_sign}
use Rattle.pr_ast.specs.private.Order.{AreGaps, no_gap, a_whitespace, a_comment, AreInOrder, none_left, next_token}
use Rattle.pr_ast.proofs.Firsts.{name_long, number_long, span_long, gap_is, gap_within}
use Rattle.pr_ast.proofs.TakenSigns.{sign_known}

no_empty_string : (ts rest : List Letter) (v : StringValue) → Reads production (rule StringText) ts v rest → length rest < length ts
no_empty_string ts rest v (is_rule (is_left (is_pair (is_token e) d))) = let s = suffix_length (reads_suffix d) in omega arith
no_empty_string ts rest v (is_rule (is_right (is_left (is_pair (is_token e) d)))) = let s = suffix_length (reads_suffix d) in omega arith
no_empty_string ts rest v (is_rule (is_right (is_right (is_pair (is_token e) d)))) = let s = suffix_length (reads_suffix d) in omega arith

pub record IsPart (text : List ℕ) (n : ℕ) : Type 0 where
  pub long : 0 < n
  pub within : n ≤ length text

pub same_length : (s t : SignName) (n m : ℕ) → ◌≡◌ {A = Result (SignName × ℕ) ℕ} (Ok (s, n)) (Ok (t, m)) → n ≡ m
same_length s t n m e = let p : ◌≡◌ {A = SignName × ℕ} (s, n) (t, m) = cc in ap (λ x. x.1) p

alone_part : (a : ℕ) (rest : List ℕ) (s : SignName) (n : ℕ) (o : Option SignName) → shorter_sign a o ≡ Ok (s, n) → IsPart (a ∷ rest) n
alone_part a rest s n (Some t) e = let h = same_length t s 1 n e in record { long = omega (arith, h); within = omega (arith, h) }
alone_part a rest s n None e = cc

pair_part : (a b : ℕ) (rest : List ℕ) (s : SignName) (n : ℕ) (o : Option SignName) → longest_sign a o ≡ Ok (s, n) → IsPart (a ∷ b ∷ rest) n
pair_part a b rest s n (Some t) e = let h = same_length t s 2 n e in record { long = omega (arith, h); within = omega (arith, h) }
pair_part a b rest s n None e = alone_part a (b ∷ rest) s n (one_byte_sign a) e

sign_part : (text : List ℕ) (s : SignName) (n : ℕ) → sign_at text ≡ Ok (s, n) → IsPart text n
sign_part [] s n e = cc
sign_part (a ∷ []) s n e = alone_part a [] s n (one_byte_sign a) e
sign_part (a ∷ b ∷ rest) s n e = pair_part a b rest s n (longer_sign a (b ∷ rest)) e

pub token_part : (l : Lexeme) (inside : Bool) (text : List ℕ) (n : ℕ) (token : TokenKind) → part_at inside text ≡ TokenPart l → IsTokenOf l inside text n token → IsPart text n
token_part Name inside text n token e x = record {
  long = subst (λ k. 0 < k) (sym x.longest) (name_long inside text e);
  within = subst (λ k. k ≤ length text) (sym x.longest) (prefix_len-le-length (is_of (name_class inside)) text);
}
token_part Number inside text n token e x = record { long = number_long text n x.value x.whole; within = let w = x.longest.within in omega (arith, w, length-map text numbers.letter_of) }
token_part Duration inside text n token e x = record { long = span_long text n x.ms x.whole; within = let w = x.longest.within in omega (arith, w, length-map text spans.letter_of) }
token_part Text inside text n token e x = record {
  long = let h = no_empty_string (seen text) (seen (drop n text)) _ x.whole in omega (arith, h, length-map text letter_of, length-map (drop n text) letter_of, length-drop n text);
  within = let w = x.longest.within in omega (arith, w, length-map text letter_of);
}
token_part Sign inside text n token e x = sign_part text x.sign n (sign_known text x.sign n x.longest x.whole)

-- what is passed over between tokens
gaps_trans : {a b c : List ℕ} → AreGaps a b → AreGaps b c → AreGaps a c
gaps_trans no_gap y = y
gaps_trans (a_whitespace e x) y = a_whitespace e (gaps_trans x y)
gaps_trans (a_comment x) y = a_comment (gaps_trans x y)

pub drop_one : (n k b : ℕ) (rest : List ℕ) → n ≡ 1 + k → drop n (b ∷ rest) ≡ drop k rest
drop_one n k b rest e = let h : n ≡ suc k = omega (arith, e) in rw h refl

pub one_longer : (p : ℕ → Bool) (b : ℕ) (rest : List ℕ) → p b ≡ true → prefix_len p (b ∷ rest) ≡ 1 + prefix_len p rest
one_longer p b rest e = rw e refl

whitespace_from : (b : ℕ) (rest : List ℕ) → AreGaps rest (drop (front_len Whitespace rest) rest) → (x : Bool) → is_whitespace b ≡ x → AreGaps (b ∷ rest) (drop (front_len Whitespace (b ∷ rest)) (b ∷ rest))
whitespace_from b rest tail true e =
    subst (λ t. AreGaps (b ∷ rest) t) (sym (drop_one (front_len Whitespace (b ∷ rest)) (front_len Whitespace rest) b rest (one_longer (is_of Whitespace) b rest e))) (a_whitespace e tail)
whitespace_from b rest tail false e = subst (λ x. AreGaps (b ∷ rest) (drop (cond x (1 + front_len Whitespace rest) 0) (b ∷ rest))) (sym e) no_gap

all_whitespace : (text : List ℕ) → AreGaps text (drop (front_len Whitespace text) text)
all_whitespace [] = no_gap
all_whitespace (b ∷ rest) = whitespace_from b rest (all_whitespace rest) (is_whitespace b) refl

hash : (b : ℕ) → (b == 35) ≡ true → b ≡ 35
hash b h = grind (arith, nat_tests)

comment : (b : ℕ) (rest : List ℕ) → b ≡ 35 → AreGaps (b ∷ rest) (drop (front_len Line (b ∷ rest)) (b ∷ rest))
comment b rest e = subst (λ c. AreGaps (c ∷ rest) (drop (front_len Line (c ∷ rest)) (c ∷ rest))) (sym e)
    (subst (λ t. AreGaps (35 ∷ rest) t) (sym (drop_one (front_len Line (35 ∷ rest)) (front_len Line rest) 35 rest (one_longer (is_of Line) 35 rest refl))) (a_comment no_gap))

pub gap_is_gaps : (inside : Bool) (text : List ℕ) (n : ℕ) → part_at inside text ≡ Gap n → AreGaps text (drop n text)
gap_is_gaps inside [] n e = cc
gap_is_gaps inside (b ∷ rest) n e = elim (gap_is (b ∷ rest) (is_whitespace b) (b == 35) _ _ n _ e) [
  | inl x ↦ subst (λ k. AreGaps (b ∷ rest) (drop k (b ∷ rest))) x.1 (all_whitespace (b ∷ rest))
  | inr x ↦ subst (λ k. AreGaps (b ∷ rest) (drop k (b ∷ rest))) x.1 (comment b rest (hash b x.0))
]

over_past : (x y : Bool) (g h : ℕ) (l : Lexeme) → (if x then Gap g else (if y then Gap h else TokenPart l)) ≡ End → ⊥
over_past true y g h l e = cc
over_past false true g h l e = cc
over_past false false g h l e = cc

ended : (inside : Bool) (text : List ℕ) → part_at inside text ≡ End → text ≡ []
ended inside [] e = refl
ended inside (b ∷ rest) e = absurd (over_past (is_whitespace b) (b == 35) _ _ _ e)

module _ (whole : List ℕ) where
  pub next_text : (at n : ℕ) (text : List ℕ) → text ≡ drop at whole → drop n text ≡ drop (at + n) whole
  next_text at n text e = ap (λ t. drop n t) e ∙ drop-drop n at whole

  pub in_order : {inside : Bool} {at : ℕ} {text : List ℕ} {tokens : List Token} (from : ℕ) → text ≡ drop at whole → from ≤ at → at ≤ length whole → AreGaps (drop from whole) text →
      AreTokens inside at text tokens → AreInOrder whole from tokens
  in_order {inside} {at} {text} from is le within b (no_more e) = none_left (subst (λ t. AreGaps (drop from whole) t) (ended inside text e) b)
  in_order {inside} {at} {text} from is le within b (past_gap n e d) =
      let w = gap_within inside text n e in
      let l : length text ≡ length whole - at = ap length is ∙ length-drop at whole in
      in_order from (next_text at n text is) (omega arith) (omega (arith, w, l, within)) (gaps_trans b (gap_is_gaps inside text n e)) d
  in_order {inside} {at} {text} from is le within b (one_more n token l e x d) =
      let p = token_part l inside text n token e x in
      let w = p.within in
      let k : length text ≡ length whole - at = ap length is ∙ length-drop at whole in
      let end : at + n ≤ length whole = omega (arith, w, k, within) in
      next_token le (subst (λ t. AreGaps (drop from whole) t) is b) (omega (arith, p.long)) end
      (in_order (at + n) (next_text at n text is) (omega arith) end (subst (λ t. AreGaps t (drop n text)) (next_text at n text is) no_gap) d)
