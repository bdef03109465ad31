-- The spelling of strings: what is read whole, and goes on with nothing that follows, is read as
-- far as can be.
use Rattle.std.proofs.Common.{◌≡◌, ℕ, ◌-◌, ◌+◌, Bool, true, false, List, [], ◌∷◌, ◌++◌, length, refl, sym, subst, arith}
use Rattle.std.proofs.lemmas.List.{length-map}
use Rattle.pr_time.specs.pr_forms.Form.{Form, rule, Reads, IsFirstBad}
use Rattle.pr_time.specs.pr_forms.Table.{Table, IsDecided, is_more}
use Rattle.pr_time.specs.pr_forms.Run.{Runs, ReaderOutcome}
use Rattle.pr_time.proofs.FormsDecided.{rule_decides, Agrees, same, goes_on, agrees}
use Rattle.pr_time.proofs.FormsPlaces.{run_place}
use Rattle.pr_time.proofs.FormsEnding.{rule_answered}
use Rattle.pr_labels.specs.pr_words.Strings.{IsString, IsBadPlace, Letter, letter_of, seen, production, Text, content, StringValue}
use Rattle.pr_labels.specs.pr_words.Quoted.{quoted_text}
use Rattle.pr_labels.proofs.WordsStringTable.{known}
use Rattle.pr_labels.proofs.WordsStringEnds.{ends}
use Rattle.pr_labels.proofs.WordsWritten.{quoted_reads}
use Rattle.pr_labels.specs.pr_words.StringTable.{table, rank, steps}
use Rattle.pr_ast.specs.declared.lex.token.TokenKind.{TokenKind}
use Rattle.pr_ast.specs.declared.lex.token.TokenKind.TheVariants.{Text as TextKind}
use Rattle.pr_ast.specs.declared.lex.part.Lexeme.TheVariants.{Text as TextLexeme}
use Rattle.pr_ast.specs.declared.lex.part.Part.TheVariants.{Token as TokenPart}
use Rattle.pr_ast.specs.Bytes.{part_at}
use Rattle.pr_ast.specs.private.Spelled.{Spells, a_token}
use Rattle.pr_ast.proofs.Spelling.{drop_front}

module _ {T N V : Type 0} (G : N → Form T N V) (S : Table T N) (known : IsDecided G S) (n : N) (ts : List T) where
  place_of : {o : ReaderOutcome T V} {w : V} {rest : List T} → Agrees S (rule n) o w rest → is_more {V = V} S (rule n) rest ≡ false → Runs G S (rule n) ts o → IsFirstBad G (rule n) ts (length ts - length rest)
  place_of same e q = run_place G S known n ts _ q
  place_of (goes_on m) e q = let h = m.is in absurd (cc)

  -- a reading that nothing of its rest goes on is the longest one
  pub longest : (rest : List T) (o : ReaderOutcome T V) (w : V) → Runs G S (rule n) ts o → Reads G (rule n) ts w rest → is_more {V = V} S (rule n) rest ≡ false → IsFirstBad G (rule n) ts (length ts - length rest)
  longest rest o w q d e = place_of (agrees G S known (rule_decides S n) q d) e q

no_more_string : (ts : List Letter) → is_more {V = StringValue} table (rule Text) ts ≡ false
no_more_string [] = refl
no_more_string (t ∷ ts) = refl

pub front_length : (xs ys : List ℕ) → length (xs ++ ys) ≡ length xs + length ys
front_length [] ys = omega arith
front_length (x ∷ xs) ys = let h = front_length xs ys in omega (arith, h)

pub string_end : (bytes rest : List ℕ) → IsBadPlace (quoted_text bytes ++ rest) (length (quoted_text bytes))
string_end bytes rest =
    let text = quoted_text bytes ++ rest in
    let a = rule_answered production table known rank steps ends Text (seen text) in
    let p = longest production table known Text (seen text) (seen rest) a.outcome (content bytes) a.runs (quoted_reads bytes rest) (no_more_string (seen rest)) in
    let l = length-map text letter_of in let m = length-map rest letter_of in let f = front_length (quoted_text bytes) rest in
    let e : length (seen text) - length (seen rest) ≡ length (quoted_text bytes) = omega (arith, l, m, f) in
    subst (λ k. IsBadPlace text k) e p

text_part : (inside : Bool) (bytes rest : List ℕ) → part_at inside (quoted_text bytes ++ rest) ≡ TokenPart TextLexeme
text_part true bytes rest = refl
text_part false bytes rest = refl

pub text_spelled : (inside : Bool) (bytes rest : List ℕ) (ks : List TokenKind) → Spells inside rest ks → Spells inside (quoted_text bytes ++ rest) (TextKind bytes ∷ ks)
text_spelled inside bytes rest ks s =
    a_token (length (quoted_text bytes)) (TextKind bytes) TextLexeme (text_part inside bytes rest)
    (record { longest = string_end bytes rest; content = bytes; whole = subst (λ r. IsString (quoted_text bytes ++ rest) bytes r) (sym (drop_front (quoted_text bytes) rest)) (quoted_reads bytes rest); is = refl })
    (subst (λ t. Spells inside t ks) (sym (drop_front (quoted_text bytes) rest)) s)
