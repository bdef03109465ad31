-- The first fault of a text lies in it, or at its end.
use Rattle.std.proofs.Common.{◌≡◌, ℕ, ◌+◌, ◌≤◌, List, [], ◌∷◌, Option, Some, None, Bool, true, false, Result, Ok, Err, length, arith, length-drop}
use Rattle.std.specs.Prelude.{◌==◌, if◌then◌else◌}
use Rattle.std.proofs.lemmas.List.{length-map}
use Rattle.pr_num.specs.declared.value.Num.{Num}
use Rattle.pr_num.specs.declared.text.NumFault.{NumFault}
use Rattle.pr_num.specs.declared.text.NumFault.TheVariants.{NotNumber, TooWide as WideNumber}
use Rattle.pr_time.specs.SpanText as spans
use Rattle.pr_labels.specs.pr_words.Strings.{letter_of}
use Rattle.pr_ast.specs.declared.lex.token.Sign.{Sign as SignName}
use Rattle.pr_ast.specs.declared.lex.fault.LexKind.{LexKind}
use Rattle.pr_ast.specs.declared.lex.fault.LexKind.TheVariants.{BadChar, OpenText, BadEscape, BadNumber, TooWide, BadSpan, SpanTooLong}
use Rattle.pr_ast.specs.declared.lex.part.Lexeme.{Lexeme}
use Rattle.pr_ast.specs.declared.lex.part.Lexeme.TheVariants.{Name, Number, Duration, Text, Sign}
use Rattle.pr_ast.specs.Number as numbers
use Rattle.pr_ast.specs.Tokens.{NumberFault, DurationFault, TextFault, IsFaultOf, IsFirstFault, fault_here, fault_past_gap, fault_past_token}
use Rattle.pr_ast.specs.SignAt.{sign_at, longest_sign, longer_sign, shorter_sign, one_byte_sign}
use Rattle.pr_ast.proofs.Firsts.{gap_within}
use Rattle.pr_ast.proofs.Ordered.{token_part}
use Rattle.pr_ast.proofs.TakenSigns.{fault_known}

number_in : (r : Result Num NumFault) (end size place : ℕ) (kind : LexKind) → end ≤ size → NumberFault r end place kind → place ≤ size
number_in (Ok v) end size place kind h f = absurd f
number_in (Err NotNumber) end size place kind h f = let e = f.0 in omega (arith, e)
number_in (Err WideNumber) end size place kind h f = let e = f.0 in omega (arith, e)

duration_in : (kind : LexKind) (text : List ℕ) (end place : ℕ) → end ≤ length text → DurationFault kind text end place → place ≤ length text
duration_in BadSpan text end place h f = let e = f.0 in omega (arith, e)
duration_in SpanTooLong text end place h f = let e = f.0 in omega (arith, e)
duration_in BadChar text end place h f = absurd f
duration_in OpenText text end place h f = absurd f
duration_in BadEscape text end place h f = absurd f
duration_in BadNumber text end place h f = absurd f
duration_in TooWide text end place h f = absurd f

string_in : (kind : LexKind) (text : List ℕ) (end place : ℕ) → end ≤ length text → TextFault kind text end place → place ≤ length text
string_in OpenText text end place h f = let e = f.0 in omega (arith, e)
string_in BadEscape text end place h f = let e = f.0 in omega (arith, e)
string_in BadChar text end place h f = absurd f
string_in BadSpan text end place h f = absurd f
string_in SpanTooLong text end place h f = absurd f
string_in BadNumber text end place h f = absurd f
string_in TooWide text end place h f = absurd f

by_mark : (b : Bool) (place : ℕ) → ◌≡◌ {A = Result (SignName × ℕ) ℕ} (Err (if b then 1 else 0)) (Err place) → place ≤ 1
by_mark true place e = let h : 1 ≡ place = cc in omega (arith, h)
by_mark false place e = let h : 0 ≡ place = cc in omega (arith, h)

by_shorter : (a : ℕ) (o : Option SignName) (place : ℕ) → shorter_sign a o ≡ Err place → place ≤ 1
by_shorter a (Some s) place e = absurd (cc)
by_shorter a None place e = by_mark (a == 33) place e

by_longest : (a : ℕ) (o : Option SignName) (place : ℕ) → longest_sign a o ≡ Err place → place ≤ 1
by_longest a (Some s) place e = absurd (cc)
by_longest a None place e = by_shorter a (one_byte_sign a) place e

sign_in : (text : List ℕ) (place : ℕ) → sign_at text ≡ Err place → place ≤ length text
sign_in [] place e = let h : 0 ≡ place = cc in omega (arith, h)
sign_in (a ∷ rest) place e = let h = by_longest a (longer_sign a rest) place e in omega (arith, h)

-- what no token begins with
fault_in : (l : Lexeme) (text : List ℕ) (place : ℕ) (kind : LexKind) → IsFaultOf l text place kind → place ≤ length text
fault_in Name text place kind x = absurd x
fault_in Number text place kind x = let w = x.longest.within in number_in _ x.end (length text) place kind (omega (arith, w, length-map text numbers.letter_of)) x.fault
fault_in Duration text place kind x = let w = x.longest.within in duration_in kind text x.end place (omega (arith, w, length-map text spans.letter_of)) x.fault
fault_in Text text place kind x = let w = x.longest.within in string_in kind text x.end place (omega (arith, w, length-map text letter_of)) x.fault
fault_in Sign text place kind x = sign_in text place (fault_known text place kind x)

pub fault_lies_in : {inside : Bool} {at place : ℕ} {text : List ℕ} {kind : LexKind} → IsFirstFault inside at text place kind → place ≤ at + length text
fault_lies_in {text = text} {kind = kind} (fault_here place lexeme e x) = let h = fault_in lexeme text place kind x in omega (arith, h)
fault_lies_in {inside} {text = text} (fault_past_gap n e d) =
    let h = fault_lies_in d in
    let w = gap_within inside text n e in
    omega (arith, h, w, length-drop n text)
fault_lies_in {inside} {text = text} (fault_past_token n token lexeme e x d) =
    let h = fault_lies_in d in
    let w = (token_part lexeme inside text n token e x).within in
    omega (arith, h, w, length-drop n text)
