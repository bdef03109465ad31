-- A string begins with an ASCII byte, so that what begins with one is UTF-8 where the whole text
-- is.
use Rattle.std.proofs.Common.{◌≡◌, ℕ, ◌+◌, ◌<◌, List, ◌∷◌, Bool, length, drop, get_or, arith, ap, sym, ◌∙◌, get_or-drop}
use Rattle.std.specs.Str.{IsUtf8}
use Rattle.std.proofs.lemmas.Str.{IsUtf8-drop, IsCharBoundary-before_ascii}
use Rattle.pr_ast.specs.declared.lex.part.Lexeme.{Lexeme}
use Rattle.pr_ast.specs.declared.lex.part.Lexeme.TheVariants.{Name, Number, Duration, Text, Sign}
use Rattle.pr_ast.specs.declared.lex.part.Part.TheVariants.{Token}
use Rattle.pr_ast.specs.Bytes.{part_at}
use Rattle.pr_ast.specs.private.Reader.{HasText}
use Rattle.pr_ast.proofs.Firsts.{text_first}

same_index : (text : List ℕ) (a b : ℕ) → a ≡ b → get_or text a 0 ≡ get_or text b 0
same_index text a b e = ap (λ i. get_or text i 0) e

byte_at : (text rest : List ℕ) (place b : ℕ) → drop place text ≡ b ∷ rest → get_or text place 0 ≡ b
byte_at text rest place b e = same_index text place (place + 0) (omega arith) ∙ (sym (get_or-drop place text 0 0) ∙ ap (λ t. get_or t 0 0) e)

string_text : (text rest : List ℕ) (place b : ℕ) → IsUtf8 text → place < length text → drop place text ≡ b ∷ rest → b < 128 → IsUtf8 (drop place text)
string_text text rest place b u lt e small =
    let k = byte_at text rest place b e in
    IsUtf8-drop text place u (IsCharBoundary-before_ascii text place lt (omega (arith, k, small)))

pub has_text : (inside : Bool) (text : List ℕ) (place : ℕ) (l : Lexeme) → IsUtf8 text → place < length text → part_at inside (drop place text) ≡ Token l → HasText l (drop place text)
has_text inside text place Name u lt e = tt
has_text inside text place Number u lt e = tt
has_text inside text place Duration u lt e = tt
has_text inside text place Text u lt e = let f = text_first inside (drop place text) e in string_text text f.1 place f.0 u lt f.2 f.3
has_text inside text place Sign u lt e = tt
