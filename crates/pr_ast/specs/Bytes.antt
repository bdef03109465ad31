-- What a text begins with, by its bytes.
use Rattle.std.specs.Prelude.{ℕ, ◌==◌, ◌&&◌, ◌||◌, not, Bool, false, List, [], ◌∷◌, drop, if◌then◌else◌}
use Prim.Native.Char.{code}
use Rattle.std.specs.List.{prefix_len}
use Rattle.std.specs.Char.{is_ascii_digit}
use Rattle.pr_labels.specs.pr_words.Bytes.{is_whitespace, is_letter, is_label_byte}
use Rattle.pr_ast.specs.declared.lex.part.Class.{Class}
use Rattle.pr_ast.specs.declared.lex.part.Class.TheVariants.{Whitespace, Line, Digit, Name, NameInBrackets}
use Rattle.pr_ast.specs.declared.lex.part.Lexeme.{Lexeme}
use Rattle.pr_ast.specs.declared.lex.part.Lexeme.TheVariants.{Name as NameLexeme, Number, Duration, Text, Sign}
use Rattle.pr_ast.specs.declared.lex.part.Part.{Part}
use Rattle.pr_ast.specs.declared.lex.part.Part.TheVariants.{End, Gap, Token}

-- the bytes of each class
abbrev pub is_of : Class → ℕ → Bool
is_of Whitespace b = is_whitespace b
is_of Line b = not (b == code "\n")
is_of Digit b = is_ascii_digit b
is_of Name b = is_label_byte b || b == code ":"
is_of NameInBrackets b = is_label_byte b

-- A name has colons, but not between brackets.
abbrev pub name_class : Bool → Class
name_class inside = if inside then NameInBrackets else Name

abbrev pub starts_name : Bool → ℕ → Bool
starts_name inside b = is_letter b || (b == code ":" && not inside)

-- how many bytes of a class the text begins with
abbrev pub front_len : Class → List ℕ → ℕ
front_len class text = prefix_len (is_of class) text

-- the letters that begin the units of durations: y w d h m s
abbrev pub is_unit_letter : ℕ → Bool
is_unit_letter b = b == code "y" || b == code "w" || b == code "d" || b == code "h" || b == code "m" || b == code "s"

abbrev pub starts_unit : List ℕ → Bool
starts_unit [] = false
starts_unit (b ∷ rest) = is_unit_letter b

-- Digits that a unit letter follows at once begin a duration, and others a number.
abbrev pub digits_lexeme : List ℕ → Lexeme
digits_lexeme text = if starts_unit (drop (front_len Digit text) text) then Duration else Number

abbrev pub is_quote : ℕ → Bool
is_quote b = b == code "\"" || b == code "'" || b == code "`"

-- the token that begins with a byte that is no whitespace and no `#`
abbrev pub lexeme_at : Bool → ℕ → List ℕ → Lexeme
lexeme_at inside b text =
    if starts_name inside b then NameLexeme else (if is_ascii_digit b then digits_lexeme text else (if b == code "." then Number else (if is_quote b then Text else Sign)))

-- What a text begins with: whitespace, a comment from `#` to the line's end, or a token. `inside` says
-- that it stands between a `[` and the next `]`.
abbrev pub part_at : Bool → List ℕ → Part
part_at inside [] = End
part_at inside (b ∷ rest) =
    if is_whitespace b then Gap (front_len Whitespace (b ∷ rest)) else (if b == code "#" then Gap (front_len Line (b ∷ rest)) else Token (lexeme_at inside b (b ∷ rest)))
