-- The sign that a text begins with, as a function of its first two bytes: what the reader computes.
-- The law longest_sign_is_taken says that it is the longest one.
use Rattle.std.specs.Prelude.{ℕ, ◌==◌, Option, Some, None, List, [], ◌∷◌, if◌then◌else◌, Result, Ok, Err}
use Prim.Native.Char.{code}
use Rattle.pr_ast.specs.declared.lex.token.Sign.{Sign}
use Rattle.pr_ast.specs.declared.lex.token.Sign.TheVariants.{LeftBrace, RightBrace, LeftParen, RightParen, LeftBracket, RightBracket, Comma, Colon, Assign, NotEqual, Like, NotLike, Equal, Less, LessEqual, Greater, GreaterEqual, Plus, Minus, Star, Slash, Percent}

-- the signs of two bytes: != =~ !~ == <= >=
abbrev pub two_byte_sign : ℕ → ℕ → Option Sign
two_byte_sign a b =
    if a == code "!" then (if b == code "=" then Some NotEqual else (if b == code "~" then Some NotLike else None)) else
    (if a == code "=" then (if b == code "=" then Some Equal else (if b == code "~" then Some Like else None)) else
    (if a == code "<" then (if b == code "=" then Some LessEqual else None) else
    (if a == code ">" then (if b == code "=" then Some GreaterEqual else None) else None)))

-- the signs of one byte: brackets and marks, = < >, and those of arithmetic
abbrev pub bracket_sign : ℕ → Option Sign
bracket_sign b =
    if b == code "{" then Some LeftBrace else (if b == code "}" then Some RightBrace else (if b == code "(" then Some LeftParen else (if b == code ")" then Some RightParen else
    (if b == code "[" then Some LeftBracket else (if b == code "]" then Some RightBracket else None)))))

abbrev pub arithmetic_sign : ℕ → Option Sign
arithmetic_sign b =
    if b == code "+" then Some Plus else (if b == code "-" then Some Minus else (if b == code "*" then Some Star else (if b == code "/" then Some Slash else (if b == code "%" then Some Percent else None))))

abbrev pub mark_sign : ℕ → Option Sign
mark_sign b =
    if b == code "," then Some Comma else (if b == code ":" then Some Colon else (if b == code "=" then Some Assign else (if b == code "<" then Some Less else (if b == code ">" then Some Greater else None))))

abbrev pub or_else : Option Sign → Option Sign → Option Sign
or_else None o = o
or_else (Some s) o = Some s

abbrev pub one_byte_sign : ℕ → Option Sign
one_byte_sign b = or_else (mark_sign b) (or_else (bracket_sign b) (arithmetic_sign b))

abbrev pub longer_sign : ℕ → List ℕ → Option Sign
longer_sign a [] = None
longer_sign a (b ∷ rest) = two_byte_sign a b

-- The sign of two bytes where there is one, else that of one byte, with its length; else the place
-- of the byte that is bad: with `!` two signs begin, and none is whole.
abbrev pub shorter_sign : ℕ → Option Sign → Result (Sign × ℕ) ℕ
shorter_sign a (Some s) = Ok (s, 1)
shorter_sign a None = Err (if a == code "!" then 1 else 0)

abbrev pub longest_sign : ℕ → Option Sign → Result (Sign × ℕ) ℕ
longest_sign a (Some s) = Ok (s, 2)
longest_sign a None = shorter_sign a (one_byte_sign a)

abbrev pub sign_at : List ℕ → Result (Sign × ℕ) ℕ
sign_at [] = Err 0
sign_at (a ∷ rest) = longest_sign a (longer_sign a rest)
