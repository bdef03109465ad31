-- How the signs are written, and the longest one that a text begins with.
use Rattle.std.specs.Prelude.{◌≡◌, ℕ, ◌≤◌, ◌==◌, List, [], ◌∷◌, length, take, codes, if◌then◌else◌}
use Prim.Native.Char.{code}
use Rattle.pr_ast.specs.declared.lex.token.Sign.{Sign}
use Rattle.pr_ast.specs.declared.lex.token.Sign.TheVariants.{LeftBrace, RightBrace, LeftParen, RightParen, LeftBracket, RightBracket, Comma, Colon, Assign, NotEqual, Like, NotLike, Equal, Less, LessEqual, Greater, GreaterEqual, Plus, Minus, Star, Slash, Percent}

abbrev pub sign_text : Sign → List ℕ
sign_text LeftBrace = codes "{"
sign_text RightBrace = codes "}"
sign_text LeftParen = codes "("
sign_text RightParen = codes ")"
sign_text LeftBracket = codes "["
sign_text RightBracket = codes "]"
sign_text Comma = codes ","
sign_text Colon = codes ":"
sign_text Assign = codes "="
sign_text NotEqual = codes "!="
sign_text Like = codes "=~"
sign_text NotLike = codes "!~"
sign_text Equal = codes "=="
sign_text Less = codes "<"
sign_text LessEqual = codes "<="
sign_text Greater = codes ">"
sign_text GreaterEqual = codes ">="
sign_text Plus = codes "+"
sign_text Minus = codes "-"
sign_text Star = codes "*"
sign_text Slash = codes "/"
sign_text Percent = codes "%"

-- how many bytes of a text that begins with no sign begin one: the first, where it is `!`
abbrev pub begun_sign : List ℕ → ℕ
begun_sign [] = 0
begun_sign (b ∷ rest) = if b == code "!" then 1 else 0

-- The text begins with the sign.
abbrev pub BeginsWithSign : List ℕ → Sign → Type 0
BeginsWithSign text sign = take (length (sign_text sign)) text ≡ sign_text sign

-- The text begins with the sign, and with no longer one.
pub record IsLongestSign (text : List ℕ) (sign : Sign) : Type 0 where
  pub begins : BeginsWithSign text sign
  pub longest : (other : Sign) → BeginsWithSign text other → length (sign_text other) ≤ length (sign_text sign)
