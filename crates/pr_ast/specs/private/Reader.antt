-- What the functions that read tokens say of themselves.
use Rattle.std.specs.Prelude.{ℕ, ◌+◌, ◌^◌, ◌<◌, ◌≤◌, List, length, take, Bool, false, nat_le, Option, Some, None, Result, Ok, Err}
use Rattle.std.specs.Borrow.{Bor}
use Rattle.std.specs.Str.{IsUtf8}
use Rattle.pr_time.specs.pr_forms.Form.{rule}
use Rattle.pr_time.specs.pr_forms.Run.{good, bad}
use Rattle.pr_time.specs.pr_forms.Language.{Language, Gives}
use Rattle.pr_ast.specs.declared.lex.number.Letter.{Letter}
use Rattle.pr_ast.specs.declared.lex.token.Token.{Token}
use Rattle.pr_ast.specs.declared.lex.token.TokenKind.{TokenKind}
use Rattle.pr_ast.specs.declared.lex.fault.LexError.{LexError}
use Rattle.pr_ast.specs.declared.lex.fault.LexError.TheVariants.{Fault, Memory}
use Rattle.pr_ast.specs.declared.lex.part.Lexeme.{Lexeme}
use Rattle.pr_ast.specs.declared.lex.part.Lexeme.TheVariants.{Text as TextLexeme}
use Rattle.pr_ast.specs.Number.{production, letter_of, seen, NumberValue, mark, Rule}
use Rattle.pr_ast.specs.Tokens.{IsTokenOf, IsFaultOf, TextFault, HasTokens, HasFirst, HasFault}
use Rattle.pr_ast.specs.NumberTable.{table}

-- the language of numbers, over bytes
abbrev pub numbers : Language ℕ Letter Rule NumberValue
numbers = record { production = production; table = table; see = letter_of }

-- The reader of a rule gives what follows it, or fails at the rest.
abbrev pub Ends : Rule → List ℕ → Result (Bor (List ℕ)) (Bor (List ℕ)) → Type 0
Ends n text (Ok rest) = Gives numbers (rule n) text (good mark (seen rest.now))
Ends n text (Err rest) = Gives numbers (rule n) text (bad (seen rest.now))

-- The token that the text begins with, or its fault in the text, unless memory runs out.
abbrev pub IsRead : Lexeme → Bool → List ℕ → Result (TokenKind × ℕ) LexError → Type 0
IsRead lexeme inside text (Ok x) = IsTokenOf lexeme inside text x.1 x.0
IsRead lexeme inside text (Err (Fault at kind)) = IsFaultOf lexeme text at kind
IsRead lexeme inside text (Err Memory) = Unit {0}

-- What is wrong with a string that goes on up to `end`.
abbrev pub IsFaulty : List ℕ → ℕ → LexError → Type 0
IsFaulty text end (Fault at kind) = TextFault kind text end at
IsFaulty text end Memory = ⊥

-- The place of a fault is in the text, or at its end.
abbrev pub IsWithin : List ℕ → LexError → Type 0
IsWithin text (Fault at kind) = at ≤ length text
IsWithin text Memory = Unit {0}

-- A fault of a text that stands at a place of another one, as a fault of that one, and that its
-- place is a number of the code.
abbrev pub moved : ℕ → LexError → LexError
moved place (Fault at kind) = Fault (place + at) kind
moved place Memory = Memory

abbrev pub Fits : ℕ → LexError → Type 0
Fits place (Fault at kind) = place + at < 2 ^ 64
Fits place Memory = Unit {0}

-- A string is read from UTF-8.
abbrev pub HasText : Lexeme → List ℕ → Type 0
HasText TextLexeme text = IsUtf8 text
HasText _ text = Unit {0}

-- A fault is the first one of the text.
abbrev pub Refuses : List ℕ → LexError → Type 0
Refuses text (Fault at kind) = HasFault text at kind
Refuses text Memory = Unit {0}

-- Only want of memory keeps tokens from being answered.
abbrev pub Misses : LexError → Type 0
Misses (Fault at kind) = ⊥
Misses Memory = Unit {0}

-- The first so many tokens, or all.
abbrev pub kept : Option ℕ → List Token → List Token
kept None tokens = tokens
kept (Some most) tokens = take most tokens

abbrev pub HasKept : List ℕ → Option ℕ → List Token → Type 0
HasKept text None found = HasTokens text found
HasKept text (Some most) found = HasFirst text most found

-- As many tokens are there as are kept.
abbrev pub is_full : Option ℕ → ℕ → Bool
is_full None found = false
is_full (Some most) found = nat_le most found
