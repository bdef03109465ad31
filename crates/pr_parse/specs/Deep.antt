-- How deep a text is, by its tokens alone.
use Rattle.std.specs.Prelude.{◌≡◌, ℕ, ◌+◌, ◌-◌, ◌≤◌, ◌<◌, suc, max, Bool, true, false, ◌||◌, is_some, List, [], ◌∷◌, length, take, if◌then◌else◌}
use Rattle.pr_ast.specs.declared.lex.token.Sign.TheVariants.{LeftBrace, RightBrace, LeftParen, RightParen, Comma, Colon}
use Rattle.pr_parse.specs.declared.grammar.kind.TokenClass.{TokenClass}
use Rattle.pr_parse.specs.declared.grammar.kind.TokenClass.TheVariants.{Sign}
use Rattle.pr_parse.specs.declared.grammar.kind.Level.TheVariants.{Or, And, Comparison, Sum, Product}
use Rattle.pr_parse.specs.declared.depth.OpenPart.{OpenPart}
use Rattle.pr_parse.specs.Grammar.{is_sign, operator_of}

-- the operators that are counted, signs before an operand among them
abbrev pub is_counted : TokenClass → Bool
is_counted k =
    is_some (operator_of Or k) || is_some (operator_of And k) || is_some (operator_of Comparison k) || is_some (operator_of Sum k)
    || is_some (operator_of Product k) || is_sign Colon k

-- a part that was just opened, in braces or not
abbrev pub fresh : Bool → OpenPart
fresh braces = record { braces = braces; operators = 0; closed = 0 }

-- one, its operators, and the greatest height of a closed part inside it
abbrev pub height : OpenPart → ℕ
height p = 1 + p.operators + p.closed

abbrev pub counting : OpenPart → OpenPart
counting p = if p.braces then p else record { braces = p.braces; operators = p.operators + 1; closed = p.closed }

-- a part with a closed one of this height inside it
abbrev pub around : ℕ → OpenPart → OpenPart
around h p = record { braces = p.braces; operators = p.operators; closed = max p.closed h }

abbrev pub grown : ℕ → List OpenPart → List OpenPart
grown h [] = []
grown h (p ∷ ps) = around h p ∷ ps

-- the innermost part is closed, unless it is the whole text
abbrev pub close : List OpenPart → List OpenPart
close [] = []
close (p ∷ []) = p ∷ []
close (p ∷ q ∷ ps) = grown (height p) (q ∷ ps)

abbrev pub close_and_open : List OpenPart → List OpenPart
close_and_open [] = []
close_and_open (p ∷ []) = p ∷ []
close_and_open (p ∷ q ∷ ps) = fresh p.braces ∷ grown (height p) (q ∷ ps)

-- whether the innermost part stands in braces
abbrev pub in_braces : List OpenPart → Bool
in_braces [] = false
in_braces (p ∷ ps) = p.braces

-- an operator counts for the innermost part, outside braces
abbrev pub count : List OpenPart → List OpenPart
count [] = []
count (p ∷ ps) = counting p ∷ ps

-- The open parts after a token, the innermost first; the last is the whole text.
abbrev pub after_kind : List OpenPart → TokenClass → List OpenPart
after_kind ps (Sign LeftParen) = fresh (in_braces ps) ∷ ps
after_kind ps (Sign LeftBrace) = fresh true ∷ ps
after_kind ps (Sign RightParen) = close ps
after_kind ps (Sign RightBrace) = close ps
after_kind ps (Sign Comma) = close_and_open ps
after_kind ps k = if is_counted k then count ps else ps

abbrev pub after_kinds : List OpenPart → List TokenClass → List OpenPart
after_kinds ps [] = ps
after_kinds ps (k ∷ ks) = after_kinds (after_kind ps k) ks

-- The greatest height of the open parts, from the innermost one outwards. What was closed inside a
-- part stands inside those around it too, so the greatest height that was closed so far goes along.
abbrev pub greatest_from : ℕ → List OpenPart → ℕ
greatest_from inner [] = 0
greatest_from inner (p ∷ ps) = max (1 + p.operators + max inner p.closed) (greatest_from (max inner p.closed) ps)

abbrev pub greatest_height : List OpenPart → ℕ
greatest_height ps = greatest_from 0 ps

-- the operators of the open parts
abbrev pub operators : List OpenPart → ℕ
operators [] = 0
operators (p ∷ ps) = p.operators + operators ps

-- How deep the text is at one moment: the greatest height, or how many parts are open without the
-- whole text, with the operators of all open parts, where that is more.
abbrev pub depth_now : List OpenPart → ℕ
depth_now ps = max (greatest_height ps) (length ps - 1 + operators ps)

-- the greatest of all moments
abbrev pub depth_from : List OpenPart → List TokenClass → ℕ
depth_from ps [] = depth_now ps
depth_from ps (k ∷ ks) = max (depth_now ps) (depth_from (after_kind ps k) ks)

-- how deep the tokens of a text are
abbrev pub depth : List TokenClass → ℕ
depth ks = depth_from (fresh false ∷ []) ks

-- The first token that brings the depth above 100 stands at the place.
pub record IsTooDeep (ks : List TokenClass) (place : ℕ) : Type 0 where
  pub within : place < length ks
  pub before : depth (take place ks) ≤ 100
  pub after : 100 < depth (take (suc place) ks)
