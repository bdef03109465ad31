-- What a text is as an expression, as a function of it: the law `parsed_is_tree_or_fault` says that
-- it is the tree of the text, or its first fault.
use Rattle.std.specs.Prelude.{◌≡◌, ℕ, zero, suc, nat_lt, Bool, true, false, Option, Some, None, List, [], ◌∷◌, length, slice_get, if◌then◌else◌}
use Rattle.pr_forms.specs.Form.{rule}
use Rattle.pr_forms.specs.Reading.{reading, bad_place}
use Rattle.pr_ast.specs.declared.lex.fault.LexKind.{LexKind}
use Rattle.pr_ast.specs.Lexed.{Lexed, gives_tokens, gives_fault as gives_first_fault, lexed}
use Rattle.pr_ast.specs.Tree.{Tree}
use Rattle.pr_parse.specs.declared.grammar.kind.TokenClass.{TokenClass}
use Rattle.pr_parse.specs.Seen.{Seen, seen_tokens, kinds_seen}
use Rattle.pr_parse.specs.Grammar.{production, expression, QueryValue, part}
use Rattle.pr_parse.specs.GrammarTable.{table, steps}
use Rattle.pr_parse.specs.declared.depth.OpenPart.{OpenPart}
use Rattle.pr_parse.specs.declared.fault.ParseError.{ParseError}
use Rattle.pr_parse.specs.declared.fault.ParseError.TheVariants.{Lex, Fault, Memory}
use Rattle.pr_parse.specs.declared.fault.ParseKind.{ParseKind}
use Rattle.pr_parse.specs.declared.fault.ParseKind.TheVariants.{TooDeep}
use Rattle.pr_parse.specs.Deep.{fresh, after_kind, depth_now}
use Rattle.pr_parse.specs.Faults.{kind_at}
use Rattle.pr_parse.specs.Derived.{start_of}

pub data Parsed : Type 0 where
  -- its tree
  gives_tree : Tree → Parsed
  -- the place and the kind of the first fault of its tokens
  gives_lex_fault : ℕ → LexKind → Parsed
  -- the place and the kind of its first bad token, or of its end
  gives_fault : ℕ → ParseKind → Parsed

-- the first token that brings the depth above 100, or the number of tokens where none does
abbrev pub deep_from : List OpenPart → List TokenClass → ℕ
deep_from ps [] = 0
deep_from ps (k ∷ ks) = if nat_lt 100 (depth_now (after_kind ps k)) then 0 else suc (deep_from (after_kind ps k) ks)

abbrev pub deep_place : List TokenClass → ℕ
deep_place ks = deep_from (fresh false ∷ []) ks

-- the reading of tokens that are nowhere too deep before the place where it ended
abbrev pub tree_or_fault : ℕ → List Seen → ℕ → Option QueryValue → Parsed
tree_or_fault end ts bad (Some (part p t)) = gives_tree t
tree_or_fault end ts bad _ = gives_fault (start_of end (slice_get ts bad)) (kind_at (kinds_seen ts) bad)

-- A token that makes the text too deep and stands before the first bad place is the fault.
abbrev pub by_places : ℕ → List Seen → ℕ → ℕ → Option QueryValue → Parsed
by_places end ts bad deep value =
    if nat_lt deep bad then gives_fault (start_of end (slice_get ts deep)) TooDeep else tree_or_fault end ts bad value

-- what the tokens of a text that is so long give
unfoldable pub parsed_tokens : ℕ → List Seen → Parsed
parsed_tokens end ts = by_places end ts (bad_place production table steps (rule expression) ts) (deep_place (kinds_seen ts)) (reading production table steps (rule expression) ts)

abbrev pub parsed_lexed : ℕ → Lexed → Parsed
parsed_lexed end (gives_tokens tokens) = parsed_tokens end (seen_tokens tokens)
parsed_lexed end (gives_first_fault at kind) = gives_lex_fault at kind

unfoldable pub parsed : List ℕ → Parsed
parsed text = parsed_lexed (length text) (lexed text)

-- The fault is the one that the text gives. Nothing is said where memory runs out.
abbrev pub IsFaultOf : Parsed → ParseError → Type 0
IsFaultOf p (Lex at kind) = p ≡ gives_lex_fault at kind
IsFaultOf p (Fault at kind) = p ≡ gives_fault at kind
IsFaultOf p Memory = Unit {0}
