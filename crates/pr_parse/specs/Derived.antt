-- What a text is as an expression, and its first bad place.
use Rattle.std.specs.Prelude.{◌≡◌, ℕ, suc, ◌≤◌, ◌<◌, Option, Some, None, Result, Ok, Err, List, [], length, take, drop, map, slice_get}
use Rattle.pr_forms.specs.Form.{rule, Begins}
use Rattle.pr_ast.specs.declared.lex.token.Token.{Token}
use Rattle.pr_ast.specs.Tokens.{HasTokens, HasFault}
use Rattle.pr_ast.specs.declared.tree.Expr.{Expr}
use Rattle.pr_ast.specs.Tree.{Tree}
use Rattle.pr_parse.specs.declared.whole.TreeFault.{TreeFault}
use Rattle.pr_parse.specs.declared.whole.TreeFault.TheVariants.{Bad, Memory as TreeMemory}
use Rattle.pr_parse.specs.declared.grammar.kind.TokenClass.{TokenClass}
use Rattle.pr_parse.specs.declared.fault.ParseKind.{ParseKind}
use Rattle.pr_parse.specs.declared.fault.ParseKind.TheVariants.{End, TooDeep}
use Rattle.pr_parse.specs.declared.fault.ParseError.{ParseError}
use Rattle.pr_parse.specs.declared.fault.ParseError.TheVariants.{Lex, Fault, Memory}
use Rattle.pr_parse.specs.Seen.{Seen, lexed, seen_tokens, kinds_seen}
use Rattle.pr_parse.specs.Grammar.{production, expression}
use Rattle.pr_parse.specs.GrammarWhole.{Derives, IsBadPlace}
use Rattle.pr_parse.specs.Deep.{depth, IsTooDeep}
use Rattle.pr_parse.specs.Faults.{kind_at}

-- The first bad place of the tokens, and its kind.
pub data IsBadAt (ts : List Seen) : ℕ → ParseKind → Type 0 where
  -- a token with which no expression can go on
  bad_token : {place : ℕ} → place < length ts → IsBadPlace ts place → depth (take place (kinds_seen ts)) ≤ 100 → IsBadAt ts place (kind_at (kinds_seen ts) place)
  -- a token that one can go on with, and that makes the text too deep
  too_deep : {place : ℕ} → IsTooDeep (kinds_seen ts) place → Begins production (rule expression) ts (drop (suc place) ts) → IsBadAt ts place TooDeep
  -- the end, where all tokens can go on and have no tree
  too_early : IsBadPlace ts (length ts) → depth (kinds_seen ts) ≤ 100 → ((t : Tree) → Derives ts t → ⊥) → IsBadAt ts (length ts) End

-- where a token begins, or the text ends
abbrev pub start_of : ℕ → Option Seen → ℕ
start_of end (Some (lexed k t)) = t.start
start_of end None = end

-- A fault of the tokens of a text that is so long: at the start of the first bad one.
pub record IsFault (end : ℕ) (ts : List Seen) (at : ℕ) (kind : ParseKind) : Type 0 where
  pub place : ℕ
  pub is : at ≡ start_of end (slice_get ts place)
  pub bad : IsBadAt ts place kind

-- The text is an expression with this tree: its tokens are, and it is at most 100 deep.
pub record IsExpression (text : List ℕ) (tree : Tree) : Type 0 where
  pub tokens : List Token
  pub has : HasTokens text tokens
  pub derives : Derives (seen_tokens tokens) tree
  pub shallow : depth (kinds_seen (seen_tokens tokens)) ≤ 100

pub record HasBadPlace (text : List ℕ) (at : ℕ) (kind : ParseKind) : Type 0 where
  pub tokens : List Token
  pub has : HasTokens text tokens
  pub fault : IsFault (length text) (seen_tokens tokens) at kind

-- Why a text is no expression: the first fault of its tokens, else the first bad one of these, or
-- want of memory.
abbrev pub Refuses : List ℕ → ParseError → Type 0
Refuses text (Lex at kind) = HasFault text at kind
Refuses text (Fault at kind) = HasBadPlace text at kind
Refuses text Memory = Unit {0}

abbrev pub RefusesSeen : ℕ → List Seen → ParseError → Type 0
RefusesSeen end ts (Lex at kind) = ⊥
RefusesSeen end ts (Fault at kind) = IsFault end ts at kind
RefusesSeen end ts Memory = Unit {0}

abbrev pub fault_of : ℕ → List Seen → ℕ → ParseKind → ParseError
fault_of end ts place kind = Fault (start_of end (slice_get ts place)) kind

-- where a reading of so many tokens ended, unless memory ran out
abbrev pub end_of : ℕ → Result Expr TreeFault → Option ℕ
end_of n (Ok e) = Some n
end_of n (Err (Bad i)) = Some i
end_of n (Err TreeMemory) = None

-- Only want of memory keeps an expression from being answered.
abbrev pub Misses : ParseError → Type 0
Misses (Lex at kind) = ⊥
Misses (Fault at kind) = ⊥
Misses Memory = Unit {0}
