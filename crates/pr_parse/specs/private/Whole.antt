-- How the tree of tokens is answered.
use Rattle.std.specs.Prelude.{◌≡◌, List}
use Rattle.pr_ast.specs.Tree.{Tree}
use Rattle.pr_parse.specs.declared.whole.TreeFault.{TreeFault}
use Rattle.pr_parse.specs.declared.whole.TreeFault.TheVariants.{Bad, Memory}
use Rattle.pr_parse.specs.Seen.{Seen}
use Rattle.pr_parse.specs.Grammar.{QueryValue, part}
use Rattle.pr_parse.specs.GrammarWhole.{IsBadPlace}

-- The value is that of an expression with this tree.
abbrev pub HasTree : QueryValue → Tree → Type 0
HasTree (part p t) u = t ≡ u
HasTree _ _ = ⊥

-- Why there is no tree: the first bad place, or want of memory.
abbrev pub RefusesTokens : List Seen → TreeFault → Type 0
RefusesTokens ts (Bad place) = IsBadPlace ts place
RefusesTokens ts Memory = Unit {0}

-- Tokens that have a tree are refused so: only where memory runs out.
abbrev pub MissesTokens : TreeFault → Type 0
MissesTokens (Bad place) = ⊥
MissesTokens Memory = Unit {0}
