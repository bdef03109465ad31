-- Small trees for worked examples.
use Rattle.std.specs.Prelude.{ℕ, ◌*◌, ◌^◌, true, Some, List, [], pos}
use Rattle.pr_num.specs.declared.value.Num.TheVariants.{Finite}
use Rattle.pr_labels.specs.declared.grouping.Grouping.{Grouping}
use Rattle.pr_labels.specs.declared.matching.Matching.{Matching}
use Rattle.pr_labels.specs.declared.matching.Card.{Card}
use Rattle.pr_ast.specs.declared.selector.Selector.{Selector}
use Rattle.pr_ast.specs.declared.selector.MatchText.{MatchText}
use Rattle.pr_ast.specs.declared.selector.MatchSign.{MatchSign}
use Rattle.pr_ast.specs.Tree.{Tree, number, select, none, more}
use Rattle.pr_ast.specs.private.Places.{nowhere}

-- a metric's name, with matchers, and with an offset
abbrev pub chosen : List ℕ → List MatchText → ℕ → Selector
chosen name matchers offset = record { name = Some name; matchers = matchers; offset = offset }

abbrev pub metric : List ℕ → Tree
metric name = select nowhere (chosen name [] 0)

abbrev pub matcher : List ℕ → MatchSign → List ℕ → MatchText
matcher label op text = record { label = label; op = op; text = text }

-- a whole number
abbrev pub whole_number : ℕ → Tree
whole_number n = number nowhere (Finite (pos (n * 10 ^ 9)))

-- the one argument of a call, and two of them
abbrev pub one : Tree → Tree
one t = more none t

abbrev pub two : Tree → Tree → Tree
two t u = more (more none t) u

abbrev pub grouped : List (List ℕ) → Grouping
grouped names = record { by = true; names = names }

abbrev pub on_names : List (List ℕ) → Card → List (List ℕ) → Matching
on_names names card include = record { on = true; names = names; card = card; include = include }
