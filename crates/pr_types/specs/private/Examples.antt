-- Small trees, for worked examples. Each has its start; where it ends is of no account.
use Rattle.std.specs.Prelude.{ℕ, Bool, true, false, List, [], codes, Option, None, Some}
use Rattle.pr_ast.specs.pr_num.declared.value.Num.TheVariants.{NaN}
use Rattle.pr_ast.specs.pr_labels.declared.matching.Card.{Card}
use Rattle.pr_ast.specs.pr_labels.declared.matching.Matching.{Matching}
use Rattle.pr_ast.specs.declared.place.Place.{Place}
use Rattle.pr_ast.specs.declared.names.BinOp.{BinOp}
use Rattle.pr_ast.specs.declared.names.AggOp.{AggOp}
use Rattle.pr_ast.specs.declared.names.Func.{Func}
use Rattle.pr_ast.specs.declared.selector.Selector.{Selector}
use Rattle.pr_ast.specs.declared.selector.MatchText.{MatchText}
use Rattle.pr_ast.specs.Tree.{Tree, number, text, select, range, sub, neg, binary, call, aggregate, more}
use Rattle.pr_ast.specs.private.Examples.{two}

abbrev pub from : ℕ → Place
from start = record { start = start; end = start }

-- a number; its value is of no account
abbrev pub one_at : ℕ → Tree
one_at start = number (from start) NaN

abbrev pub text_at : ℕ → List ℕ → Tree
text_at start content = text (from start) content

abbrev pub named : ℕ → Selector
named offset = record { name = Some (codes "x"); matchers = []; offset = offset }

-- the selector `x`
abbrev pub x_at : ℕ → Tree
x_at start = select (from start) (named 0)

-- the same with an offset
abbrev pub x_before : ℕ → ℕ → Tree
x_before start offset = select (from start) (named offset)

-- the range `x[..]`
abbrev pub range_at : ℕ → ℕ → Tree
range_at start span = range (from start) (named 0) span

-- a selector of matchers alone, at 0
abbrev pub matchers_alone : List MatchText → Tree
matchers_alone ms = select (from 0) (record { name = None; matchers = ms; offset = 0 })

-- `x` with matchers, at 0
abbrev pub x_with : List MatchText → Tree
x_with ms = select (from 0) (record { name = Some (codes "x"); matchers = ms; offset = 0 })

abbrev pub subquery_of : Tree → ℕ → Option ℕ → Tree
subquery_of t span step = sub (from 0) t span step 0

abbrev pub negated : ℕ → Tree → Tree
negated start t = neg (from start) t

-- an operation that starts at 0, and one that starts elsewhere
abbrev pub operation_of : BinOp → Bool → Option Matching → Tree → Tree → Tree
operation_of op with_bool matching l r = binary (from 0) op with_bool matching l r

abbrev pub compared_at : ℕ → BinOp → Tree → Tree → Tree
compared_at start op l r = binary (from start) op false None l r

abbrev pub call_of : Func → Tree → Tree
call_of f args = call (from 0) f args

abbrev pub aggregate_of : AggOp → Tree → Tree
aggregate_of op args = aggregate (from 0) op (record { by = true; names = [] }) args

abbrev pub four : Tree → Tree → Tree → Tree → Tree
four t u v w = more (more (two t u) v) w

-- `on (..)` or `ignoring (..)`, with the labels after `group_left` or `group_right`
abbrev pub matching_by : Bool → List (List ℕ) → Card → List (List ℕ) → Option Matching
matching_by on names card include = Some (record { on = on; names = names; card = card; include = include })
