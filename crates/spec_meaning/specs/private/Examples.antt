-- Small histories and expressions to try the definitions on.
use Rattle.std.specs.Prelude.{ℕ, ◌*◌, ◌^◌, pos, true, false, List, [], ◌∷◌, codes, Option, Some, None, Result}
use Rattle.pr_num.specs.declared.value.Num.{Num}
use Rattle.pr_num.specs.declared.value.Num.TheVariants.{Finite, NaN}
use Rattle.pr_num.specs.declared.value.Point.TheVariants.{Value as held}
use Rattle.pr_ast.specs.pr_labels.declared.pair.Pair.{Pair}
use Rattle.pr_ast.specs.pr_labels.declared.item.Item.{Item}
use Rattle.pr_ast.specs.pr_labels.declared.matching.Matching.{Matching}
use Rattle.pr_ast.specs.pr_labels.LabelSet.{metric_label}
use Rattle.spec_vectors.specs.spec_history.declared.entry.Entry.{Entry}
use Rattle.pr_ast.specs.declared.place.Place.{Place}
use Rattle.pr_ast.specs.declared.names.BinOp.{BinOp}
use Rattle.pr_ast.specs.declared.names.BinOp.TheVariants as op
use Rattle.pr_ast.specs.declared.selector.MatchText.{MatchText}
use Rattle.pr_ast.specs.declared.selector.MatchSign.TheVariants.{Equal, NotEqual}
use Rattle.pr_ast.specs.declared.names.AggOp.{AggOp}
use Rattle.pr_ast.specs.declared.names.Func.{Func}
use Rattle.pr_ast.specs.declared.names.Func.TheVariants as func
use Rattle.pr_ast.specs.Tree.{Tree, number, text, select, range, sub, neg, binary, call, aggregate, none, more_from}
use Rattle.pr_ast.specs.private.Places.{nowhere}
use Rattle.pr_ast.specs.private.Examples.{chosen, metric, matcher, one}
use Rattle.spec_vectors.specs.private.Examples.{x, y, z, sample}
use Rattle.spec_vectors.specs.private.AggregationExamples.{by_nothing}
use Rattle.spec_meaning.specs.declared.fault.Fault.{Fault}
use Rattle.spec_meaning.specs.declared.value.Value.{Value}
use Rattle.spec_meaning.specs.Meaning.{meaning}

-- a number of units of 10^-9, and a whole number
abbrev pub units : ℕ → Tree
units k = number nowhere (Finite (pos k))

abbrev pub whole : ℕ → Tree
whole n = units (n * 10 ^ 9)

abbrev pub not_a_number : Tree
not_a_number = number nowhere NaN

-- an operation, with `bool`, and with a matching; one that begins at a byte
abbrev pub operation : BinOp → Tree → Tree → Tree
operation o l r = binary nowhere o false None l r

abbrev pub with_bool : BinOp → Tree → Tree → Tree
with_bool o l r = binary nowhere o true None l r

abbrev pub matching : BinOp → Matching → Tree → Tree → Tree
matching o how l r = binary nowhere o false (Some how) l r

abbrev pub at : ℕ → Place
at n = record { start = n; end = n }

abbrev pub times_at : ℕ → Option Matching → Tree → Tree → Tree
times_at n how l r = binary (at n) op.Mul false how l r

-- the metrics, one of them a minute earlier, and the series with or without a value of the label x
abbrev pub m : Tree
m = metric (codes "m")

abbrev pub m_a_minute_ago : Tree
m_a_minute_ago = select nowhere (chosen (codes "m") [] 60000)

abbrev pub a : Tree
a = metric (codes "a")

abbrev pub b : Tree
b = metric (codes "b")

abbrev pub c : Tree
c = metric (codes "c")

abbrev pub matching_alone : List MatchText → Tree
matching_alone ms = select nowhere (record { name = None; matchers = ms; offset = 0 })

abbrev pub x_is_1 : Tree
x_is_1 = matching_alone (matcher (codes "x") Equal (codes "1") ∷ [])

abbrev pub nameless : Tree
nameless = matching_alone (matcher metric_label Equal [] ∷ matcher (codes "x") Equal (codes "1") ∷ [])

abbrev pub a_but_x_1 : Tree
a_but_x_1 = select nowhere (chosen (codes "a") (matcher (codes "x") NotEqual (codes "1") ∷ []) 0)

-- at 0: a{x="1"} 1, a{x="2"} 3 and b{x="1"} 5
abbrev pub entry_of : Item Num → Entry
entry_of e = record { labels = e.labels; time = 0; point = held e.value }

abbrev pub value : ℕ → Num
value n = Finite (pos (n * 10 ^ 9))

abbrev pub named : List ℕ → List Pair → ℕ → Item Num
named name labels n = sample name labels (value n)

abbrev pub x_only : List ℕ → List Pair
x_only v = x v ∷ []

abbrev pub one_three_five : List Entry
one_three_five = entry_of (named (codes "a") (x_only (codes "1")) 1) ∷ entry_of (named (codes "a") (x_only (codes "2")) 3) ∷ entry_of (named (codes "b") (x_only (codes "1")) 5) ∷ []

-- at 0: a{x="1",z="k"} 6, b{x="1",y="p"} 2 and b{x="1",y="q"} 3
abbrev pub six_two_three : List Entry
six_two_three =
    entry_of (named (codes "a") (x (codes "1") ∷ z (codes "k") ∷ []) 6)
    ∷ entry_of (named (codes "b") (x (codes "1") ∷ y (codes "p") ∷ []) 2)
    ∷ entry_of (named (codes "b") (x (codes "1") ∷ y (codes "q") ∷ []) 3) ∷ []

-- at 0: a{x="1"} 6, a{x="2"} 3, b{x="1",y="p"} 2, b{x="1",y="q"} 3, b{x="2"} NaN and {x="1"} 5
abbrev pub many : List Entry
many =
    entry_of (named (codes "a") (x_only (codes "1")) 6)
    ∷ entry_of (named (codes "a") (x_only (codes "2")) 3)
    ∷ entry_of (named (codes "b") (x (codes "1") ∷ y (codes "p") ∷ []) 2)
    ∷ entry_of (named (codes "b") (x (codes "1") ∷ y (codes "q") ∷ []) 3)
    ∷ entry_of (sample (codes "b") (x_only (codes "2")) NaN)
    ∷ entry_of (record { labels = x_only (codes "1"); value = value 5 }) ∷ []

-- what an expression gives at 0
abbrev pub at_0 : List Entry → Tree → Result Value Fault
at_0 history t = meaning 60000 history t 0

-- calls and aggregations, a range of m, and a subquery over it
abbrev pub call_at : ℕ → Func → Tree → Tree
call_at n f ts = call (at n) f ts

abbrev pub call_of : Func → Tree → Tree
call_of f ts = call nowhere f ts

abbrev pub aggregate_of : AggOp → Tree → Tree
aggregate_of o ts = aggregate nowhere o by_nothing ts

abbrev pub range_of_m : ℕ → Tree
range_of_m span = range nowhere (chosen (codes "m") [] 0) span

abbrev pub subquery_of_m : ℕ → Option ℕ → Tree
subquery_of_m span step = sub nowhere m span step 0

-- c{x="1"}, of which there is nothing
abbrev pub c_absent : Tree
c_absent = select nowhere (chosen (codes "c") (matcher (codes "x") Equal (codes "1") ∷ []) 0)

-- {x="1"}[1m]
abbrev pub x_is_1_for_a_minute : Tree
x_is_1_for_a_minute = range nowhere (record { name = None; matchers = matcher (codes "x") Equal (codes "1") ∷ []; offset = 0 }) 60000

-- a text, and several arguments
abbrev pub text_argument : List ℕ → Tree
text_argument t = text nowhere t

abbrev pub several : List Tree → Tree
several ts = more_from none ts

-- the vector of a number of seconds before 1970
abbrev pub before_1970 : ℕ → Tree
before_1970 seconds = call_of func.Vector (one (neg nowhere (whole seconds)))
