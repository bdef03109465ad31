-- Words for the examples of single functions, aggregations and operators.
use Rattle.std.specs.Prelude.{ℕ, ◌*◌, ◌^◌, ◌-◌, negsuc, List, [], ◌∷◌, codes, Some, Result, Ok}
use Rattle.pr_num.specs.declared.value.Num.{Num}
use Rattle.pr_num.specs.declared.value.Num.TheVariants.{Finite}
use Rattle.pr_ast.specs.pr_labels.declared.item.Item.{Item}
use Rattle.pr_ast.specs.pr_labels.LabelSet.{pair_of}
use Rattle.spec_vectors.specs.spec_history.private.Examples.{entry_at, whole as held, three as m_three_times}
use Rattle.spec_vectors.specs.spec_history.declared.entry.Entry.{Entry}
use Rattle.pr_ast.specs.declared.selector.MatchText.{MatchText}
use Rattle.pr_ast.specs.declared.names.AggOp.{AggOp}
use Rattle.pr_ast.specs.declared.names.Func.{Func}
use Rattle.pr_ast.specs.declared.names.Func.TheVariants as func
use Rattle.pr_ast.specs.declared.names.BinOp.{BinOp}
use Rattle.pr_ast.specs.Tree.{Tree, select, range, sub, neg}
use Rattle.pr_ast.specs.private.Places.{nowhere}
use Rattle.pr_ast.specs.private.Examples.{chosen, one}
use Rattle.spec_vectors.specs.private.RangeExamples.{falling}
use Rattle.spec_vectors.specs.Vectors.{element}
use Rattle.spec_meaning.specs.declared.fault.Fault.{Fault}
use Rattle.spec_meaning.specs.declared.value.Value.{Value}
use Rattle.spec_meaning.specs.declared.value.Value.TheVariants.{Vector}
use Rattle.spec_meaning.specs.Meaning.{meaning}
use Rattle.spec_meaning.specs.private.Examples.{a, at, at_0, aggregate_of, call_of, entry_of, matching_alone, named, operation, range_of_m, units, whole, with_bool, x_only, many}

-- an answer of one element without labels
abbrev pub alone : Num → Result Value Fault
alone v = Ok (Vector (element [] v ∷ []))

abbrev pub below_zero : ℕ → Num
below_zero k = Finite (negsuc (k - 1))

-- the vector of -2.5, and of a whole number
abbrev pub minus_two_and_a_half : Tree
minus_two_and_a_half = call_of func.Vector (one (neg nowhere (units (25 * 10 ^ 8))))

abbrev pub vector_of : ℕ → Tree
vector_of n = call_of func.Vector (one (whole n))

-- a function of m over four minutes, where m is 5, 8, 2 and 4 at each minute from the first on
abbrev pub of_falling : Func → Result Value Fault
of_falling f = meaning 60000 falling (call_of f (one (range_of_m 240000))) 240000

-- a function of the last two of the values 1, 2 and 3 of m
abbrev pub of_two_and_three : Func → Result Value Fault
of_two_and_three f = meaning 60000 m_three_times (call_of f (one (range_of_m 120000))) 120000

-- an aggregation of 6 and 3
abbrev pub of_six_and_three : AggOp → Result Value Fault
of_six_and_three o = at_0 many (aggregate_of o (one a))

-- at 0: a{x="1"} 1, a{x="2"} 2 and a{x="3"} 3; an operator between them and 2
abbrev pub one_two_three : List Entry
one_two_three = entry_of (named (codes "a") (x_only (codes "1")) 1) ∷ entry_of (named (codes "a") (x_only (codes "2")) 2) ∷ entry_of (named (codes "a") (x_only (codes "3")) 3) ∷ []

abbrev pub against_two : BinOp → Result Value Fault
against_two o = at_0 one_two_three (operation o a (whole 2))

abbrev pub truth_against_two : BinOp → Result Value Fault
truth_against_two o = at_0 one_two_three (with_bool o a (whole 2))

-- some of them, and three values without the metric's name
abbrev pub a_1 : Item Num
a_1 = named (codes "a") (x_only (codes "1")) 1

abbrev pub a_2 : Item Num
a_2 = named (codes "a") (x_only (codes "2")) 2

abbrev pub a_3 : Item Num
a_3 = named (codes "a") (x_only (codes "3")) 3

abbrev pub three_values : Num → Num → Num → Result Value Fault
three_values p q r = Ok (Vector (element (x_only (codes "1")) p ∷ element (x_only (codes "2")) q ∷ element (x_only (codes "3")) r ∷ []))

-- at 0: h{le="1"} 5 and h{le="+Inf"} 10
abbrev pub bucket_entry : List ℕ → ℕ → Entry
bucket_entry bound n = entry_of (named (codes "h") (pair_of (codes "le") bound ∷ []) n)

abbrev pub five_and_ten : List Entry
five_and_ten = bucket_entry (codes "1") 5 ∷ bucket_entry (codes "+Inf") 10 ∷ []

-- what is absent of a selector of these matchers, where there is nothing
abbrev pub absent_of_matchers : List MatchText → Result Value Fault
absent_of_matchers ms = at_0 [] (call_of func.Absent (one (matching_alone ms)))

-- the widest whole number, at 0 and a minute later
abbrev pub wide_twice : List Entry
wide_twice = entry_at 0 (held (10 ^ 20 - 1)) ∷ entry_at 60000 (held (10 ^ 20 - 1)) ∷ []

-- a range of m, and a subquery over it, at places of their own; a subquery over m that ends a
-- minute earlier
abbrev pub range_at_7 : Tree
range_at_7 = range (at 7) (chosen (codes "m") [] 0) 120000

abbrev pub a_minute_earlier : Tree
a_minute_earlier = sub nowhere (select nowhere (chosen (codes "m") [] 0)) 120000 (Some 60000) 60000

-- the sum of m over so many milliseconds
abbrev pub sum_of_m : ℕ → Tree
sum_of_m span = call_of func.SumOverTime (one (range_of_m span))
