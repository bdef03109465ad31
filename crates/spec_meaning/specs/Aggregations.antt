-- What aggregations give.
use Rattle.std.specs.Prelude.{List, Result, Ok, Err}
use Rattle.pr_num.specs.declared.value.Num.{Num}
use Rattle.pr_num.specs.declared.value.TooWide.{TooWide}
use Rattle.pr_ast.specs.pr_labels.declared.grouping.Grouping.{Grouping}
use Rattle.pr_ast.specs.pr_labels.declared.item.Item.{Item}
use Rattle.pr_ast.specs.declared.place.Place.{Place}
use Rattle.pr_ast.specs.declared.names.AggOp.{AggOp}
use Rattle.pr_ast.specs.declared.names.AggOp.TheVariants.{Sum, Avg, Min, Max, Count, Group, TopK, BottomK, Quantile, CountValues}
use Rattle.pr_ast.specs.Tree.{Tree}
use Rattle.pr_types.specs.Typed.{content_at}
use Rattle.spec_vectors.specs.Aggregation.{of_groups, always, count_of_values, counted, first_of_parts, greatest_first, greatest_of_values, least_first, least_of_values, mean_of_values, one_of_values, quantile_of_values, sum_of_values}
use Rattle.spec_meaning.specs.declared.fault.Fault.{Fault}
use Rattle.spec_meaning.specs.declared.fault.FaultKind.TheVariants as kind
use Rattle.spec_meaning.specs.declared.value.Value.{Value}
use Rattle.spec_meaning.specs.declared.value.Value.TheVariants.{Vector}
use Rattle.spec_meaning.specs.Answers.{fault}
use Rattle.spec_meaning.specs.Given.{Given, elements_given, number_given}

abbrev pub aggregated_at : Place → Result (List (Item Num)) TooWide → Result Value Fault
aggregated_at p (Ok items) = Ok (Vector items)
aggregated_at p (Err w) = Err (fault p kind.TooWide)

-- An aggregation, by what its arguments give; a parameter stands before the vector, and the name of
-- a label is looked up in the tree.
abbrev pub summed_up : Place → AggOp → Grouping → Tree → List Given → Result Value Fault
summed_up p Sum by ts gs = aggregated_at p (of_groups sum_of_values by (elements_given gs 0))
summed_up p Avg by ts gs = aggregated_at p (of_groups (always mean_of_values) by (elements_given gs 0))
summed_up p Min by ts gs = aggregated_at p (of_groups (always least_of_values) by (elements_given gs 0))
summed_up p Max by ts gs = aggregated_at p (of_groups (always greatest_of_values) by (elements_given gs 0))
summed_up p Count by ts gs = aggregated_at p (of_groups (always count_of_values) by (elements_given gs 0))
summed_up p Group by ts gs = aggregated_at p (of_groups (always one_of_values) by (elements_given gs 0))
summed_up p TopK by ts gs = Ok (Vector (first_of_parts greatest_first (number_given gs 0) by (elements_given gs 1)))
summed_up p BottomK by ts gs = Ok (Vector (first_of_parts least_first (number_given gs 0) by (elements_given gs 1)))
summed_up p Quantile by ts gs = aggregated_at p (of_groups (always (quantile_of_values (number_given gs 0))) by (elements_given gs 1))
summed_up p CountValues by ts gs = Ok (Vector (counted (content_at ts 0) by (elements_given gs 1)))
