use Rattle.pr_types.proofs.Parts.{parts_of_select, parts_of_range, parts_of_neg, parts_of_sub, parts_of_binary, parts_of_call, parts_of_aggregate}
use Rattle.pr_types.proofs.laws.parts_of_typed_expressions_have_types.Goals as goal

pub returns : goal.returns
returns c = record {
  selector = parts_of_select;
  range = parts_of_range;
  sign = parts_of_neg;
  subquery = parts_of_sub;
  operation = parts_of_binary;
  call = parts_of_call;
  aggregate = parts_of_aggregate;
}
