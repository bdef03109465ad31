use Rattle.std.proofs.Common.{not, [], ◌++◌}
use Rattle.std.specs.Option.{option_or}
use Rattle.spec_vectors.specs.Matching.{fault_of_outcomes, is_matched, items_kept, kept_pairs, left_alone, many_side, one_side, outcomes_of, side_fault}
use Rattle.spec_vectors.specs.Vectors.{in_order}
use Rattle.spec_vectors.proofs.Vectors.{vector_in_order, vector_filter, vector_unless}
use Rattle.spec_vectors.proofs.laws.answers_are_vectors.Goals as goal

pub returns-clause-joined : goal.returns-clause-joined
returns-clause-joined c = λ how keep_name op left right.
    let manys = many_side how.card left right in
    let ones = one_side how.card left right in
    let outcomes = outcomes_of how keep_name op manys ones in
    vector_unless (option_or (side_fault how manys ones) (fault_of_outcomes how.card [] outcomes)) (in_order (items_kept (kept_pairs outcomes))) (vector_in_order (items_kept (kept_pairs outcomes)))

pub returns-clause-either : goal.returns-clause-either
returns-clause-either c = λ how left right. vector_in_order (left ++ left_alone how right left)

pub returns-clause-both : goal.returns-clause-both
returns-clause-both c = λ how left right. vector_filter (is_matched how right) left

pub returns-clause-left : goal.returns-clause-left
returns-clause-left c = λ how left right. vector_filter (λ e. not (is_matched how right e)) left
