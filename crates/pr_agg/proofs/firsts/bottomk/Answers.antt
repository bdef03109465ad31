use Rattle.pr_window.specs.spec_vectors.Aggregation.{first_of_parts, least_first, is_within, rank}
use Rattle.pr_window.proofs.VectorsVectors.{vector_filter}
use Rattle.pr_agg.proofs.Answered.{still_vector}
use Rattle.pr_agg.proofs.firsts.bottomk.Goals as goal

pub returns-clause-vector : goal.returns-clause-vector
returns-clause-vector c =
    still_vector (λ v. v.items) c.first_of_parts.result (first_of_parts least_first c.args.k c.args.by.now c.args.vector.now)
    (vector_filter (λ e. is_within c.args.k (rank least_first c.args.by.now c.args.vector.now e)) c.args.vector.now c.requires) c.first_of_parts.ensures
