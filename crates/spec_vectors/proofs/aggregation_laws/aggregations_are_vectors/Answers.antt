use Rattle.spec_vectors.specs.Aggregation.{is_within, rank}
use Rattle.spec_vectors.proofs.Vectors.{vector_filter}
use Rattle.spec_vectors.proofs.aggregation_laws.aggregations_are_vectors.Goals as goal

pub returns-clause-first : goal.returns-clause-first
returns-clause-first c = λ order k by vector. vector_filter (λ e. is_within k (rank order by vector e)) vector
