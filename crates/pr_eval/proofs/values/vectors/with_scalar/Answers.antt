use Rattle.std.proofs.Common.{subst, sym}
use Rattle.pr_range.specs.spec_vectors.private.Laws.{IsVector}
use Rattle.pr_range.proofs.VectorsVectors.{vector_filter}
use Rattle.spec_meaning.specs.private.Laws.{IsAnswer}
use Rattle.pr_eval.specs.private.Besides.{holds_beside}
use Rattle.pr_eval.proofs.values.vectors.with_scalar.Goals as goal

pub returns-then-filters-clause-vector : goal.returns-then-filters-clause-vector
returns-then-filters-clause-vector c = λ h.
    subst IsAnswer (sym c.vector.ensures) (subst IsVector (sym c.kept_where.ensures) (vector_filter (λ e. holds_beside c.args.beside.now e.value) c.args.items.items h))
