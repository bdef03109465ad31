use Rattle.std.proofs.Common.{false}
use Rattle.spec_vectors.proofs.Vectors.{vector_filter}
use Rattle.pr_join.specs.private.Sets.{matched, with_match}
use Rattle.pr_join.proofs.Ordered.{still_vector}
use Rattle.pr_join.proofs.sets.unless.Goals as goal

pub returns-clause-vector : goal.returns-clause-vector
returns-clause-vector c = λ h.
    let how = c.args.how.now in
    let left = c.args.left.now in
    let right = c.args.right.now in
    still_vector c.with_match.result (λ v. v.items) (with_match how right false left) (vector_filter (matched how right false) left h) c.with_match.ensures
