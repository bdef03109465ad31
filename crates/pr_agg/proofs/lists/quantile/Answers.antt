use Rattle.std.proofs.Common.{IfOk, subst}
use Rattle.pr_window.specs.spec_vectors.Aggregation.{of_groups, always, quantile_of_values}
use Rattle.pr_window.specs.spec_vectors.private.Laws.{IsVector}
use Rattle.pr_window.proofs.VectorsAggregation.{aggregated_is_vector}
use Rattle.pr_agg.specs.private.Lists.{quantiles_in}
use Rattle.pr_agg.proofs.Answered.{as_answered, still_vector}
use Rattle.pr_agg.proofs.Gathered.{quantiles_are}
use Rattle.pr_agg.proofs.lists.quantile.Goals as goal

pub returns-clause-aggregated : goal.returns-clause-aggregated
returns-clause-aggregated c =
    as_answered (λ v. v.items) c.quantiles.result (of_groups (always (quantile_of_values c.args.phi)) c.args.by.now c.args.vector.now) (quantiles_in c.args.phi c.in_ok-parts.parts.entries)
    (quantiles_are c.args.phi c.args.by.now c.args.vector.now c.in_ok-parts.parts c.in_ok-parts.ensures) c.quantiles.ensures

pub returns-clause-vector : goal.returns-clause-vector
returns-clause-vector c =
    still_vector (λ v. v.items) c.quantiles.result (quantiles_in c.args.phi c.in_ok-parts.parts.entries)
    (subst (λ r. IfOk r IsVector) (quantiles_are c.args.phi c.args.by.now c.args.vector.now c.in_ok-parts.parts c.in_ok-parts.ensures) (aggregated_is_vector (always (quantile_of_values c.args.phi)) c.args.by.now c.args.vector.now))
    c.quantiles.ensures
