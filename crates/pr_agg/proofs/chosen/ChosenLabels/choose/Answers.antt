use Rattle.std.proofs.Common.{◌∙◌, ◌++◌, filter}
use Rattle.pr_agg.specs.private.Chosen.{is_in_key, pairs_at}
use Rattle.pr_agg.proofs.ChosenPairs.{key_is}
use Rattle.pr_agg.proofs.chosen.ChosenLabels.choose.Goals as goal

pub returns : goal.returns
returns c =
    c.in_ok-push_places.ensures
    ∙ (λ i. pairs_at (c.clear.ensures.items i) ++ filter (is_in_key c.args.on (c.in_ok-listed.ensures i)) (c.pairs-pairs.ensures.all i))
    ∙ key_is c.args.on c.args.labels.now c.args.names.now
