use Rattle.std.proofs.Common.{ap, sym, ◌∙◌}
use Rattle.std.specs.Hash.{fed_along}
use Rattle.pr_agg.specs.private.Chosen.{pairs_at}
use Rattle.pr_agg.proofs.ChosenPairs.{fed_places}
use Rattle.pr_agg.proofs.chosen.ChosenLabelsHash.hash.Goals as goal

pub returns : goal.returns
returns g c =
    fed_along g.H.Hasher.write c.args.state.now c.hash.new.state (fed_places c.as_slice.result.now c.args.self.now (sym c.self.view_is ∙ ap pairs_at (sym c.as_slice.ensures.value))) c.hash.ensures
