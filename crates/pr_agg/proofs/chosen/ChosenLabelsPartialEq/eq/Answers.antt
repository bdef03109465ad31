use Rattle.std.proofs.Common.{◌∙◌}
use Rattle.pr_labels.specs.Order.{labels_eq}
use Rattle.pr_agg.proofs.ChosenPairs.{same_places}
use Rattle.pr_agg.proofs.chosen.ChosenLabelsPartialEq.eq.Goals as goal

pub returns : goal.returns
returns c =
    c.eq.ensures ∙ same_places c.self.inside.places.items c.other.inside.places.items ∙ (λ i. labels_eq (c.self.view_is i) (c.other.view_is i))
