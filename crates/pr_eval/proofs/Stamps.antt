-- The times of samples, without the metric's name.
use Rattle.std.proofs.Common.{◌≡◌, List, [], ◌∷◌, map, refl, ap}
use Rattle.pr_labels.specs.declared.item.Item.{Item}
use Rattle.pr_range.specs.spec_history.declared.spot.Spot.{Spot}
use Rattle.spec_meaning.specs.Calls.{with_time}
use Rattle.pr_fn.specs.private.Rows.{without_metric}
use Rattle.pr_eval.specs.private.Timed.{stamp_of}

pub stamps : (items : List (Item Spot)) → map without_metric (map stamp_of items) ≡ map with_time items
stamps [] = refl
stamps (e ∷ es) = ap (λ l. with_time e ∷ l) (stamps es)
