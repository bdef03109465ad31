-- Values with their times.
use Rattle.pr_num.specs.declared.value.Num.{Num}
use Rattle.pr_labels.specs.declared.item.Item.{Item}
use Rattle.pr_range.specs.spec_history.declared.spot.Spot.{Spot}
use Rattle.pr_range.specs.spec_vectors.Vectors.{element}
use Rattle.spec_meaning.specs.Calls.{seconds_of}

-- a series with the time of its value, in seconds
abbrev pub stamp_of : Item Spot → Item Num
stamp_of e = element e.labels (seconds_of e.value.time)
