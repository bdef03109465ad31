use Rattle.pr_yaml.proofs.DistinctKeys.{distinct_keys}
use Rattle.pr_yaml.proofs.laws.keys_of_a_map_are_distinct.Goals as goal

pub returns : goal.returns
returns c = distinct_keys
