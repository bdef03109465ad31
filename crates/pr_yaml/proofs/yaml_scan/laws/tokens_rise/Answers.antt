use Rattle.pr_yaml.proofs.TokenPlaces.{tokens_rise, tokens_stand}
use Rattle.pr_yaml.proofs.yaml_scan.laws.tokens_rise.Goals as goal

pub returns-clause-rising : goal.returns-clause-rising
returns-clause-rising c = tokens_rise

pub returns-clause-stand : goal.returns-clause-stand
returns-clause-stand c = tokens_stand
