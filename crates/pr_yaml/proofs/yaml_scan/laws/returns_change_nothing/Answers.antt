use Rattle.pr_yaml.proofs.Returns.{same_tokens, same_places}
use Rattle.pr_yaml.proofs.yaml_scan.laws.returns_change_nothing.Goals as goal

pub returns-clause-read : goal.returns-clause-read
returns-clause-read c = same_tokens

pub returns-clause-places : goal.returns-clause-places
returns-clause-places c = same_places
