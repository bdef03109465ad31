use Rattle.pr_yaml.proofs.ScanLaws.{is_function}
use Rattle.pr_yaml.proofs.yaml_scan.laws.places_are_a_function.Goals as goal

pub returns : goal.returns
returns c = is_function
