use Rattle.pr_yaml.proofs.ScanLaws.{fault_is_function}
use Rattle.pr_yaml.proofs.yaml_scan.laws.scan_is_a_function.Goals as goal

pub returns : goal.returns
returns c = fault_is_function
