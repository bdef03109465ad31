use Rattle.pr_yaml.proofs.ReadLaws.{goes_on_both}
use Rattle.pr_yaml.proofs.laws.what_goes_on_is_a_beginning.Goals as goal

pub returns : goal.returns
returns c = goes_on_both
