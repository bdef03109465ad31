use Rattle.pr_parse.proofs.ParsedLaws.{one_tree}
use Rattle.pr_parse.proofs.laws.text_has_one_tree.Goals as goal

pub returns : goal.returns
returns c = one_tree
