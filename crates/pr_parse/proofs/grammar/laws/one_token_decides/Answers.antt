use Rattle.pr_parse.proofs.Table.{known}
use Rattle.pr_parse.proofs.grammar.laws.one_token_decides.Goals as goal

pub returns : goal.returns
returns c = known
