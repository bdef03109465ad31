use Rattle.pr_ast.proofs.NameLaws.{agg_is_word, agg_read}
use Rattle.pr_ast.proofs.laws.aggregations_have_names.Goals as goal

pub returns-clause-word : goal.returns-clause-word
returns-clause-word c = agg_is_word

pub returns-clause-read : goal.returns-clause-read
returns-clause-read c = agg_read
