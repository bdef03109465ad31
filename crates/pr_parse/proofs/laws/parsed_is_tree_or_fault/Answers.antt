use Rattle.pr_parse.proofs.ParsedLaws.{tree_both, bad_both, lex_both}
use Rattle.pr_parse.proofs.laws.parsed_is_tree_or_fault.Goals as goal

pub returns-clause-tree : goal.returns-clause-tree
returns-clause-tree c = tree_both

pub returns-clause-lex : goal.returns-clause-lex
returns-clause-lex c = lex_both

pub returns-clause-fault : goal.returns-clause-fault
returns-clause-fault c = bad_both
