use Rattle.pr_parse.proofs.ParsedLaws.{one_place_only, one_kind_only, tree_or_fault_only, lex_or_fault_only}
use Rattle.pr_parse.proofs.laws.text_has_one_fault.Goals as goal

pub returns-clause-place : goal.returns-clause-place
returns-clause-place c = one_place_only

pub returns-clause-kind : goal.returns-clause-kind
returns-clause-kind c = one_kind_only

pub returns-clause-no_tree : goal.returns-clause-no_tree
returns-clause-no_tree c = tree_or_fault_only

pub returns-clause-no_lex : goal.returns-clause-no_lex
returns-clause-no_lex c = lex_or_fault_only
