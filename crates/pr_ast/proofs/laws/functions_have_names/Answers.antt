use Rattle.pr_ast.proofs.NameLaws.{func_read, func_only, func_no_word}
use Rattle.pr_ast.proofs.laws.functions_have_names.Goals as goal

pub returns-clause-read : goal.returns-clause-read
returns-clause-read c = func_read

pub returns-clause-only : goal.returns-clause-only
returns-clause-only c = func_only

pub returns-clause-no_word : goal.returns-clause-no_word
returns-clause-no_word c = func_no_word
