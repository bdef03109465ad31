use Rattle.std.proofs.Common.{refl}
use Rattle.std.specs.Fmt.{digits}
use Rattle.pr_num.specs.Shown.{shown, fraction_text}
use Rattle.pr_ast.specs.Words.{word_text}
use Rattle.pr_ast.specs.Names.{op_text, func_text}
use Rattle.pr_ast.proofs.examples.small_trees_are_printed_so.Goals as goal

pub returns-clause-grouping : goal.returns-clause-grouping
unfolding digits shown fraction_text word_text op_text func_text
returns-clause-grouping c = refl

pub returns-clause-no_grouping : goal.returns-clause-no_grouping
unfolding digits shown fraction_text word_text op_text func_text
returns-clause-no_grouping c = refl

pub returns-clause-with_bool : goal.returns-clause-with_bool
unfolding digits shown fraction_text word_text op_text func_text
returns-clause-with_bool c = refl

pub returns-clause-matchers : goal.returns-clause-matchers
unfolding digits shown fraction_text word_text op_text func_text
returns-clause-matchers c = refl

pub returns-clause-ranged : goal.returns-clause-ranged
unfolding digits shown fraction_text word_text op_text func_text
returns-clause-ranged c = refl

pub returns-clause-subquery : goal.returns-clause-subquery
unfolding digits shown fraction_text word_text op_text func_text
returns-clause-subquery c = refl

pub returns-clause-step : goal.returns-clause-step
unfolding digits shown fraction_text word_text op_text func_text
returns-clause-step c = refl
