use Rattle.std.proofs.Common.{refl}
use Rattle.pr_yaml.specs.Tree.{is_absent_text}
use Rattle.pr_yaml.proofs.examples.absent_values_say_nothing.Goals as goal

pub returns-clause-tilde : goal.returns-clause-tilde
unfolding is_absent_text
returns-clause-tilde c = refl

pub returns-clause-null : goal.returns-clause-null
unfolding is_absent_text
returns-clause-null c = refl

pub returns-clause-empty : goal.returns-clause-empty
unfolding is_absent_text
returns-clause-empty c = refl

pub returns-clause-quoted_empty : goal.returns-clause-quoted_empty
unfolding is_absent_text
returns-clause-quoted_empty c = refl

pub returns-clause-other : goal.returns-clause-other
unfolding is_absent_text
returns-clause-other c = refl

pub returns-clause-capital : goal.returns-clause-capital
unfolding is_absent_text
returns-clause-capital c = refl

pub returns-clause-capitals : goal.returns-clause-capitals
unfolding is_absent_text
returns-clause-capitals c = refl
