use Rattle.pr_ast.proofs.Forgotten.{text_same, reach_same, steps_same, forget_again}
use Rattle.pr_ast.proofs.laws.places_do_not_matter.Goals as goal

pub returns-clause-text : goal.returns-clause-text
returns-clause-text c = text_same

pub returns-clause-reach : goal.returns-clause-reach
returns-clause-reach c = reach_same

pub returns-clause-steps : goal.returns-clause-steps
returns-clause-steps c = steps_same

pub returns-clause-again : goal.returns-clause-again
returns-clause-again c = forget_again
