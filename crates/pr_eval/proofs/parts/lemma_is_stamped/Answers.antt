use Rattle.pr_ast.specs.Tree.{tree_of}
use Rattle.pr_eval.proofs.Trees.{counts_of_stamped, selector_stands, selector_within, stamped_keeps, tests_of_stamped}
use Rattle.pr_eval.proofs.parts.lemma_is_stamped.Goals as goal

pub returns-clause-within : goal.returns-clause-within
returns-clause-within c = λ whole n h. selector_within (tree_of c.args.e.now) c.args.selector.now (tests_of_stamped (tree_of c.args.e.now) c.args.e.now.place c.args.place c.args.selector.now c.requires) _ n.selectors h.selectors

pub returns-clause-stands : goal.returns-clause-stands
returns-clause-stands c = λ whole n h. selector_stands (tree_of c.args.e.now) c.args.selector.now (tests_of_stamped (tree_of c.args.e.now) c.args.e.now.place c.args.place c.args.selector.now c.requires) _ n.selectors h.selectors

pub returns-clause-keeps : goal.returns-clause-keeps
returns-clause-keeps c = stamped_keeps (tree_of c.args.e.now) c.args.e.now.place c.args.place c.args.selector.now c.requires

pub returns-clause-count : goal.returns-clause-count
returns-clause-count c = λ n. counts_of_stamped n (tree_of c.args.e.now) c.args.e.now.place c.args.place c.args.selector.now c.requires
