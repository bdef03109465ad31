use Rattle.pr_ast.specs.Tree.{tree_of}
use Rattle.pr_eval.proofs.Trees.{counts_of_range, range_within, selector_stands, selector_within, tests_of_range}
use Rattle.pr_eval.proofs.parts.lemma_is_range.Goals as goal

pub returns-clause-within : goal.returns-clause-within
returns-clause-within c = λ whole n h. selector_within (tree_of c.args.e.now) c.args.selector.now (tests_of_range (tree_of c.args.e.now) c.args.e.now.place c.args.selector.now c.args.span c.requires) _ n.selectors h.selectors

pub returns-clause-ranges : goal.returns-clause-ranges
returns-clause-ranges c = λ whole n. range_within whole (tree_of c.args.e.now) n c.args.e.now.place c.args.selector.now c.args.span c.requires

pub returns-clause-stands : goal.returns-clause-stands
returns-clause-stands c = λ whole n h. selector_stands (tree_of c.args.e.now) c.args.selector.now (tests_of_range (tree_of c.args.e.now) c.args.e.now.place c.args.selector.now c.args.span c.requires) _ n.selectors h.selectors

pub returns-clause-count : goal.returns-clause-count
returns-clause-count c = λ n. counts_of_range n (tree_of c.args.e.now) c.args.e.now.place c.args.selector.now c.args.span c.requires
