use Rattle.pr_ast.specs.Tree.{tree_of}
use Rattle.pr_eval.proofs.Trees.{counts_of_number}
use Rattle.pr_eval.proofs.parts.lemma_is_number.Goals as goal

pub returns-clause-count : goal.returns-clause-count
returns-clause-count c = λ n. counts_of_number n (tree_of c.args.e.now) c.args.e.now.place c.args.value c.requires
