use Rattle.pr_ast.specs.Tree.{tree_of}
use Rattle.pr_eval.proofs.Trees.{counts_of_text}
use Rattle.pr_eval.proofs.parts.lemma_is_text.Goals as goal

pub returns-clause-count : goal.returns-clause-count
returns-clause-count c = λ n. counts_of_text n (tree_of c.args.e.now) c.args.e.now.place c.args.written.now c.requires
