use Rattle.pr_ast.specs.Tree.{tree_of}
use Rattle.pr_types.proofs.CountLemmas.{exact_of}
use Rattle.pr_types.proofs.checking.counts_with.Goals as goal

pub returns : goal.returns
returns c = exact_of (tree_of c.args.e.now) c.args.selectors c.args.patterns c.counts_in-ranges.result c.requires.selectors c.requires.patterns c.ranges.selectors.fits c.counts_in-ranges.ensures
