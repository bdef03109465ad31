use Rattle.pr_yaml.proofs.ReadLaws.{answered_tree, answered_only, answered_fault}
use Rattle.pr_yaml.proofs.reader.read.Goals as goal

pub returns-clause-tree : goal.returns-clause-tree
returns-clause-tree c = answered_tree c.args.bytes.now c.read_text.result c.read_text.ensures

pub returns-clause-only : goal.returns-clause-only
returns-clause-only c = answered_only c.args.bytes.now c.read_text.result c.read_text.ensures

pub returns-clause-fault : goal.returns-clause-fault
returns-clause-fault c = answered_fault c.args.bytes.now c.read_text.result c.read_text.ensures
