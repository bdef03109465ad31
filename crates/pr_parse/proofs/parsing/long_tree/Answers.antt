use Rattle.std.proofs.Common.{subst}
use Rattle.pr_parse.specs.Seen.{seen}
use Rattle.pr_parse.specs.Deep.{IsTooDeep}
use Rattle.pr_parse.proofs.Judged.{kinds_same}
use Rattle.pr_parse.proofs.Fronts.{front_too_deep, front_refuses}
use Rattle.pr_parse.proofs.parsing.long_tree.Goals as goal

pub deep_fault-requires : goal.deep_fault-requires
deep_fault-requires c = subst (λ ks. IsTooDeep ks c.in-Some.deep) (kinds_same c.args.front.now) (rw c.in-Some.is at c.in_ok-deep.ensures)

pub returns-in-Some-clause-only : goal.returns-in-Some-clause-only
returns-in-Some-clause-only c = λ tree x.
    absurd
    (front_too_deep c.args.text.now 4096 (seen c.args.front.now) c.in-Some.deep c.requires
    (subst (λ ks. IsTooDeep ks c.in-Some.deep) (kinds_same c.args.front.now) (rw c.in-Some.is at c.in_ok-deep.ensures)) tree x)

pub returns-in-Some-clause-fault : goal.returns-in-Some-clause-fault
returns-in-Some-clause-fault c =
    front_refuses c.args.text.now 4096 (seen c.args.front.now) c.deep_fault.result c.requires c.deep_fault.ensures
