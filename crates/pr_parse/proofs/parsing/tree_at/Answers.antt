use Rattle.std.proofs.Common.{◌≤◌, [], subst}
use Rattle.pr_parse.specs.Seen.{seen}
use Rattle.pr_parse.specs.Deep.{depth, IsTooDeep}
use Rattle.pr_parse.specs.Seen.{kinds_seen}
use Rattle.pr_parse.specs.Derived.{RefusesSeen}
use Rattle.pr_parse.proofs.Judged.{kinds_same, not_shallow, append_none}
use Rattle.pr_parse.proofs.parsing.tree_at.Goals as goal

pub shallow_tree-requires : goal.shallow_tree-requires
shallow_tree-requires c = subst (λ ks. depth ks ≤ 100) (kinds_same c.args.tokens.now) (rw c.in-None.is at c.in_ok-too_deep_at.ensures)

pub deep_fault-requires : goal.deep_fault-requires
deep_fault-requires c = subst (λ ks. IsTooDeep ks c.in-Some.deep) (kinds_same c.args.tokens.now) (rw c.in-Some.is at c.in_ok-too_deep_at.ensures)

pub returns-in-Some-clause-only : goal.returns-in-Some-clause-only
returns-in-Some-clause-only c = λ v r d.
    absurd (not_shallow (kinds_seen (seen c.args.tokens.now)) c.in-Some.deep (subst (λ ks. IsTooDeep ks c.in-Some.deep) (kinds_same c.args.tokens.now) (rw c.in-Some.is at c.in_ok-too_deep_at.ensures)) d)

pub returns-in-Some-clause-fault : goal.returns-in-Some-clause-fault
returns-in-Some-clause-fault c = subst (λ us. RefusesSeen c.args.end us c.deep_fault.result) (append_none (seen c.args.tokens.now)) (c.deep_fault.ensures [])
