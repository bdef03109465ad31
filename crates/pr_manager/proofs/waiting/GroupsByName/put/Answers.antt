use Rattle.std.proofs.Common.{◌≡◌, List, Some, cond, subst}
use Rattle.pr_manager.specs.declared.naming.GroupName.{GroupName}
use Rattle.pr_manager.specs.private.Naming.{same_name, value_of}
use Rattle.pr_manager.proofs.waiting.GroupsByName.put.Goals as goal

pub returns : goal.returns
returns g c = λ q.
    subst (λ (l : List (GroupName × g.row.V.Denot)). value_of c.insert.new.self.entries q ≡ cond (same_name c.args.name q) (Some c.args.value) (value_of l q)) c.self.view_is
    (c.in_ok-insert.ensures.updates.0 q)
