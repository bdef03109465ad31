use Rattle.std.proofs.Common.{◌||◌, List, ◌∷◌, ap, sym, ◌∙◌}
use Rattle.std.specs.Prelude.{is_some}
use Rattle.pr_group.specs.private.Keeping.{KeptGroup}
use Rattle.pr_manager.specs.declared.naming.GroupName.{GroupName}
use Rattle.pr_manager.specs.private.Naming.{is_among, names_of, value_of}
use Rattle.pr_manager.proofs.Parts.{names_end, names_then}
use Rattle.pr_manager.proofs.parting.names_of.Goals as goal

pub naming-init : goal.naming-init
naming-init g c = λ q. ap (λ (l : List (GroupName × Unit {0})). is_some (value_of l q) || is_among q (names_of c.args.groups.now)) c.new-names.ensures

pub naming-preserved : goal.naming-preserved
naming-preserved g c = λ q.
    names_then c.naming.names c.put.new.self tt c.in_ok-name_of.field-0 q (names_of c.in-Some.after.now) (c.in_ok-put.ensures q)
    ∙ ap (λ n. is_some (value_of c.naming.names q) || is_among q (n ∷ names_of c.in-Some.after.now)) c.in_ok-name_of.ensures
    ∙ ap (λ (l : List (KeptGroup g.row.R.Denot)). is_some (value_of c.naming.names q) || is_among q (names_of l)) (sym c.in-Some.ensures.cases.0)
    ∙ c.naming.invariant q

pub returns : goal.returns
returns g c = λ q. names_end c.naming.names q c.naming.rest.now (names_of c.args.groups.now) c.in_default.ensures.cases (c.naming.invariant q)
