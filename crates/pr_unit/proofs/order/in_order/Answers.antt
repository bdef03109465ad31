use Rattle.std.proofs.Common.{ℕ, List, ◌∷◌, ap, sym, ◌∙◌}
use Rattle.pr_unit.specs.private.Kept.{name_of}
use Rattle.pr_unit.specs.private.Ordered.{named_first}
use Rattle.pr_unit.proofs.Named.{names_next}
use Rattle.pr_unit.proofs.order.in_order.Goals as goal

pub names-preserved : goal.names-preserved
names-preserved g c =
    names_next name_of c.names.rest.now c.in-Some.after.now c.as_str.result.now c.names.named.items c.names.others.items c.part.new.named.items c.in_ok-others.others.items
    (named_first name_of c.args.names.now c.args.groups.items) (c.in-Some.ensures.cases.0 ∙ ap (λ (n : List ℕ). n ∷ c.in-Some.after.now) (sym c.as_str.ensures)) c.names.invariant c.in_ok-others.ensures.named c.in_ok-others.ensures.others
