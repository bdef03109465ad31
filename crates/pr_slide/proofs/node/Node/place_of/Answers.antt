use Rattle.std.proofs.Common.{◌≡◌, slice_get, Some, sym, subst}
use Rattle.std.specs.Map.{keys_of}
use Rattle.pr_slide.proofs.Nodes.{Row}
use Rattle.pr_slide.proofs.Windows.{key_found}
use Rattle.pr_slide.proofs.node.Node.place_of.Goals as goal

pub returns-in-Some-clause-there : goal.returns-in-Some-clause-there
returns-in-Some-clause-there c = λ inside.
    subst (λ (n : Row). slice_get (keys_of n.1) c.in-Some.place ≡ Some c.args.series) c.self.view_is
    (key_found c.args.series (keys_of c.self.inside.windows.entries) c.in-Some.place (sym c.in-Some.ensures.index))
