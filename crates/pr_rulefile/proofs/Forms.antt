-- A field that a map has, and one that it has not.
use Rattle.std.proofs.Common.{◌≡◌, true, false, List, Option, Some, None, refl}
use Rattle.std.specs.Prelude.{is_some, ◌∷◌, []}
use Rattle.pr_yaml.specs.Tree.{Tree, EntryTree}
use Rattle.pr_rulefile.specs.declared.fields.problem.Problem.{Problem}
use Rattle.pr_rulefile.specs.declared.fields.problem.ProblemKind.TheVariants.{UnknownField}
use Rattle.pr_rulefile.specs.Problems.{problem, unless_absent}
use Rattle.pr_rulefile.specs.Maps.{by_form, wrong_by}

pub unknown : (e : EntryTree) (o : Option (Tree → List Problem)) → is_some o ≡ false → by_form e o ≡ problem e.line (UnknownField e.key) ∷ []
unknown e None h = refl
unknown e (Some wrong) h = cc

pub known : (e : EntryTree) (o : Option (Tree → List Problem)) → is_some o ≡ true → by_form e o ≡ unless_absent e.value (wrong_by e.value o)
known e None h = cc
known e (Some wrong) h = refl
