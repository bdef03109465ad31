-- The open parts as the code keeps them.
use Rattle.std.specs.Prelude.{List, [], ◌∷◌}
use Rattle.pr_parse.specs.declared.depth.OpenPart.{OpenPart}
use Rattle.pr_parse.specs.declared.depth.Parts.{Parts}
use Rattle.pr_parse.specs.declared.depth.Parts.TheFolds.{fold-Parts}
use Rattle.pr_parse.specs.declared.depth.Parts.TheOpen.{Parts-F, Whole, Inside}

abbrev pub parts_step : Parts-F (List OpenPart) → List OpenPart
parts_step (Whole p) = p ∷ []
parts_step (Inside p b) = p ∷ b.value

abbrev pub parts_of : Parts → List OpenPart
parts_of = fold-Parts (List OpenPart) parts_step
