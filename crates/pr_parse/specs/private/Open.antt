-- The open parts of a text, for laws on depths.
use Rattle.pr_parse.specs.declared.depth.OpenPart.{OpenPart}

-- a part that is open: whether it stands in braces, its operators, and the greatest height of a
-- closed part inside it
abbrev pub Open : Type 0
Open = OpenPart
