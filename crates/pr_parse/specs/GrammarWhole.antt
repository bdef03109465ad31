-- What tokens are as an expression, and their first bad place.
use Rattle.std.specs.Prelude.{ℕ, List, []}
use Rattle.pr_forms.specs.Form.{rule, Reads, IsFirstBad}
use Rattle.pr_ast.specs.declared.place.Place.{Place}
use Rattle.pr_ast.specs.Tree.{Tree}
use Rattle.pr_parse.specs.Seen.{Seen}
use Rattle.pr_parse.specs.Grammar.{production, expression, part}

-- The tokens are a whole expression, with this tree.
abbrev pub Derives : List Seen → Tree → Type 0
Derives ts t = (p : Place) × Reads production (rule expression) ts (part p t) []

-- The tokens before the place can go on, and with the one there they cannot; where all can, it is
-- their end.
abbrev pub IsBadPlace : List Seen → ℕ → Type 0
IsBadPlace ts place = IsFirstBad production (rule expression) ts place
