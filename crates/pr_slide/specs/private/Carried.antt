-- Windows that go on under other numbers.
use Rattle.std.specs.Prelude.{ℕ, Bool, false, nat_eq, List, [], ◌∷◌, Option, Some, None, position}
use Rattle.pr_slide.specs.declared.window.SeriesWindow.{SeriesWindow}
use Rattle.pr_slide.specs.private.Windows.{Nodes}

-- whether a choice names an older number
abbrev pub names : ℕ → Option ℕ → Bool
names j None = false
names j (Some i) = nat_eq i j

-- the number that goes on from an older one
abbrev pub number_from : ℕ → List (Option ℕ) → Option ℕ
number_from j from = position (names j) from

-- the windows that go on, with their new numbers
abbrev pub renumbered : Option ℕ → List (ℕ × SeriesWindow) → Nodes → Nodes
renumbered None windows rest = rest
renumbered (Some k) windows rest = (k, windows) ∷ rest

abbrev pub carried : List (Option ℕ) → Nodes → Nodes
carried from [] = []
carried from (n ∷ nodes) = renumbered (number_from n.0 from) n.1 (carried from nodes)
