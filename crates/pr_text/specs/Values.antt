-- The printed places that stand in answers.
use Rattle.std.specs.Prelude.{ℕ, List, ◌++◌, codes, decimal}

-- the place of a fault: a byte of the expression's text
abbrev pub place_text : ℕ → List ℕ
place_text place = codes " at " ++ decimal place ++ codes "\n"
