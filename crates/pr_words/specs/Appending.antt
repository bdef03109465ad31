-- What is appended to a text.
use Rattle.std.specs.Prelude.{ℕ, List, ◌++◌, codes, decimal}

-- a number behind a blank
abbrev pub number_text : ℕ → List ℕ
number_text n = codes " " ++ decimal n
