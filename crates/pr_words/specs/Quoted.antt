-- How bytes are written as a string in double quotes.
use Rattle.std.specs.Prelude.{ℕ, cond, ◌==◌, List, [], ◌∷◌, ◌++◌, codes, flat_map}
use Prim.Native.Char.{code}

-- a backslash, a quote and a line feed have a backslash before them
abbrev pub escaped_byte : ℕ → List ℕ
escaped_byte b = cond (b == code "\\") (codes "\\\\") (cond (b == code "\"") (codes "\\\"") (cond (b == code "\n") (codes "\\n") (b ∷ [])))

abbrev pub quoted_text : List ℕ → List ℕ
quoted_text bytes = codes "\"" ++ (flat_map escaped_byte bytes ++ codes "\"")
