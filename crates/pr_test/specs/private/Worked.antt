-- What small files hold, to try the definitions on.
use Rattle.std.specs.Prelude.{ℕ, List, Option, None}

-- no file is there
abbrev pub nothing_held : List ℕ → Option (List ℕ)
nothing_held name = None
