-- Names that stand as they are.
use Rattle.std.specs.Prelude.{ℕ, Bool, false, List, [], ◌∷◌}
use Rattle.pr_unit.specs.spec_tests.RuleFiles.{is_slash}

-- a name that begins with a slash
abbrev pub is_absolute : List ℕ → Bool
is_absolute [] = false
is_absolute (b ∷ file) = is_slash b
