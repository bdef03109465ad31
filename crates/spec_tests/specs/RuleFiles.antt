-- The rule files that a test file names, and where they are looked for.
use Rattle.std.specs.Prelude.{ℕ, ◌-◌, ◌==◌, Bool, List, [], ◌∷◌, ◌++◌, fold, length, map, take, reverse, if◌then◌else◌}
use Prim.Native.Char.{code}
use Rattle.std.specs.List.{position_or_len}
use Rattle.pr_testfile.specs.pr_words.Names.{is_among}

abbrev pub is_slash : ℕ → Bool
is_slash b = b == code "/"

-- a name up to its last slash, with that; nothing where it has none
abbrev pub folder : List ℕ → List ℕ
folder name = take (length name - position_or_len is_slash (reverse name)) name

-- One that begins with a slash stands as it is. The others are looked for beside the test file.
abbrev pub beside : List ℕ → List ℕ → List ℕ
beside name [] = folder name
beside name (b ∷ file) = if is_slash b then b ∷ file else folder name ++ b ∷ file

-- a name that is equal to one before it is passed over
abbrev pub with_name : List (List ℕ) → List ℕ → List (List ℕ)
with_name names name = if is_among name names then names else names ++ name ∷ []

-- the names of the rule files of a test file that has this name and names these
abbrev pub rule_file_names : List ℕ → List (List ℕ) → List (List ℕ)
rule_file_names name files = fold with_name [] (map (beside name) files)
