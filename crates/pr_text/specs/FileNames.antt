-- The names of files that are to be loaded.
use Rattle.std.specs.Prelude.{ℕ, Bool, true, not, ◌&&◌, cond, List, [], ◌∷◌, Option, Some, None}
use Rattle.std.specs.List.{list_any}
use Rattle.std.specs.Str.{bytes_eq}
use Rattle.spec_world.specs.Loading.{FileToLoad}

-- No two files are known by one name.
abbrev pub is_name_of : List ℕ → List FileToLoad → Bool
is_name_of name files = list_any (λ (f : FileToLoad). bytes_eq f.name name) files

abbrev pub have_distinct_names : List FileToLoad → Bool
have_distinct_names [] = true
have_distinct_names (f ∷ files) = not (is_name_of f.name files) && have_distinct_names files

-- files with distinct names
abbrev pub distinct_files : List FileToLoad → Option (List FileToLoad)
distinct_files files = cond (have_distinct_names files) (Some files) None
