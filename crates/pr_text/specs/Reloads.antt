-- The files that a line names.
use Rattle.std.specs.Prelude.{ℕ, zero, suc, ◌+◌, Bool, ◌==◌, List, [], ◌∷◌, length, take, drop, Option, Some, None}
use Prim.Native.Char.{code}
use Rattle.std.specs.List.{position}
use Rattle.pr_words.specs.Fields.{first_field, after_field}
use Rattle.spec_world.specs.Loading.{FileToLoad}
use Rattle.pr_text.specs.FileNames.{distinct_files}
use Rattle.pr_text.specs.Script.{some_text, written_time}
use Rattle.pr_text.specs.declared.script.order.Order.{Order}
use Rattle.pr_text.specs.declared.script.order.Order.TheVariants as order

abbrev pub is_equals_sign : ℕ → Bool
is_equals_sign b = b == code "="

abbrev pub file_by : Option (List ℕ) → Option (List ℕ) → Option FileToLoad
file_by None file = None
file_by (Some name) None = None
file_by (Some name) (Some file) = Some (record { name = name; file = file })

-- A field is `NAME=FILE`, which is parted by its first sign, and of which no part is empty; or a file
-- alone, which is known by its own name.
abbrev pub file_at : Option ℕ → List ℕ → Option FileToLoad
file_at None field = file_by (some_text field) (some_text field)
file_at (Some at) field = file_by (some_text (take at field)) (some_text (drop (at + 1) field))

abbrev pub file_of : List ℕ → Option FileToLoad
file_of field = file_at (position is_equals_sign field) field

abbrev pub with_file : Option FileToLoad → Option (List FileToLoad) → Option (List FileToLoad)
with_file None files = None
with_file (Some f) None = None
with_file (Some f) (Some files) = Some (f ∷ files)

-- the files that the fields of a text name, of which there are at most so many
abbrev pub files_within : List ℕ → ℕ → Option (List FileToLoad)
files_within [] most = Some []
files_within (b ∷ text) zero = None
files_within (b ∷ text) (suc most) = with_file (file_of (first_field (b ∷ text))) (files_within (after_field (b ∷ text)) most)

-- no text has more fields than bytes
unfoldable pub files_in : List ℕ → Option (List FileToLoad)
files_in text = files_within text (length text)

-- at least one file
abbrev pub some_files : Option (List FileToLoad) → Option (List FileToLoad)
some_files None = None
some_files (Some []) = None
some_files (Some (f ∷ files)) = distinct_files (f ∷ files)

-- a time, and such files
abbrev pub reload_of : Option ℕ → Option (List FileToLoad) → Order
reload_of None files = order.Bad
reload_of (Some time) None = order.Bad
reload_of (Some time) (Some files) = order.Reload time files

abbrev pub reload_in : List ℕ → Order
reload_in text = reload_of (written_time (first_field text)) (some_files (files_in (after_field text)))
