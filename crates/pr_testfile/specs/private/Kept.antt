-- What a reader of values keeps on its way.
use Rattle.std.specs.Prelude.{ℕ, ◌+◌, ◌^◌, ◌&&◌, min, nat_le, List, [], ◌∷◌, ◌++◌, filter, Option, Some, None, if◌then◌else◌}
use Rattle.std.specs.List.{slice_split}
use Rattle.pr_words.specs.Bytes.{is_blank}
use Rattle.pr_testfile.specs.declared.inputs.stretch.Stretch.{Stretch}
use Rattle.pr_testfile.specs.declared.inputs.values.Values.{Values}
use Rattle.pr_testfile.specs.declared.inputs.values.Values.TheVariants.{Stretches, TooMany, Bad}
use Rattle.pr_testfile.specs.Points.{size, total}
use Rattle.pr_testfile.specs.Values.{has_places, are_too_many}

-- the parts of what stands after a blank, where there is one
abbrev pub parts_after : Option (List ℕ) → List (List ℕ)
parts_after None = []
parts_after (Some text) = slice_split is_blank text

-- how many places there are with those of one more stretch, up to one more than there may be
abbrev pub places_with : ℕ → Stretch → ℕ
places_with places s = min (places + size s) (2 ^ 20 + 1)

-- what is kept with one more stretch, which takes the places up to so many
abbrev pub kept_with : List Stretch → ℕ → Stretch → List Stretch
kept_with kept places s = if nat_le places (2 ^ 20) && has_places s then kept ++ s ∷ [] else kept

-- what a text writes, by what is kept of its first stretches, which take so many places, and by
-- those that are left
abbrev pub answered : Option ℕ → List Stretch → ℕ → Option (List Stretch) → Values
answered interval kept places None = Bad
answered interval kept places (Some more) =
    if are_too_many interval (places + total more) then TooMany else Stretches (kept ++ filter has_places more)
