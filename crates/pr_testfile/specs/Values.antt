-- The values of a series, as test files write them: items between blanks.
use Rattle.std.specs.Prelude.{ℕ, ◌-◌, ◌*◌, ◌^◌, ◌||◌, Bool, false, nat_lt, nat_le, List, [], ◌∷◌, filter, Option, Some, None, if◌then◌else◌}
use Rattle.std.specs.List.{slice_split}
use Rattle.pr_words.specs.Bytes.{is_blank}
use Rattle.pr_testfile.specs.declared.inputs.stretch.Stretch.{Stretch}
use Rattle.pr_testfile.specs.declared.inputs.values.Values.{Values}
use Rattle.pr_testfile.specs.declared.inputs.values.Values.TheVariants.{Stretches, TooMany, Bad}
use Rattle.pr_testfile.specs.Items.{stretch_of}
use Rattle.pr_testfile.specs.Points.{size, total}

-- The items are the parts between blanks that are not empty. Each has to be one.
abbrev pub and_stretch : Option Stretch → Option (List Stretch) → Option (List Stretch)
and_stretch None more = None
and_stretch (Some s) None = None
and_stretch (Some s) (Some more) = Some (s ∷ more)

abbrev pub stretches_in : List (List ℕ) → Option (List Stretch)
stretches_in [] = Some []
stretches_in ([] ∷ parts) = stretches_in parts
stretches_in ((b ∷ bs) ∷ parts) = and_stretch (stretch_of (b ∷ bs)) (stretches_in parts)

unfoldable pub stretches_of : List ℕ → Option (List Stretch)
stretches_of text = stretches_in (slice_split is_blank text)

-- More than 2^20 places are too many, and so are those of which one stands at 2^42 ms or later.
abbrev pub is_late : Option ℕ → ℕ → Bool
is_late None places = false
is_late (Some interval) places = nat_le (2 ^ 42) ((places - 1) * interval)

unfoldable pub are_too_many : Option ℕ → ℕ → Bool
are_too_many interval places = nat_lt (2 ^ 20) places || is_late interval places

-- a gap of no places leaves nothing
abbrev pub has_places : Stretch → Bool
has_places s = nat_lt 0 (size s)

abbrev pub by_stretches : Option ℕ → Option (List Stretch) → Values
by_stretches interval None = Bad
by_stretches interval (Some stretches) =
    if are_too_many interval (total stretches) then TooMany else Stretches (filter has_places stretches)

-- The values that a text writes, which stand at the multiples of an interval, where one is told.
unfoldable pub values_of : Option ℕ → List ℕ → Values
values_of interval text = by_stretches interval (stretches_of text)

-- the stretches of a text's values, where it writes values that are not too many
abbrev pub if_values : Values → Option (List Stretch)
if_values (Stretches stretches) = Some stretches
if_values TooMany = None
if_values Bad = None
