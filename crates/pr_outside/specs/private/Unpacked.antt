-- What rows are that are kept in little room.
use Rattle.std.specs.Prelude.{ℕ, ◌+◌, ◌<◌, ◌≤◌, List, [], ◌∷◌, get_or, map, take, drop}
use Rattle.std.specs.Str.{IsUtf8}
use Rattle.spec_history.specs.declared.row.Row.{Row}
use Rattle.pr_outside.specs.declared.packed_rows.packed_row.PackedRow.{PackedRow}

-- where the text of its point ends
abbrev pub end_of : PackedRow → ℕ
end_of packed = packed.start + packed.length

-- the text of its point, out of the texts of all points
abbrev pub point_of : List ℕ → PackedRow → List ℕ
point_of points packed = take packed.length (drop packed.start points)

-- the row that it stands for
abbrev pub row_of : List (List ℕ) → List ℕ → PackedRow → Row
row_of series points packed = record { series = get_or series packed.series []; time = packed.time; point = point_of points packed }

-- the rows that these stand for
abbrev pub unpacked : List (List ℕ) → List ℕ → List PackedRow → List Row
unpacked series points packed = map (row_of series points) packed

-- Each has a series that stands among so many, and a point that is a text. The points follow one
-- another from one place to another.
abbrev pub AreLaid : ℕ → List ℕ → ℕ → List PackedRow → ℕ → Type 0
AreLaid count points from [] to = from ≤ to
AreLaid count points from (packed ∷ rest) to = (from ≤ packed.start) × (packed.series < count) × IsUtf8 (point_of points packed) × AreLaid count points (end_of packed) rest to
