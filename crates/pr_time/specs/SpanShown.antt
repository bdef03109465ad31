-- The text of a span as it is printed.
use Rattle.std.specs.Prelude.{ℕ, ◌/◌, ◌%◌, ◌==◌, List, [], ◌++◌, decimal, codes, if◌then◌else◌}

-- a number with its unit, or nothing where the number is 0
abbrev pub part_text : ℕ → List ℕ → List ℕ
part_text n unit = if n == 0 then [] else decimal n ++ unit

-- the days, hours, minutes, seconds and milliseconds of a span, each left out where it is 0
abbrev pub parts_text : ℕ → List ℕ
parts_text ms =
    part_text (ms / 86400000) (codes "d") ++ part_text (ms % 86400000 / 3600000) (codes "h") ++ part_text (ms % 3600000 / 60000) (codes "m")
    ++ part_text (ms % 60000 / 1000) (codes "s") ++ part_text (ms % 1000) (codes "ms")

-- and zero as seconds
abbrev pub shown_span : ℕ → List ℕ
shown_span ms = if ms == 0 then codes "0s" else parts_text ms
