-- The texts of points: the printed value, or a word for the marker.
use Rattle.std.specs.Prelude.{ℕ, List, codes, cond, Option, Some, None, Result, Ok, Err}
use Rattle.std.specs.Str.{bytes_eq}
use Rattle.pr_num.specs.Arithmetic.{IsFit}
use Rattle.pr_num.specs.Reads.{reads}
use Rattle.pr_num.specs.Shown.{shown}
use Rattle.pr_num.specs.declared.text.NumFault.{NumFault}
use Rattle.pr_num.specs.declared.value.Num.{Num}
use Rattle.pr_num.specs.declared.value.Point.{Point}
use Rattle.pr_num.specs.declared.value.Point.TheVariants.{Value, Stale}

-- what every point is
abbrev pub IsFitPoint : Point → Type 0
IsFitPoint (Value v) = IsFit v
IsFitPoint Stale = Unit {0}

-- the printed text of a point
abbrev pub shown_point : Point → List ℕ
shown_point (Value v) = shown v
shown_point Stale = codes "stale"

abbrev pub point_read : Result Num NumFault → Option Point
point_read (Ok v) = Some (Value v)
point_read (Err fault) = None

-- the point that a text names: the word for the marker, or the text of a number
abbrev pub point_of : List ℕ → Option Point
point_of text = cond (bytes_eq text (codes "stale")) (Some Stale) (point_read (reads text))
