-- A sum kept as two magnitudes.
use Rattle.std.specs.Prelude.{◌≡◌, ℤ, pos, ◌+ℤ◌}
use Rattle.pr_range.specs.declared.lines.Parted.{Parted}

-- the number is what is above zero less what is below
abbrev pub IsParted : ℤ → Parted → Type 0
IsParted z p = z +ℤ pos p.down ≡ pos p.up
