-- What a byte is to a string, and to a list of words.
use Prim.Native.Char.{code}
use Rattle.std.specs.Prelude.{ℕ, Bool, ◌==◌, nat_le, ◌&&◌, if◌then◌else◌}
use Rattle.test_forms.specs.declared.glyph.Sort.{Sort}
use Rattle.test_forms.specs.declared.glyph.Sort.TheVariants.{Quote, Backslash, Plain}
use Rattle.test_forms.specs.declared.glyph.Kind.{Kind}
use Rattle.test_forms.specs.declared.glyph.Kind.TheVariants.{Comma, Letter, Text}

abbrev pub sort_of : ℕ → Sort
sort_of b = if b == code "\"" then Quote else (if b == code "\\" then Backslash else Plain)

abbrev pub is_letter : ℕ → Bool
is_letter b = nat_le (code "a") b && nat_le b (code "z")

-- among the bytes that are plain in a string there are commas and letters
abbrev pub kind_by : Sort → ℕ → Kind
kind_by Plain b = if b == code "," then Comma else (if is_letter b then Letter else Text Plain)
kind_by s b = Text s

abbrev pub kind_of : ℕ → Kind
kind_of b = kind_by (sort_of b) b

-- a byte as the grammar of strings sees it, and as that of words does
pub data Part : Type 0 where
  part : Sort → ℕ → Part

pub data Glyph : Type 0 where
  glyph : Kind → ℕ → Glyph

abbrev pub part_of : ℕ → Part
part_of b = part (sort_of b) b

abbrev pub glyph_of : ℕ → Glyph
glyph_of b = glyph (kind_of b) b

-- what a glyph of words is to a string
abbrev pub sort_in : Kind → Sort
sort_in (Text s) = s
sort_in k = Plain

abbrev pub part_in : Glyph → Part
part_in (glyph k b) = part (sort_in k) b
