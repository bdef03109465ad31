-- Block scalars, `|` and `>`.
use Rattle.std.specs.Prelude.{ℕ, ◌+◌, ◌-◌, ◌==◌, nat_le, nat_lt, min, ◌&&◌, ◌||◌, not, Bool, false, Option, Some, None, List, [], ◌∷◌, ◌++◌, drop, if◌then◌else◌}
use Prim.Native.Char.{code}
use Rattle.pr_words.specs.Bytes.{is_blank}
use Rattle.pr_yaml.specs.Bytes.{no_text, has_no_text, is_spaces, blanks_len, spaces_len}
use Rattle.pr_yaml.specs.Lines.{Cursor, line_start, is_sign, is_deeper, feeds, folded_break}
use Rattle.pr_yaml.specs.declared.yaml_scan.scalar.Scalar.{Scalar}
use Rattle.pr_yaml.specs.declared.yaml_scan.scalar.Scalar.TheVariants.{Found, Broken}
use Rattle.pr_yaml.specs.declared.yaml_scan.fault.YamlKind.{YamlKind}
use Rattle.pr_yaml.specs.declared.yaml_scan.fault.YamlKind.TheVariants.{NotText, Indicator}
use Rattle.pr_yaml.specs.declared.yaml_scan.block.Style.{Style}
use Rattle.pr_yaml.specs.declared.yaml_scan.block.Style.TheVariants.{Kept, Folded}
use Rattle.pr_yaml.specs.declared.yaml_scan.block.Earlier.{Earlier}
use Rattle.pr_yaml.specs.declared.yaml_scan.block.Earlier.TheVariants.{Nothing, Blank, Text}
use Rattle.pr_yaml.specs.declared.yaml_scan.block.Chomp.{Chomp}
use Rattle.pr_yaml.specs.declared.yaml_scan.block.Chomp.TheVariants.{Clip, Strip, All}

-- The header: `-` or `+`, which may be missing, and then blanks, and a comment after a blank. A
-- digit would be an indentation. `other` is the kind of any other byte.
unfoldable pub chomp_of : List ℕ → Chomp
chomp_of [] = Clip
chomp_of (b ∷ rest) = if b == code "-" then Strip else (if b == code "+" then All else Clip)

unfoldable pub after_chomp : List ℕ → List ℕ
after_chomp [] = []
after_chomp (b ∷ rest) = if b == code "-" || b == code "+" then rest else b ∷ rest

abbrev pub begins_with_digit : List ℕ → Bool
begins_with_digit [] = false
begins_with_digit (b ∷ rest) = nat_le (code "0") b && nat_le b (code "9")

abbrev pub begins_with_no_text : List ℕ → Bool
begins_with_no_text [] = false
begins_with_no_text (b ∷ rest) = no_text b

abbrev pub header_end : YamlKind → Bool → List ℕ → Option YamlKind
header_end other after_blank [] = None
header_end other after_blank (b ∷ rest) =
    if no_text b then Some NotText else (if b == code "#" && after_blank then (if has_no_text rest then Some NotText else None) else Some other)

unfoldable pub header_fault : YamlKind → List ℕ → Option YamlKind
header_fault other rest = if begins_with_digit rest then Some Indicator else header_end other (nat_lt 0 (blanks_len rest)) (drop (blanks_len rest) rest)

-- The first line with text, which a tab behind the spaces is too, fixes the indentation, where it
-- is deeper than the last key or dash; else there is no such line. Inside flows no line is a
-- document's sign.
abbrev pub ends_block : Bool → List ℕ → Bool
ends_block inside line = not inside && is_sign line

unfoldable pub indentation : Bool → Option ℕ → List (List ℕ) → Option ℕ
indentation inside parent [] = None
indentation inside parent (l ∷ more) =
    if is_spaces l then indentation inside parent more else
    (if is_deeper parent (spaces_len l) && not (ends_block inside l) then Some (spaces_len l) else None)

-- The lines of the text are those up to the first one with text that has fewer spaces.
unfoldable pub belongs : Bool → Option ℕ → List ℕ → Bool
belongs inside None line = is_spaces line
belongs inside (Some indent) line = is_spaces line || (nat_le indent (spaces_len line) && not (ends_block inside line))

-- a line without its indentation, as a row of the text
unfoldable pub row_of : Option ℕ → List ℕ → List ℕ
row_of None line = []
row_of (Some indent) line = drop (min indent (spaces_len line)) line

abbrev pub begins_with_blank : List ℕ → Bool
begins_with_blank [] = false
begins_with_blank (b ∷ rest) = is_blank b

abbrev pub earlier_of : List ℕ → Earlier
earlier_of row = if begins_with_blank row then Blank else Text

-- What stands before a row that is not empty, after so many empty ones: their breaks and, where
-- there is an earlier row with text, the break after that one. `|` keeps all breaks. In `>` one
-- between two rows that begin with no blank is folded.
unfoldable pub row_break : Style → Earlier → ℕ → Bool → List ℕ
row_break style Nothing empty blank = feeds empty
row_break Kept earlier empty blank = feeds (empty + 1)
row_break Folded Blank empty blank = feeds (empty + 1)
row_break Folded Text empty blank = if blank then feeds (empty + 1) else folded_break empty

-- The line feeds after the last row with text, where so many empty rows follow it.
unfoldable pub last_feeds : Earlier → ℕ → ℕ
last_feeds Nothing empty = empty
last_feeds _ empty = empty + 1

-- none of them is kept, or all, or one after a row with text
unfoldable pub chomped : Chomp → Earlier → ℕ → List ℕ
chomped Strip earlier n = []
chomped All earlier n = feeds n
chomped Clip Nothing n = []
chomped Clip _ n = feeds (min n 1)

abbrev pub by_row : List ℕ → Scalar → Scalar → Scalar
by_row [] empty full = empty
by_row (b ∷ row) empty full = full

-- A block scalar goes on over lines: it has `text` up to its last row with text, which is
-- `earlier`, and after that so many empty rows, and then these lines, of which the first has the
-- number `line`. The last line of the text has no line feed.
unfoldable pub block_lines : Style → Chomp → Bool → Option ℕ → List ℕ → Earlier → ℕ → ℕ → List (List ℕ) → Scalar
block_lines style chomp inside indent text earlier empty line [] = Found (text ++ chomped chomp earlier (last_feeds earlier empty - 1)) (line_start line [])
block_lines style chomp inside indent text earlier empty line (l ∷ more) =
    if belongs inside indent l then
    (if has_no_text l then Broken line NotText else
    by_row (row_of indent l)
    (block_lines style chomp inside indent text earlier (empty + 1) (line + 1) more)
    (block_lines style chomp inside indent (text ++ (row_break style earlier empty (begins_with_blank (row_of indent l)) ++ row_of indent l)) (earlier_of (row_of indent l)) 0 (line + 1) more))
    else Found (text ++ chomped chomp earlier (last_feeds earlier empty)) (line_start line (l ∷ more))

-- The block scalar with a header at `p`, by the lines below it.
abbrev pub block_below : Style → Chomp → Bool → Option ℕ → Cursor → Scalar
block_below style chomp inside parent p = block_lines style chomp inside (indentation inside parent p.below) [] Nothing 0 (p.line + 1) p.below
