-- The places in a text, and what stands on its lines.
use Rattle.std.specs.Prelude.{ℕ, ◌+◌, ◌-◌, ◌==◌, nat_lt, ◌&&◌, ◌||◌, Bool, true, Option, Some, None, List, [], ◌∷◌, take, drop, replicate, if◌then◌else◌}
use Prim.Native.Char.{code}
use Rattle.std.specs.Str.{bytes_eq}
use Rattle.pr_yaml.specs.Bytes.{is_bare, is_comment, blanks_len}
use Rattle.pr_yaml.specs.declared.yaml_scan.line.DocumentSign.{DocumentSign}
use Rattle.pr_yaml.specs.declared.yaml_scan.line.DocumentSign.TheVariants.{Begin, End}

-- A place in a text: the number of its line from 1, its column in bytes from 0, what stands on the
-- line from there on, and the lines below it.
pub record Cursor : Type 0 where
  pub line : ℕ
  pub column : ℕ
  pub here : List ℕ
  pub below : List (List ℕ)

-- so many bytes further on the line
abbrev pub along : ℕ → Cursor → Cursor
along n p = record { line = p.line; column = p.column + n; here = drop n p.here; below = p.below }

-- The start of a line, where these are that line and those below it. Where there is none, it is the
-- end of the text, whose line is of no matter.
abbrev pub line_start : ℕ → List (List ℕ) → Cursor
line_start line [] = record { line = 1; column = 0; here = []; below = [] }
line_start line (l ∷ more) = record { line = line; column = 0; here = l; below = more }

abbrev pub next_line : Cursor → Cursor
next_line p = line_start (p.line + 1) p.below

-- the line of the text's last byte, where this is its last line: where nothing stands there it is
-- the line above
abbrev pub last_line : ℕ → List ℕ → ℕ
last_line line [] = line - 1
last_line line (b ∷ l) = line

-- the line of the text's last byte, where so many lines from this one on are left
unfoldable pub end_line : ℕ → List ℕ → List (List ℕ) → ℕ
end_line line here [] = last_line line here
end_line line here (l ∷ more) = end_line (line + 1) l more

-- `---` and `...`, alone on a line but for blanks and a comment after a blank
unfoldable pub is_alone : List ℕ → Bool
is_alone rest = is_bare rest || (nat_lt 0 (blanks_len rest) && is_comment (drop (blanks_len rest) rest))

unfoldable pub is_sign_by : ℕ → List ℕ → Bool
is_sign_by b line = bytes_eq (take 3 line) (b ∷ b ∷ b ∷ []) && is_alone (drop 3 line)

unfoldable pub document_sign : List ℕ → Option DocumentSign
document_sign line = if is_sign_by (code "-") line then Some Begin else (if is_sign_by (code ".") line then Some End else None)

unfoldable pub is_sign : List ℕ → Bool
is_sign line = is_sign_by (code "-") line || is_sign_by (code ".") line

-- A column is deeper than that of the last key or dash; where there is none, every column is.
abbrev pub is_deeper : Option ℕ → ℕ → Bool
is_deeper None column = true
is_deeper (Some parent) column = nat_lt parent column

-- What a fold makes of a line's break, after which so many empty lines stand: a blank, or a line
-- feed for each of these.
abbrev pub feeds : ℕ → List ℕ
feeds k = replicate k (code "\n")

unfoldable pub folded_break : ℕ → List ℕ
folded_break k = if k == 0 then code " " ∷ [] else feeds k
