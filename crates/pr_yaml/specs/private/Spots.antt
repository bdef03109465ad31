-- What the reader keeps of a place in a text: no rule of the format.
use Rattle.std.specs.Prelude.{ℕ, ◌+◌, ◌^◌, ◌<◌, ◌≤◌, ◌≡◌, Option, Some, None, List, [], ◌∷◌, length}
use Rattle.std.specs.Borrow.{Bor}
use Rattle.pr_words.specs.Lines.{text_lines}
use Rattle.pr_yaml.specs.Lines.{Cursor}

-- the lines below a place, as the bytes that they are
abbrev pub lines_below : Option (Bor (List ℕ)) → List (List ℕ)
lines_below None = []
lines_below (Some text) = text_lines text.now

abbrev pub place_of : ℕ → ℕ → Bor (List ℕ) → Option (Bor (List ℕ)) → Cursor
place_of line column here below = record { line = line; column = column; here = here.now; below = lines_below below }

-- how many bytes stand below a place, and that its line and its column are numbers of 32 bits where
-- a byte stands
abbrev pub bytes_below : Option (Bor (List ℕ)) → ℕ
bytes_below None = 0
bytes_below (Some text) = 1 + length text.now

pub record IsPlace (line column : ℕ) (here : Bor (List ℕ)) (below : Option (Bor (List ℕ))) : Type 0 where
  pub lines : line + (length here.now + bytes_below below) ≤ 2 ^ 32
  pub columns : column + (length here.now + bytes_below below) < 2 ^ 32

-- A place is the start of the line below another one.
pub record IsBelow (p q : Cursor) : Type 0 where
  pub below : p.below ≡ q.here ∷ q.below
  pub line : q.line ≡ p.line + 1
  pub column : q.column ≡ 0
