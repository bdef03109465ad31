-- The lines of a list of bytes, and those of a text.
use Rattle.std.specs.Prelude.{ℕ, cond, ◌-◌, ◌==◌, Bool, List, [], ◌∷◌, length, take, get_or}
use Prim.Native.Char.{code}
use Rattle.std.specs.List.{onto_first, slice_split}

-- A line ends with a line feed, which may be missing at the end. No line has its line feed.
abbrev pub lines_of : List ℕ → List (List ℕ)
lines_of [] = []
lines_of (b ∷ bytes) = cond (b == code "\n") ([] ∷ lines_of bytes) (onto_first b (lines_of bytes))

abbrev pub is_feed : ℕ → Bool
is_feed b = b == code "\n"

-- In a text a line ends with a line feed, or with a carriage return and a line feed. What follows
-- the last line feed is a line too, which may be empty. No line has its end.
abbrev pub without_return : List ℕ → List ℕ
without_return line = cond (get_or line (length line - 1) 0 == code "\r") (take (length line - 1) line) line

abbrev pub ended : List (List ℕ) → List (List ℕ)
ended [] = []
ended (part ∷ []) = part ∷ []
ended (part ∷ next ∷ parts) = without_return part ∷ ended (next ∷ parts)

unfoldable pub text_lines : List ℕ → List (List ℕ)
text_lines text = ended (slice_split is_feed text)
