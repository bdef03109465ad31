-- What was taken of an input: whole lines, an order whose body may go on, and what there is of the
-- next line.
use Rattle.std.specs.Prelude.{◌≡◌, ℕ, ◌+◌, ◌<◌, ◌≤◌, ◌^◌, Bool, true, not, ◌&&◌, ◌==◌, List, [], ◌∷◌, ◌++◌, length}
use Prim.Native.Char.{code}
use Rattle.std.specs.List.{list_all}
use Rattle.pr_words.specs.Lines.{lines_of}
use Rattle.pr_outside.specs.Meant.{Input}
use Rattle.pr_text.specs.Orders.{orders_after}
use Rattle.pr_text.specs.Script.{takes_body, is_body_line}

abbrev pub is_no_feed : ℕ → Bool
is_no_feed b = not (b == code "\n")

-- nothing, or bytes of which the last is a line feed
abbrev pub are_whole_lines : List ℕ → Bool
are_whole_lines [] = true
are_whole_lines (b ∷ []) = b == code "\n"
are_whole_lines (b ∷ c ∷ bytes) = are_whole_lines (c ∷ bytes)

-- the lines of one order whose body may go on: a line that takes a body, and body lines; or no line
abbrev pub may_go_on : List (List ℕ) → Bool
may_go_on [] = true
may_go_on (line ∷ body) = takes_body line && list_all is_body_line body

-- Of bytes that follow so many other lines a rest is left. What was taken are whole lines that hold
-- at most so many orders; then, in whole lines too, an order whose body may go on, or nothing; then
-- what there is of the next line.
pub record IsPrompt (before : ℕ) (bytes rest : List ℕ) (orders : ℕ) : Type 0 where
  pub lines : List ℕ
  pub waiting : List ℕ
  pub line : List ℕ
  pub taken : bytes ≡ lines ++ (waiting ++ (line ++ rest))
  pub whole : are_whole_lines lines ≡ true
  pub few : length (orders_after before (lines_of lines)) ≤ orders
  pub waits : are_whole_lines waiting ≡ true
  pub goes_on : may_go_on (lines_of waiting) ≡ true
  pub unended : list_all is_no_feed line ≡ true

-- Of an input of which so many bytes were taken before, no more are taken than the limit and one piece, by
-- the input's own count.
abbrev pub TookWithin : Input → Input → ℕ → Type 0
TookWithin was now count = now.taken + count < was.taken + (2 ^ 32 + 4096)
