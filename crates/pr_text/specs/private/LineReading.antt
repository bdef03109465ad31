-- Where the reader of lines stands.
use Rattle.std.specs.Prelude.{◌≡◌, ◌≢◌, ℕ, ◌+◌, ◌-◌, ◌<◌, ◌≤◌, ◌^◌, min, Bool, true, false, cond, ◌==◌, List, [], ◌∷◌, ◌++◌, length, drop, Option, Some, None, IfSome}
use Prim.Native.Char.{code}
use Rattle.std.specs.List.{list_all}
use Rattle.std.specs.Io.KnownBytes.{Consumes, IsAtEnd}
use Rattle.pr_outside.specs.Courses.{GoesOn, IsInTime}
use Rattle.pr_outside.specs.declared.course.Course.{Course}
use Rattle.pr_outside.specs.declared.course.Course.TheVariants.{Going, Over}
use Rattle.pr_outside.specs.Meant.{Input}
use Rattle.pr_outside.specs.Status.{Took}
use Rattle.pr_text.specs.Taken.{is_no_feed, are_whole_lines}
use Rattle.pr_text.specs.declared.reader.lines.LineReader.{LineReader}

-- what was read and not yet handed out
abbrev pub held : LineReader → List ℕ
held r = drop r.at r.piece.items

-- where the end was met, nothing is left, and the input was short
abbrev pub KnowsEnd : LineReader → Option (List ℕ) → Type 0
KnowsEnd r left = r.ended ≡ true → IsAtEnd left × (r.count < 2 ^ 32)

-- At most one piece was read beyond the limit.
pub record IsReading (r : LineReader) (left : Option (List ℕ)) : Type 0 where
  pub within : r.at ≤ length r.piece.items
  pub count : r.count < 2 ^ 32 + 4096
  pub end : KnowsEnd r left

-- Of the reads since an earlier time none came after the last one, and as long as the end was not
-- met they may go on.
pub record IsReadOn (first : Course) (ended : Bool) (now : Course) : Type 0 where
  pub in_time : IsInTime first now
  pub goes_on : ended ≡ false → GoesOn first now

-- how far the calls of an input have come whose end was met, or was not
abbrev pub course_of : Bool → Course
course_of true = Over
course_of false = Going

-- Where calls might go on at an earlier time, what they have come to is what the reader says of the end.
abbrev pub KnowsCourse : Course → Bool → Course → Type 0
KnowsCourse first ended now = first ≡ Going → now ≡ course_of ended

-- what is still to come, where it is told: what is held, and what is left of the input
abbrev pub ahead : List ℕ → Option (List ℕ) → Option (List ℕ)
ahead held None = None
ahead held (Some left) = Some (held ++ left)

-- a line without its line feed
abbrev pub without_feed : List ℕ → List ℕ
without_feed [] = []
without_feed (b ∷ []) = cond (b == code "\n") [] (b ∷ [])
without_feed (b ∷ c ∷ bytes) = b ∷ without_feed (c ∷ bytes)

-- Bytes moved to the end of a line: those up to a line feed, which is passed over, or all that
-- there were.
pub record TakesPart (ended : Bool) (held_old held_new line_old line_new : List ℕ) : Type 0 where
  pub part : List ℕ
  pub joined : line_new ≡ line_old ++ part
  pub unended : list_all is_no_feed part ≡ true
  pub feed : ended ≡ true → held_old ≡ part ++ code "\n" ∷ held_new
  pub all : ended ≡ false → (held_old ≡ part) × (held_new ≡ [])

-- A line with its line feed, which may be missing where nothing follows.
pub record IsLine (line rest : List ℕ) : Type 0 where
  pub some : line ≢ []
  pub text : list_all is_no_feed (without_feed line) ≡ true
  pub whole : rest ≢ [] → are_whole_lines line ≡ true

abbrev pub IsNext : List ℕ → Option (List ℕ) → Type 0
IsNext line None = Unit {0}
IsNext line (Some rest) = IsLine line rest

-- the next line was handed out, or there is none
abbrev pub HandsLine : Option (List ℕ) → Option (List ℕ) → Bool → List ℕ → Type 0
HandsLine all now true line = Consumes all now line × IsNext line now
HandsLine all now false line = Consumes all now line × IsAtEnd now × (line ≡ [])

-- so many bytes were read, and the others are left
abbrev pub CountsLeft : Option (List ℕ) → Option (List ℕ) → ℕ → ℕ → Type 0
CountsLeft None now before after = Unit {0}
CountsLeft (Some bytes) None before after = ⊥
CountsLeft (Some bytes) (Some rest) before after = before + length bytes ≡ after + length rest

-- The input's count of bytes went up by as many as the reader's.
pub record CountsBytes (was now : Input) (before after : ℕ) : Type 0 where
  pub left : CountsLeft was.left now.left before after
  pub grew : before ≤ after
  pub took : Took was now (after - before)

-- the reader stopped at its input within a line
abbrev pub IsCutLine : Option (List ℕ) → Option (List ℕ) → Type 0
IsCutLine None left = Unit {0}
IsCutLine (Some bytes) None = ⊥
IsCutLine (Some bytes) (Some rest) = (line : List ℕ) × (list_all is_no_feed line ≡ true) × (bytes ≡ line ++ rest)

-- With so many bytes read before, the input is too long; and with those that were taken they are as many.
pub record IsBeyond (was now : Input) (count : ℕ) : Type 0 where
  pub long : IfSome was.left (λ rest. 2 ^ 32 ≤ count + length rest)
  pub many : min (was.taken + (2 ^ 32 - count)) (2 ^ 64 - 1) ≤ now.taken
