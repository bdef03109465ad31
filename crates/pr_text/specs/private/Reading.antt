-- Where the reader of orders stands.
use Rattle.std.specs.Prelude.{◌≡◌, ◌≢◌, ℕ, ◌+◌, ◌<◌, ◌≤◌, ◌^◌, true, List, [], ◌∷◌, ◌++◌, length, Option, Some, None}
use Rattle.std.specs.List.{list_all}
use Rattle.std.specs.Io.KnownBytes.{IsAtEnd}
use Rattle.pr_words.specs.Lines.{lines_of}
use Rattle.pr_text.specs.declared.script.order.Numbered.{Numbered}
use Rattle.pr_text.specs.Orders.{orders_after}
use Rattle.pr_text.specs.Script.{body_of, is_body_line}
use Rattle.pr_text.specs.private.Started.{ends_body}
use Rattle.pr_text.specs.private.LineReading.{held, ahead, KnowsEnd, IsNext}
use Rattle.pr_text.specs.Taken.{is_no_feed, are_whole_lines, IsPrompt}
use Rattle.pr_text.specs.declared.reader.reader.Reader.{Reader}

-- what was read and not yet handed out
abbrev pub unread : Reader → List ℕ
unread r = r.waiting.items ++ held r.lines

-- a line that was read ahead
abbrev pub IsWaiting : List ℕ → Option (List ℕ) → Type 0
IsWaiting line rest = line ≢ [] → IsNext line rest

-- Each line that was handed out had a byte at least; the last one has so many bytes that are not
-- counted yet.
pub record IsReady (bytes : ℕ) (r : Reader) (left : Option (List ℕ)) : Type 0 where
  pub within : r.lines.at ≤ length r.lines.piece.items
  pub number : r.number + bytes + length (unread r) ≤ r.lines.count
  pub count : r.lines.count < 2 ^ 32 + 4096
  pub end : KnowsEnd r.lines left
  pub waits : IsWaiting r.waiting.items (ahead (held r.lines) left)

-- Lines were taken of bytes. Each ended with a line feed, but for one behind which nothing is left.
-- They spell these orders, also where of what is left only whole lines at its front follow.
pub record TakesOrders (bytes rest : List ℕ) (before after : ℕ) (orders : List Numbered) : Type 0 where
  pub lines : List ℕ
  pub taken : bytes ≡ lines ++ rest
  pub whole : rest ≢ [] → are_whole_lines lines ≡ true
  pub spelled : (more later : List ℕ) → rest ≡ more ++ later → (later ≢ [] → are_whole_lines more ≡ true)
      → orders_after before (lines_of (lines ++ more)) ≡ orders ++ orders_after after (lines_of more)

abbrev pub Takes : Option (List ℕ) → Option (List ℕ) → ℕ → ℕ → List Numbered → Type 0
Takes None now before after orders = Unit {0}
Takes (Some bytes) None before after orders = ⊥
Takes (Some bytes) (Some rest) before after orders = TakesOrders bytes rest before after orders

-- the next order was handed out; or there is none, and nothing is left
abbrev pub HandsOrder : Option (List ℕ) → Option (List ℕ) → ℕ → ℕ → Option Numbered → Type 0
HandsOrder all now before after None = Takes all now before after [] × IsAtEnd now
HandsOrder all now before after (Some o) = Takes all now before after (o ∷ [])

-- Behind a line more lines were taken, which with it spell one order.
pub record TakesRest (line bytes rest : List ℕ) (before after : ℕ) (order : Numbered) : Type 0 where
  pub lines : List ℕ
  pub taken : bytes ≡ lines ++ rest
  pub whole : rest ≢ [] → are_whole_lines lines ≡ true
  pub spelled : (n : ℕ) → before ≡ n + 1 → (more later : List ℕ) → rest ≡ more ++ later → (later ≢ [] → are_whole_lines more ≡ true)
      → orders_after n (line ∷ lines_of (lines ++ more)) ≡ order ∷ orders_after after (lines_of more)

abbrev pub FinishesOrder : List ℕ → Option (List ℕ) → Option (List ℕ) → ℕ → ℕ → Numbered → Type 0
FinishesOrder line None now before after order = Unit {0}
FinishesOrder line (Some bytes) None before after order = ⊥
FinishesOrder line (Some bytes) (Some rest) before after order = TakesRest line bytes rest before after order

-- Body lines were taken, which give this body.
pub record TakesLines (bytes rest : List ℕ) (before after : ℕ) (body : List ℕ) : Type 0 where
  pub lines : List ℕ
  pub taken : bytes ≡ lines ++ rest
  pub whole : rest ≢ [] → are_whole_lines lines ≡ true
  pub bodies : list_all is_body_line (lines_of lines) ≡ true
  pub gives : body ≡ body_of (lines_of lines)
  pub number : after ≡ before + length (lines_of lines)

abbrev pub TakesBody : Option (List ℕ) → Option (List ℕ) → ℕ → ℕ → List ℕ → Type 0
TakesBody None now before after body = Unit {0}
TakesBody (Some bytes) None before after body = ⊥
TakesBody (Some bytes) (Some rest) before after body = TakesLines bytes rest before after body

-- no body goes on with what is to come
abbrev pub EndsBody : Option (List ℕ) → Type 0
EndsBody None = Unit {0}
EndsBody (Some bytes) = ends_body (lines_of bytes) ≡ true

-- Whether a number of lines grew with an order.
abbrev pub Advances : Option Numbered → ℕ → ℕ → Type 0
Advances None before after = before ≤ after
Advances (Some o) before after = before < after

-- the reader stopped at its input behind body lines
pub record IsCutBehind (bytes rest : List ℕ) : Type 0 where
  pub lines : List ℕ
  pub line : List ℕ
  pub taken : bytes ≡ lines ++ (line ++ rest)
  pub whole : are_whole_lines lines ≡ true
  pub bodies : list_all is_body_line (lines_of lines) ≡ true
  pub unended : list_all is_no_feed line ≡ true

abbrev pub IsCutBody : Option (List ℕ) → Option (List ℕ) → Type 0
IsCutBody None left = Unit {0}
IsCutBody (Some bytes) None = ⊥
IsCutBody (Some bytes) (Some rest) = IsCutBehind bytes rest

-- the reader stopped at its input, and no order that was complete has come in what it took
abbrev pub IsCutAt : Option (List ℕ) → Option (List ℕ) → ℕ → Type 0
IsCutAt None left before = Unit {0}
IsCutAt (Some bytes) None before = ⊥
IsCutAt (Some bytes) (Some rest) before = IsPrompt before bytes rest 0
