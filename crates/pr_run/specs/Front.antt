-- What was written and kept where a run is cut short, by where it stopped.
use Rattle.std.specs.Prelude.{◌≡◌, ℕ, zero, suc, ◌+◌, ◌≤◌, Bool, true, false, List, length, take, map, IfSome}
use Rattle.std.specs.declared.option.Option.{Option}
use Rattle.std.specs.Io.KnownBytes.{Appends}
use Rattle.pr_queue.specs.spec_history.declared.entry.Entry.{Entry}
use Rattle.pr_outside.specs.Asks.{Asks, AsksAt}
use Rattle.pr_outside.specs.Ends.{StopPlace, at_input, at_file, at_store, at_row, at_output, anywhere}
use Rattle.pr_outside.specs.Outside.{Outside}
use Rattle.pr_outside.specs.Stores.{AreKept}
use Rattle.pr_text.specs.Taken.{IsPrompt}
use Rattle.pr_run.specs.Told.{OrderAnswer, told_of, kept_after}

-- Whether a run stopped between two orders, so that none is answered in part, by how many are
-- answered. A store may stop it before the first line is written. No row stops a run over rows that
-- tell a history.
abbrev pub is_between : StopPlace → ℕ → Bool
is_between at_input answered = true
is_between at_file answered = true
is_between at_store zero = false
is_between at_store (suc answered) = true
is_between (at_row index) answered = false
is_between at_output answered = false
is_between anywhere answered = false

-- Where a run stopped at its input, all orders are answered whose lines ended with a line feed in
-- what was taken of it, but for the last of them where its body may go on. Elsewhere more lines may
-- have been taken: those of the piece that was read last.
abbrev pub IsPromptAt : StopPlace → List ℕ → Option (List ℕ) → ℕ → Type 0
IsPromptAt at_input bytes left answered = IfSome left (λ rest. IsPrompt 0 bytes rest answered)
IsPromptAt at_file bytes left answered = Unit {0}
IsPromptAt at_store bytes left answered = Unit {0}
IsPromptAt (at_row index) bytes left answered = Unit {0}
IsPromptAt at_output bytes left answered = Unit {0}
IsPromptAt anywhere bytes left answered = Unit {0}

-- A number of orders was answered, the last of them maybe in part. What was written is a front of
-- what is told of them, and holds all that is told of those before the last. The rows that are kept,
-- where they are told, are those of the entries at the start and then of the same orders. Between two
-- orders nothing lacks. Where a load stopped the run, it is one of the next order's.
pub record IsFront (bytes : List ℕ) (place : StopPlace) (rows : List Entry) (answers : List OrderAnswer) (before now : Outside) : Type 0 where
  pub answered : ℕ
  pub within : answered ≤ length answers
  pub count : ℕ
  pub text : Appends before.out.taken now.out.taken (take count (told_of rows (take answered answers)))
  pub whole : (fewer : ℕ) → fewer + 1 ≡ answered → length (told_of rows (take fewer answers)) ≤ count
  pub between : is_between place answered ≡ true → length (told_of rows (take answered answers)) ≤ count
  pub kept : AreKept (kept_after rows (take answered answers)) now.store
  pub prompt : IsPromptAt place bytes now.input.left answered
  pub asked : ℕ
  pub asks : Asks before.files.calls now.files.calls asked
  pub asks_at : AsksAt place (map (λ (a : OrderAnswer). a.asks) answers) answered asked
