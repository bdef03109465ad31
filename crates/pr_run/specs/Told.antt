-- What a run of the script writes, keeps and refuses, by what the files hold, the rows at the start
-- and the bytes of its input.
use Rattle.std.specs.Prelude.{ℕ, Bool, cond, nat_lt, List, [], ◌∷◌, ◌++◌, length, flat_map, Option, Some, None, Result, Ok, Err}
use Rattle.std.specs.List.{list_any}
use Rattle.pr_outside.specs.pr_words.Lines.{lines_of}
use Rattle.pr_queue.specs.spec_history.declared.entry.Entry.{Entry}
use Rattle.pr_queue.specs.spec_alerts.Receivers.{Receiver}
use Rattle.pr_text.specs.spec_world.declared.event.NamedFile.{NamedFile}
use Rattle.pr_text.specs.spec_world.declared.report.Report.{Report}
use Rattle.pr_text.specs.spec_world.declared.report.Report.TheVariants.{Opened}
use Rattle.pr_text.specs.spec_world.Loading.{FileToLoad, Holding, holds, is_missing, is_too_large, file_found, reload_asked}
use Rattle.pr_text.specs.spec_world.Settings.{of_a_run}
use Rattle.pr_text.specs.spec_world.Step.{Step, next}
use Rattle.pr_text.specs.spec_world.World.{World, start}
use Rattle.pr_text.specs.declared.script.order.Order.{Order}
use Rattle.pr_text.specs.declared.script.order.Order.TheVariants as order
use Rattle.pr_text.specs.declared.script.order.Numbered.{Numbered}
use Rattle.pr_text.specs.Orders.{orders_of}
use Rattle.pr_text.specs.Printed.{shown_report}
use Rattle.pr_outside.specs.Loading as loading
use Rattle.pr_outside.specs.Loading.{holding_by}
use Rattle.pr_outside.specs.Outside.{Held}
use Rattle.pr_run.specs.Replies.{Reply, bad_line_reply, flush_reply, receiver_reply, receivers_after}

-- What is kept in mind between two orders: the world; and the receivers of notices, which are no part
-- of it.
pub record State : Type 0 where
  pub world : World
  pub receivers : List Receiver

-- over these rows at the start, without receivers
abbrev pub begun : List Entry → State
begun rows = record { world = start rows; receivers = [] }

-- what is told of an order: its text, the rows that are kept for it, whether it is refused, and the
-- files that are asked for
pub record OrderAnswer : Type 0 where
  pub text : List ℕ
  pub rows : List Entry
  pub refused : Bool
  pub asks : List (List ℕ)

-- an order's answer, and what is kept in mind after it
pub record Turn : Type 0 where
  pub answer : OrderAnswer
  pub state : State

-- Files

-- what a name holds, in the words of a reload
abbrev pub holding_of : loading.Holding → Holding
holding_of (loading.holds bytes) = holds bytes
holding_of loading.is_missing = is_missing
holding_of loading.is_too_large = is_too_large

abbrev pub content_by : Held → List ℕ → Holding
content_by held file = holding_of (holding_by (held file))

-- The files are asked for in order, each once, up to the first that is missing, too large or no rule
-- file.
abbrev pub asks_after : Result NamedFile Report → List (List ℕ) → List (List ℕ)
asks_after (Ok f) more = more
asks_after (Err refusal) more = []

abbrev pub asks_for : (List ℕ → Holding) → List FileToLoad → List (List ℕ)
asks_for content [] = []
asks_for content (f ∷ files) = f.file ∷ asks_after (file_found f (content f.file)) (asks_for content files)

-- none is asked for where the time is before that of the last event
abbrev pub asks_in_time : Option ℕ → ℕ → List (List ℕ) → List (List ℕ)
asks_in_time None time asks = asks
asks_in_time (Some last) time asks = cond (nat_lt time last) [] asks

-- Orders

-- an order is answered by the report of its step in the world
abbrev pub step_turn : State → Step → List (List ℕ) → Turn
step_turn s step asks = record {
  answer = record { text = shown_report step.report; rows = step.rows; refused = step.refused; asks = asks };
  state = record { world = step.world; receivers = receivers_after step.report s.receivers };
}

-- or it leaves the world as it is
abbrev pub reply_turn : State → Reply → Turn
reply_turn s reply = record {
  answer = record { text = reply.text; rows = []; refused = reply.refused; asks = [] };
  state = record { world = s.world; receivers = reply.receivers };
}

abbrev pub turn_of : Held → State → ℕ → Order → Turn
turn_of held s number (order.Event e) = step_turn s (next of_a_run s.world e) []
turn_of held s number (order.Reload time files) =
    step_turn s (reload_asked of_a_run s.world time (content_by held) files) (asks_in_time s.world.last time (asks_for (content_by held) files))
turn_of held s number (order.Receiver name) = reply_turn s (receiver_reply name s.receivers)
turn_of held s number (order.Flush name) = reply_turn s (flush_reply name s.receivers)
turn_of held s number order.Bad = reply_turn s (bad_line_reply number s.receivers)

unfoldable pub turn : Held → State → Numbered → Turn
turn held s o = turn_of held s o.number o.order

-- the answers to orders, one after another
abbrev pub answers : Held → State → List Numbered → List OrderAnswer
answers held s [] = []
answers held s (o ∷ orders) = (turn held s o).answer ∷ answers held (turn held s o).state orders

-- the answers to all orders of an input, over these rows at the start
abbrev pub answers_to : Held → List Entry → List ℕ → List OrderAnswer
answers_to held rows bytes = answers held (begun rows) (orders_of (lines_of bytes))

-- the files that are asked for
abbrev pub asks_of : List OrderAnswer → List (List ℕ)
asks_of answered = flat_map (λ (a : OrderAnswer). a.asks) answered

-- the line that a run begins with, and then the texts of answers
unfoldable pub told_of : List Entry → List OrderAnswer → List ℕ
told_of rows answered = shown_report (Opened (length rows)) ++ flat_map (λ (a : OrderAnswer). a.text) answered

-- the entries that are kept after answers: those at the start, and those of the answers
abbrev pub kept_after : List Entry → List OrderAnswer → List Entry
kept_after rows answered = rows ++ flat_map (λ (a : OrderAnswer). a.rows) answered

abbrev pub any_refused : List OrderAnswer → Bool
any_refused answered = list_any (λ (a : OrderAnswer). a.refused) answered

-- what a run writes that reads these bytes, the entries that it keeps, and whether it refuses an order
abbrev pub told : Held → List Entry → List ℕ → List ℕ
told held rows bytes = told_of rows (answers_to held rows bytes)

abbrev pub kept : Held → List Entry → List ℕ → List Entry
kept held rows bytes = kept_after rows (answers_to held rows bytes)

abbrev pub refuses : Held → List Entry → List ℕ → Bool
refuses held rows bytes = any_refused (answers_to held rows bytes)

-- what is kept in mind after orders
abbrev pub state_after : Held → State → List Numbered → State
state_after held s [] = s
state_after held s (o ∷ orders) = state_after held (turn held s o).state orders
