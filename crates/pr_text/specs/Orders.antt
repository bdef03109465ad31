-- The orders of an input: what its lines ask for, each with the number of its line.
use Rattle.std.specs.Prelude.{ℕ, ◌+◌, Bool, true, false, cond, List, [], ◌∷◌, codes, filter_map, Option, Some, None}
use Rattle.std.specs.Str.{bytes_eq}
use Rattle.pr_words.specs.Fields.{without_trailing, first_field, after_field}
use Rattle.pr_text.specs.Script.{is_passed_over, scrape_in, whole_event, takes_body, is_body_line, body_of}
use Rattle.pr_text.specs.Reloads.{reload_in}
use Rattle.pr_text.specs.Naming.{receiver_in, flush_in}
use Rattle.pr_text.specs.declared.script.order.Order.{Order}
use Rattle.pr_text.specs.declared.script.order.Order.TheVariants as order
use Rattle.pr_text.specs.declared.script.order.Numbered.{Numbered}
use Rattle.spec_world.specs.declared.event.Event.{Event}

-- a line with its number, from 1, and the body lines that belong to it
pub record Block : Type 0 where
  pub number : ℕ
  pub line : List ℕ
  pub body : List (List ℕ)

-- the body lines at the front of blocks, and the blocks behind them
abbrev pub body_at : List Block → List (List ℕ)
body_at [] = []
body_at (b ∷ blocks) = cond (is_body_line b.line) (b.line ∷ body_at blocks) []

abbrev pub behind_body : List Block → List Block
behind_body [] = []
behind_body (b ∷ blocks) = cond (is_body_line b.line) (behind_body blocks) (b ∷ blocks)

-- a line that takes a body has the body lines that directly follow it; any other line stands alone
abbrev pub with_line : Bool → ℕ → List ℕ → List Block → List Block
with_line true number line blocks = record { number = number; line = line; body = body_at blocks } ∷ behind_body blocks
with_line false number line blocks = record { number = number; line = line; body = [] } ∷ blocks

-- the blocks of lines that follow so many others, where a test says which lines take a body
abbrev pub blocks_by : (List ℕ → Bool) → ℕ → List (List ℕ) → List Block
blocks_by takes before [] = []
blocks_by takes before (line ∷ lines) = with_line (takes line) (before + 1) line (blocks_by takes (before + 1) lines)

-- what spells no event is refused; so is a body line that stands alone
abbrev pub event_order : Option Event → Order
event_order None = order.Bad
event_order (Some e) = order.Event e

-- The order that a word and what stands after it spell, where it takes no body: a reload names files,
-- and two orders name a receiver; what else there is, is an event.
abbrev pub whole_order : List ℕ → List ℕ → Order
whole_order word text =
    cond (bytes_eq word (codes "reload")) (reload_in text) (cond (bytes_eq word (codes "receiver")) (receiver_in text)
    (cond (bytes_eq word (codes "flush")) (flush_in text) (event_order (whole_event word text))))

-- the order that a word, what stands after it, and a body spell: a scrape takes a body
abbrev pub order_by : List ℕ → List ℕ → List ℕ → Order
order_by word text body = cond (bytes_eq word (codes "scrape")) (event_order (scrape_in body text)) (whole_order word text)

-- the order that a line and a body spell; the blanks at the line's end say nothing
abbrev pub order_of : List ℕ → List ℕ → Order
order_of line body = order_by (first_field (without_trailing line)) (after_field (without_trailing line)) body

-- a line that is passed over is no order
abbrev pub block_order : Block → Option Numbered
block_order b = cond (is_passed_over b.line) None (Some (record { number = b.number; order = order_of b.line (body_of b.body) }))

-- the orders of lines that follow so many others
unfoldable pub orders_after : ℕ → List (List ℕ) → List Numbered
orders_after before lines = filter_map block_order (blocks_by takes_body before lines)

abbrev pub orders_of : List (List ℕ) → List Numbered
orders_of lines = orders_after 0 lines
