-- What the line of an order alone tells of it.
use Rattle.std.specs.Prelude.{◌≡◌, ℕ, Bool, true, false, not, List, [], ◌∷◌}
use Rattle.pr_text.specs.Orders.{order_of}
use Rattle.pr_text.specs.Script.{takes_body, is_body_line}
use Rattle.pr_text.specs.declared.script.order.Started.{Started}
use Rattle.pr_text.specs.declared.script.order.Started.TheVariants.{Whole, Scrape}
use Rattle.pr_text.specs.declared.script.order.Order.TheVariants as made
use Rattle.spec_world.specs.declared.event.Event.TheVariants as event

-- A line that takes no body is the whole order. One that takes a body is a scrape, whatever the
-- body is.
abbrev pub Starts : List ℕ → Started → Type 0
Starts line (Whole order) = (takes_body line ≡ false) × (order ≡ order_of line [])
Starts line (Scrape time target) = (takes_body line ≡ true) × ((body : List ℕ) → order_of line body ≡ made.Event (event.Scrape time target body))

-- no body goes on with these lines
abbrev pub ends_body : List (List ℕ) → Bool
ends_body [] = true
ends_body (line ∷ lines) = not (is_body_line line)
