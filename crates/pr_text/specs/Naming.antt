-- The orders that name a receiver of notices.
use Rattle.std.specs.Prelude.{ℕ, cond, ◌==◌, List, length, Option, Some, None}
use Rattle.pr_words.specs.Fields.{first_field, after_field}
use Rattle.pr_text.specs.Script.{some_text}
use Rattle.pr_text.specs.declared.script.order.Order.{Order}
use Rattle.pr_text.specs.declared.script.order.Order.TheVariants as order

-- a name is one field, with nothing behind it
abbrev pub name_in : List ℕ → Option (List ℕ)
name_in text = cond (length (after_field text) == 0) (some_text (first_field text)) None

abbrev pub receiver_of : Option (List ℕ) → Order
receiver_of None = order.Bad
receiver_of (Some name) = order.Receiver name

abbrev pub receiver_in : List ℕ → Order
receiver_in text = receiver_of (name_in text)

abbrev pub flush_of : Option (List ℕ) → Order
flush_of None = order.Bad
flush_of (Some name) = order.Flush name

abbrev pub flush_in : List ℕ → Order
flush_in text = flush_of (name_in text)
