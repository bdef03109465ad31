use Rattle.std.proofs.Common.{refl}
use Rattle.pr_text.specs.Orders.{orders_after}
use Rattle.pr_text.specs.Script.{takes_body}
use Rattle.pr_text.proofs.script.examples.lines_that_ask_for_nothing_are_counted.Goals as goal

pub returns : goal.returns
unfolding orders_after takes_body
returns c = refl
