use Rattle.std.proofs.Common.{◌≡◌, List, ap, ◌∙◌}
use Rattle.pr_labels.specs.declared.pair.Pair.{Pair}
use Rattle.pr_manager.specs.spec_world.Scrapes.{offer_of}
use Rattle.pr_engine.proofs.Tallying.{one_front, one_puts, one_tallies}
use Rattle.pr_engine.proofs.scrape.tally.put_line.Goals as goal

pub returns-clause-puts : goal.returns-clause-puts
returns-clause-puts c = λ target history same h.
    let is : c.in_ok-offer.offer ≡ offer_of target c.args.now c.args.line.now = c.in_ok-offer.ensures.offer ∙ ap (λ (t : List Pair). offer_of t c.args.now c.args.line.now) same in
    one_puts c.put_some.result c.in_ok-offer.offer target c.args.now c.args.line.now is
    c.args.head.now c.put_some.new.head c.args.rows.now.items c.put_some.new.rows.items history (c.put_some.ensures.puts history h)

pub returns-clause-tallies : goal.returns-clause-tallies
returns-clause-tallies c = λ target history same h.
    let is : c.in_ok-offer.offer ≡ offer_of target c.args.now c.args.line.now = c.in_ok-offer.ensures.offer ∙ ap (λ (t : List Pair). offer_of t c.args.now c.args.line.now) same in
    one_tallies c.put_some.result c.in_ok-offer.offer target c.args.now c.args.line.now is
    c.args.tally.now c.put_some.new.tally history (c.put_some.ensures.dropped history h) (c.put_some.ensures.kept history h)

pub returns-clause-front : goal.returns-clause-front
returns-clause-front c = λ target history same h.
    let is : c.in_ok-offer.offer ≡ offer_of target c.args.now c.args.line.now = c.in_ok-offer.ensures.offer ∙ ap (λ (t : List Pair). offer_of t c.args.now c.args.line.now) same in
    one_front c.put_some.result c.in_ok-offer.offer target c.args.now c.args.line.now is
    c.args.head.now c.put_some.new.head history (c.put_some.ensures.front history h)
