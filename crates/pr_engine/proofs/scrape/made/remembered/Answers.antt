use Rattle.std.proofs.Common.{sym, ◌∙◌}
use Rattle.pr_engine.proofs.Making.{known_made}
use Rattle.pr_engine.proofs.scrape.made.remembered.Goals as goal

pub returns-then-eq : goal.returns-then-eq
returns-then-eq c = λ target h.
    known_made target c.args.made.now c.args.place c.in-Some.one.now c.args.from.now h c.in-Some.ensures.lookup.3.0 c.in-Some.ensures.lookup.1 (sym c.eq.ensures ∙ c.if-eq.true)
