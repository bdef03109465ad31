use Rattle.std.proofs.Common.{Some, sym, ap, ◌∙◌}
use Rattle.pr_rule.specs.declared.rule_result.made.Made.{Made}
use Rattle.pr_rule.proofs.Making.{known_made}
use Rattle.pr_rule.proofs.Remembering.{set_at}
use Rattle.pr_rule.proofs.rule_result.made.known.Goals as goal

pub returns-then-eq-clause-there : goal.returns-then-eq-clause-there
returns-then-eq-clause-there c =
    set_at c.args.made.now c.args.place c.in-Some.one.now c.in-Some.ensures.lookup.3.0 ∙ ap (λ (m : Made). Some m.to) (sym c.in-Some.ensures.lookup.1)

pub returns-then-eq-clause-made : goal.returns-then-eq-clause-made
returns-then-eq-clause-made c = λ name labels h.
    known_made name labels c.args.made.now c.args.place c.in-Some.one.now c.args.from.now h c.in-Some.ensures.lookup.3.0 c.in-Some.ensures.lookup.1 (sym c.eq.ensures ∙ c.if-eq.true)
