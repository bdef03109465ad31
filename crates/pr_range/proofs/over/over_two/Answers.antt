use Rattle.std.proofs.Common.{◌≡◌, length, arith}
use Rattle.std.proofs.lemmas.Grind.{common_steps}
use Rattle.pr_range.specs.private.Formulas.{formula_of}
use Rattle.pr_range.proofs.Rising.{none_of_one, rising_all}
use Rattle.pr_range.proofs.over.over_two.Goals as goal

pub returns-then-is_empty : goal.returns-then-is_empty
returns-then-is_empty c = λ within.
    let none : length c.args.rest.now ≡ 0 = grind (arith, common_steps) in
    none_of_one (formula_of c.args.func c.args.ask.now) c.args.first.now c.args.rest.now none

pub returns-then-not-is_rising : goal.returns-then-not-is_rising
returns-then-not-is_rising c = λ within.
    let some : length c.args.rest.now ≡ 0 → ⊥ = λ none. grind (arith, common_steps, none) in
    rising_all c.args.ask.now.from c.args.ask.now.to c.args.first.now c.args.rest.now c.is_rising.result within some c.if-not-is_rising.true c.is_rising.ensures.all
