use Rattle.std.proofs.Common.{◌≡◌, ◌≤◌, ◌∙◌, Some, None, arith}
use Rattle.spec_vectors.specs.Ranges.{longest}
use Rattle.pr_window.specs.private.Neighbours.{beside, spot_alone}
use Rattle.pr_range.proofs.Finishing.{long_answer, neighbours_answer, none_answer}
use Rattle.pr_range.proofs.Rising.{spread_within}
use Rattle.pr_range.proofs.finishes.answer_from_neighbours.Goals as goal

pub returns-then-count-gt-LONGEST-clause-answer : goal.returns-then-count-gt-LONGEST-clause-answer
returns-then-count-gt-LONGEST-clause-answer c = λ spots within size is. long_answer c.args.ask.now c.args.count spots c.if-count-gt-LONGEST.true size

pub returns-in-Some-clause-answer : goal.returns-in-Some-clause-answer
returns-in-Some-clause-answer c = λ spots within size is.
    let some : c.args.kept ≡ Some c.in-Some.kept = cc (c.in-Some.is) in
    let short : c.args.count ≤ longest = omega (arith, c.if-count-gt-LONGEST.false) in
    let spread = spread_within c.args.ask.now spots c.in-Some.kept within (is ∙ some) in
    neighbours_answer c.args.ask.now c.args.count spots c.args.kept c.in-Some.kept c.from_neighbours.result c.told.result c.requires.func short size is some (c.from_neighbours.ensures spread) c.told.ensures.answer

pub returns-in-None-clause-answer : goal.returns-in-None-clause-answer
returns-in-None-clause-answer c = λ spots within size is.
    let none : c.args.kept ≡ None = cc (c.in-None.is) in
    none_answer spot_alone beside c.args.ask.now spots c.args.kept is none
