use Rattle.std.proofs.Common.{◌≡◌, ◌≤◌, Some, None, sym, arith}
use Rattle.spec_vectors.specs.pr_num.Total.{joined}
use Rattle.spec_vectors.specs.Ranges.{longest}
use Rattle.pr_window.specs.private.Totals.{total_alone}
use Rattle.pr_range.proofs.Finishing.{long_answer, none_answer, total_answer}
use Rattle.pr_range.proofs.finishes.answer_from_total.Goals as goal

pub returns-then-count-gt-LONGEST-clause-answer : goal.returns-then-count-gt-LONGEST-clause-answer
returns-then-count-gt-LONGEST-clause-answer c = λ spots size is. long_answer c.args.ask.now c.args.count spots c.if-count-gt-LONGEST.true size

pub returns-in-Some-clause-answer : goal.returns-in-Some-clause-answer
returns-in-Some-clause-answer c = λ spots size is.
    let some : c.args.total ≡ Some c.in-Some.total = cc (c.in-Some.is) in
    let short : c.args.count ≤ longest = omega (arith, c.if-count-gt-LONGEST.false) in
    total_answer c.args.ask.now c.args.count spots c.args.total c.in-Some.total c.from_total.result c.told.result c.requires.func short size is some c.from_total.ensures c.told.ensures.answer

pub returns-in-None-clause-answer : goal.returns-in-None-clause-answer
returns-in-None-clause-answer c = λ spots size is.
    let none : c.args.total ≡ None = cc (c.in-None.is) in
    none_answer total_alone joined c.args.ask.now spots c.args.total is none
