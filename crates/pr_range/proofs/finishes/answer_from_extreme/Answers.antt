use Rattle.std.proofs.Common.{◌≡◌, ◌≤◌, Some, None, arith}
use Rattle.spec_vectors.specs.Ranges.{longest}
use Rattle.pr_window.specs.private.Extremes.{greater, lesser, value_alone}
use Rattle.pr_range.proofs.Finishing.{greatest_answer, least_answer, long_answer, none_answer}
use Rattle.pr_range.proofs.finishes.answer_from_extreme.Goals as goal

pub returns-then-count-gt-LONGEST-clause-greatest : goal.returns-then-count-gt-LONGEST-clause-greatest
returns-then-count-gt-LONGEST-clause-greatest c = λ ask spots func size is. long_answer ask c.args.count spots c.if-count-gt-LONGEST.true size

pub returns-then-count-gt-LONGEST-clause-least : goal.returns-then-count-gt-LONGEST-clause-least
returns-then-count-gt-LONGEST-clause-least c = λ ask spots func size is. long_answer ask c.args.count spots c.if-count-gt-LONGEST.true size

pub returns-in-Some-clause-greatest : goal.returns-in-Some-clause-greatest
returns-in-Some-clause-greatest c = λ ask spots func size is.
    let some : c.args.value ≡ Some c.in-Some.value = cc (c.in-Some.is) in
    let short : c.args.count ≤ longest = omega (arith, c.if-count-gt-LONGEST.false) in
    greatest_answer ask c.args.count spots c.args.value c.in-Some.value func short size is some

pub returns-in-Some-clause-least : goal.returns-in-Some-clause-least
returns-in-Some-clause-least c = λ ask spots func size is.
    let some : c.args.value ≡ Some c.in-Some.value = cc (c.in-Some.is) in
    let short : c.args.count ≤ longest = omega (arith, c.if-count-gt-LONGEST.false) in
    least_answer ask c.args.count spots c.args.value c.in-Some.value func short size is some

pub returns-in-None-clause-greatest : goal.returns-in-None-clause-greatest
returns-in-None-clause-greatest c = λ ask spots func size is.
    let none : c.args.value ≡ None = cc (c.in-None.is) in
    none_answer value_alone greater ask spots c.args.value is none

pub returns-in-None-clause-least : goal.returns-in-None-clause-least
returns-in-None-clause-least c = λ ask spots func size is.
    let none : c.args.value ≡ None = cc (c.in-None.is) in
    none_answer value_alone lesser ask spots c.args.value is none
