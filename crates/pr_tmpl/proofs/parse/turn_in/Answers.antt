use Rattle.pr_tmpl.proofs.TextKept.{two_cut}
use Rattle.pr_tmpl.proofs.TextWays.{all_end, brace_ends, step_words, second_turn}
use Rattle.pr_tmpl.proofs.parse.turn_in.Goals as goal

pub returns-in_default-clause-read : goal.returns-in_default-clause-read
returns-in_default-clause-read c = all_end c.args.text.now (rw c.in_default.is at c.in_ok-brace.ensures.read)

pub returns-then-not-brace-clause-read : goal.returns-then-not-brace-clause-read
returns-then-not-brace-clause-read c = step_words c.args.text.now c.in-Some.after.now c.in-Some.brace (rw c.in-Some.is at c.in_ok-brace.ensures.read) c.if-not-brace.true

pub returns-in_default-2-clause-read : goal.returns-in_default-2-clause-read
returns-in_default-2-clause-read c = brace_ends c.args.text.now c.in-Some.after.now c.in-Some.brace (rw c.in-Some.is at c.in_ok-brace.ensures.read) c.if-not-brace.false (rw c.in_default-2.is at c.in_ok-second.ensures.read)

pub returns-clause-read : goal.returns-clause-read
returns-clause-read c = second_turn c.args.text.now c.in-Some.after.now c.in-Some-2.next.now c.in-Some.brace c.in-Some-2.second (rw c.in-Some.is at c.in_ok-brace.ensures.read) c.if-not-brace.false (rw c.in-Some-2.is at c.in_ok-second.ensures.read)

pub returns-clause-text : goal.returns-clause-text
returns-clause-text c =
    let first = rw c.in-Some.is at c.in_ok-brace.ensures.text in
    let second = rw c.in-Some-2.is at c.in_ok-second.ensures.text in
    λ e. two_cut c.args.text.now c.in-Some.after.now c.in-Some-2.next.now (first c.if-not-brace.false) (second e)
