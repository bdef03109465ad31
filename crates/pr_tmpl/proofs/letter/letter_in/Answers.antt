use Rattle.pr_tmpl.proofs.TextKept.{letter_text}
use Rattle.pr_tmpl.proofs.Letters.{plainly, letter_follows}
use Rattle.pr_tmpl.proofs.letter.letter_in.Goals as goal

pub returns-in_ok-escape_in-clause-read : goal.returns-in_ok-escape_in-clause-read
returns-in_ok-escape_in-clause-read c = letter_follows c.args.text.now c.in-Some.rest.now c.in_ok-escape_in.field-0.1.now c.in-Some.byte.now c.in_ok-escape_in.field-0.0 c.in-Some.ensures.cases.0 c.if-byte-eq92.true c.in_ok-escape_in.ensures.read

pub returns-else-byte-eq92-clause-read : goal.returns-else-byte-eq92-clause-read
returns-else-byte-eq92-clause-read c = plainly c.args.text.now c.in-Some.rest.now c.in-Some.byte.now c.kind_of.result c.in-Some.ensures.cases.0 c.if-byte-eq92.false c.kind_of.ensures

pub returns-in_ok-escape_in-clause-text : goal.returns-in_ok-escape_in-clause-text
returns-in_ok-escape_in-clause-text c = letter_text c.args.text.now c.in-Some.rest.now c.in_ok-escape_in.field-0.1.now c.in-Some.byte.now c.in_ok-escape_in.field-0.0 c.in-Some.ensures.cases.0 c.if-byte-eq92.true c.in_ok-escape_in.ensures.text
