use Rattle.pr_tmpl.proofs.TextKept.{kind_text}
use Rattle.pr_tmpl.proofs.Letters.{ended, backslashed, plainly}
use Rattle.pr_tmpl.proofs.letter.front.Goals as goal

pub returns-in_default-clause-read : goal.returns-in_default-clause-read
returns-in_default-clause-read c = ended _ c.in_default.ensures.cases

pub returns-then-byte-eq92-clause-read : goal.returns-then-byte-eq92-clause-read
returns-then-byte-eq92-clause-read c = backslashed _ c.in-Some.rest.now c.in-Some.byte.now c.in-Some.ensures.cases.0 c.if-byte-eq92.true

pub returns-else-byte-eq92-clause-read : goal.returns-else-byte-eq92-clause-read
returns-else-byte-eq92-clause-read c = plainly _ c.in-Some.rest.now c.in-Some.byte.now c.kind_of.result c.in-Some.ensures.cases.0 c.if-byte-eq92.false c.kind_of.ensures

pub returns-else-byte-eq92-clause-text : goal.returns-else-byte-eq92-clause-text
returns-else-byte-eq92-clause-text c = kind_text c.kind_of.result c.args.text.now c.in-Some.rest.now c.in-Some.byte.now c.in-Some.ensures.cases.0 c.kind_of.ensures
