use Rattle.std.proofs.Common.{sym, ◌∙◌}
use Rattle.pr_tmpl.proofs.TextKept.{own_text, other_begins, end_begins}
use Rattle.pr_tmpl.proofs.QuoteWays.{own_none, own_none_end, own_reached, broken_read}
use Rattle.pr_tmpl.proofs.quoted.own_in.Goals as goal

pub returns-in_default-clause-read : goal.returns-in_default-clause-read
returns-in_default-clause-read c = own_none_end c.args.within c.args.text.now (rw c.in_default.is at c.in_ok-letter.ensures.read)

pub returns-then-is_own-clause-read : goal.returns-then-is_own-clause-read
returns-then-is_own-clause-read c = own_reached c.args.within c.in-Some.letter c.args.text.now c.in-Some.rest.now (rw c.in-Some.is at c.in_ok-letter.ensures.read) (sym c.is_own.ensures ∙ c.if-is_own.true)

pub returns-in-Broken-clause-read : goal.returns-in-Broken-clause-read
returns-in-Broken-clause-read c = broken_read c.args.within c.in-Some.letter c.args.text.now c.in-Some.rest.now (rw c.in-Some.is at c.in_ok-letter.ensures.read) c.in-Broken.is

pub returns : goal.returns
returns c = record { read = own_none c.args.within c.in-Some.letter c.args.text.now c.in-Some.rest.now (rw c.in-Some.is at c.in_ok-letter.ensures.read) (sym c.is_own.ensures ∙ c.if-is_own.false) c.in_default-letter.not-Broken; shorter = tt; text = other_begins c.args.within c.in-Some.letter c.args.text.now c.in-Some.rest.now (rw c.in-Some.is at c.in_ok-letter.ensures.read) (rw c.in-Some.is at c.in_ok-letter.ensures.text) (sym c.is_own.ensures ∙ c.if-is_own.false) c.in_default-letter.not-Broken }

pub returns-in_default-clause-text : goal.returns-in_default-clause-text
returns-in_default-clause-text c = end_begins c.args.text.now (rw c.in_default.is at c.in_ok-letter.ensures.read)

pub returns-then-is_own-clause-text : goal.returns-then-is_own-clause-text
returns-then-is_own-clause-text c = own_text c.args.within c.in-Some.letter c.args.text.now c.in-Some.rest.now (rw c.in-Some.is at c.in_ok-letter.ensures.read) (rw c.in-Some.is at c.in_ok-letter.ensures.text) (sym c.is_own.ensures ∙ c.if-is_own.true)
