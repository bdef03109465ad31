use Rattle.pr_tmpl.proofs.WordWays.{gap_read, no_gap}
use Rattle.pr_tmpl.proofs.words.gap_in.Goals as goal

pub returns-in-Some-clause-read : goal.returns-in-Some-clause-read
returns-in-Some-clause-read c = λ f. gap_read c.args.text.now c.in-Some.rest.now c.blanks_in.result.now c.in-Some.ensures.read c.blanks_in.ensures.read f

pub returns-in-None-clause-read : goal.returns-in-None-clause-read
returns-in-None-clause-read c = λ f. no_gap c.args.text.now c.in-None.ensures.read f
