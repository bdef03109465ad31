use Rattle.pr_labels.proofs.SeriesReading.{equals_read, no_equals}
use Rattle.pr_labels.proofs.series.series.equals_in.Goals as goal

pub returns-in-Some-clause-read : goal.returns-in-Some-clause-read
returns-in-Some-clause-read c = λ h. equals_read _ c.blanks_in-at.result.now c.in-Some.after.now c.blanks_in.result.now c.blanks_in-at.ensures.read c.in-Some.ensures.read c.blanks_in.ensures.read h

pub returns-in-Some-clause-text : goal.returns-in-Some-clause-text
returns-in-Some-clause-text c = λ u. c.blanks_in.ensures.text (c.in-Some.ensures.text (c.blanks_in-at.ensures.text u))

pub returns-in-None-clause-read : goal.returns-in-None-clause-read
returns-in-None-clause-read c = λ h. no_equals _ c.blanks_in-at.result.now c.blanks_in-at.ensures.read c.in-None.ensures.read h
