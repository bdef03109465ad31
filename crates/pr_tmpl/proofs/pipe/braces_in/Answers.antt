use Rattle.pr_tmpl.proofs.CallWays.{closes, half_closes, no_end}
use Rattle.pr_tmpl.proofs.pipe.braces_in.Goals as goal

pub returns-in-Some-sign_in-clause-read : goal.returns-in-Some-sign_in-clause-read
returns-in-Some-sign_in-clause-read c = closes c.args.text.now c.in-Some.second.now c.in-Some-sign_in.end.now c.in-Some.ensures.read c.in-Some-sign_in.ensures.read

pub returns-in-None-sign_in-clause-read : goal.returns-in-None-sign_in-clause-read
returns-in-None-sign_in-clause-read c = half_closes c.args.text.now c.in-Some.second.now c.in-Some.ensures.read c.in-None-sign_in.ensures.read

pub returns-in-None-clause-read : goal.returns-in-None-clause-read
returns-in-None-clause-read c = no_end c.args.text.now c.requires c.in-None.ensures.read
