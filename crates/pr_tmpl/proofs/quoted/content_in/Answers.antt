use Rattle.pr_tmpl.proofs.QuoteWays.{content_read, content_bad}
use Rattle.pr_tmpl.proofs.quoted.content_in.Goals as goal

pub returns-in-Some-clause-read : goal.returns-in-Some-clause-read
returns-in-Some-clause-read c = content_read c.args.text.now c.in_ok-means.rest.now c.in-Some.after.now c.in_ok-means.means c.in_ok-means.ensures.read.0 c.in_ok-means.ensures.read.1 c.in-Some.ensures.read

pub returns-in-None-clause-read : goal.returns-in-None-clause-read
returns-in-None-clause-read c = content_bad c.args.text.now c.in_ok-means.rest.now c.in_ok-means.means c.in_ok-means.ensures.read.0 c.in_ok-means.ensures.read.1 c.in-None.ensures.read
