use Rattle.pr_labels.specs.pr_forms.Form.{rule}
use Rattle.pr_tmpl.specs.TemplateText.{Before, Wanted}
use Rattle.pr_tmpl.proofs.FormatWays.{fail_exit, no_verb_comes, wanted_fails, led_up_to}
use Rattle.pr_tmpl.proofs.quoted.up_to_wanted.Goals as goal

pub returns-in_default-clause-read : goal.returns-in_default-clause-read
returns-in_default-clause-read c = no_verb_comes c.args.text.now c.in_ok-means.at.now c.in_ok-means.means c.in_ok-means.ensures.read.0 c.in_ok-means.ensures.read.1 (rw c.in_default.is at c.in_ok-_byte.ensures.read)

pub returns-in_err-wanted-clause-read : goal.returns-in_err-wanted-clause-read
returns-in_err-wanted-clause-read c = fail_exit _ (rule Before) (rule Wanted) c.args.text.now c.in-Some.after.now _ c.in_err-wanted.field-0.0 c.from_residual-in_err-wanted.ensures.1 (wanted_fails c.args.text.now c.in_ok-means.at.now c.in-Some.after.now c.in_ok-means.means c.in-Some._byte c.in_ok-means.ensures.read.0 c.in_ok-means.ensures.read.1 (rw c.in-Some.is at c.in_ok-_byte.ensures.read)) c.in_err-wanted.ensures.read

pub returns-clause-read : goal.returns-clause-read
returns-clause-read c = led_up_to c.args.text.now c.in_ok-means.at.now c.in-Some.after.now c.in_ok-wanted.next.now c.in_ok-means.means c.in-Some._byte c.in_ok-wanted.wanted c.in_ok-means.ensures.read.0 c.in_ok-means.ensures.read.1 (rw c.in-Some.is at c.in_ok-_byte.ensures.read) c.in_ok-wanted.ensures.read
