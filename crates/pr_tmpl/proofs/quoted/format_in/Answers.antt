use Rattle.pr_labels.specs.pr_forms.Form.{rule}
use Rattle.pr_tmpl.specs.TemplateText.{Formatted, Before, AfterVerb}
use Rattle.pr_tmpl.specs.private.Quotes.{verb_wanted}
use Rattle.pr_tmpl.proofs.FormatWays.{fail_exit, format_read, before_fails, no_format}
use Rattle.pr_tmpl.proofs.quoted.format_in.Goals as goal

pub returns-in_default-clause-read : goal.returns-in_default-clause-read
returns-in_default-clause-read c = no_format c.args.text.now c.in_default.ensures.read

pub returns-in_err-before-clause-read : goal.returns-in_err-before-clause-read
returns-in_err-before-clause-read c = fail_exit _ (rule Formatted) (rule Before) c.args.text.now c.in-Some.inside.now _ c.in_err-before.field-0.0 c.from_residual.ensures.1 (before_fails c.args.text.now c.in-Some.inside.now c.in-Some.ensures.read) c.in_err-before.ensures.read

pub returns-in_err-after-clause-read : goal.returns-in_err-after-clause-read
returns-in_err-after-clause-read c = fail_exit _ (rule Formatted) (rule AfterVerb) c.args.text.now c.in_ok-before.rest.now _ c.in_err-after.field-0.0 c.from_residual-in_err-after.ensures.1 (λ end k. before_fails c.args.text.now c.in-Some.inside.now c.in-Some.ensures.read end (c.in_ok-before.ensures.read.fails end k)) c.in_err-after.ensures.read

pub returns-clause-read : goal.returns-clause-read
returns-clause-read c = format_read c.args.text.now c.in-Some.inside.now c.in_ok-before.rest.now c.in_ok-after.end.now c.in_ok-before.before c.in_ok-after.after c.verb_of-verb.result (verb_wanted c.in_ok-before.wanted) c.in-Some.ensures.read c.verb_of-verb.ensures c.in_ok-before.ensures.read c.in_ok-after.ensures.read
