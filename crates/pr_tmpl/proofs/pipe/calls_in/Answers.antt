use Rattle.pr_labels.specs.pr_forms.Form.{rule}
use Rattle.std.proofs.Common.{arith}
use Rattle.pr_tmpl.specs.Pieces.{pieces}
use Rattle.pr_tmpl.specs.TemplateText.{After}
use Rattle.pr_tmpl.specs.private.Pipes.{after_bar}
use Rattle.pr_tmpl.proofs.FormatWays.{fail_exit}
use Rattle.pr_tmpl.proofs.CallWays.{calls_start, call_taken, call_fails, calls_end, end_fails}
use Rattle.pr_tmpl.proofs.pipe.calls_in.Goals as goal

pub loop-at-init : goal.loop-at-init
loop-at-init c = record { so_far = calls_start c.args.before c.args.text.now c.blanks_in-rest.result.now c.blanks_in-rest.ensures.read; shorter = c.blanks_in-rest.ensures.shorter; text = c.blanks_in-rest.ensures.text c.requires }

pub returns-in_err-call-clause-read : goal.returns-in_err-call-clause-read
returns-in_err-call-clause-read c = fail_exit _ (rule After) after_bar c.args.text.now c.in-Some.at.now _ c.in_err-call.field-0.0 c.from_residual.ensures.1 (call_fails c.args.before c.args.text.now c.loop-at.calls c.loop-at.rest.now c.in-Some.at.now c.loop-at.invariant.so_far c.in-Some.ensures.read) c.in_err-call.ensures.read

pub loop-at-preserved : goal.loop-at-preserved
loop-at-preserved c = record { so_far = call_taken c.args.before c.args.text.now c.loop-at.calls c.loop-at.rest.now c.in-Some.at.now c.in_ok-call.next.now c.in_ok-call.call c.push.new.self c.loop-at.invariant.so_far c.in-Some.ensures.read c.in_ok-call.ensures.read c.in_ok-push.ensures.ok; shorter = omega (arith, c.loop-at.invariant.shorter, c.in-Some.ensures.shorter, c.in_ok-call.ensures.shorter); text = c.in_ok-call.ensures.text }

pub returns-in-Ok-clause-read : goal.returns-in-Ok-clause-read
returns-in-Ok-clause-read c = calls_end c.args.before c.args.text.now c.loop-at.calls c.loop-at.rest.now c.in-Ok.end.now c.loop-at.invariant.so_far c.in-Ok.ensures.read

pub returns-in-Ok-clause-shorter : goal.returns-in-Ok-clause-shorter
returns-in-Ok-clause-shorter c = omega (arith, c.loop-at.invariant.shorter, c.in-Ok.ensures.shorter)

pub returns-clause-read : goal.returns-clause-read
returns-clause-read c = end_fails c.args.before c.args.text.now c.loop-at.calls c.loop-at.rest.now c.loop-at.invariant.so_far (pieces c.in-Err.end.now) c.in-Err.ensures.read
