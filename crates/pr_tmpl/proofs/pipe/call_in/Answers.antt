use Rattle.std.proofs.Common.{refl}
use Rattle.std.specs.Prelude.{codes}
use Rattle.pr_labels.specs.pr_forms.Form.{rule}
use Rattle.pr_labels.specs.pr_forms.Run.{run_rule}
use Rattle.pr_labels.proofs.FormsCarrying.{carry_on, carry_rule}
use Rattle.pr_tmpl.specs.declared.kind.TemplateByte.TheVariants.{SmallP, SmallH}
use Rattle.pr_tmpl.specs.Pieces.{plain}
use Rattle.pr_tmpl.specs.TemplateText.{call, mark, any_at, second_of, spelled, call_rule, scale_goes_on, ACall, Scale, Formatted, PrintfWord, HumanizeWord}
use Rattle.pr_tmpl.specs.private.Pipes.{after_gap}
use Rattle.pr_tmpl.proofs.WordWays.{handed, chosen_word, unchosen, unchosen_piece, kind_piece}
use Rattle.pr_tmpl.proofs.CallWays.{no_call}
use Rattle.pr_tmpl.proofs.pipe.call_in.Goals as goal

pub returns-in_default-clause-read : goal.returns-in_default-clause-read
returns-in_default-clause-read c = run_rule (unchosen call_rule scale_goes_on c.args.text.now c.in_default.ensures.read (λ k raw means. refl) refl)

pub returns-in-SmallP-clause-read : goal.returns-in-SmallP-clause-read
returns-in-SmallP-clause-read c = handed (rule ACall) (spelled (codes "rintf") (after_gap (rule Formatted))) c.args.text.now c.in-Some.rest.now (λ x. call x.0) (λ x. x.1.now) c.printf_call.result (carry_on carry_rule (chosen_word call_rule scale_goes_on PrintfWord (plain SmallP c.in-Some._byte) c.args.text.now c.in-Some.rest.now second_of any_at (spelled (codes "rintf") (after_gap (rule Formatted))) mark (kind_piece c.args.text.now c.in-Some.rest.now c.in-Some.kind SmallP c.in-Some._byte c.in-Some.ensures.read c.in-SmallP.is) refl refl refl refl)) c.printf_call.ensures.read

pub returns-in-SmallH-clause-read : goal.returns-in-SmallH-clause-read
returns-in-SmallH-clause-read c = handed (rule ACall) (spelled (codes "umanize") (rule Scale)) c.args.text.now c.in-Some.rest.now (λ x. call x.0) (λ x. x.1.now) c.humanize_call.result (carry_on carry_rule (chosen_word call_rule scale_goes_on HumanizeWord (plain SmallH c.in-Some._byte) c.args.text.now c.in-Some.rest.now second_of any_at (spelled (codes "umanize") (rule Scale)) mark (kind_piece c.args.text.now c.in-Some.rest.now c.in-Some.kind SmallH c.in-Some._byte c.in-Some.ensures.read c.in-SmallH.is) refl refl refl refl)) c.humanize_call.ensures.read

pub returns-in_default-kind : goal.returns-in_default-kind
returns-in_default-kind c = record { read = run_rule (unchosen_piece call_rule scale_goes_on (plain c.in-Some.kind c.in-Some._byte) c.args.text.now c.in-Some.rest.now c.in-Some.ensures.read.pieces_are (no_call c.in-Some.kind c.in-Some._byte c.in_default-kind.not-SmallP c.in_default-kind.not-SmallH)); shorter = tt; text = tt }
