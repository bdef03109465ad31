use Rattle.std.proofs.Common.{refl, Some, None, arith}
use Rattle.std.specs.Prelude.{codes}
use Rattle.pr_labels.specs.pr_forms.Form.{rule, nothing}
use Rattle.pr_labels.specs.pr_forms.Run.{run_rule, run_right, run_nothing}
use Rattle.pr_labels.proofs.FormsCarrying.{carry_on, carry_rule, carry_left}
use Rattle.pr_tmpl.specs.declared.kind.TemplateByte.TheVariants.{CapitalP, CapitalD}
use Rattle.pr_tmpl.specs.declared.template.Call.TheVariants.{HumanizePercentage, HumanizeDuration}
use Rattle.pr_tmpl.specs.Pieces.{plain}
use Rattle.pr_tmpl.specs.TemplateText.{call, mark, any_at, second_of, spelled, scale_rule, nothing_follows, Scale, PercentageWord, DurationWord}
use Rattle.pr_tmpl.proofs.TextKept.{same_kind, handed_text}
use Rattle.pr_tmpl.proofs.WordWays.{handed, chosen_word, not_next, next_piece, kind_piece}
use Rattle.pr_tmpl.proofs.PipeWays.{no_scale}
use Rattle.pr_tmpl.proofs.pipe.scale_in.Goals as goal

pub returns-in_default-clause-read : goal.returns-in_default-clause-read
returns-in_default-clause-read c = run_rule (run_right (not_next scale_rule nothing_follows c.args.text.now c.in_default.ensures.read (λ k raw means. refl) refl) run_nothing)

pub returns-in-CapitalP-clause-read : goal.returns-in-CapitalP-clause-read
returns-in-CapitalP-clause-read c = handed (rule Scale) (spelled (codes "ercentage") (nothing (call HumanizePercentage))) c.args.text.now c.in-Some.rest.now (λ x. call x.0) (λ x. x.1.now) c.call_word.result (carry_on carry_rule (carry_on (carry_left (next_piece scale_rule nothing_follows (Some PercentageWord) (plain CapitalP c.in-Some._byte) c.args.text.now c.in-Some.rest.now (kind_piece c.args.text.now c.in-Some.rest.now c.in-Some.kind CapitalP c.in-Some._byte c.in-Some.ensures.read c.in-CapitalP.is) refl)) (chosen_word scale_rule nothing_follows PercentageWord (plain CapitalP c.in-Some._byte) c.args.text.now c.in-Some.rest.now second_of any_at (spelled (codes "ercentage") (nothing (call HumanizePercentage))) mark (kind_piece c.args.text.now c.in-Some.rest.now c.in-Some.kind CapitalP c.in-Some._byte c.in-Some.ensures.read c.in-CapitalP.is) refl refl refl refl))) c.call_word.ensures.read

pub returns-in-CapitalD-clause-read : goal.returns-in-CapitalD-clause-read
returns-in-CapitalD-clause-read c = handed (rule Scale) (spelled (codes "uration") (nothing (call HumanizeDuration))) c.args.text.now c.in-Some.rest.now (λ x. call x.0) (λ x. x.1.now) c.call_word-in-CapitalD.result (carry_on carry_rule (carry_on (carry_left (next_piece scale_rule nothing_follows (Some DurationWord) (plain CapitalD c.in-Some._byte) c.args.text.now c.in-Some.rest.now (kind_piece c.args.text.now c.in-Some.rest.now c.in-Some.kind CapitalD c.in-Some._byte c.in-Some.ensures.read c.in-CapitalD.is) refl)) (chosen_word scale_rule nothing_follows DurationWord (plain CapitalD c.in-Some._byte) c.args.text.now c.in-Some.rest.now second_of any_at (spelled (codes "uration") (nothing (call HumanizeDuration))) mark (kind_piece c.args.text.now c.in-Some.rest.now c.in-Some.kind CapitalD c.in-Some._byte c.in-Some.ensures.read c.in-CapitalD.is) refl refl refl refl))) c.call_word-in-CapitalD.ensures.read

pub returns-in_default-kind : goal.returns-in_default-kind
returns-in_default-kind c = record { read = run_rule (run_right (next_piece scale_rule nothing_follows None (plain c.in-Some.kind c.in-Some._byte) c.args.text.now c.in-Some.rest.now c.in-Some.ensures.read.pieces_are (no_scale c.in-Some.kind c.in-Some._byte c.in_default-kind.not-CapitalP c.in_default-kind.not-CapitalD)) run_nothing); shorter = omega arith; text = λ u. u }

pub returns-in-CapitalP-clause-text : goal.returns-in-CapitalP-clause-text
returns-in-CapitalP-clause-text c = handed_text c.args.text.now c.in-Some.rest.now c.call_word.result (λ x. x.1.now) (same_kind c.in-Some.kind CapitalP c.args.text.now c.in-Some.rest.now c.in-CapitalP.is c.in-Some.ensures.text) c.call_word.ensures.text

pub returns-in-CapitalD-clause-text : goal.returns-in-CapitalD-clause-text
returns-in-CapitalD-clause-text c = handed_text c.args.text.now c.in-Some.rest.now c.call_word-in-CapitalD.result (λ x. x.1.now) (same_kind c.in-Some.kind CapitalD c.args.text.now c.in-Some.rest.now c.in-CapitalD.is c.in-Some.ensures.text) c.call_word-in-CapitalD.ensures.text
