use Rattle.std.proofs.Common.{refl}
use Rattle.std.specs.Prelude.{codes}
use Rattle.pr_labels.specs.pr_forms.Form.{rule, chosen, nothing}
use Rattle.pr_labels.proofs.FormsCarrying.{carry_exit}
use Rattle.pr_tmpl.specs.declared.kind.TemplateByte.TheVariants.{CapitalL, CapitalU}
use Rattle.pr_tmpl.specs.declared.template.Operand.TheVariants.{ExternalUrl}
use Rattle.pr_tmpl.specs.Pieces.{plain, pieces}
use Rattle.pr_tmpl.specs.TemplateText.{production, operand, bytes, mark, any_at, second_of, external_label, spelled, name_goes_on, external_rule, Name, ExternalLabelsWord, UrlWord}
use Rattle.pr_tmpl.specs.TemplateTable.{table}
use Rattle.pr_tmpl.proofs.TextKept.{same_kind, handed_text}
use Rattle.pr_tmpl.proofs.WordWays.{handed, chosen_word, unchosen, unchosen_piece, kind_piece}
use Rattle.pr_tmpl.proofs.PipeWays.{no_external}
use Rattle.pr_tmpl.proofs.pipe.external_part.Goals as goal

pub returns-in_default-clause-read : goal.returns-in_default-clause-read
returns-in_default-clause-read c = unchosen external_rule name_goes_on c.args.text.now c.in_default.ensures.read (λ k raw means. refl) refl

pub returns-in_err-name-in-CapitalL-clause-read : goal.returns-in_err-name-in-CapitalL-clause-read
returns-in_err-name-in-CapitalL-clause-read c = carry_exit pieces production table _ (chosen external_rule name_goes_on) (spelled (codes "abels.") (rule Name)) (pieces c.args.text.now) (pieces c.in-Some.rest.now) (external_label mark) (λ w. w) _ c.in_err-name-in-CapitalL.field-0.0 c.from_residual.ensures.1 (chosen_word external_rule name_goes_on ExternalLabelsWord (plain CapitalL c.in-Some._byte) c.args.text.now c.in-Some.rest.now external_label any_at (spelled (codes "abels.") (rule Name)) mark (kind_piece c.args.text.now c.in-Some.rest.now c.in-Some.kind CapitalL c.in-Some._byte c.in-Some.ensures.read c.in-CapitalL.is) refl refl refl refl) c.in_err-name-in-CapitalL.ensures.read

pub returns-in_ok-name-in-CapitalL-clause-read : goal.returns-in_ok-name-in-CapitalL-clause-read
returns-in_ok-name-in-CapitalL-clause-read c = (chosen_word external_rule name_goes_on ExternalLabelsWord (plain CapitalL c.in-Some._byte) c.args.text.now c.in-Some.rest.now external_label any_at (spelled (codes "abels.") (rule Name)) mark (kind_piece c.args.text.now c.in-Some.rest.now c.in-Some.kind CapitalL c.in-Some._byte c.in-Some.ensures.read c.in-CapitalL.is) refl refl refl refl).reads (bytes c.in_ok-name-in-CapitalL.name) (pieces c.in_ok-name-in-CapitalL.end.now) c.in_ok-name-in-CapitalL.ensures.read

pub returns-in-CapitalU-clause-read : goal.returns-in-CapitalU-clause-read
returns-in-CapitalU-clause-read c = handed (chosen external_rule name_goes_on) (spelled (codes "RL") (nothing (operand ExternalUrl))) c.args.text.now c.in-Some.rest.now (λ x. operand x.0) (λ x. x.1.now) c.operand_word.result (chosen_word external_rule name_goes_on UrlWord (plain CapitalU c.in-Some._byte) c.args.text.now c.in-Some.rest.now second_of any_at (spelled (codes "RL") (nothing (operand ExternalUrl))) mark (kind_piece c.args.text.now c.in-Some.rest.now c.in-Some.kind CapitalU c.in-Some._byte c.in-Some.ensures.read c.in-CapitalU.is) refl refl refl refl) c.operand_word.ensures.read

pub returns-in_default-kind : goal.returns-in_default-kind
returns-in_default-kind c = record { read = unchosen_piece external_rule name_goes_on (plain c.in-Some.kind c.in-Some._byte) c.args.text.now c.in-Some.rest.now c.in-Some.ensures.read.pieces_are (no_external c.in-Some.kind c.in-Some._byte c.in_default-kind.not-CapitalL c.in_default-kind.not-CapitalU); shorter = tt; text = tt }

pub returns-in_ok-name-in-CapitalL-clause-text : goal.returns-in_ok-name-in-CapitalL-clause-text
returns-in_ok-name-in-CapitalL-clause-text c = λ u. c.in_ok-name-in-CapitalL.ensures.text ((same_kind c.in-Some.kind CapitalL c.args.text.now c.in-Some.rest.now c.in-CapitalL.is c.in-Some.ensures.text) u)

pub returns-in-CapitalU-clause-text : goal.returns-in-CapitalU-clause-text
returns-in-CapitalU-clause-text c = handed_text c.args.text.now c.in-Some.rest.now c.operand_word.result (λ x. x.1.now) (same_kind c.in-Some.kind CapitalU c.args.text.now c.in-Some.rest.now c.in-CapitalU.is c.in-Some.ensures.text) c.operand_word.ensures.text
