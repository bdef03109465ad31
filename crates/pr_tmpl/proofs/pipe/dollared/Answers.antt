use Rattle.std.proofs.Common.{refl}
use Rattle.std.specs.Prelude.{codes}
use Rattle.pr_labels.specs.pr_forms.Form.{rule, chosen, nothing}
use Rattle.pr_labels.proofs.FormsCarrying.{carry_exit}
use Rattle.pr_tmpl.specs.declared.kind.TemplateByte.TheVariants.{SmallV, SmallL, SmallE}
use Rattle.pr_tmpl.specs.declared.template.Operand.TheVariants.{Value as TheValue}
use Rattle.pr_tmpl.specs.Pieces.{plain, pieces}
use Rattle.pr_tmpl.specs.TemplateText.{production, operand, bytes, mark, any_at, second_of, label, spelled, name_goes_on, dollar_rule, external_rule, Name, ValueWord, LabelsWord, ExternalWord}
use Rattle.pr_tmpl.specs.TemplateTable.{table}
use Rattle.pr_tmpl.proofs.TextKept.{same_kind, handed_text}
use Rattle.pr_tmpl.proofs.WordWays.{handed, chosen_word, unchosen, unchosen_piece, kind_piece}
use Rattle.pr_tmpl.proofs.PipeWays.{no_dollared}
use Rattle.pr_tmpl.proofs.pipe.dollared.Goals as goal

pub returns-in_default-clause-read : goal.returns-in_default-clause-read
returns-in_default-clause-read c = unchosen dollar_rule name_goes_on c.args.text.now c.in_default.ensures.read (λ k raw means. refl) refl

pub returns-in-SmallV-clause-read : goal.returns-in-SmallV-clause-read
returns-in-SmallV-clause-read c = handed (chosen dollar_rule name_goes_on) (spelled (codes "alue") (nothing (operand TheValue))) c.args.text.now c.in-Some.rest.now (λ x. operand x.0) (λ x. x.1.now) c.operand_word.result (chosen_word dollar_rule name_goes_on ValueWord (plain SmallV c.in-Some._byte) c.args.text.now c.in-Some.rest.now second_of any_at (spelled (codes "alue") (nothing (operand TheValue))) mark (kind_piece c.args.text.now c.in-Some.rest.now c.in-Some.kind SmallV c.in-Some._byte c.in-Some.ensures.read c.in-SmallV.is) refl refl refl refl) c.operand_word.ensures.read

pub returns-in_err-name-in-SmallL-clause-read : goal.returns-in_err-name-in-SmallL-clause-read
returns-in_err-name-in-SmallL-clause-read c = carry_exit pieces production table _ (chosen dollar_rule name_goes_on) (spelled (codes "abels.") (rule Name)) (pieces c.args.text.now) (pieces c.in-Some.rest.now) (label mark) (λ w. w) _ c.in_err-name-in-SmallL.field-0.0 c.from_residual.ensures.1 (chosen_word dollar_rule name_goes_on LabelsWord (plain SmallL c.in-Some._byte) c.args.text.now c.in-Some.rest.now label any_at (spelled (codes "abels.") (rule Name)) mark (kind_piece c.args.text.now c.in-Some.rest.now c.in-Some.kind SmallL c.in-Some._byte c.in-Some.ensures.read c.in-SmallL.is) refl refl refl refl) c.in_err-name-in-SmallL.ensures.read

pub returns-in_ok-name-in-SmallL-clause-read : goal.returns-in_ok-name-in-SmallL-clause-read
returns-in_ok-name-in-SmallL-clause-read c = (chosen_word dollar_rule name_goes_on LabelsWord (plain SmallL c.in-Some._byte) c.args.text.now c.in-Some.rest.now label any_at (spelled (codes "abels.") (rule Name)) mark (kind_piece c.args.text.now c.in-Some.rest.now c.in-Some.kind SmallL c.in-Some._byte c.in-Some.ensures.read c.in-SmallL.is) refl refl refl refl).reads (bytes c.in_ok-name-in-SmallL.name) (pieces c.in_ok-name-in-SmallL.end.now) c.in_ok-name-in-SmallL.ensures.read

pub returns-in-SmallE-clause-read : goal.returns-in-SmallE-clause-read
returns-in-SmallE-clause-read c = handed (chosen dollar_rule name_goes_on) (spelled (codes "xternal") (chosen external_rule name_goes_on)) c.args.text.now c.in-Some.rest.now (λ x. operand x.0) (λ x. x.1.now) c.external_operand.result (chosen_word dollar_rule name_goes_on ExternalWord (plain SmallE c.in-Some._byte) c.args.text.now c.in-Some.rest.now second_of any_at (spelled (codes "xternal") (chosen external_rule name_goes_on)) mark (kind_piece c.args.text.now c.in-Some.rest.now c.in-Some.kind SmallE c.in-Some._byte c.in-Some.ensures.read c.in-SmallE.is) refl refl refl refl) c.external_operand.ensures.read

pub returns-in_default-kind : goal.returns-in_default-kind
returns-in_default-kind c = record { read = unchosen_piece dollar_rule name_goes_on (plain c.in-Some.kind c.in-Some._byte) c.args.text.now c.in-Some.rest.now c.in-Some.ensures.read.pieces_are (no_dollared c.in-Some.kind c.in-Some._byte c.in_default-kind.not-SmallV c.in_default-kind.not-SmallL c.in_default-kind.not-SmallE); shorter = tt; text = tt }

pub returns-in-SmallV-clause-text : goal.returns-in-SmallV-clause-text
returns-in-SmallV-clause-text c = handed_text c.args.text.now c.in-Some.rest.now c.operand_word.result (λ x. x.1.now) (same_kind c.in-Some.kind SmallV c.args.text.now c.in-Some.rest.now c.in-SmallV.is c.in-Some.ensures.text) c.operand_word.ensures.text

pub returns-in_ok-name-in-SmallL-clause-text : goal.returns-in_ok-name-in-SmallL-clause-text
returns-in_ok-name-in-SmallL-clause-text c = λ u. c.in_ok-name-in-SmallL.ensures.text ((same_kind c.in-Some.kind SmallL c.args.text.now c.in-Some.rest.now c.in-SmallL.is c.in-Some.ensures.text) u)

pub returns-in-SmallE-clause-text : goal.returns-in-SmallE-clause-text
returns-in-SmallE-clause-text c = handed_text c.args.text.now c.in-Some.rest.now c.external_operand.result (λ x. x.1.now) (same_kind c.in-Some.kind SmallE c.args.text.now c.in-Some.rest.now c.in-SmallE.is c.in-Some.ensures.text) c.external_operand.ensures.text
