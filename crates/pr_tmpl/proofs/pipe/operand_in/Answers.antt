use Rattle.std.proofs.Common.{refl}
use Rattle.pr_labels.specs.pr_forms.Form.{rule, chosen}
use Rattle.pr_labels.specs.pr_forms.Run.{run_rule}
use Rattle.pr_labels.proofs.FormsCarrying.{carry_on, carry_rule, carry_exit}
use Rattle.pr_tmpl.specs.declared.kind.TemplateByte.TheVariants.{Quote, Dollar, Point}
use Rattle.pr_tmpl.specs.Pieces.{plain, pieces}
use Rattle.pr_tmpl.specs.TemplateText.{production, operand, bytes, mark, any_at, second_of, literal, name_goes_on, dollar_rule, dot_rule, operand_rule, Content, AnOperand, Literal, Dollared, Dotted}
use Rattle.pr_tmpl.specs.TemplateTable.{table}
use Rattle.pr_tmpl.proofs.WordWays.{handed, chosen_word, unchosen, unchosen_piece, kind_piece}
use Rattle.pr_tmpl.proofs.PipeWays.{no_operand}
use Rattle.pr_tmpl.proofs.pipe.operand_in.Goals as goal

pub returns-in_default-clause-read : goal.returns-in_default-clause-read
returns-in_default-clause-read c = run_rule (unchosen operand_rule name_goes_on c.args.text.now c.in_default.ensures.read (λ k raw means. refl) refl)

pub returns-in_err-words-in-Quote-clause-read : goal.returns-in_err-words-in-Quote-clause-read
returns-in_err-words-in-Quote-clause-read c = carry_exit pieces production table _ (rule AnOperand) (rule Content) (pieces c.args.text.now) (pieces c.in-Some.rest.now) (literal mark) (λ w. w) _ c.in_err-words-in-Quote.field-0.0 c.from_residual.ensures.1 (carry_on carry_rule (chosen_word operand_rule name_goes_on Literal (plain Quote c.in-Some._byte) c.args.text.now c.in-Some.rest.now literal any_at (rule Content) mark (kind_piece c.args.text.now c.in-Some.rest.now c.in-Some.kind Quote c.in-Some._byte c.in-Some.ensures.read c.in-Quote.is) refl refl refl refl)) c.in_err-words-in-Quote.ensures.read

pub returns-in_ok-words-in-Quote-clause-read : goal.returns-in_ok-words-in-Quote-clause-read
returns-in_ok-words-in-Quote-clause-read c = (carry_on carry_rule (chosen_word operand_rule name_goes_on Literal (plain Quote c.in-Some._byte) c.args.text.now c.in-Some.rest.now literal any_at (rule Content) mark (kind_piece c.args.text.now c.in-Some.rest.now c.in-Some.kind Quote c.in-Some._byte c.in-Some.ensures.read c.in-Quote.is) refl refl refl refl)).reads (bytes c.in_ok-words-in-Quote.words) (pieces c.in_ok-words-in-Quote.end.now) c.in_ok-words-in-Quote.ensures.read

pub returns-in-Dollar-clause-read : goal.returns-in-Dollar-clause-read
returns-in-Dollar-clause-read c = handed (rule AnOperand) (chosen dollar_rule name_goes_on) c.args.text.now c.in-Some.rest.now (λ x. operand x.0) (λ x. x.1.now) c.dollared.result (carry_on carry_rule (chosen_word operand_rule name_goes_on Dollared (plain Dollar c.in-Some._byte) c.args.text.now c.in-Some.rest.now second_of any_at (chosen dollar_rule name_goes_on) mark (kind_piece c.args.text.now c.in-Some.rest.now c.in-Some.kind Dollar c.in-Some._byte c.in-Some.ensures.read c.in-Dollar.is) refl refl refl refl)) c.dollared.ensures.read

pub returns-in-Point-clause-read : goal.returns-in-Point-clause-read
returns-in-Point-clause-read c = handed (rule AnOperand) (chosen dot_rule name_goes_on) c.args.text.now c.in-Some.rest.now (λ x. operand x.0) (λ x. x.1.now) c.dotted.result (carry_on carry_rule (chosen_word operand_rule name_goes_on Dotted (plain Point c.in-Some._byte) c.args.text.now c.in-Some.rest.now second_of any_at (chosen dot_rule name_goes_on) mark (kind_piece c.args.text.now c.in-Some.rest.now c.in-Some.kind Point c.in-Some._byte c.in-Some.ensures.read c.in-Point.is) refl refl refl refl)) c.dotted.ensures.read

pub returns-in_default-kind : goal.returns-in_default-kind
returns-in_default-kind c = record { read = run_rule (unchosen_piece operand_rule name_goes_on (plain c.in-Some.kind c.in-Some._byte) c.args.text.now c.in-Some.rest.now c.in-Some.ensures.read.pieces_are (no_operand c.in-Some.kind c.in-Some._byte c.in_default-kind.not-Quote c.in_default-kind.not-Dollar c.in_default-kind.not-Point)); shorter = tt; text = tt }
