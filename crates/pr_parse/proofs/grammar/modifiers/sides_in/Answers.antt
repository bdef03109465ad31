use Rattle.pr_forms.specs.Form.{rule}
use Rattle.pr_forms.specs.Run.{run_rule}
use Rattle.pr_forms.proofs.Ways.{exit, take_side_bad}
use Rattle.pr_parse.specs.Seen.{seen}
use Rattle.pr_parse.specs.Grammar.{production, Included, Grouped}
use Rattle.pr_parse.specs.GrammarTable.{table}
use Rattle.pr_parse.proofs.GrammarReading.{sides_none, sides_some}
use Rattle.pr_parse.proofs.grammar.modifiers.sides_in.Goals as goal

pub returns-in_default-clause-read : goal.returns-in_default-clause-read
returns-in_default-clause-read c = λ l. sides_none l _ c.empty.result c.empty.ensures c.in_default.ensures.read

pub returns-in_err-include-clause-read : goal.returns-in_err-include-clause-read
returns-in_err-include-clause-read c = λ l.
    exit seen production table _ (rule (Included l)) (rule (Grouped l)) (seen c.in-Some.following.now) _ _ c.in_err-include.field-0.0 c.from_residual.ensures.1
    (λ r h. run_rule (take_side_bad c.in-Some.ensures.read h)) (c.in_err-include.ensures.read l)

pub returns-clause-read : goal.returns-clause-read
returns-clause-read c = λ l. sides_some l _ c.in-Some.following.now c.in_ok-include.rest.now c.in-Some.card c.in_ok-include.include _ c.in-Some.ensures.read (c.in_ok-include.ensures.read l)
