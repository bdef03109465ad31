use Rattle.std.proofs.Common.{refl}
use Rattle.pr_forms.specs.Form.{rule}
use Rattle.pr_forms.specs.Run.{run_rule, run_second}
use Rattle.pr_forms.proofs.Ways.{exit, take_side_bad}
use Rattle.pr_parse.specs.Seen.{seen}
use Rattle.pr_parse.specs.Grammar.{production, Matched, Grouped}
use Rattle.pr_parse.specs.GrammarTable.{table}
use Rattle.pr_parse.proofs.GrammarReading.{matched_none, matched_some}
use Rattle.pr_parse.proofs.grammar.modifiers.matched_in.Goals as goal

pub returns-in_default-clause-read : goal.returns-in_default-clause-read
returns-in_default-clause-read c = λ l. (refl, matched_none l _ c.in_default.ensures.read)

pub returns-in_err-card-clause-read : goal.returns-in_err-card-clause-read
returns-in_err-card-clause-read c = λ l.
    exit seen production table _ (rule (Grouped l)) (rule (Matched l)) (seen c.in_ok-found.after_names.now) _ _ c.in_err-card.field-0.0 c.from_residual-in_err-card.ensures.1
    (λ r h. run_rule (take_side_bad c.in-Some.ensures.read (run_second c.in_ok-found.ensures.read h))) (c.in_err-card.ensures.read l)

pub returns-clause-read : goal.returns-clause-read
returns-clause-read c = λ l. (refl, matched_some l _ c.in-Some.following.now c.in_ok-found.after_names.now c.in_ok-card.rest.now c.in-Some.on c.in_ok-found.found c.in_ok-card.include c.in_ok-found._close c.in_ok-card.card _ c.in-Some.ensures.read c.in_ok-found.ensures.read (c.in_ok-card.ensures.read l))
