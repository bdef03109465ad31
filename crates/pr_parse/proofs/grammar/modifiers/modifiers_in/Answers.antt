use Rattle.std.proofs.lemmas.Result.{MatchResult-weaker}
use Rattle.pr_forms.specs.Form.{rule}
use Rattle.pr_forms.specs.Run.{run_rule}
use Rattle.pr_forms.proofs.Ways.{fails, take_side_bad, other_side}
use Rattle.pr_parse.specs.Seen.{seen}
use Rattle.pr_parse.specs.Grammar.{production, Matched, Modified}
use Rattle.pr_parse.specs.GrammarTable.{table}
use Rattle.pr_parse.proofs.GrammarReading.{modified_bool, modified_plain}
use Rattle.pr_parse.proofs.grammar.modifiers.modifiers_in.Goals as goal

pub returns-in-Some-clause-read : goal.returns-in-Some-clause-read
returns-in-Some-clause-read c = λ l.
    MatchResult-weaker c.matched_in.result (c.matched_in.ensures.read l)
    (λ x h. modified_bool l _ c.in-Some.following.now _ c.in-Some._word x.0.with_bool x.0.matching _ h.0 c.in-Some.ensures.read h.1)
    (λ e. fails seen production table (rule (Matched l)) (rule (Modified l)) _ _ e (λ r h. run_rule (take_side_bad c.in-Some.ensures.read h)))

pub returns-in-None-clause-read : goal.returns-in-None-clause-read
returns-in-None-clause-read c = λ l.
    MatchResult-weaker c.matched_in-in-None.result (c.matched_in-in-None.ensures.read l)
    (λ x h. modified_plain l _ _ x.0.with_bool x.0.matching _ h.0 c.in-None.ensures.read h.1)
    (λ e. fails seen production table (rule (Matched l)) (rule (Modified l)) _ _ e (λ r h. run_rule (other_side c.in-None.ensures.read h)))
