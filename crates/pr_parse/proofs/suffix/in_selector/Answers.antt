use Rattle.std.proofs.Common.{◌≡◌, Some, [], ◌∷◌, refl, ap, ◌∙◌}
use Rattle.std.proofs.lemmas.Result.{MatchResult-weaker}
use Rattle.pr_forms.specs.Form.{rule}
use Rattle.pr_forms.specs.Run.{run_rule, run_pair, run_first, run_second, run_nothing}
use Rattle.pr_forms.proofs.Ways.{fails, take_side, take_side_bad, other_side}
use Rattle.pr_parse.specs.declared.grammar.kind.Before.TheVariants.{Selector as Selectors, Range as Ranges, Other as Others}
use Rattle.pr_parse.specs.Seen.{seen}
use Rattle.pr_parse.specs.Grammar.{production, After, InSelector, InOther, Step, Closing, Shift, applied, suffixes, in_range, in_subquery, by_offset}
use Rattle.pr_parse.specs.GrammarTable.{table}
use Rattle.pr_parse.proofs.suffix.in_selector.Goals as goal

pub returns-in-Some-after-clause-read : goal.returns-in-Some-after-clause-read
returns-in-Some-after-clause-read c =
    MatchResult-weaker c.after_range.result c.after_range.ensures.read
    (λ x h. (in_range c.in-Some.lasting.span c.in-Some-after.close ∷ h.0, run_rule (run_pair c.in-Some.ensures.read.gives (run_rule (take_side c.in-Some-after.ensures.read h.1))), h.2 ∙ ap (λ v. applied v (suffixes h.0)) c.with_range.ensures))
    (λ e. fails seen production table (rule (After Ranges)) (rule InSelector) _ _ e (λ r h. run_rule (run_second c.in-Some.ensures.read.gives (run_rule (take_side_bad c.in-Some-after.ensures.read h)))))

pub returns-in-Some-after-2-clause-read : goal.returns-in-Some-after-2-clause-read
returns-in-Some-after-2-clause-read c =
    MatchResult-weaker c.step_at.result c.step_at.ensures.read
    (λ x h. (in_subquery c.in-Some.lasting.span h.0 h.1.0 ∷ h.1.1.0, run_rule (run_pair c.in-Some.ensures.read.gives (run_rule (other_side c.in_default-after.ensures.read (run_pair c.in-Some-after-2.ensures.read.gives h.1.1.1.0)))), h.1.1.1.1))
    (λ e. fails seen production table (rule Step) (rule InSelector) _ _ e (λ r h. run_rule (run_second c.in-Some.ensures.read.gives (run_rule (other_side c.in_default-after.ensures.read (run_second c.in-Some-after-2.ensures.read.gives h))))))
