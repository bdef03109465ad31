use Rattle.std.proofs.Common.{◌≡◌, Some, [], ◌∷◌, refl, ap, ◌∙◌}
use Rattle.std.proofs.lemmas.Result.{MatchResult-weaker}
use Rattle.pr_forms.specs.Form.{rule}
use Rattle.pr_forms.specs.Run.{run_rule, run_pair, run_first, run_second, run_nothing}
use Rattle.pr_forms.proofs.Ways.{fails, take_side, take_side_bad, other_side}
use Rattle.pr_parse.specs.declared.grammar.kind.Before.TheVariants.{Range as Ranges, Other as Others}
use Rattle.pr_parse.specs.Seen.{seen}
use Rattle.pr_parse.specs.Grammar.{production, After, InOther, Step, Closing, Shift, applied, suffixes, in_subquery, by_offset}
use Rattle.pr_parse.specs.GrammarTable.{table}
use Rattle.pr_parse.proofs.suffix.+suffixes.Goals as goal

pub after_other-returns-in-Some-clause-read : goal.after_other-returns-in-Some-clause-read
after_other-returns-in-Some-clause-read t c =
    MatchResult-weaker c.in_other.result c.in_other.ensures.read
    (λ x h. (h.0, run_rule (take_side c.in-Some.ensures.read h.1), h.2))
    (λ e. fails seen production table (rule InOther) (rule (After Others)) _ _ e (λ r h. run_rule (take_side_bad c.in-Some.ensures.read h)))

pub after_other-returns-in-None-clause-read : goal.after_other-returns-in-None-clause-read
after_other-returns-in-None-clause-read t c = ([], run_rule (other_side c.in-None.ensures.read run_nothing), refl)

pub after_range-returns-in-Some-clause-read : goal.after_range-returns-in-Some-clause-read
after_range-returns-in-Some-clause-read t c =
    MatchResult-weaker c.shift_at.result c.shift_at.ensures.read
    (λ x h. (h.0, run_rule (take_side c.in-Some.ensures.read h.1), h.2))
    (λ e. fails seen production table (rule Shift) (rule (After Ranges)) _ _ e (λ r h. run_rule (take_side_bad c.in-Some.ensures.read h)))

pub closing_at-returns-in_ok-subquery-in-Some-clause-read : goal.closing_at-returns-in_ok-subquery-in-Some-clause-read
closing_at-returns-in_ok-subquery-in-Some-clause-read t c =
    MatchResult-weaker c.after_range.result c.after_range.ensures.read
    (λ x h. (c.in-Some.close, (h.0, (run_rule (run_pair c.in-Some.ensures.read.gives h.1), h.2 ∙ ap (λ v. applied v (suffixes h.0)) c.in_ok-subquery-in-Some.ensures))))
    (λ e. fails seen production table (rule (After Ranges)) (rule Closing) _ _ e (λ r h. run_rule (run_second c.in-Some.ensures.read.gives h)))

pub in_other-returns-in-Some-after-clause-read : goal.in_other-returns-in-Some-after-clause-read
in_other-returns-in-Some-after-clause-read t c =
    MatchResult-weaker c.step_at.result c.step_at.ensures.read
    (λ x h. (in_subquery c.in-Some.lasting.span h.0 h.1.0 ∷ h.1.1.0, run_rule (run_pair c.in-Some.ensures.read.gives (run_pair c.in-Some-after.ensures.read.gives h.1.1.1.0)), h.1.1.1.1))
    (λ e. fails seen production table (rule Step) (rule InOther) _ _ e (λ r h. run_rule (run_second c.in-Some.ensures.read.gives (run_second c.in-Some-after.ensures.read.gives h))))

pub shift_at-returns-in-Some-clause-read : goal.shift_at-returns-in-Some-clause-read
shift_at-returns-in-Some-clause-read t c =
    MatchResult-weaker c.after_other.result c.after_other.ensures.read
    (λ x h. (by_offset c.in-Some.offset.span c.in-Some.offset.place ∷ h.0, run_rule (run_pair c.in-Some.ensures.read.gives h.1), h.2 ∙ ap (λ v. applied v (suffixes h.0)) c.with_offset.ensures))
    (λ e. fails seen production table (rule (After Others)) (rule Shift) _ _ e (λ r h. run_rule (run_second c.in-Some.ensures.read.gives h)))

pub step_at-returns-in-Some-clause-read : goal.step_at-returns-in-Some-clause-read
step_at-returns-in-Some-clause-read t c =
    MatchResult-weaker c.closing_at.result c.closing_at.ensures.read
    (λ x h. (Some c.in-Some.step.span, (h.0, (h.1.0, (run_rule (take_side c.in-Some.ensures.read h.1.1.0), h.1.1.1)))))
    (λ e. fails seen production table (rule Closing) (rule Step) _ _ e (λ r h. run_rule (take_side_bad c.in-Some.ensures.read h)))
