use Rattle.std.proofs.Common.{◌≡◌, Some, [], ◌∷◌, refl, ap, ◌∙◌}
use Rattle.std.proofs.lemmas.Result.{MatchResult-weaker}
use Rattle.pr_forms.specs.Form.{rule}
use Rattle.pr_forms.specs.Run.{run_rule, run_pair, run_first, run_second, run_nothing}
use Rattle.pr_forms.proofs.Ways.{fails, take_side, take_side_bad, other_side}
use Rattle.pr_parse.specs.declared.grammar.kind.Before.TheVariants.{Selector as Selectors, Range as Ranges, Other as Others}
use Rattle.pr_parse.specs.Seen.{seen}
use Rattle.pr_parse.specs.Grammar.{production, After, InSelector, InOther, Step, Closing, Shift, applied, suffixes, in_range, in_subquery, by_offset}
use Rattle.pr_parse.specs.GrammarTable.{table}
use Rattle.pr_parse.proofs.suffix.after_selector.Goals as goal

pub returns-in-Some-clause-read : goal.returns-in-Some-clause-read
returns-in-Some-clause-read c =
    MatchResult-weaker c.in_selector.result c.in_selector.ensures.read
    (λ x h. (h.0, run_rule (take_side c.in-Some.ensures.read h.1), h.2))
    (λ e. fails seen production table (rule InSelector) (rule (After Selectors)) _ _ e (λ r h. run_rule (take_side_bad c.in-Some.ensures.read h)))

pub returns-in-Some-after_word-clause-read : goal.returns-in-Some-after_word-clause-read
returns-in-Some-after_word-clause-read c =
    MatchResult-weaker c.shift_at.result c.shift_at.ensures.read
    (λ x h. (h.0, run_rule (other_side c.in_default.ensures.read (take_side c.in-Some-after_word.ensures.read h.1)), h.2))
    (λ e. fails seen production table (rule Shift) (rule (After Selectors)) _ _ e (λ r h. run_rule (other_side c.in_default.ensures.read (take_side_bad c.in-Some-after_word.ensures.read h))))

pub returns-in-None-clause-read : goal.returns-in-None-clause-read
returns-in-None-clause-read c = ([], run_rule (other_side c.in_default.ensures.read (other_side c.in-None.ensures.read run_nothing)), refl)
