use Rattle.std.proofs.Common.{◌≡◌, Some, None, true, false, ap, ◌∙◌, sym}
use Rattle.std.proofs.lemmas.Result.{MatchResult-weaker}
use Rattle.pr_forms.specs.Form.{rule}
use Rattle.pr_forms.specs.Run.{run_rule, run_pair, run_first, run_second, run_nothing}
use Rattle.pr_forms.proofs.Ways.{fails, exit, value_is, take_side, take_side_bad, other_side}
use Rattle.pr_parse.specs.declared.grammar.kind.Before.TheVariants.{Selector as Selectors}
use Rattle.pr_parse.specs.Seen.{seen}
use Rattle.pr_ast.specs.Tree.{select}
use Rattle.pr_parse.specs.Grammar.{production, After, Braced, Selection, matchers_end, unnamed_selector, braced, through, applied, applied_to, suffixes, selector_of}
use Rattle.pr_parse.specs.GrammarTable.{table}
use Rattle.pr_parse.specs.private.Reader.{value_of, braced_value}
use Rattle.pr_parse.proofs.selection.selection_in.Goals as goal

pub returns-clause-read : goal.returns-clause-read
returns-clause-read c =
    MatchResult-weaker c.after_selector.result c.after_selector.ensures.read
    (λ x h. (braced_value c.in_ok-found.found, (h.0, (run_rule (run_pair c.in_ok-found.ensures.read h.1), h.2 ∙ sym (c.in_ok-selector.ensures h.0)))))
    (λ e. fails seen production table (rule (After Selectors)) (rule Selection) _ _ e (λ r h. run_rule (run_second c.in_ok-found.ensures.read h)))
