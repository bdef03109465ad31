use Rattle.std.proofs.Common.{◌≡◌, Some, None, true, false, ap, ◌∙◌, sym}
use Rattle.std.proofs.lemmas.Result.{MatchResult-weaker}
use Rattle.pr_forms.specs.Form.{rule}
use Rattle.pr_forms.specs.Run.{run_rule, run_pair, run_first, run_second, run_nothing}
use Rattle.pr_forms.proofs.Ways.{fails, exit, value_is, take_side, take_side_bad, other_side}
use Rattle.pr_parse.specs.declared.grammar.kind.Before.TheVariants.{Selector as Selectors}
use Rattle.pr_parse.specs.Seen.{seen}
use Rattle.pr_ast.specs.Tree.{select}
use Rattle.pr_parse.specs.Grammar.{production, After, Braced, Selection, matchers_end, unnamed_selector, braced, through, applied, applied_to, suffixes, selector_of}
use Rattle.pr_parse.specs.GrammarTable.{table}
use Rattle.pr_parse.specs.private.Reader.{value_of, braced_value}
use Rattle.pr_parse.proofs.selection.unnamed_in.Goals as goal

pub returns-in_err-matchers-clause-read : goal.returns-in_err-matchers-clause-read
returns-in_err-matchers-clause-read c =
    exit seen production table _ (matchers_end false) unnamed_selector (seen c.in-Some.following.now) _ _ c.in_err-matchers.field-0.0 c.from_residual.ensures.1
    (λ r h. run_first (run_second c.in-Some.ensures.read.gives h)) c.in_err-matchers.ensures.read

pub returns-clause-read : goal.returns-clause-read
returns-clause-read c =
    let r = c.in_ok-matchers.ensures.read in
    MatchResult-weaker c.after_selector.result c.after_selector.ensures.read
    (λ x h. value_is (applied_to (through c.in-Some.opening r.0) (select (through c.in-Some.opening r.0) (selector_of None c.in_ok-matchers.matchers)) h.0) (value_of x.0)
    (h.2 ∙ ap (λ v. applied v (suffixes h.0)) c.selector_made.ensures ∙ ap (λ p. applied_to p (select p (selector_of None c.in_ok-matchers.matchers)) h.0) r.2)
    (run_pair (run_pair c.in-Some.ensures.read.gives r.1) h.1))
    (λ e. fails seen production table (rule (After Selectors)) unnamed_selector _ _ e (λ q h. run_second (run_pair c.in-Some.ensures.read.gives r.1) h))
