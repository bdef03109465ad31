use Rattle.std.proofs.Common.{◌≡◌, Some, None, true, false, ap, ◌∙◌, sym}
use Rattle.std.proofs.lemmas.Result.{MatchResult-weaker}
use Rattle.pr_forms.specs.Form.{rule}
use Rattle.pr_forms.specs.Run.{run_rule, run_pair, run_first, run_second, run_nothing}
use Rattle.pr_forms.proofs.Ways.{fails, exit, value_is, take_side, take_side_bad, other_side}
use Rattle.pr_parse.specs.declared.grammar.kind.Before.TheVariants.{Selector as Selectors}
use Rattle.pr_parse.specs.Seen.{seen}
use Rattle.pr_ast.specs.Tree.{select}
use Rattle.pr_parse.specs.Grammar.{production, After, Braced, Selection, matchers_end, unnamed_selector, braced, through, applied, applied_to, suffixes, selector_of}
use Rattle.pr_parse.specs.GrammarTable.{table}
use Rattle.pr_parse.specs.private.Reader.{value_of, braced_value}
use Rattle.pr_parse.proofs.selection.braced_in.Goals as goal

pub returns-in_err-found-in-Some-clause-read : goal.returns-in_err-found-in-Some-clause-read
returns-in_err-found-in-Some-clause-read c =
    exit seen production table _ (matchers_end true) (rule Braced) (seen c.in-Some.following.now) _ _ c.in_err-found-in-Some.field-0.0 c.from_residual.ensures.1
    (λ r h. run_rule (take_side_bad c.in-Some.ensures.read h)) c.in_err-found-in-Some.ensures.read

pub returns-in_ok-found-in-Some-clause-read : goal.returns-in_ok-found-in-Some-clause-read
returns-in_ok-found-in-Some-clause-read c =
    let r = c.in_ok-found-in-Some.ensures.read in
    value_is (braced c.in_ok-found-in-Some.found (through c.in-Some.opening r.0)) (braced c.in_ok-found-in-Some.found c.in_ok-found-in-Some.place) (ap (braced c.in_ok-found-in-Some.found) r.2)
    (run_rule (take_side c.in-Some.ensures.read r.1))

pub returns-in-None-clause-read : goal.returns-in-None-clause-read
returns-in-None-clause-read c = run_rule (other_side c.in-None.ensures.read run_nothing)
