use Rattle.pr_forms.proofs.Steps.{seen_takes, seen_lacks, seen_end_lacks}
use Rattle.pr_parse.specs.Seen.{see}
use Rattle.pr_parse.specs.Grammar.{production, metric_at}
use Rattle.pr_parse.specs.GrammarTable.{table}
use Rattle.pr_parse.proofs.Worth.{metric_taken, metric_lacked}
use Rattle.pr_parse.proofs.grammar.tokens.metric_in.Goals as goal

pub returns-in_default-clause-read : goal.returns-in_default-clause-read
returns-in_default-clause-read c = seen_end_lacks see production table metric_at _ c.in_default.ensures.cases

pub returns-then-is_metric-clause-read : goal.returns-then-is_metric-clause-read
returns-then-is_metric-clause-read c = seen_takes see production table metric_at _ c.in-Some.rest.now c.in-Some.first.now _ c.in-Some.ensures.cases.0 (metric_taken c.in-Some.first.now c.place_of.result c.text_of.result.now _ c.is_metric.ensures c.if-is_metric.true c.place_of.ensures c.text_of.ensures)

pub returns-else-is_metric-clause-read : goal.returns-else-is_metric-clause-read
returns-else-is_metric-clause-read c = seen_lacks see production table metric_at _ c.in-Some.rest.now c.in-Some.first.now c.in-Some.ensures.cases.0 (metric_lacked c.in-Some.first.now _ c.is_metric.ensures c.if-is_metric.false)
