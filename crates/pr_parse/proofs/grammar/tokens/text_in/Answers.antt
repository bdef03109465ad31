use Rattle.pr_forms.proofs.Steps.{seen_takes, seen_lacks, seen_end_lacks}
use Rattle.pr_parse.specs.Seen.{see}
use Rattle.pr_parse.specs.Grammar.{production, text_at}
use Rattle.pr_parse.specs.GrammarTable.{table}
use Rattle.pr_parse.proofs.Worth.{text_taken, text_lacked}
use Rattle.pr_parse.proofs.grammar.tokens.text_in.Goals as goal

pub returns-in_default-clause-read : goal.returns-in_default-clause-read
returns-in_default-clause-read c = seen_end_lacks see production table text_at _ c.in_default.ensures.cases

pub returns-then-is_text-clause-read : goal.returns-then-is_text-clause-read
returns-then-is_text-clause-read c = seen_takes see production table text_at _ c.in-Some.rest.now c.in-Some.first.now _ c.in-Some.ensures.cases.0 (text_taken c.in-Some.first.now c.text_of.result.now _ c.is_text.ensures c.if-is_text.true c.text_of.ensures)

pub returns-else-is_text-clause-read : goal.returns-else-is_text-clause-read
returns-else-is_text-clause-read c = seen_lacks see production table text_at _ c.in-Some.rest.now c.in-Some.first.now c.in-Some.ensures.cases.0 (text_lacked c.in-Some.first.now _ c.is_text.ensures c.if-is_text.false)
