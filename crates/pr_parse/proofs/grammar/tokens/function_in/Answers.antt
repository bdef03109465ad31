use Rattle.pr_forms.proofs.Steps.{seen_takes, seen_lacks, seen_end_lacks}
use Rattle.pr_parse.specs.Seen.{see}
use Rattle.pr_parse.specs.Grammar.{production, function_at}
use Rattle.pr_parse.specs.GrammarTable.{table}
use Rattle.pr_parse.proofs.Worth.{function_taken, function_lacked}
use Rattle.pr_parse.proofs.grammar.tokens.function_in.Goals as goal

pub returns-in_default-clause-read : goal.returns-in_default-clause-read
returns-in_default-clause-read c = seen_end_lacks see production table function_at _ c.in_default.ensures.cases

pub returns-in-Some-function_of-clause-read : goal.returns-in-Some-function_of-clause-read
returns-in-Some-function_of-clause-read c = seen_takes see production table function_at _ c.in-Some.rest.now c.in-Some.first.now _ c.in-Some.ensures.cases.0 (function_taken c.in-Some.first.now c.in-Some-function_of.func c.place_of.result c.text_of.result.now _ c.function_of.ensures c.in-Some-function_of.is c.place_of.ensures c.text_of.ensures)

pub returns-in-None-clause-read : goal.returns-in-None-clause-read
returns-in-None-clause-read c = seen_lacks see production table function_at _ c.in-Some.rest.now c.in-Some.first.now c.in-Some.ensures.cases.0 (function_lacked c.in-Some.first.now _ c.function_of.ensures c.in-None.is)
