use Rattle.pr_parse.proofs.GrammarReading.{included_none, included_some}
use Rattle.pr_parse.proofs.grammar.modifiers.included_in.Goals as goal

pub returns-in_default-clause-read : goal.returns-in_default-clause-read
returns-in_default-clause-read c = λ l. included_none l _ c.empty.result c.empty.ensures c.in_default.ensures.read

pub returns-clause-read : goal.returns-clause-read
returns-clause-read c = λ l. included_some l _ c.in-Some._following.now c.in_ok-found.rest.now c.in-Some._open c.in_ok-found._close c.in_ok-found.found c.in-Some.ensures.read c.in_ok-found.ensures.read
