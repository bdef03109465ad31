use Rattle.pr_parse.proofs.GrammarEnds.{ends}
use Rattle.pr_parse.proofs.grammar.laws.the_grammar_ends.Goals as goal

pub returns : goal.returns
returns c = ends
