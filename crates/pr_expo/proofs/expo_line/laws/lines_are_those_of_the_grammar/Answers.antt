use Rattle.pr_expo.proofs.Grammar.{line_is}
use Rattle.pr_expo.proofs.expo_line.laws.lines_are_those_of_the_grammar.Goals as goal

pub returns-clause-only : goal.returns-clause-only
returns-clause-only c = λ line read h. line_is line read h
