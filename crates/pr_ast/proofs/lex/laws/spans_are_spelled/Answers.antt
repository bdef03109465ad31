use Rattle.pr_ast.proofs.SpelledSpans.{span_spelled}
use Rattle.pr_ast.proofs.lex.laws.spans_are_spelled.Goals as goal

pub returns : goal.returns
returns c = span_spelled
