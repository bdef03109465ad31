use Rattle.pr_ast.proofs.Firsts.{span_long}
use Rattle.pr_ast.proofs.lex.reader.duration_in.Goals as goal

pub returns-in-Ok-clause-long : goal.returns-in-Ok-clause-long
returns-in-Ok-clause-long c = span_long c.args.text.now c.span_end-end.result c.in-Ok.span c.in-Ok.ensures.span
