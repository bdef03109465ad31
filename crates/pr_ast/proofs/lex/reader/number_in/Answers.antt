use Rattle.std.proofs.Common.{sym}
use Rattle.pr_ast.proofs.Firsts.{number_long}
use Rattle.pr_ast.proofs.lex.reader.number_in.Goals as goal

pub returns-in-Ok-clause-long : goal.returns-in-Ok-clause-long
returns-in-Ok-clause-long c = number_long c.args.text.now c.number_end-end.result c.in-Ok.value (sym c.in-Ok.ensures)
