use Rattle.std.proofs.Common.{arith}
use Rattle.pr_ast.proofs.FaultPlaces.{fault_lies_in}
use Rattle.pr_ast.proofs.lex.laws.fault_lies_in_its_text.Goals as goal

pub returns : goal.returns
returns c = λ text place kind x. let h = fault_lies_in x in omega (arith, h)
