use Rattle.std.proofs.Common.{arith}
use Rattle.std.proofs.lemmas.Int.{to_z-of_z}
use Rattle.pr_num.proofs.Signs.{half-quotient}
use Rattle.pr_num.proofs.arithmetic.finite_quotient.Goals as goal

pub returns : goal.returns
returns c = grind (arith, to_z-of_z, half-quotient)
