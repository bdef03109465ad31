use Rattle.std.proofs.Common.{arith}
use Rattle.std.proofs.lemmas.Int.{to_z-of_z}
use Rattle.pr_num.specs.Multiples.{rounded_to}
use Rattle.pr_num.proofs.value.Num.round_to.Goals as goal

pub returns-in-Finite-self : goal.returns-in-Finite-self
unfolding rounded_to
returns-in-Finite-self c = grind (arith, to_z-of_z)
