use Rattle.std.proofs.Common.{arith}
use Rattle.std.proofs.lemmas.Int.{to_z-of_z}
use Rattle.pr_num.specs.Multiples.{ceil_of}
use Rattle.pr_num.proofs.value.Num.ceil.Goals as goal

pub returns-in-Finite : goal.returns-in-Finite
unfolding ceil_of
returns-in-Finite c = grind (arith, to_z-of_z)
