-- How the process ends.
use Rattle.std.specs.Prelude.{◌≡◌, ◌⊎◌, ℕ, List, drop, map, Option, IfSome}
use Rattle.pr_outside.specs.Outside.{Outside}
use Rattle.pr_outside.specs.Status.{status_number}
use Rattle.pr_outside.specs.Words.{word_of}
use Rattle.pr_outside.specs.declared.status.status.Status.{Status}
use Rattle.pr_outside.specs.declared.status.status.Status.TheVariants as status
use Rattle.pr_top.specs.Command.{command_of}
use Rattle.pr_top.specs.Follows.{Promises}

-- How a process ends that has a command line, where that is told: by the number of a status, after what
-- its words promise. Or memory did not suffice for the words, and nothing was done.
pub record EndsLine (line : Option (List (List ℕ))) (before now : Outside) (number : ℕ) : Type 0 where
  pub words : List (List ℕ)
  pub known : IfSome line (λ all. words ≡ map word_of (drop 1 all))
  pub result : Status
  pub numbered : number ≡ status_number result
  pub promises : Promises (command_of words) before now result ⊎ ((result ≡ status.Memory) × (now ≡ before))
