-- What a check of the whole input promises.
use Rattle.std.specs.Prelude.{◌≡◌, ◌≢◌, ℕ, ◌+◌, ◌<◌, ◌≤◌, ◌^◌, List, [], length, take, Option, Some, Result, IfOk, IfSome}
use Rattle.std.specs.Io.KnownBytes.{Appends}
use Rattle.pr_outside.specs.Ends.{Ends, AtInput, KnowsLength, no_row}
use Rattle.pr_outside.specs.Outside.{Outside, AreCalm}
use Rattle.pr_outside.specs.Status.{IsTooLong}
use Rattle.pr_outside.specs.declared.status.status.Status.{Status}
use Rattle.pr_outside.specs.declared.status.status.Status.TheVariants as status
use Rattle.pr_outside.specs.declared.status.status.Stop.{Stop}
use Rattle.pr_outside.specs.Checks.{Checked, ends as ended, ends_by}
use Rattle.pr_outside.specs.declared.check_loops.verdict.Verdict.{Verdict}

-- The check was whole: it wrote what is told of the input, its verdict is that one, and nothing is
-- left.
pub record IsWholeCheck (checked : Checked) (left old new : Option (List ℕ)) (came : Verdict) : Type 0 where
  pub written : Appends old new checked.text
  pub verdict : came ≡ checked.verdict
  pub read : left ≡ Some []

-- By what is told of an input, and what the four objects mean before and after.
pub record MeansInputCheck (telling : List ℕ → Checked) (before now : Outside) (result : Status) : Type 0 where
  -- how it ended, whose status is the program's, and what stopped it
  pub ending : Result Verdict Stop
  pub answer : result ≡ ends_by ending
  pub ends : Ends no_row (IsTooLong before.input now.input) before now ending
  -- not stopped, it was whole
  pub whole : IfOk ending (λ verdict. IfSome before.input.left (λ bytes. IsWholeCheck (telling bytes) now.input.left before.out.taken now.out.taken verdict))
  -- however it ends, a front of the text was written, and nothing where the input was not read
  -- whole
  pub front : IfSome before.input.left (λ bytes. (n : ℕ) × Appends before.out.taken now.out.taken (take n (telling bytes).text))
  pub silent : AtInput ending (Appends before.out.taken now.out.taken [])
  -- and no more was taken than the limit and one piece
  pub most : now.input.taken < before.input.taken + 2 ^ 32 + 2 ^ 14
  -- an input that was read to its end is short, and one that is too long is long
  pub known : KnowsLength before.input now.input ending
  -- no call was refused, and memory sufficed: the status is that of what is told, or 8 where 2^32
  -- bytes come
  pub told : IfSome before.input.left (λ bytes. length bytes < 2 ^ 32 → AreCalm before now → result ≢ status.Memory
      → Appends before.out.taken now.out.taken (telling bytes).text × (result ≡ ended (telling bytes).verdict) × (now.input.left ≡ Some []))
  pub long : IfSome before.input.left (λ bytes. 2 ^ 32 ≤ length bytes → AreCalm before now → result ≢ status.Memory → result ≡ status.TooLong)
