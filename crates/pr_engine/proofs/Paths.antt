-- Which paths a start opened, by its parts.
use Rattle.std.proofs.Common.{◌≡◌, ◌∙◌, ℕ, List, Result, Ok, Err, inl, inr}
use Rattle.pr_outside.specs.Paths.{Opens}
use Rattle.pr_outside.specs.declared.keeping.KeepError.{KeepError}
use Rattle.pr_outside.specs.declared.keeping.KeepError.TheVariants as keeping
use Rattle.pr_engine.specs.private.StartCauses.{start_error}
use Rattle.pr_engine.specs.private.Opening.{StartOpens}
use Rattle.pr_engine.specs.declared.rows.fault.StartError.{StartError}
use Rattle.pr_engine.specs.declared.rows.fault.StartError.TheVariants as start

-- the store was not opened
pub start_refused : (T : Type 0) (path : List ℕ) (before now : List (List ℕ)) (e : KeepError) → now ≡ before → StartOpens {T = T} path before now (Err (start_error e))
start_refused T path before now keeping.Failed same = inl same
start_refused T path before now keeping.Memory same = inl same

-- it was, and what follows opened no other
pub started_on : (T : Type 0) (path : List ℕ) (before opened now : List (List ℕ)) (r : Result T StartError) → Opens path before opened → now ≡ opened → StartOpens path before now r
started_on T path before opened now (Ok x) is same = same ∙ is
started_on T path before opened now (Err start.Memory) is same = inr (same ∙ is)
started_on T path before opened now (Err start.StoreFailed) is same = inr (same ∙ is)
started_on T path before opened now (Err (start.BadRow index)) is same = same ∙ is
