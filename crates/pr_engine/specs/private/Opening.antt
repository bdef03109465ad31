-- Which paths a start opened.
use Rattle.std.specs.Prelude.{ℕ, List, Result, Ok, Err}
use Rattle.pr_outside.specs.Paths.{Opens, MayOpen}
use Rattle.pr_engine.specs.declared.rows.fault.StartError.{StartError}
use Rattle.pr_engine.specs.declared.rows.fault.StartError.TheVariants as start

-- A start opened its path, and no other. Where the store refused a call, or memory ran out, it may have
-- opened none.
abbrev pub StartOpens : {T : Type 0} → List ℕ → List (List ℕ) → List (List ℕ) → Result T StartError → Type 0
StartOpens path before now (Ok x) = Opens path before now
StartOpens path before now (Err start.Memory) = MayOpen path before now
StartOpens path before now (Err start.StoreFailed) = MayOpen path before now
StartOpens path before now (Err (start.BadRow index)) = Opens path before now
