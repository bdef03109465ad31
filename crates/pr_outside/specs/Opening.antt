-- Which paths a call opened, by how it ended.
use Rattle.std.specs.Prelude.{ℕ, List, Result, Ok, Err}
use Rattle.pr_outside.specs.Paths.{Opens, MayOpen}
use Rattle.pr_outside.specs.declared.status.status.Stop.{Stop}
use Rattle.pr_outside.specs.declared.status.status.Stop.TheVariants.{Read, Load, Store, BadRow, Write, Memory, TooLong}

-- A call that begins over the store of this path opened it, and no other. Where the store refused a
-- call, or memory ran out, it may have opened none.
abbrev pub OpensBy : {T : Type 0} → List ℕ → List (List ℕ) → List (List ℕ) → Result T Stop → Type 0
OpensBy path before now (Ok done) = Opens path before now
OpensBy path before now (Err Read) = Opens path before now
OpensBy path before now (Err Load) = Opens path before now
OpensBy path before now (Err Store) = MayOpen path before now
OpensBy path before now (Err (BadRow index)) = Opens path before now
OpensBy path before now (Err Write) = Opens path before now
OpensBy path before now (Err Memory) = MayOpen path before now
OpensBy path before now (Err TooLong) = Opens path before now
