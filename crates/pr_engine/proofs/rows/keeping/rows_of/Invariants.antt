use Rattle.std.proofs.Common.{◌≡◌, ◌++◌, map}
use Rattle.std.specs.Prelude.{length}
use Rattle.pr_outside.specs.spec_history.Rows.{encoded}
use Rattle.pr_engine.specs.private.Rows.{AreRead}
use Rattle.pr_engine.proofs.rows.keeping.rows_of.Given as goal

abbrev pub invariant-encoding : goal.invariant-encoding
invariant-encoding l = record {
  rows : l.rows.items ++ map encoded l.rest ≡ map encoded l.entries;
  back : AreRead l.rest → AreRead l.entries;
}

abbrev pub decreases-encoding : goal.decreases-encoding
decreases-encoding l = length l.rest
