use Rattle.std.proofs.Common.{◌≡◌, ◌≤◌, ◌-◌}
use Rattle.std.specs.Prelude.{IsSome, IsTrue}
use Rattle.pr_outside.specs.private.Kept.{KeepsRows}
use Rattle.pr_engine.specs.private.Loading.{IsLoadedTo}
use Rattle.pr_engine.proofs.rows.loading.load.Given as goal

abbrev pub invariant-loading : goal.invariant-loading
invariant-loading g l = record {
  loaded : IsLoadedTo l.index l.head (g.K.Keeper.means l.keeper);
  within : l.index ≤ l.size;
  same : KeepsRows (g.K.Keeper.means l.fn.keeper).rows (g.K.Keeper.means l.keeper).rows;
  count : (g.K.Keeper.means l.keeper).count ≡ (g.K.Keeper.means l.fn.keeper).count;
  tells : IsTrue (g.K.Keeper.means l.keeper).sound → IsSome (g.K.Keeper.means l.fn.keeper).rows → IsSome (g.K.Keeper.means l.keeper).rows;
  sound : IsTrue (g.K.Keeper.means l.keeper).sound → IsTrue (g.K.Keeper.means l.fn.keeper).sound;
  paths : (g.K.Keeper.means l.keeper).paths ≡ (g.K.Keeper.means l.fn.keeper).paths;
  calm : (g.K.Keeper.means l.keeper).faults ≡ (g.K.Keeper.means l.fn.keeper).faults;
}

abbrev pub decreases-loading : goal.decreases-loading
decreases-loading g l = l.size - l.index
