use Rattle.std.proofs.Common.{refl}
use Rattle.pr_outside.proofs.Packing.{copied_next}
use Rattle.pr_outside.proofs.packed_rows.PackedRows.to_vec.Goals as goal

pub loop-index-preserved : goal.loop-index-preserved
loop-index-preserved c = copied_next c.args.self.now _ _ c.loop-index.index _ _ refl c.loop-index.invariant c.in_ok-get.ensures c.in_ok-push.ensures.items
