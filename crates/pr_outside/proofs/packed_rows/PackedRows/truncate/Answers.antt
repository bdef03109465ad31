use Rattle.std.proofs.Common.{◌≡◌, ◌<◌, length, refl, slice_get, Some, arith}
use Rattle.std.proofs.lemmas.Option.{slice_get_read}
use Rattle.pr_outside.proofs.Packing.{cut_laid, cut_rows}
use Rattle.pr_outside.proofs.packed_rows.PackedRows.truncate.Goals as goal

first_at : (c : goal.After-truncate-2) → slice_get c.self.inside.packed.items c.args.count ≡ Some c.in-Some.first.now
first_at c =
    let test = c.in-Some.ensures.lookup.0 in
    let below : c.args.count < length c.deref.result.now = grind arith in
    rw (← c.deref.ensures.value) (slice_get_read c.deref.result.now (length c.deref.result.now) c.args.count c.in-Some.first.now refl below c.in-Some.ensures.lookup.1)

pub invariant_of-self : goal.invariant_of-self
invariant_of-self c = cut_laid c.self.inside.series c.self.inside.points.items c.self.inside.packed.items c.args.count c.in-Some.first.now c.self.invariant (first_at c) _ _ c.truncate-2.ensures.items c.truncate.ensures.items

pub returns : goal.returns
returns c = cut_rows c.self.inside.series c.self.inside.points.items c.self.inside.packed.items c.args.count c.in-Some.first.now c.self.invariant (first_at c) _ _ _ c.truncate-2.ensures.items c.truncate.ensures.items c.self.view_is
