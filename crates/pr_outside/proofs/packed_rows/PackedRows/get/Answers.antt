use Rattle.std.proofs.Common.{◌≡◌, ◌∙◌, ◌<◌, ◌≤◌, ap, drop, length, refl, rules, take, List, ℕ, get_or}
use Rattle.std.specs.Str.{IsUtf8}
use Rattle.spec_history.specs.declared.row.Row.{Row}
use Rattle.pr_outside.specs.declared.packed_rows.packed_row.PackedRow.{PackedRow}
use Rattle.pr_outside.specs.private.Unpacked.{AreLaid, end_of, point_of, unpacked}
use Rattle.pr_outside.proofs.Packing.{is_text, laid_at, packed_at, unpacked_at}
use Rattle.pr_outside.proofs.packed_rows.PackedRows.get.Goals as goal

stands : (series : List (List ℕ)) (points : List ℕ) (all : List PackedRow) (rows : List Row) (index : ℕ) (e : PackedRow) → unpacked series points all ≡ rows → index < length rows → e ≡ get_or all index e
    → AreLaid (length series) points 0 all (length points) → (e.series < length series) × IsUtf8 (point_of points e) × (end_of e ≤ length points)
stands series points all rows index e are below is laid = laid_at (length series) points 0 all (length points) index e laid (packed_at series points all rows index e are below is)

pub piece-point-requires : goal.piece-point-requires
piece-point-requires c = rw c.deref.ensures.value (stands _ _ _ c.args.self.now c.args.index c.index-packed.result.now c.self.view_is c.requires c.index-packed.ensures c.self.invariant).2

pub copy-requires : goal.copy-requires
copy-requires c = (stands _ _ _ c.args.self.now c.args.index c.index-packed.result.now c.self.view_is c.requires c.index-packed.ensures c.self.invariant).0

pub unwrap-requires : goal.unwrap-requires
unwrap-requires c =
    let text = (stands _ _ _ c.args.self.now c.args.index c.index-packed.result.now c.self.view_is c.requires c.index-packed.ensures c.self.invariant).1 in
    is_text _ _ c.from_utf8.result _ c.from_utf8.ensures.cases (rw (c.piece-point.ensures, c.deref.ensures.value) text)

is_point : (c : goal.In_ok-from_str) → c.unwrap.result.now ≡ c.piece-point.result.now
is_point c = search rules

pub returns : goal.returns
returns c =
    unpacked_at c.self.inside.series c.self.inside.points.items c.self.inside.packed.items c.args.self.now c.args.index c.index-packed.result.now _ c.self.view_is
    (packed_at c.self.inside.series c.self.inside.points.items c.self.inside.packed.items c.args.self.now c.args.index c.index-packed.result.now c.self.view_is c.requires c.index-packed.ensures)
    c.in_ok-copy.ensures refl
    (c.in_ok-from_str.ensures ∙ is_point c ∙ c.piece-point.ensures ∙ ap (λ (b : List ℕ). take c.index-packed.result.now.length (drop c.index-packed.result.now.start b)) c.deref.ensures.value)
