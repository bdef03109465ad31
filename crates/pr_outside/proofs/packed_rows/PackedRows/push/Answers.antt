use Rattle.std.proofs.Common.{◌≡◌, [], length, rules, refl, sym, ◌∙◌}
use Rattle.std.proofs.lemmas.List.{append-nil}
use Rattle.pr_outside.proofs.Packing.{grown_laid, grown_rows, on_err, pushed_laid, pushed_rows}
use Rattle.pr_outside.proofs.packed_rows.PackedRows.push.Goals as goal

pub invariant_of-self : goal.invariant_of-self
invariant_of-self c = grown_laid c.self.inside.series c.number.new.self c.self.inside.points.items c.self.inside.points.items [] c.self.inside.packed.items c.number.ensures.stay (sym (append-nil c.self.inside.points.items)) c.self.invariant c.self.inside.packed.items refl

pub returns-in_err-series-clause-err : goal.returns-in_err-series-clause-err
returns-in_err-series-clause-err c = on_err c.from_residual-in_err-series.result _ (grown_rows c.self.inside.series c.number.new.self c.self.inside.points.items c.self.inside.points.items [] c.self.inside.packed.items c.number.ensures.stay (sym (append-nil c.self.inside.points.items)) c.self.invariant c.self.inside.packed.items _ refl c.self.view_is)

pub invariant_of-self-in_err-extend_from_slice : goal.invariant_of-self-in_err-extend_from_slice
invariant_of-self-in_err-extend_from_slice c = grown_laid c.self.inside.series c.number.new.self c.self.inside.points.items c.extend_from_slice.new.self.items [] c.self.inside.packed.items c.number.ensures.stay (c.in_err-extend_from_slice.ensures.items ∙ sym (append-nil c.self.inside.points.items)) c.self.invariant c.self.inside.packed.items refl

pub returns-in_err-extend_from_slice-clause-err : goal.returns-in_err-extend_from_slice-clause-err
returns-in_err-extend_from_slice-clause-err c = on_err c.from_residual-in_err-extend_from_slice.result _ (grown_rows c.self.inside.series c.number.new.self c.self.inside.points.items c.extend_from_slice.new.self.items [] c.self.inside.packed.items c.number.ensures.stay (c.in_err-extend_from_slice.ensures.items ∙ sym (append-nil c.self.inside.points.items)) c.self.invariant c.self.inside.packed.items _ refl c.self.view_is)

pub invariant_of-self-in_err-push : goal.invariant_of-self-in_err-push
invariant_of-self-in_err-push c = grown_laid c.self.inside.series c.number.new.self c.self.inside.points.items c.extend_from_slice.new.self.items c.as_bytes-point.result.now c.self.inside.packed.items c.number.ensures.stay c.in_ok-extend_from_slice.ensures.items c.self.invariant c.push.new.self.items c.in_err-push.ensures.items

pub returns-in_err-push-clause-err : goal.returns-in_err-push-clause-err
returns-in_err-push-clause-err c = on_err c.from_residual-in_err-push.result _ (grown_rows c.self.inside.series c.number.new.self c.self.inside.points.items c.extend_from_slice.new.self.items c.as_bytes-point.result.now c.self.inside.packed.items c.number.ensures.stay c.in_ok-extend_from_slice.ensures.items c.self.invariant c.push.new.self.items _ c.in_err-push.ensures.items c.self.view_is)

start_is : (c : goal.In_ok-push) → c.len-start.result ≡ length c.self.inside.points.items
start_is c = search rules

pub invariant_of-self-2 : goal.invariant_of-self-2
invariant_of-self-2 c = pushed_laid c.self.inside.series c.number.new.self c.self.inside.points.items c.extend_from_slice.new.self.items c.as_bytes-point.result.now c.self.inside.packed.items c.number.ensures.stay c.in_ok-extend_from_slice.ensures.items c.self.invariant (record { series = c.in_ok-series.series; length = c.in_ok-length.length; time = c.args.row.now.time; start = c.len-start.result }) (start_is c) c.in_ok-length.ensures c.push.new.self.items c.args.row.now.series c.in_ok-push.ensures.items c.in_ok-series.ensures.stands c.as_bytes-point.ensures.utf8

pub returns-clause-ok : goal.returns-clause-ok
returns-clause-ok c = pushed_rows c.self.inside.series c.number.new.self c.self.inside.points.items c.extend_from_slice.new.self.items c.as_bytes-point.result.now c.self.inside.packed.items c.number.ensures.stay c.in_ok-extend_from_slice.ensures.items c.self.invariant (record { series = c.in_ok-series.series; length = c.in_ok-length.length; time = c.args.row.now.time; start = c.len-start.result }) (start_is c) c.in_ok-length.ensures c.push.new.self.items c.args.row.now _ c.in_ok-push.ensures.items c.in_ok-series.ensures.stands refl (c.as_bytes-point.ensures.value ∙ c.as_str.ensures) c.self.view_is
