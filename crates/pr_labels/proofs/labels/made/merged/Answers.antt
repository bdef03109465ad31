use Rattle.std.proofs.Common.{◌≡◌, ◌++◌, ◌∷◌, [], filter, arith}
use Rattle.pr_labels.specs.Edits.{is_above, is_below, union_labels}
use Rattle.pr_labels.proofs.LabelLaws.{union_stays}
use Rattle.pr_labels.proofs.LabelSets.{filtered_is_set}
use Rattle.pr_labels.proofs.Merged.{one_merged, all_merged}
use Rattle.pr_labels.proofs.labels.made.merged.Goals as goal

pub loop-label-preserved : goal.loop-label-preserved
loop-label-preserved c =
    let below : c.parted.result.0.now ≡ filter (is_below c.label-item.result.name) c.loop-label.left.now = rw c.as_str.ensures at c.parted.ensures.below in
    let above : c.parted.result.1.now ≡ filter (is_above c.label-item.result.name) c.loop-label.left.now = rw c.as_str.ensures at c.parted.ensures.above in
    let new : c.push.new.self.items ≡ (c.loop-label.pairs.items ++ c.parted.result.0.now) ++ (c.label-item.result ∷ []) = cc (c.in_ok-push.ensures.items, c.in_ok-copy.ensures, c.in_ok-push_copies.ensures) in
    record {
      set = filtered_is_set (is_above c.label-item.result.name) c.loop-label.left.now c.parted.result.1.now c.loop-label.invariant.set above;
      merged = one_merged c.loop-label.left.now c.args.over.now c.loop-label.pairs.items c.parted.result.0.now c.parted.result.1.now c.push.new.self.items _ c.loop-label.label-index c.label-item.result c.loop-label.invariant.set c.requires.over (omega arith) c.label-item.is below above new c.loop-label.invariant.merged;
    }

pub returns : goal.returns
returns c =
    let all : c.loop-label.pairs.items ++ c.loop-label.left.now ≡ union_labels c.args.own.now c.args.over.now = all_merged c.loop-label.left.now c.args.over.now c.loop-label.pairs.items _ c.loop-label.label-index (omega arith) c.loop-label.invariant.merged in
    let union : c.push_copies-2.new.copies.items ≡ union_labels c.args.own.now c.args.over.now = cc (c.in_ok-push_copies-2.ensures, all) in
    record { union = union; set = rw union (union_stays c.args.own.now c.args.over.now c.requires.own c.requires.over) }
