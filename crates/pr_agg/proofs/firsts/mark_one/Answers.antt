use Rattle.std.proofs.Common.{◌≡◌, ◌+◌, ℕ, Bool, ap, sym, ◌∙◌, subst, List, length, Some, slice_get, refl, slice_set}
use Rattle.std.proofs.lemmas.Option.{slice_get_read}
use Rattle.std.specs.Option.{unwrap_or}
use Rattle.std.specs.BTreeMap.{Updates, get}
use Rattle.pr_num.specs.declared.value.Num.{Num}
use Rattle.pr_window.specs.pr_labels.declared.pair.Pair.{Pair}
use Rattle.pr_window.specs.pr_labels.declared.item.Item.{Item}
use Rattle.pr_window.specs.pr_labels.Order.{labels_cmp}
use Rattle.pr_window.specs.spec_vectors.Aggregation.{group_of, is_within}
use Rattle.pr_agg.proofs.firsts.mark_one.Goals as goal

some_same : (x y : Item Num) → Some x ≡ Some y → x ≡ y
some_same x y h = cc

pub returns : goal.returns
returns c = λ e s.
    let vector = c.args.vector.now in
    let m = c.args.seen.now in
    let by = c.args.by.now in
    let x = c.index-vector-index.result in
    let at : slice_get vector c.args.index ≡ Some x = slice_get_read vector (length vector) c.args.index x refl c.requires.place c.index-vector-index.is in
    let same : x ≡ e = some_same x e (sym at ∙ s) in
    let group : c.in_ok-group.group ≡ group_of by e = c.in_ok-group.ensures ∙ ap (λ (i : Item Num). group_of by i) same in
    let before : c.in_ok-before.before ≡ unwrap_or (get labels_cmp m c.in_ok-group.group) 0 = c.in_ok-before.ensures.before in
    record {
      counted = subst (λ (q : List Pair). Updates labels_cmp m c.count_one.new.seen q (Some (unwrap_or (get labels_cmp m q) 0 + 1))) group
          (subst (λ (n : ℕ). Updates labels_cmp m c.count_one.new.seen c.in_ok-group.group (Some (n + 1))) before c.in_ok-before.ensures.counted);
      mark = ap (λ (b : Bool). slice_set c.args.marks.now.items c.args.index b) (c.is_within.ensures ∙ ap (λ (n : ℕ). is_within c.args.k.now n) (before ∙ ap (λ (q : List Pair). unwrap_or (get labels_cmp m q) 0) group));
    }
