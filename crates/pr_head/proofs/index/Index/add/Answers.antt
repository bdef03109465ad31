use Rattle.std.proofs.Common.{◌≡◌, cond, refl, ap, subst, ◌∙◌, OnErr, Result}
use Rattle.std.specs.declared.result.Result.TheVariants.{Ok, Err}
use Rattle.std.specs.Map.{remove_entry}
use Rattle.std.specs.BTreeMap.{insert_entry, is_at}
use Rattle.pr_labels.specs.LabelSet.{IsLabelSet}
use Rattle.pr_labels.specs.Order.{labels_cmp}
use Rattle.pr_head.specs.private.Index.{has_label, listing_of}
use Rattle.pr_head.proofs.Indexing.{absent, indexed_more, indexed_same, removed_again}
use Rattle.pr_head.proofs.index.Index.add.Goals as goal

on_err : {T E : Type 0} (r : Result T E) (P : Type 0) → P → OnErr r P
on_err (Ok x) P p = tt
on_err (Err e) P p = p

pub returns-in-Ok-clause-ok : goal.returns-in-Ok-clause-ok
returns-in-Ok-clause-ok c = λ sets size indexed.
    indexed_more c.args.self.now.all c.insert.new.self c.args.self.now.by_label c.add_each.new.self sets c.args.labels.now c.args.number (subst IsLabelSet c.pairs.ensures.all c.pairs.ensures.set) size indexed
    (c.in_ok-insert.ensures.ok ∙ ap (λ l. insert_entry labels_cmp c.args.self.now.all l c.args.number) c.in_ok-copy.ensures)
    (λ other. c.in-Ok.ensures.ok other
    ∙ (λ i. cond (has_label other (c.pairs.ensures.all i)) (insert_entry labels_cmp (listing_of c.args.self.now.by_label other) c.args.labels.now c.args.number) (listing_of c.args.self.now.by_label other)))

pub returns-in-Err-clause-err : goal.returns-in-Err-clause-err
returns-in-Err-clause-err c = λ sets none indexed.
    let labels = c.args.labels.now in
    let all = c.args.self.now.all in
    let put : c.insert.new.self ≡ insert_entry labels_cmp all labels c.args.number =
    c.in_ok-insert.ensures.ok ∙ ap (λ l. insert_entry labels_cmp all l c.args.number) c.in_ok-copy.ensures in
    indexed_same all c.remove.new.self c.args.self.now.by_label c.add_each.new.self sets indexed
    (c.remove.ensures ∙ ap (remove_entry (is_at (labels_cmp labels))) put ∙ removed_again labels c.args.number all (absent labels sets all indexed.every.numbers none))
    (c.in-Err.ensures.err (λ other. absent labels sets _ (indexed.each other).numbers none))

pub returns-in_err-insert-clause-err : goal.returns-in_err-insert-clause-err
returns-in_err-insert-clause-err c = λ sets none indexed.
    on_err c.from_residual-in_err-insert.result _ (indexed_same c.args.self.now.all c.insert.new.self c.args.self.now.by_label c.args.self.now.by_label sets indexed c.in_err-insert.ensures.err (λ other. refl))
