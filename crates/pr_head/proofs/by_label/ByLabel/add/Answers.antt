use Rattle.std.proofs.Common.{ap, ◌∙◌, OnErr, OnOk, Result}
use Rattle.std.specs.declared.result.Result.TheVariants.{Ok, Err}
use Rattle.std.specs.Map.{lookup, set_value}
use Rattle.std.specs.BTreeMap.{insert_entry}
use Rattle.pr_labels.specs.Order.{labels_cmp, pair_eq}
use Rattle.pr_head.proofs.Indexing.{same_written, written}
use Rattle.pr_head.proofs.by_label.ByLabel.add.Goals as goal

on_ok : {T E P Q : Type 0} (r : Result T E) → (P → Q) → OnOk r P → OnOk r Q
on_ok (Ok x) f p = f p
on_ok (Err e) f p = tt

on_err : {T E P Q : Type 0} (r : Result T E) → (P → Q) → OnErr r P → OnErr r Q
on_err (Ok x) f p = tt
on_err (Err e) f p = f p

pub returns-in-Some-clause-ok : goal.returns-in-Some-clause-ok
returns-in-Some-clause-ok c =
    let w = c.insert.new.self in
    on_ok c.insert.result
    (λ is other. written (λ es. insert_entry labels_cmp es c.args.labels c.args.number) c.args.self.now (c.get_mut.follows.lender w).entries c.args.label.now other c.in-Some.listing.now w
    (c.in-Some.ensures.value ∙ ap (lookup (pair_eq c.args.label.now)) c.self.view_is) ((c.get_mut.follows.holds w).0 ∙ ap (λ es. set_value (pair_eq c.args.label.now) es w) c.self.view_is) is)
    c.insert.ensures.ok

pub returns-in-Some-clause-err : goal.returns-in-Some-clause-err
returns-in-Some-clause-err c =
    let w = c.insert.new.self in
    on_err c.insert.result
    (λ is other. same_written c.args.self.now (c.get_mut.follows.lender w).entries c.args.label.now other c.in-Some.listing.now w (c.in-Some.ensures.value ∙ ap (lookup (pair_eq c.args.label.now)) c.self.view_is) ((c.get_mut.follows.holds w).0 ∙ ap (λ es. set_value (pair_eq c.args.label.now) es w) c.self.view_is) is)
    c.insert.ensures.err
