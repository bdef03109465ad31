use Rattle.std.proofs.Common.{◌≡◌, ◌∙◌, ap, sym, subst, refl, Bool, List, IfOk}
use Rattle.spec_vectors.specs.pr_labels.declared.pair.Pair.{Pair}
use Rattle.spec_vectors.specs.pr_labels.Edits.{key_labels}
use Rattle.spec_vectors.specs.Matching.{name_kept, narrowed}
use Rattle.pr_join.proofs.KeyLabels.{narrowed_off, narrowed_on}
use Rattle.pr_join.proofs.labels.narrowed.Goals as goal

pub returns-in_ok-key : goal.returns-in_ok-key
returns-in_ok-key c =
    subst (λ (ls : List Pair). IfOk c.name_kept.result (λ l. l ≡ ls)) (narrowed_on c.args.how.now c.args.keep_name c.in_ok-key.key c.args.many.now.labels c.if-how.true c.in_ok-key.ensures) c.name_kept.ensures

pub returns-else-keep_name : goal.returns-else-keep_name
returns-else-keep_name c =
    let how = c.args.how.now in
    let labels = c.args.many.now.labels in
    subst (λ (ls : List Pair). IfOk c.key_of-else-keep_name.result (λ l. l ≡ ls))
    (narrowed_off how (key_labels how.on labels how.names) labels c.if-how.false refl ∙ ap (λ (b : Bool). narrowed how (name_kept b labels)) (sym c.if-keep_name.false))
    c.key_of-else-keep_name.ensures
