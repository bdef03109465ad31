use Rattle.std.proofs.Common.{◌<◌, filter, map, sym, subst, ◌∙◌, [], List, IfOk, Result}
use Rattle.std.specs.List.{All}
use Rattle.std.specs.declared.result.Result.TheVariants.{Ok, Err}
use Rattle.std.proofs.lemmas.List.{length-map}
use Rattle.pr_labels.specs.declared.pair.Pair.{Pair}
use Rattle.pr_labels.specs.Rising.{IsRising}
use Rattle.pr_labels.proofs.LabelOrder.{rising_fold}
use Rattle.spec_history.specs.private.Laws.{has_values}
use Rattle.pr_head.specs.private.Stored.{Stored}
use Rattle.pr_head.specs.private.Holds.{chosen_of, labels_at, sets_of}
use Rattle.pr_head.specs.private.Index.{IsIndexed}
use Rattle.pr_head.proofs.Selecting.{chosen_arrivals}
use Rattle.pr_head.proofs.head.Head.select.Goals as goal

if_ok : {T E : Type 0} {P Q : T → Type 0} (r : Result T E) → ((v : T) → P v → Q v) → IfOk r P → IfOk r Q
if_ok (Ok v) f p = f v p
if_ok (Err e) f p = tt

pub returns-clause-known : goal.returns-clause-known
returns-clause-known c =
    let head = c.args.self.now in
    let indexed : IsIndexed c.self.inside.index.all c.self.inside.index.by_label (sets_of head) =
    subst (λ (h : List (List Pair × Stored)). IsIndexed c.self.inside.index.all c.self.inside.index.by_label (sets_of h)) c.self.view_is c.self.invariant.0 in
    if_ok c.select.result (λ v known. subst (λ n. All (λ i. i < n) v.items) (length-map head (λ e. e.0)) known) (c.select.ensures.known (sets_of head) indexed)

pub returns-clause-sets : goal.returns-clause-sets
returns-clause-sets c =
    let head = c.args.self.now in
    let indexed : IsIndexed c.self.inside.index.all c.self.inside.index.by_label (sets_of head) =
    subst (λ (h : List (List Pair × Stored)). IsIndexed c.self.inside.index.all c.self.inside.index.by_label (sets_of h)) c.self.view_is c.self.invariant.0 in
    c.select.ensures.sets (sets_of head) indexed

pub returns-clause-in_order : goal.returns-clause-in_order
returns-clause-in_order c =
    if_ok c.select.result (λ v is. subst IsRising (sym is) (rising_fold [] (filter (has_values c.args.equal.now) (sets_of c.args.self.now)) tt)) (returns-clause-sets c)

pub returns-clause-chosen : goal.returns-clause-chosen
returns-clause-chosen c = λ history holds.
    if_ok c.select.result
    (λ v is. (λ i. map (labels_at (sym holds.numbered i)) v.items) ∙ is
    ∙ (λ i. chosen_of (has_values c.args.equal.now) (holds.numbered i)) ∙ chosen_arrivals (has_values c.args.equal.now) history)
    (returns-clause-sets c)
