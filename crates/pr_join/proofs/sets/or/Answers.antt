use Rattle.std.proofs.Common.{◌≡◌, ap, sym, ◌∙◌, subst, List, [], ◌++◌, fold, IfOk}
use Rattle.std.proofs.lemmas.List.Sums.{fold-append}
use Rattle.spec_vectors.specs.pr_num.declared.value.Num.{Num}
use Rattle.spec_vectors.specs.pr_labels.declared.pair.Pair.{Pair}
use Rattle.spec_vectors.specs.pr_labels.declared.item.Item.{Item}
use Rattle.spec_vectors.specs.Vectors.{with_element}
use Rattle.spec_vectors.specs.Matching.{either_side, left_alone}
use Rattle.spec_vectors.proofs.Vectors.{vector_in_order}
use Rattle.spec_vectors.specs.pr_labels.private.Entries.{items_of}
use Rattle.pr_join.specs.private.Rows.{elements}
use Rattle.pr_join.proofs.Ordered.{still_vector}
use Rattle.pr_join.proofs.sets.or.Goals as goal

pub returns-clause-items : goal.returns-clause-items
returns-clause-items c =
    let left = c.args.left.now in
    let whole : elements c.put_all-2.new.items ≡ either_side c.args.how.now left c.args.right.now = c.in_ok-put_all-2.ensures
    ∙ ap (λ (xs : List (Item Num)). fold with_element xs c.deref.result.now) c.in_ok-put_all.ensures
    ∙ ap (λ (es : List (List Pair × Num)). fold with_element (fold with_element (items_of es) left) c.deref.result.now) c.new-items.ensures.empty
    ∙ ap (λ (xs : List (Item Num)). fold with_element (fold with_element [] left) xs) c.deref.ensures.value
    ∙ sym (fold-append with_element [] left c.in_ok-others.others.items)
    ∙ ap (λ (xs : List (Item Num)). fold with_element [] (left ++ xs)) c.in_ok-others.ensures in
    subst (λ (xs : List (Item Num)). IfOk c.elements_of.result (λ v. v.items ≡ xs)) whole c.elements_of.ensures.elements

pub returns-clause-vector : goal.returns-clause-vector
returns-clause-vector c =
    let how = c.args.how.now in
    let left = c.args.left.now in
    let right = c.args.right.now in
    still_vector c.elements_of.result (λ v. v.items) (either_side how left right) (vector_in_order (left ++ left_alone how right left)) (returns-clause-items c)
