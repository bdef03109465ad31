use Rattle.std.proofs.Common.{rules, List, sym, subst}
use Rattle.spec_vectors.specs.pr_num.declared.value.Num.{Num}
use Rattle.spec_vectors.specs.pr_labels.declared.item.Item.{Item}
use Rattle.spec_vectors.specs.private.Laws.{IsVector}
use Rattle.pr_join.proofs.Ordered.{sorted_vector}
use Rattle.pr_join.proofs.rows.elements_of.Goals as goal

pub returns-clause-elements : goal.returns-clause-elements
returns-clause-elements c = search rules

pub returns-clause-vector : goal.returns-clause-vector
returns-clause-vector c = λ ordered. subst (λ (items : List (Item Num)). IsVector items) (sym (returns-clause-elements c)) (sorted_vector c.args.items.entries ordered)
