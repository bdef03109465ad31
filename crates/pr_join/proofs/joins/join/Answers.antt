use Rattle.std.proofs.Common.{◌≡◌, List, Ok, Err, Result, MatchResult, IfSome, subst}
use Rattle.spec_vectors.specs.pr_num.declared.value.Num.{Num}
use Rattle.spec_vectors.specs.pr_labels.declared.item.Item.{Item}
use Rattle.spec_vectors.specs.declared.match_fault.MatchFault.{MatchFault}
use Rattle.pr_join.specs.private.Faults.{match_told}
use Rattle.pr_join.proofs.Pairing.{left_many, right_many}
use Rattle.pr_join.proofs.joins.join.Goals as goal

pub returns-in-OneToMany-clause-joined : goal.returns-in-OneToMany-clause-joined
returns-in-OneToMany-clause-joined g c = λ f a.
    subst (λ (answer : Result (List (Item Num)) MatchFault). MatchResult c.join_sides.result (λ v. answer ≡ Ok v.items) (λ e. IfSome (match_told e) (λ fault. answer ≡ Err fault)))
    (right_many c.args.how.now c.args.keep_name f c.args.left.now c.args.right.now c.in-OneToMany.is) (c.join_sides.ensures.joined f a)

pub returns-in-OneToOne-clause-joined : goal.returns-in-OneToOne-clause-joined
returns-in-OneToOne-clause-joined g c = λ f a.
    subst (λ (answer : Result (List (Item Num)) MatchFault). MatchResult c.join_sides-in-OneToOne.result (λ v. answer ≡ Ok v.items) (λ e. IfSome (match_told e) (λ fault. answer ≡ Err fault)))
    (left_many c.args.how.now c.args.keep_name f c.args.left.now c.args.right.now c.in-OneToOne.is) (c.join_sides-in-OneToOne.ensures.joined f a)
