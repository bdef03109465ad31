use Rattle.std.proofs.Common.{◌<◌, length, sym, subst, arith}
use Rattle.pr_ast.specs.Tree.{Tree, tree_of}
use Rattle.spec_meaning.specs.pr_types.private.Built.{tests_in}
use Rattle.spec_meaning.specs.Meaning.{meaning}
use Rattle.pr_eval.specs.private.Answers.{AnswersTo}
use Rattle.pr_eval.proofs.selected.timestamps.Goals as goal

pub overflow_add-number : goal.overflow_add-number
overflow_add-number g c =
    let within : c.args.number.now.selectors < length (tests_in (tree_of c.args.scope.now.checked.now)) = c.lemma_is_stamped.ensures.within (tree_of c.args.scope.now.checked.now) c.args.number.now c.requires.part in
    omega (arith, within, c.requires.few)

pub stamps-requires : goal.stamps-requires
stamps-requires g c = c.lemma_is_stamped.ensures.stands (tree_of c.args.scope.now.checked.now) c.args.number.now c.requires.part

pub returns-clause-answer : goal.returns-clause-answer
returns-clause-answer g c = λ history keeps.
    let scope = c.args.scope.now in
    subst (λ (u : Tree). AnswersTo (meaning scope.step history u scope.time) c.stamps.result) (sym c.lemma_is_stamped.ensures.tree)
    (c.stamps.ensures.answer history (c.lemma_is_stamped.ensures.keeps scope.head.now history scope.time keeps))
