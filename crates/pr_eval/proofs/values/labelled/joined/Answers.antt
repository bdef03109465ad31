use Rattle.std.proofs.Common.{ℕ, List, drop, subst, ◌∙◌}
use Rattle.pr_ast.specs.Tree.{trees_of}
use Rattle.pr_labels.specs.declared.item.Item.{Item}
use Rattle.pr_num.specs.declared.value.Num.{Num}
use Rattle.pr_range.specs.spec_vectors.LabelFunctions.{label_joined}
use Rattle.spec_meaning.specs.Answers.{function_at}
use Rattle.spec_meaning.specs.Given.{elements_given}
use Rattle.spec_meaning.specs.pr_types.Typed.{content_at, contents}
use Rattle.pr_eval.specs.private.Answers.{AnswersTo}
use Rattle.pr_eval.specs.private.Plain.{all_plain}
use Rattle.pr_eval.proofs.values.labelled.joined.Goals as goal

pub returns-clause-answer : goal.returns-clause-answer
returns-clause-answer c =
    let ts = trees_of c.args.args.now in
    let gs = all_plain c.args.given.now in
    let p = c.args.place in
    let r = c.made_at.result in
    let label = c.content_at-label.result.now in
    let separator = c.content_at-separator.result.now in
    let names = c.deref.result.now in
    subst (λ (x : List ℕ). AnswersTo (function_at p (label_joined x (content_at ts 2) (drop 3 (contents ts)) (elements_given gs 0))) r) c.content_at-label.ensures
    (subst (λ (x : List ℕ). AnswersTo (function_at p (label_joined label x (drop 3 (contents ts)) (elements_given gs 0))) r) c.content_at-separator.ensures
    (subst (λ (x : List (List ℕ)). AnswersTo (function_at p (label_joined label separator x (elements_given gs 0))) r) (c.deref.ensures.value ∙ c.in_ok-names.ensures)
    (subst (λ (x : List (Item Num)). AnswersTo (function_at p (label_joined label separator names x)) r) c.elements_given-items.ensures.elements
    (c.made_at.ensures.answer (label_joined label separator names c.elements_given-items.result.now) c.label_join-made.ensures.joined))))
