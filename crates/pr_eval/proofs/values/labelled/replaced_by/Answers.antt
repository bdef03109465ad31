use Rattle.std.proofs.Common.{◌≡◌, true, ℕ, List, subst, sym}
use Rattle.pr_ast.specs.Tree.{trees_of}
use Rattle.pr_labels.specs.Names.{is_label_name}
use Rattle.pr_labels.specs.declared.item.Item.{Item}
use Rattle.pr_num.specs.declared.value.Num.{Num}
use Rattle.pr_fn.specs.pr_match.Pattern.{expanded}
use Rattle.pr_range.specs.spec_vectors.LabelFunctions.{label_replaced}
use Rattle.spec_meaning.specs.Answers.{function_at}
use Rattle.spec_meaning.specs.Given.{elements_given}
use Rattle.spec_meaning.specs.pr_types.Typed.{content_at}
use Rattle.pr_eval.specs.private.Answers.{AnswersTo}
use Rattle.pr_eval.specs.private.Plain.{all_plain}
use Rattle.pr_eval.proofs.values.labelled.replaced_by.Goals as goal

pub label_replace-made-requires : goal.label_replace-made-requires
label_replace-made-requires c = subst (λ (x : List ℕ). is_label_name x ≡ true) (sym c.content_at-label.ensures) c.requires.named

pub returns-clause-answer : goal.returns-clause-answer
returns-clause-answer c =
    let ts = trees_of c.args.args.now in
    let gs = all_plain c.args.given.now in
    let p = c.args.place in
    let r = c.made_at.result in
    let label = c.content_at-label.result.now in
    let source = c.content_at-source.result.now in
    let template = c.content_at-template.result.now in
    let pattern = c.args.pattern.now in
    let items = c.elements_given-items.result.now in
    subst (λ (x : List ℕ). AnswersTo (function_at p (label_replaced x (content_at ts 3) (λ text. expanded (content_at ts 4) text (content_at ts 2)) (elements_given gs 0))) r) c.content_at-label.ensures
    (subst (λ (x : List ℕ). AnswersTo (function_at p (label_replaced label x (λ text. expanded (content_at ts 4) text (content_at ts 2)) (elements_given gs 0))) r) c.content_at-source.ensures
    (subst (λ (x : List ℕ). AnswersTo (function_at p (label_replaced label source (λ text. expanded x text (content_at ts 2)) (elements_given gs 0))) r) c.requires.pattern
    (subst (λ (x : List ℕ). AnswersTo (function_at p (label_replaced label source (λ text. expanded pattern text x) (elements_given gs 0))) r) c.content_at-template.ensures
    (subst (λ (x : List (Item Num)). AnswersTo (function_at p (label_replaced label source (λ text. expanded pattern text template) x)) r) c.elements_given-items.ensures.elements
    (c.made_at.ensures.answer (label_replaced label source (λ text. expanded pattern text template) items) c.label_replace-made.ensures.replaced)))))
