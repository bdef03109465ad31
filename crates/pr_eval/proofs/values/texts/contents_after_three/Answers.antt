use Rattle.std.proofs.Common.{◌≡◌, map, ap, sym, ◌∙◌, IfOk, subst}
use Rattle.pr_ast.specs.Tree.{tree_of}
use Rattle.spec_meaning.specs.pr_types.Typed.{content}
use Rattle.pr_eval.proofs.TextLists.{few_behind, texts_behind, whole_rest}
use Rattle.pr_eval.proofs.values.texts.contents_after_three.Goals as goal

pub returns-then-args-lt3 : goal.returns-then-args-lt3
returns-then-args-lt3 c =
    let es = c.args.args.now in
    c.new.ensures.items ∙ sym (texts_behind es ∙ ap (map (λ e. content (tree_of e))) (few_behind es c.if-args-lt3.true))

pub returns : goal.returns
returns c = subst (λ l. IfOk c.contents.result (λ v. v.items ≡ l)) (sym (texts_behind c.args.args.now ∙ ap (map (λ e. content (tree_of e))) (sym (whole_rest c.args.args.now)))) c.contents.ensures
