use Rattle.std.proofs.Common.{◌≡◌, List, ap, ◌∙◌, pos, ◌-ℤ◌, arith}
use Rattle.std.proofs.lemmas.Int.{ints}
use Rattle.pr_ast.specs.pr_labels.declared.item.Item.{Item}
use Rattle.pr_num.specs.declared.value.Num.{Num}
use Rattle.pr_ast.specs.Tree.{tree_of}
use Rattle.pr_ast.specs.Reach.{reads_back}
use Rattle.pr_group.specs.pr_eval.private.Looks.{KeepsFor}
use Rattle.pr_group.specs.spec_meaning.Meaning.{meaning}
use Rattle.spec_tests.specs.declared.failure.Shown.{Shown}
use Rattle.spec_tests.specs.Verdict.{expr_failure, given_by}
use Rattle.pr_unit.proofs.Answers.{if_ok}
use Rattle.pr_unit.proofs.checks.check_expr.Goals as goal

pub returns-in-Ok : goal.returns-in-Ok
returns-in-Ok g c = λ s w h.
    let t = tree_of c.args.check.now.expr in
    let time = c.args.check.now.time in
    let back = pos time -ℤ pos (reads_back t) in
    let keeps : KeepsFor c.args.run.now.head w.history t time = record { lawful = h.lawful; holds = h.holds; forgotten = back; whole = h.whole back; back = omega (arith, ints) } in
    let got : c.in-Ok.got ≡ given_by (meaning c.args.every w.history t time) = c.in-Ok.ensures w.history keeps in
    if_ok c.expr_failure.result _ _
    (λ list e.
    e ∙ ap (λ (x : List (Item Num)). expr_failure c.args.test c.args.number x c.in-Ok.got) c.as_slice.ensures
    ∙ ap (λ (x : Shown). expr_failure c.args.test c.args.number c.args.check.now.expected x) got)
    c.expr_failure.ensures
