use Rattle.std.proofs.Common.{◌≡◌, ℕ, ◌+◌, length, map, slice_get, Some, refl, sym, ap, ◌∙◌}
use Rattle.std.specs.Option.{option_map}
use Rattle.std.proofs.lemmas.Option.{slice_get_read, slice_get-map}
use Rattle.pr_ast.specs.Tree.{tree_of}
use Rattle.pr_group.specs.spec_meaning.Meaning.{meaning}
use Rattle.spec_tests.specs.pr_testfile.declared.tests.ExprCheck.{ExprCheck}
use Rattle.spec_tests.specs.pr_testfile.Checks.{plain_check}
use Rattle.spec_tests.specs.Events.{world_at}
use Rattle.spec_tests.specs.Verdict.{expr_check, expr_failure, given_by}
use Rattle.pr_unit.proofs.Filling.{one_filled, same_time}
use Rattle.pr_unit.proofs.Lists.{same_there}
use Rattle.pr_unit.proofs.checks.fill_expr.Goals as goal

pub returns : goal.returns
returns g c = λ gs t s stands h.
    let checks = c.args.checks.now in
    let n = c.args.index in
    let time = c.args.time in
    let every = c.args.every in
    let first = c.index-checks-index.result in
    let x = c.index-checks-index-2.result in
    let there1 : slice_get checks n ≡ Some first = slice_get_read checks (length checks) n first refl c.requires.within c.index-checks-index.is in
    let there : slice_get checks n ≡ Some x = slice_get_read checks (length checks) n x refl c.requires.within c.index-checks-index-2.is in
    let plain : slice_get (map plain_check checks) n ≡ Some (plain_check x) = slice_get-map plain_check checks n ∙ ap (option_map plain_check) there in
    let same : x ≡ first = same_there checks n x first there there1 in
    let now : x.time ≡ time = ap (λ (y : ExprCheck). y.time) (same ∙ c.index-checks-index.is) ∙ same_time _ _ (sym c.ne.ensures ∙ c.if-ne.false) in
    one_filled (expr_check every gs c.args.test t) (λ y. y.time) (map plain_check checks) time n c.args.slots.now.items (plain_check x) c.in_ok-slots.field-0 plain
    (c.in_ok-slots.ensures s (world_at every gs t time) stands
    ∙ ap (λ (m : ℕ). expr_failure c.args.test (n + 1) x.expected (given_by (meaning every (world_at every gs t m).history (tree_of x.expr) x.time))) (sym now)) h
