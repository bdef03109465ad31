use Rattle.std.proofs.Common.{◌≡◌, length, false, arith}
use borrow.Author.Tests.{ltb-false, ltb-true}
use Rattle.pr_ast.specs.Tree.{tree_of}
use Rattle.pr_range.specs.private.Asks.{takes_argument}
use Rattle.pr_eval.specs.private.Asking.{asked_for}
use Rattle.pr_eval.proofs.RangeOperands.{alone_argument, one_argument, one_tree, only_ranged, prediction_range, prediction_scalar, prediction_two, quantile_range, quantile_scalar, quantile_two, two_trees}
use Rattle.pr_eval.proofs.range_call.range_operands.Goals as goal
use Rattle.pr_eval.proofs.range_call.range_operands.Goals.{in_default-args-via-then-args-lt2, in_default-args-via-else-args-lt2+else-args-lt3, in_default-args-2-via-then-args-lt2-2, in_default-args-2-via-else-args-lt2-2+else-args-lt3-2, in_default-args-3-via-then-args-lt1, in_default-args-3-via-else-args-lt1+else-args-lt2-3}

pub unreachable-requires : goal.unreachable-requires
unreachable-requires c =
    let e = c.args.e.now in
    let two : length c.args.args.now ≡ 2 = quantile_two (tree_of e) e.place c.args.func c.args.args.now c.requires.tree c.requires.valued c.in-QuantileOverTime.is in
    elim c.in_default-args.branch [ in_default-args-via-then-args-lt2 w ↦ omega (arith, ltb-true, ltb-false) | in_default-args-via-else-args-lt2+else-args-lt3 w ↦ omega (arith, ltb-true, ltb-false) ]

pub unreachable-requires-in_default-args-2 : goal.unreachable-requires-in_default-args-2
unreachable-requires-in_default-args-2 c =
    let e = c.args.e.now in
    let two : length c.args.args.now ≡ 2 = prediction_two (tree_of e) e.place c.args.func c.args.args.now c.requires.tree c.requires.valued c.in-PredictLinear.is in
    elim c.in_default-args-2.branch [ in_default-args-2-via-then-args-lt2-2 w ↦ omega (arith, ltb-true, ltb-false) | in_default-args-2-via-else-args-lt2-2+else-args-lt3-2 w ↦ omega (arith, ltb-true, ltb-false) ]

pub unreachable-requires-in_default-args-3 : goal.unreachable-requires-in_default-args-3
unreachable-requires-in_default-args-3 c =
    let e = c.args.e.now in
    let alone : takes_argument (asked_for c.args.func) ≡ false = alone_argument c.args.func c.requires.range c.in_default.not-QuantileOverTime c.in_default.not-PredictLinear in
    let one : length c.args.args.now ≡ 1 = one_argument (tree_of e) e.place c.args.func c.args.args.now c.requires.tree c.requires.valued c.requires.range alone in
    elim c.in_default-args-3.branch [ in_default-args-3-via-then-args-lt1 w ↦ omega (arith, ltb-true, ltb-false) | in_default-args-3-via-else-args-lt1+else-args-lt2-3 w ↦ omega (arith, ltb-true, ltb-false) ]

pub returns-in-len2 : goal.returns-in-len2
returns-in-len2 c =
    let e = c.args.e.now in
    let args = c.args.args.now in
    let two : length args ≡ 2 = quantile_two (tree_of e) e.place c.args.func args c.requires.tree c.requires.valued c.in-QuantileOverTime.is in (
      c.in-QuantileOverTime.is,
      (
        two_trees args c.scalar-item.result c.range-item.result two c.scalar-item.is c.range-item.is,
        (
          quantile_scalar (tree_of e) e.place c.args.func args c.requires.tree c.requires.valued c.in-QuantileOverTime.is c.scalar-item.result c.scalar-item.is,
          quantile_range (tree_of e) e.place c.args.func args c.requires.tree c.requires.valued c.in-QuantileOverTime.is c.range-item.result c.range-item.is,
        ),
      ),
    )

pub returns-in-len2-args : goal.returns-in-len2-args
returns-in-len2-args c =
    let e = c.args.e.now in
    let args = c.args.args.now in
    let range = c.range-item-then-args-lt3-2 in
    let scalar = c.scalar-item-then-args-lt3-2 in
    let two : length args ≡ 2 = prediction_two (tree_of e) e.place c.args.func args c.requires.tree c.requires.valued c.in-PredictLinear.is in (
      c.in-PredictLinear.is,
      (
        two_trees args range.result scalar.result two range.is scalar.is,
        (
          prediction_range (tree_of e) e.place c.args.func args c.requires.tree c.requires.valued c.in-PredictLinear.is range.result range.is,
          prediction_scalar (tree_of e) e.place c.args.func args c.requires.tree c.requires.valued c.in-PredictLinear.is scalar.result scalar.is,
        ),
      ),
    )

pub returns-in-len1 : goal.returns-in-len1
returns-in-len1 c =
    let e = c.args.e.now in
    let args = c.args.args.now in
    let range = c.range-item-then-args-lt2-3 in
    let alone : takes_argument (asked_for c.args.func) ≡ false = alone_argument c.args.func c.requires.range c.in_default.not-QuantileOverTime c.in_default.not-PredictLinear in
    let one : length args ≡ 1 = one_argument (tree_of e) e.place c.args.func args c.requires.tree c.requires.valued c.requires.range alone in
    (one_tree args range.result one range.is, (only_ranged (tree_of e) e.place c.args.func args c.requires.tree c.requires.valued c.requires.range alone range.result range.is, alone))
