use Rattle.pr_ast.specs.Tree.{tree_of}
use Rattle.pr_eval.specs.private.Evaluated.{kept_by}
use Rattle.pr_eval.specs.private.Ranged.{call_in, made_of}
use Rattle.pr_eval.proofs.RangeAsks.{may_ask_range, range_answers, range_takes}
use Rattle.pr_eval.proofs.range_call.over_selected.Goals as goal

pub matchers-requires : goal.matchers-requires
matchers-requires g c = c.lemma_is_range.ensures.within (tree_of c.args.scope.now.checked.now) c.args.at c.requires.part

pub returns-clause-answer : goal.returns-clause-answer
returns-clause-answer g c = λ history may.
    let call = call_in c.args.made.now in
    range_answers c.args.scope.now.inside history call.func call.arg (tree_of c.args.e.now) c.args.e.now.place c.args.selector.now c.args.span c.args.scope.now.time c.args.at.ranges c.lemma_is_range.ensures.tree
    c.args.scope.now.step (made_of c.args.made.now) c.over_chosen.result
    (c.over_chosen.ensures.answer history
    (may_ask_range c.args.scope.now.inside history call.func call.arg (tree_of c.args.e.now) c.args.e.now.place c.args.selector.now c.args.span c.args.scope.now.time c.args.at.ranges c.lemma_is_range.ensures.tree
    c.args.scope.now.head.now (g.R.Ranges.fits c.args.ranges.now history) (g.R.Ranges.last c.args.ranges.now) may))

pub returns-clause-taken : goal.returns-clause-taken
returns-clause-taken g c = λ history may.
    let call = call_in c.args.made.now in
    let each = may_ask_range c.args.scope.now.inside history call.func call.arg (tree_of c.args.e.now) c.args.e.now.place c.args.selector.now c.args.span c.args.scope.now.time c.args.at.ranges c.lemma_is_range.ensures.tree
    c.args.scope.now.head.now (g.R.Ranges.fits c.args.ranges.now history) (g.R.Ranges.last c.args.ranges.now) may in
    range_takes c.args.scope.now.inside history call.func call.arg (tree_of c.args.e.now) c.args.e.now.place c.args.selector.now c.args.span c.args.scope.now.time c.args.at.ranges c.lemma_is_range.ensures.tree
    g.R.Ranges.keeps c.args.scope.now.step (kept_by (g.R.Ranges.last c.args.ranges.now) (g.R.Ranges.passed c.args.ranges.now)) (kept_by (g.R.Ranges.last c.over_chosen.new.ranges) (g.R.Ranges.passed c.over_chosen.new.ranges))
    (g.R.Ranges.fits c.over_chosen.new.ranges history) c.args.reads.now c.over_chosen.new.reads c.over_chosen.result
    (c.over_chosen.ensures.reads history each) (c.over_chosen.ensures.fits history each) (c.over_chosen.ensures.asked history each) (c.over_chosen.ensures.until history each)
