use Rattle.std.proofs.Common.{◌≡◌, [], arith}
use Rattle.pr_manager.specs.private.Naming.{value_of}
use Rattle.pr_manager.proofs.Continued.{going_end, going_then}
use Rattle.pr_manager.proofs.Loaded.{empty}
use Rattle.pr_manager.proofs.continuing.go_on.Goals as goal

pub loop-new-preserved : goal.loop-new-preserved
loop-new-preserved g c =
    going_then g.R.Ranges.fits g.R.Ranges.last g.R.Ranges.passed (value_of c.args.waiting.now) (value_of c.loop-new.waiting) (value_of c.go_on_one.new.waiting) c.loop-new.new-iterator.rest.items
    c.next.new.self.rest.items c.args.news.items c.loop-new.done.items c.push.new.self.items c.in-Some.new c.in_ok-go_on_one.field-0 c.in-Some.ensures.steps.0 c.in_ok-push.ensures.items c.in_ok-go_on_one.ensures.goes
    c.in_ok-go_on_one.ensures.others c.loop-new.invariant

pub returns : goal.returns
returns g c =
    let none : c.loop-new.new-iterator.rest.items ≡ [] =
    empty c.loop-new.new-iterator.rest.items (let fit = c.loop-new.new-iterator.rest.ok.0 in let few = c.in-None.ensures.steps.0 in omega (arith, fit, few)) in
    going_end g.R.Ranges.fits g.R.Ranges.last g.R.Ranges.passed (value_of c.args.waiting.now) (value_of c.loop-new.waiting) c.loop-new.new-iterator.rest.items c.args.news.items c.loop-new.done.items none c.loop-new.invariant
