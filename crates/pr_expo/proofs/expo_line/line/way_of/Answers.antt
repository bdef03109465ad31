use Rattle.std.proofs.Common.{sym, ◌∙◌}
use Rattle.pr_expo.proofs.RunSteps.{run_goes_on}
use Rattle.pr_expo.proofs.Ways.{goes_on, stops_at, comes_to}
use Rattle.pr_expo.proofs.expo_line.line.way_of.Goals as goal

pub loop-c-init : goal.loop-c-init
loop-c-init c = (c.in_ok-place.ensures.is_text, sym c.in_ok-place.ensures.leads)

pub loop-c-preserved : goal.loop-c-preserved
loop-c-preserved c =
    let held = c.loop-c.invariant in
    let stepped = goes_on _ _ c.in-Some.c _ c.in-Some.after.now _ held.0 c.in-Some.ensures.parts held.1 (sym c.in_ok-next.ensures ∙ c.in-Some-2.is) in
    run_goes_on _ _ c.in-Some.after.now _ _ _ _ stepped.0 c.run_len-len.ensures.boundary c.run_len-len.ensures.run c.split_at.ensures.front c.split_at.ensures.back stepped.1 c.in_ok-place-in-Some-2.ensures

pub returns-in-None : goal.returns-in-None
returns-in-None c =
    let held = c.loop-c.invariant in
    let none = sym c.in_ok-next.ensures ∙ c.in-None.is in
    stops_at _ _ c.in-Some.c _ c.in-Some.after.now _ held.0 c.in-Some.ensures.parts held.1 none (c.fault_before-kind.ensures none)

pub returns : goal.returns
returns c = comes_to _ _ _ c.in_default.ensures.parts c.loop-c.invariant.1
