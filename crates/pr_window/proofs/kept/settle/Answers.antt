use Rattle.std.proofs.Common.{◌≡◌, ◌-◌, ◌<◌, length, get_or, refl, sym, ap, ◌∙◌, arith}
use Rattle.std.proofs.lemmas.List.{get_or_default, length-set}
use Rattle.pr_window.specs.declared.held.Held.{Held}
use Rattle.pr_window.proofs.Settling.{items_kept, light_before, settle_start, step_before}
use Rattle.pr_window.proofs.kept.settle.Goals as goal

pub loop-at-init : goal.loop-at-init
loop-at-init g c = record {
  within = omega arith;
  items = refl;
  settling = settle_start g.M.Fold.lift g.M.Fold.combine c.args.held.now c.requires.own;
  steps = omega arith;
}

pub call-requires-clause-light : goal.call-requires-clause-light
call-requires-clause-light g c =
    let weight = g.M.Fold.weight in
    let held = c.loop-at.held in
    let h = c.index-held-at.result in
    let k = c.index-held-at-in-loop-at.result in
    let first : weight ((get_or held (c.loop-at.at - 1 - 1) h).summary) ≡ weight h.summary = ap (λ (e : Held g.row.T.Denot g.row.A.Denot). weight e.summary) (sym c.index-held-at.is) in
    let second : weight ((get_or held (c.loop-at.at - 1) k).summary) ≡ weight k.summary = ap (λ (e : Held g.row.T.Denot g.row.A.Denot). weight e.summary) (sym c.index-held-at-in-loop-at.is) in
    omega (arith, light_before g.M.Fold.lift g.M.Fold.combine weight g.M.Fold.lifted g.M.Fold.combined held c.loop-at.at h k c.loop-at-test.true c.loop-at.invariant.within c.index-held-at.is c.index-held-at-in-loop-at.is c.loop-at.invariant.settling)

pub loop-at-preserved : goal.loop-at-preserved
loop-at-preserved g c =
    let held = c.loop-at.held in
    let n = c.loop-at.at - 1 - 1 in
    let h = get_or held n c.index-held-at-in-loop-at-2.result in
    let k = get_or held (c.loop-at.at - 1) c.index-held-at-in-loop-at.result in
    let first : h ≡ get_or held n h = ap (λ (e : Held g.row.T.Denot g.row.A.Denot). get_or held n e) c.index-held-at-in-loop-at-2.is in
    let second : k ≡ get_or held (c.loop-at.at - 1) k = ap (λ (e : Held g.row.T.Denot g.row.A.Denot). get_or held (c.loop-at.at - 1) e) c.index-held-at-in-loop-at.is in
    let less : n < length held = omega arith in
    let summary : c.call.result ≡ g.M.Fold.combine h.summary k.summary =
    c.call.ensures.value ∙ ap (λ (e : Held g.row.T.Denot g.row.A.Denot). g.M.Fold.combine e.summary k.summary) (get_or_default held n c.index-held-at.result c.index-held-at-in-loop-at-2.result less) in
    record {
      within = omega (arith, length-set held n (record h { summary = c.call.result }));
      items = items_kept g.M.Fold.lift g.M.Fold.combine held n h c.call.result first ∙ c.loop-at.invariant.items;
      settling = step_before g.M.Fold.lift g.M.Fold.combine g.M.Fold.associative held c.loop-at.at h k c.call.result c.loop-at-test.true c.loop-at.invariant.within first second summary c.loop-at.invariant.settling;
      steps = omega (arith, length-set held n (record h { summary = c.call.result }));
    }
