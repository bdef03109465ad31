use Rattle.std.proofs.Common.{◌<◌, ◌≤◌, length, refl, ◌∙◌, arith}
use Rattle.pr_backfill.proofs.Filling.{filled_all, filled_none, filled_one}
use Rattle.pr_backfill.proofs.round.evaluate_all.Goals as goal

pub groups-init : goal.groups-init
groups-init g c = record {
  filled = λ s history gs each may after.
      filled_none g.R.Ranges.fits g.R.Ranges.last g.R.Ranges.passed s c.args.time history gs c.args.head.now c.args.groups.now.items _ c.new-told.ensures.items each may after;
  many = refl;
}

pub groups-preserved : goal.groups-preserved
groups-preserved g c = record {
  filled = λ s history gs each may after.
      let at = c.groups in
      let within : at.place < length at.groups.items = omega (arith, at.invariant.many, c.groups-test.true, c.len-place-end.ensures, c.args.groups.now.ok.0) in
      filled_one g.R.Ranges.fits g.R.Ranges.last g.R.Ranges.passed c.a_kept_group_stays.ensures.keeps s c.args.time history gs c.args.head.now at.head c.evaluate_at.new.head at.groups.items c.evaluate_at.new.groups.items
      at.told.items c.push.new.self.items at.place c.in_ok-evaluate_at.field-0 within (λ h k it here under ready later. c.in_ok-evaluate_at.ensures.step s h k it here under ready later) c.in_ok-push.ensures.items may (at.invariant.filled s history gs each may after);
  many = c.in_ok-evaluate_at.ensures.many ∙ c.groups.invariant.many;
}

pub returns-clause-told : goal.returns-clause-told
returns-clause-told g c = λ s history gs each may after.
    let over : length c.groups.groups.items ≤ c.groups.place = omega (arith, c.groups.invariant.many, c.groups-test.false, c.len-place-end.ensures, c.args.groups.now.ok.0) in
    (filled_all g.R.Ranges.fits g.R.Ranges.last g.R.Ranges.passed s c.args.time history gs c.args.head.now c.groups.head c.groups.groups.items c.groups.told.items c.groups.place over
    (c.groups.invariant.filled s history gs each may after)).tells

pub returns-clause-keeps : goal.returns-clause-keeps
returns-clause-keeps g c = λ s history gs each may after.
    let over : length c.groups.groups.items ≤ c.groups.place = omega (arith, c.groups.invariant.many, c.groups-test.false, c.len-place-end.ensures, c.args.groups.now.ok.0) in
    (filled_all g.R.Ranges.fits g.R.Ranges.last g.R.Ranges.passed s c.args.time history gs c.args.head.now c.groups.head c.groups.groups.items c.groups.told.items c.groups.place over
    (c.groups.invariant.filled s history gs each may after)).each

pub returns-clause-head : goal.returns-clause-head
returns-clause-head g c = λ s history gs each may after.
    let over : length c.groups.groups.items ≤ c.groups.place = omega (arith, c.groups.invariant.many, c.groups-test.false, c.len-place-end.ensures, c.args.groups.now.ok.0) in
    (filled_all g.R.Ranges.fits g.R.Ranges.last g.R.Ranges.passed s c.args.time history gs c.args.head.now c.groups.head c.groups.groups.items c.groups.told.items c.groups.place over
    (c.groups.invariant.filled s history gs each may after)).head
