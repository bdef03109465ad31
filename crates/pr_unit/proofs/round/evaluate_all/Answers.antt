use Rattle.std.proofs.Common.{◌≡◌, length, ◌∙◌, arith}
use Rattle.pr_unit.proofs.Lists.{there_within}
use Rattle.pr_unit.proofs.Rounds.{as_many, next_round, next_stands, whole_round, whole_stands, world_of}
use Rattle.pr_unit.proofs.round.evaluate_all.Goals as goal

pub groups-preserved : goal.groups-preserved
groups-preserved g c = record {
  stands = λ s w gs apart h start.
      let n = c.groups.number in
      let stands = c.groups.invariant.stands s w gs apart h start in
      let in_round = c.groups.invariant.round s w gs apart h start in
      let many : length c.args.groups.now.items ≡ length gs = as_many g.R.Ranges.fits g.R.Ranges.last g.R.Ranges.passed c.args.head.now c.args.groups.now.items s w gs c.args.time 0 h start in
      let x = there_within gs n (omega (arith, c.groups-test.true, c.len-number-end.ensures, c.args.groups.now.ok.0)) in
      next_stands g.R.Ranges.fits g.R.Ranges.last g.R.Ranges.passed c.evaluate_at.new.head c.evaluate_at.new.groups.items s w gs c.args.time n x.element x.there
      (c.in_ok-evaluate_at.ensures.stands s (world_of s w gs c.args.time n) gs x.element apart x.there stands in_round);
  round = λ s w gs apart h start.
      let n = c.groups.number in
      let many : length c.args.groups.now.items ≡ length gs = as_many g.R.Ranges.fits g.R.Ranges.last g.R.Ranges.passed c.args.head.now c.args.groups.now.items s w gs c.args.time 0 h start in
      let x = there_within gs n (omega (arith, c.groups-test.true, c.len-number-end.ensures, c.args.groups.now.ok.0)) in
      next_round s w gs c.args.time n x.element apart x.there (c.groups.invariant.round s w gs apart h start);
  many = c.in_ok-evaluate_at.ensures.many ∙ c.groups.invariant.many;
}

pub returns-clause-stands : goal.returns-clause-stands
returns-clause-stands g c = λ s w gs apart h start.
    let n = c.groups.number in
    let many : length c.args.groups.now.items ≡ length gs = as_many g.R.Ranges.fits g.R.Ranges.last g.R.Ranges.passed c.args.head.now c.args.groups.now.items s w gs c.args.time 0 h start in
    whole_stands g.R.Ranges.fits g.R.Ranges.last g.R.Ranges.passed c.groups.head c.groups.groups.items s w gs c.args.time n
    (omega (arith, c.groups-test.false, c.len-number-end.ensures, c.args.groups.now.ok.0)) (c.groups.invariant.stands s w gs apart h start)

pub returns-clause-round : goal.returns-clause-round
returns-clause-round g c = λ s w gs apart h start.
    let n = c.groups.number in
    let many : length c.args.groups.now.items ≡ length gs = as_many g.R.Ranges.fits g.R.Ranges.last g.R.Ranges.passed c.args.head.now c.args.groups.now.items s w gs c.args.time 0 h start in
    whole_round s w gs c.args.time n (omega (arith, c.groups-test.false, c.groups.auto.number-end, c.len-number-end.ensures, c.args.groups.now.ok.0)) (c.groups.invariant.round s w gs apart h start)
