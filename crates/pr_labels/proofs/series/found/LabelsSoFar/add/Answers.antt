use Rattle.std.proofs.Common.{arith}
use Rattle.std.specs.Result.{is_ok}
use Rattle.pr_labels.proofs.SeriesKnownNames.{known_pushed, known_more, pushed}
use Rattle.pr_labels.proofs.series.found.LabelsSoFar.add.Goals as goal

pub invariant_of-self : goal.invariant_of-self
invariant_of-self c = record {
  known = known_pushed 16 c.args.self.now.later c.args.self.now.pairs.items c.push.new.self.items c.args.pair (is_ok c.push.result) (omega arith) c.args.self.now.known c.push.ensures.items;
}

pub invariant_of-self-2 : goal.invariant_of-self-2
invariant_of-self-2 c = record {
  known = let ok = c.push-2.ensures.succeeds (omega (arith, c.in_ok-reserve.ensures.ok, c.in_ok-reserve.ensures.len)) in
      known_more 16 c.args.self.now.later c.insert.new.self c.args.name c.args.self.now.pairs.items c.push-2.new.self.items c.args.pair (omega arith) c.in_ok-insert.ensures.updates c.requires c.args.self.now.known
      (pushed c.args.self.now.pairs.items c.reserve.new.self.items c.push-2.new.self.items c.args.pair (is_ok c.push-2.result) ok c.in_ok-reserve.ensures.items c.push-2.ensures.items);
}
