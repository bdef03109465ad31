use Rattle.pr_slide.proofs.Folded.{none_within, take_one}
use Rattle.pr_slide.proofs.kept.push_item.Goals as goal

pub returns-in_ok-push-in-Some-clause-items : goal.returns-in_ok-push-in-Some-clause-items
returns-in_ok-push-in-Some-clause-items g c = take_one c.args.window.now.items c.args.spots.now.items c.push.new.self.items c.args.place c.in-Some.spot.now c.in-Some.ensures c.in_ok-push-in-Some.ensures.items

pub returns-in-None-clause-items : goal.returns-in-None-clause-items
returns-in-None-clause-items g c = none_within c.args.window.now.items c.args.place c.in-None.ensures c.requires
