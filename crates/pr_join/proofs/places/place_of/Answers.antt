use Rattle.std.proofs.Common.{None, Some}
use Rattle.pr_join.proofs.LeastShared.{place_found, place_only}
use Rattle.pr_join.proofs.places.place_of.Goals as goal

pub returns-in-Some-clause-found : goal.returns-in-Some-clause-found
returns-in-Some-clause-found c =
    place_found c.args.how.now c.args.side.now c.args.places.now c.requires.places c.requires.unshared c.args.key.now (Some c.in-Some.place.now) c.in-Some.ensures.value

pub returns-in-Some-clause-only : goal.returns-in-Some-clause-only
returns-in-Some-clause-only c =
    place_only c.args.how.now c.args.side.now c.args.places.now c.requires.places c.requires.unshared c.args.key.now c.in-Some.place.now c.in-Some.ensures.value

pub returns-in-None-clause-found : goal.returns-in-None-clause-found
returns-in-None-clause-found c =
    place_found c.args.how.now c.args.side.now c.args.places.now c.requires.places c.requires.unshared c.args.key.now None c.in-None.ensures.value
