use Rattle.pr_group.proofs.ReadyCarrying.{asks_carried}
use Rattle.pr_group.proofs.ready.asked.carried_asks_are_those_of_the_new.Goals as goal

pub returns : goal.returns
returns c = asks_carried
