use Rattle.pr_head.proofs.Newest.{count_is, sample_is}
use Rattle.pr_head.proofs.laws.places_are_those_of_the_history.Goals as goal

pub returns-clause-count : goal.returns-clause-count
returns-clause-count c = λ head history i e holds at. count_is history e.0 e.1 (holds.each i e at)

pub returns-clause-sample : goal.returns-clause-sample
returns-clause-sample c = λ head history i place e holds at. sample_is history e.0 e.1 place (holds.each i e at)
