use Rattle.pr_head.proofs.Newest.{newest_is_shown}
use Rattle.pr_head.proofs.laws.the_newest_sample_is_what_is_shown.Goals as goal

pub returns : goal.returns
returns c = λ head history x y i e lawful holds whole past at. newest_is_shown history x y e.0 e.1 lawful (holds.each i e at) (whole i e at) past
