use Rattle.std.proofs.Common.{refl}
use Rattle.pr_match.proofs.Computing.{computing}
use Rattle.pr_match.proofs.laws.patterns_by_example.Goals as goal

pub returns-clause-side : goal.returns-clause-side
unfolding computing
returns-clause-side c = refl

pub returns-clause-sides : goal.returns-clause-sides
unfolding computing
returns-clause-sides c = refl

pub returns-clause-part : goal.returns-clause-part
unfolding computing
returns-clause-part c = refl

pub returns-clause-empty : goal.returns-clause-empty
unfolding computing
returns-clause-empty c = refl

pub returns-clause-template : goal.returns-clause-template
unfolding computing
returns-clause-template c = refl

pub returns-clause-no_match : goal.returns-clause-no_match
unfolding computing
returns-clause-no_match c = refl

pub returns-clause-pattern : goal.returns-clause-pattern
unfolding computing
returns-clause-pattern c = refl

pub returns-clause-open_group : goal.returns-clause-open_group
unfolding computing
returns-clause-open_group c = refl

pub returns-clause-only_anchored : goal.returns-clause-only_anchored
unfolding computing
returns-clause-only_anchored c = refl

pub returns-clause-only_alone : goal.returns-clause-only_alone
unfolding computing
returns-clause-only_alone c = refl

pub returns-clause-anchored_reads : goal.returns-clause-anchored_reads
unfolding computing
returns-clause-anchored_reads c = refl

pub returns-clause-alone_reads : goal.returns-clause-alone_reads
unfolding computing
returns-clause-alone_reads c = refl

pub returns-clause-last_line_feed : goal.returns-clause-last_line_feed
unfolding computing
returns-clause-last_line_feed c = refl
