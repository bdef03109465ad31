use Rattle.pr_expo.proofs.Faults.{bad_is_unread, broken_only, broken_reads, fault_reads, line_faults, place_is_bad}
use Rattle.pr_expo.proofs.expo_line.laws.faults_are_told_by_their_place.Goals as goal

pub returns-clause-unread : goal.returns-clause-unread
returns-clause-unread c = λ line kind read h u d. bad_is_unread line kind read h u d

pub returns-clause-fault : goal.returns-clause-fault
returns-clause-fault c = λ line kind h. line_faults line kind h

pub returns-clause-only : goal.returns-clause-only
returns-clause-only c = λ line kind h. fault_reads line kind h

pub returns-clause-place : goal.returns-clause-place
returns-clause-place c = λ line front stop h. place_is_bad line front stop h

pub returns-clause-broken : goal.returns-clause-broken
returns-clause-broken c = λ line n b. broken_reads line n b

pub returns-clause-broken_only : goal.returns-clause-broken_only
returns-clause-broken_only c = λ line h. broken_only line h
