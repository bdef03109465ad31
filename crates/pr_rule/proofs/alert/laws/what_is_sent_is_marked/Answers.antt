use Rattle.pr_rule.proofs.Sendings.{sent_of_records}
use Rattle.pr_rule.proofs.Sent.{marked_stand}
use Rattle.pr_rule.proofs.alert.laws.what_is_sent_is_marked.Goals as goal

pub returns-clause-sent : goal.returns-clause-sent
returns-clause-sent c = sent_of_records

pub returns-clause-marked : goal.returns-clause-marked
returns-clause-marked c = marked_stand
