use Rattle.std.proofs.Common.{◌≡◌, take}
use Rattle.pr_rule.specs.spec_rules.private.Carried.{same_use}
use Rattle.pr_rule.specs.spec_rules.private.Laws.{numbered, numbers_taken}
use Rattle.pr_rule.specs.spec_rules.Taking.{untaken}
use Rattle.pr_group.specs.private.Waiting.{AreWaiting, key_of}
use Rattle.pr_group.proofs.continued.choosing.continued.Given as goal

-- what those so far take, and the others wait
abbrev pub invariant-loop-source : goal.invariant-loop-source
invariant-loop-source l = record {
  taken : l.numbers.items ≡ numbers_taken same_use (take l.source-index l.new) l.old;
  waiting : AreWaiting key_of l.waiting (untaken (λ a n. same_use a n.item) (take l.source-index l.new) (numbered l.old));
}
