use Rattle.std.proofs.Common.{◌≡◌, take}
use Rattle.pr_rule.specs.spec_rules.private.Laws.{numbered, numbers_taken}
use Rattle.pr_rule.specs.spec_rules.Taking.{untaken}
use Rattle.pr_group.specs.private.Waiting.{AreWaiting}
use Rattle.pr_group.specs.private.Matching.{continues_def, key_of}
use Rattle.pr_group.proofs.matching.continued_numbers.Given as goal

-- what those so far take, and the others wait
abbrev pub invariant-loop-rule : goal.invariant-loop-rule
invariant-loop-rule l = record {
  taken : l.numbers.items ≡ numbers_taken continues_def (take l.rule-index l.new) l.old;
  waiting : AreWaiting key_of l.waiting (untaken (λ a n. continues_def a n.item) (take l.rule-index l.new) (numbered l.old));
}
