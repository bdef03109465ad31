use Rattle.std.proofs.Common.{◌≡◌, drop, fold, []}
use Rattle.spec_rules.specs.spec_alerts.Records.{with_samples}
use Rattle.pr_rule.specs.private.Sampling.{items_of}
use Rattle.pr_rule.proofs.alert.samples.samples_of_all.Given as goal

-- the elements so far, and those to come
abbrev pub invariant-loop-r : goal.invariant-loop-r
invariant-loop-r l = fold with_samples (items_of l.items.entries) (drop l.r-index l.list) ≡ fold with_samples [] l.list
