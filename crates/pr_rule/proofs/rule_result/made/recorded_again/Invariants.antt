use Rattle.std.proofs.Common.{◌≡◌, ℕ, List, map, take}
use Rattle.pr_labels.specs.declared.pair.Pair.{Pair}
use Rattle.spec_rules.specs.Results.{sets_in}
use Rattle.pr_rule.specs.private.Making.{AreMade, recorded_under, sets_made}
use Rattle.pr_rule.proofs.rule_result.made.recorded_again.Given as goal

-- the first ones are recorded
abbrev pub invariant-loop-place : goal.invariant-loop-place
invariant-loop-place l = record {
  founds : (name : List ℕ) (labels : List Pair) → AreMade name labels l.made → l.founds.items ≡ map (recorded_under name labels) (take l.place l.items);
  sets : sets_in l.founds.items ≡ take l.place (sets_made l.made);
}
