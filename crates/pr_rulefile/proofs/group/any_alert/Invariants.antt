use Rattle.std.proofs.Common.{◌≡◌, map, length}
use Rattle.std.specs.List.{list_any}
use Rattle.pr_yaml.specs.Tree.{tree_of}
use Rattle.pr_rulefile.specs.Groups.{is_alert_rule}
use Rattle.pr_rulefile.proofs.group.any_alert.Given as goal

-- the items that are left have an alert where all have one
abbrev pub invariant-items : goal.invariant-items
invariant-items l = list_any is_alert_rule (map tree_of l.rest) ≡ list_any is_alert_rule (map tree_of l.items)

abbrev pub decreases-items : goal.decreases-items
decreases-items l = length l.rest
