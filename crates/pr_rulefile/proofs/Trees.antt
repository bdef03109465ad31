-- An absent value has neither rules nor groups.
use Rattle.std.proofs.Common.{◌≡◌, true, Some, List, [], refl, ap}
use Rattle.std.specs.List.{filter_map}
use Rattle.pr_yaml.specs.Tree.{Tree, EntryTree, is_absent}
use Rattle.pr_rulefile.specs.Nodes.{items_in}
use Rattle.pr_rulefile.proofs.FieldsTrees.{no_items}
use Rattle.pr_rulefile.specs.declared.keys.GroupField.{GroupField}
use Rattle.pr_rulefile.specs.declared.keys.GroupField.TheVariants.{Name, Interval, Limit, Labels, Rules}
use Rattle.pr_rulefile.specs.Rules.{rule_of}
use Rattle.pr_rulefile.specs.Groups.{rules_by, group_of}

pub no_rules : (group : List EntryTree) (t : Tree) (f : GroupField) → is_absent t ≡ true → rules_by group t (Some f) ≡ []
no_rules group t Name h = refl
no_rules group t Interval h = refl
no_rules group t Limit h = refl
no_rules group t Labels h = refl
no_rules group t Rules h = ap (filter_map (rule_of group)) (no_items t h)

pub no_groups : (t : Tree) → is_absent t ≡ true → filter_map group_of (items_in t) ≡ []
no_groups t h = ap (filter_map group_of) (no_items t h)
