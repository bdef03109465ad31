-- A reload: the groups of the files that it names, which continue those of before.
use Rattle.std.specs.Prelude.{ℕ, Bool, true, false, not, ◌&&◌, List, ◌++◌, map, filter, flat_map, find, length, sum_by, Option, Some, None}
use Rattle.std.specs.List.{list_any, zip}
use Rattle.std.specs.Str.{bytes_eq}
use Rattle.pr_ast.specs.pr_labels.declared.pair.Pair.{Pair}
use Rattle.pr_ast.specs.pr_labels.Order.{labels_eq}
use Rattle.spec_alerts.specs.spec_history.declared.entry.Entry.{Entry}
use Rattle.spec_alerts.specs.spec_history.Puts.{marker}
use Rattle.spec_meaning.specs.spec_vectors.Vectors.{in_label_order}
use Rattle.spec_alerts.specs.Lineage.{previous}
use Rattle.spec_rules.specs.Definitions.{Group as Definition, Rule}
use Rattle.spec_rules.specs.Groups.{Group, RuleState, fresh, fresh_rule, is_group_named, rules_of}
use Rattle.spec_rules.specs.Taking.{taken, untaken}

-- Rules

abbrev pub same_kind : Bool → Bool → Bool
same_kind true b = b
same_kind false b = not b

-- a rule continues one of its kind with its name and its labels
abbrev pub continues : Rule → RuleState → Bool
continues rule old = same_kind rule.alert old.rule.alert && (bytes_eq rule.name old.rule.name && labels_eq rule.labels old.rule.labels)

abbrev pub continued_rule : Rule → Option RuleState → RuleState
continued_rule rule (Some old) = record { rule = rule; lineage = old.lineage }
continued_rule rule None = fresh_rule rule

-- The new rules: each, in order, continues the first old one that it can and that none before it
-- continues.
abbrev pub continued_rules : List Rule → List RuleState → List RuleState
continued_rules rules olds = map (λ p. continued_rule p.0 p.1) (zip rules (taken continues rules olds))

-- the old ones that none continues
abbrev pub unused_rules : List Rule → List RuleState → List RuleState
unused_rules rules olds = untaken continues rules olds

-- Groups

-- what rules wrote last, and what was left over before, in label order, each series once
abbrev pub left_by : List (List Pair) → List RuleState → List (List Pair)
left_by leftovers rules = in_label_order (leftovers ++ flat_map (λ r. previous r.lineage) rules)

abbrev pub remains : Group → List (List Pair)
remains g = left_by g.leftovers g.rules

-- A group continues an old one: its last evaluation, its waiting, and the rules that match. What
-- the others wrote is left over.
abbrev pub carried : Group → Group → Group
carried new old = record {
  file = new.file;
  name = new.name;
  interval = new.interval;
  limit = new.limit;
  rules = continued_rules (rules_of new) old.rules;
  last = old.last;
  waits = old.waits;
  leftovers = left_by old.leftovers (unused_rules (rules_of new) old.rules);
}

abbrev pub continued_by : Group → Option Group → Group
continued_by new (Some old) = carried new old
continued_by new None = new

abbrev pub continued : List Group → Group → Group
continued olds new = continued_by new (find (is_group_named new.file new.name) olds)

-- the old groups that no new one continues
abbrev pub is_gone : List Group → Group → Bool
is_gone news old = not (list_any (is_group_named old.file old.name) news)

abbrev pub gone_groups : List Group → List Group → List Group
gone_groups olds news = filter (is_gone news) olds

-- a file that was named so, with the groups that it defines
pub record LoadedFile : Type 0 where
  pub name : List ℕ
  pub groups : List Definition

-- A new group waits for two evaluations in the first reload after a start, and else for none.
abbrev pub waits_at_first : Bool → ℕ
waits_at_first true = 0
waits_at_first false = 2

abbrev pub fresh_groups : Bool → List LoadedFile → List Group
fresh_groups reloaded files = flat_map (λ f. map (fresh (waits_at_first reloaded) f.name) f.groups) files

-- what a reload comes to: the groups after it, and the entries that it puts, in order, which are
-- markers
pub record ReloadStep : Type 0 where
  pub groups : List Group
  pub entries : List Entry

abbrev pub reload_by : List Group → ℕ → List Group → ReloadStep
reload_by olds now news = record {
  groups = map (continued olds) news;
  entries = map (marker now) (flat_map remains (gone_groups olds news));
}

-- whether a reload was accepted before, the groups of before, the time, and the files in order
unfoldable pub reload_step : Bool → List Group → ℕ → List LoadedFile → ReloadStep
reload_step reloaded olds now files = reload_by olds now (fresh_groups reloaded files)

-- how many rules the groups have
abbrev pub rules_in : List Group → ℕ
rules_in groups = sum_by (λ g. length g.rules) groups
