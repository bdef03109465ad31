-- What is wrong with the groups of a file, and the groups that they are.
use Rattle.std.specs.Prelude.{ℕ, Bool, false, ◌||◌, is_some, List, [], ◌∷◌, ◌++◌, codes, Option, Some, None, unwrap_or, if◌then◌else◌}
use Rattle.std.specs.List.{flat_map, filter_map, list_any}
use Rattle.std.specs.Str.{bytes_eq}
use Rattle.pr_yaml.specs.Tree.{Tree, EntryTree}
use Rattle.pr_rulefile.specs.declared.fields.problem.Problem.{Problem}
use Rattle.pr_rulefile.specs.declared.fields.problem.ProblemKind.TheVariants.{UnknownField, Missing, DuplicateGroup}
use Rattle.pr_rulefile.specs.Nodes.{line_of, text_of, items_of, items_in, fields_of, fields_in, field, written, text_or_empty, items_under}
use Rattle.pr_rulefile.specs.Problems.{problem, by_items, by_fields, unless_absent}
use Rattle.pr_rulefile.specs.Scalars.{text_problems, span_problems, limit_problems, span_under, limit_under}
use Rattle.pr_rulefile.specs.Labels.{labels_problems}
use Rattle.pr_rulefile.specs.declared.keys.GroupField.{GroupField}
use Rattle.pr_rulefile.specs.declared.keys.GroupField.TheVariants.{Name, Interval, Limit, Labels, Rules}
use Rattle.pr_rulefile.specs.Fields.{group_field}
use Rattle.pr_rulefile.specs.Rules.{rule_problems, rule_of}
use Rattle.spec_rules.specs.Definitions.{Rule, Group}

-- the name of a group, where it has one that is a text
abbrev pub name_in : Option Tree → Option (List ℕ)
name_in None = None
name_in (Some t) = text_of t

unfoldable pub group_name : List EntryTree → Option (List ℕ)
group_name es = name_in (written (codes "name") es)

-- which names the groups have that stand before: none at first, and then also that of one more
abbrev pub no_name : List ℕ → Bool
no_name name = false

abbrev pub and_name : (List ℕ → Bool) → Option (List ℕ) → List ℕ → Bool
and_name before None = before
and_name before (Some name) = λ other. before other || bytes_eq name other

-- The name of a group has to be there, and to differ from those of the groups before it.
abbrev pub by_name : (List ℕ → Bool) → ℕ → Option (List ℕ) → List Problem
by_name before line (Some name) = if before name then problem line (DuplicateGroup name) ∷ [] else []
by_name before line None = []

unfoldable pub group_name_problems : (List ℕ → Bool) → ℕ → Option Tree → List Problem
group_name_problems before line None = problem line (Missing (codes "name")) ∷ []
group_name_problems before line (Some t) = by_name before (line_of t) (text_of t)

-- whether a rule is an alert, and whether a group has one: then the group's labels are templates
-- too
unfoldable pub is_alert_rule : Tree → Bool
is_alert_rule t = is_some (written (codes "alert") (fields_in t))

unfoldable pub has_alerts : List EntryTree → Bool
has_alerts es = list_any is_alert_rule (items_under (field (codes "rules") es))

-- what is wrong with the value of a field that is there
unfoldable pub group_value_problems : Bool → Tree → GroupField → List Problem
group_value_problems alerts t Name = text_problems t
group_value_problems alerts t Interval = span_problems t
group_value_problems alerts t Limit = limit_problems t
group_value_problems alerts t Labels = labels_problems alerts t
group_value_problems alerts t Rules = by_items (flat_map rule_problems) (line_of t) (items_of t)

abbrev pub by_group_field : Bool → EntryTree → Option GroupField → List Problem
by_group_field alerts e None = problem e.line (UnknownField e.key) ∷ []
by_group_field alerts e (Some f) = unless_absent e.value (group_value_problems alerts e.value f)

unfoldable pub group_field_problems : Bool → EntryTree → List Problem
group_field_problems alerts e = by_group_field alerts e (group_field e.key)

-- What is wrong with a group that has these fields and stands after groups with these names: with
-- its name, and with its fields one after the other.
unfoldable pub group_in_problems : (List ℕ → Bool) → ℕ → List EntryTree → List Problem
group_in_problems before line es =
    group_name_problems before line (written (codes "name") es) ++ flat_map (group_field_problems (has_alerts es)) es

unfoldable pub group_problems : (List ℕ → Bool) → Tree → List Problem
group_problems before t = by_fields (group_in_problems before (line_of t)) (line_of t) (fields_of t)

-- the name of a node that is a group
unfoldable pub name_of : Tree → Option (List ℕ)
name_of t = group_name (fields_in t)

unfoldable pub groups_problems : (List ℕ → Bool) → List Tree → List Problem
groups_problems before [] = []
groups_problems before (t ∷ ts) = group_problems before t ++ groups_problems (and_name before (name_of t)) ts

-- the rules that stand under a field of a group, which is that of the rules
abbrev pub rules_by : List EntryTree → Tree → Option GroupField → List Rule
rules_by group t (Some Rules) = filter_map (rule_of group) (items_in t)
rules_by group t _ = []

unfoldable pub rules_under : List EntryTree → EntryTree → List Rule
rules_under group e = rules_by group e.value (group_field e.key)

-- The group of these fields. A limit that is not told is 0.
unfoldable pub group_in : List EntryTree → Group
group_in es = record {
  name = text_or_empty (written (codes "name") es);
  interval = span_under (field (codes "interval") es);
  limit = unwrap_or (limit_under (field (codes "limit") es)) 0;
  rules = flat_map (rules_under es) es;
}

abbrev pub group_by : Option (List EntryTree) → Option Group
group_by (Some es) = Some (group_in es)
group_by None = None

unfoldable pub group_of : Tree → Option Group
group_of t = group_by (fields_of t)
