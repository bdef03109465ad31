-- Groups of rules, with what happened to each rule.
use Rattle.std.specs.Prelude.{ℕ, Bool, ◌&&◌, List, [], map, Option, None, unwrap_or}
use Rattle.std.specs.Str.{bytes_eq}
use Rattle.pr_ast.specs.pr_labels.declared.pair.Pair.{Pair}
use Rattle.spec_alerts.specs.Lineage.{Occurrence}
use Rattle.spec_rules.specs.Definitions.{Group as Definition, Rule}

-- a rule, and its lineage
pub record RuleState : Type 0 where
  pub rule : Rule
  pub lineage : List Occurrence

-- A group of the file that was named so, as it was defined; its last evaluation; for how many
-- evaluations more its alerts wait to be restored; and the series that a reload left over, which
-- the next evaluation marks.
pub record Group : Type 0 where
  pub file : List ℕ
  pub name : List ℕ
  pub interval : Option ℕ
  pub limit : ℕ
  pub rules : List RuleState
  pub last : Option ℕ
  pub waits : ℕ
  pub leftovers : List (List Pair)

abbrev pub rules_of : Group → List Rule
rules_of g = map (λ r. r.rule) g.rules

-- a group is known by its file and its name
abbrev pub is_group_named : List ℕ → List ℕ → Group → Bool
is_group_named file name g = bytes_eq g.file file && bytes_eq g.name name

-- a minute, where a group says nothing of how often it is evaluated
abbrev pub interval_of : Group → ℕ
interval_of g = unwrap_or g.interval 60000

-- a group that nothing has happened to
abbrev pub fresh_rule : Rule → RuleState
fresh_rule rule = record { rule = rule; lineage = [] }

abbrev pub fresh : ℕ → List ℕ → Definition → Group
fresh waits file d = record {
  file = file;
  name = d.name;
  interval = d.interval;
  limit = d.limit;
  rules = map fresh_rule d.rules;
  last = None;
  waits = waits;
  leftovers = [];
}
