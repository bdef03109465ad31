-- What the groups of a rule file have, and their rules.
use Rattle.std.specs.Prelude.{◌≡◌, ◌≢◌, ℕ, true, List, [], All, MatchBool, Ok}
use Rattle.pr_ast.specs.Tree.{Tree as Expression}
use Rattle.pr_labels.specs.Names.{is_metric_name}
use Rattle.pr_parse.specs.Parsed.{gives_tree, parsed}
use Rattle.pr_parse.specs.pr_types.declared.kind.ValueType.{ValueType}
use Rattle.pr_parse.specs.pr_types.Typed.{checked}
use Rattle.spec_rules.specs.Definitions.{Rule, Group}
use Rattle.pr_rulefile.specs.File.{rule_file_of, gives_file}

-- so of each group of each text that is a rule file
abbrev pub HoldsOfGroups : (Group → Type 0) → Type 0
HoldsOfGroups P = (text : List ℕ) (groups : List Group) → rule_file_of text ≡ gives_file groups → All P groups

-- and of each rule of each of them
abbrev pub HoldsOfRules : (Rule → Type 0) → Type 0
HoldsOfRules P = HoldsOfGroups (λ g. All P g.rules)

-- What is recorded is the name of a metric, and an alert has a name that is not empty.
abbrev pub IsNamed : Rule → Type 0
IsNamed r = MatchBool r.alert (r.name ≢ []) (is_metric_name r.name ≡ true)

-- The expression is that of a text, and has a type that an answer may have.
abbrev pub IsTyped : Expression → Type 0
IsTyped t = (text : List ℕ) × (type : ValueType) × (parsed text ≡ gives_tree t) × (checked t ≡ Ok type)
