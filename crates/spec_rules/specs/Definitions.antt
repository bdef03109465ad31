-- Rules and groups of rules, as they are written.
use Rattle.std.specs.Prelude.{ℕ, Bool, true, false, List, codes, Option, length, map, sum, IsSome, All}
use Rattle.pr_ast.specs.Tree.{Tree as Expression, tree_of}
use Rattle.pr_ast.specs.pr_labels.declared.pair.Pair.{Pair}
use Rattle.spec_rules.specs.declared.definitions.RuleDef.{RuleDef}
use Rattle.spec_rules.specs.declared.definitions.GroupDef.{GroupDef}
use Rattle.pr_tmpl.specs.TemplateReading.{template_parts}

-- A rule, with the tree of its expression: what it records, or the alert that it is; for how long an
-- alert has to be active before it fires (`hold`), and is kept firing after it went missing (`keep`),
-- in milliseconds; and the annotations of an alert (`notes`).
pub record Rule : Type 0 where
  pub name : List ℕ
  pub alert : Bool
  pub expr : Expression
  pub labels : List Pair
  pub hold : ℕ
  pub keep : ℕ
  pub notes : List Pair

abbrev pub rule_of_def : RuleDef → Rule
rule_of_def d = record { name = d.name; alert = d.alert; expr = tree_of d.expr; labels = d.labels; hold = d.hold; keep = d.keep; notes = d.notes }

-- the alert where it is one, and else what it records
abbrev pub name_key : Bool → List ℕ
name_key true = codes "alert"
name_key false = codes "record"

-- each value is a template
abbrev pub AreTemplates : List Pair → Type 0
AreTemplates pairs = All (λ p. IsSome (template_parts p.value)) pairs

-- A group, with the trees of its rules' expressions.
pub record Group : Type 0 where
  pub name : List ℕ
  pub interval : Option ℕ
  pub limit : ℕ
  pub rules : List Rule

-- how many rules the groups have
abbrev pub rule_count : List Group → ℕ
rule_count groups = sum (map (λ g. length g.rules) groups)

abbrev pub group_of_def : GroupDef → Group
group_of_def d = record { name = d.name; interval = d.interval; limit = d.limit; rules = map rule_of_def d.rules }
