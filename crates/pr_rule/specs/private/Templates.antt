-- The templates of a rule: the values of its labels and annotations, read once.
use Rattle.std.specs.Prelude.{◌≡◌, true, List, All, map, Some}
use Rattle.std.specs.List.{AllZip}
use Rattle.pr_ast.specs.pr_num.declared.value.Num.{Num}
use Rattle.pr_labels.specs.declared.item.Item.{Item}
use Rattle.pr_labels.specs.declared.pair.Pair.{Pair}
use Rattle.pr_labels.specs.LabelSet.{pair_of}
use Rattle.spec_rules.specs.pr_tmpl.declared.template.External.{External}
use Rattle.spec_rules.specs.pr_tmpl.Expansion.{expansion}
use Rattle.spec_rules.specs.pr_tmpl.TemplateReading.{template_parts}
use Rattle.spec_rules.specs.Definitions.{AreTemplates, Rule, rule_of_def}
use Rattle.spec_rules.specs.declared.definitions.GroupDef.{GroupDef}
use Rattle.pr_rule.specs.declared.rule_result.templates.NamedTemplate.{NamedTemplate}
use Rattle.pr_rule.specs.declared.rule_result.templates.RuleTemplates.{RuleTemplates}

-- the pair's value is this template, which has its name
pub record IsTemplateOf (template : NamedTemplate) (pair : Pair) : Type 0 where
  pub named : template.name ≡ pair.name
  pub parts : template_parts pair.value ≡ Some template.template

-- so of each of them, one after the other
abbrev pub AreTemplatesOf : List NamedTemplate → List Pair → Type 0
AreTemplatesOf templates pairs = AllZip IsTemplateOf templates pairs

-- what templates expand to with their names, which see the element as its expression gives it
abbrev pub expanded_pair_by : External → Item Num → NamedTemplate → Pair
expanded_pair_by external e t = pair_of t.name (expansion e.labels e.value external t.template)

abbrev pub all_expanded_by : External → Item Num → List NamedTemplate → List Pair
all_expanded_by external e templates = map (expanded_pair_by external e) templates

-- The templates are those of the rule, where it is an alert.
pub record IsTemplatesOf (templates : RuleTemplates) (rule : Rule) : Type 0 where
  pub labels : rule.alert ≡ true → AreTemplatesOf templates.labels rule.labels
  pub notes : rule.alert ≡ true → AreTemplatesOf templates.notes rule.notes

-- The labels and annotations of an alert are templates. Of a rule that records nothing is said.
abbrev pub HasTemplates : Rule → Type 0
HasTemplates rule = rule.alert ≡ true → AreTemplates rule.labels × AreTemplates rule.notes

-- so of each rule of a group
abbrev pub HaveTemplates : GroupDef → Type 0
HaveTemplates group = All (λ r. HasTemplates (rule_of_def r)) group.rules
