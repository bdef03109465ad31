-- Words of laws and examples, which nothing of the promise names.
use Rattle.std.specs.Prelude.{ℕ, Bool, List, [], map, Option, ◌∷◌, ◌++◌, fold, ◌+◌}
use Rattle.spec_rules.specs.Definitions.{Group as Definition}
use Rattle.spec_rules.specs.Groups.{Group, rules_of}
use Rattle.spec_alerts.specs.spec_history.declared.entry.Entry.{Entry}
use Rattle.spec_alerts.specs.spec_history.Admission.{put_all}
use Rattle.spec_rules.specs.declared.report.GroupReport.{GroupReport}
use Rattle.spec_rules.specs.Evaluations.{GroupStep, group_step}
use Rattle.spec_rules.specs.Settings.{Settings}
use Rattle.pr_ast.specs.pr_labels.Rising.{IsRising}
use Rattle.spec_alerts.specs.declared.found.RuleElement.{RuleElement}
use Rattle.spec_rules.specs.Results.{sets_in}
use Rattle.std.specs.Option.{option_map}
use Rattle.spec_rules.specs.Taking.{taken}

abbrev pub definition_of : Group → Definition
definition_of g = record { name = g.name; interval = g.interval; limit = g.limit; rules = rules_of g }

-- How far it has come at a time: the history as it then stands, the groups that were evaluated, in
-- order, and what was told of them.
pub record Round : Type 0 where
  pub history : List Entry
  pub groups : List Group
  pub reports : List GroupReport

abbrev pub begun_round : List Entry → Round
begun_round history = record { history = history; groups = []; reports = [] }

abbrev pub after_group : Round → GroupStep → Round
after_group r step = record {
  history = put_all r.history step.entries;
  groups = r.groups ++ step.group ∷ [];
  reports = r.reports ++ step.report ∷ [];
}

abbrev pub one_group : Settings → ℕ → Round → Group → Round
one_group s now r g = after_group r (group_step s g r.history now)

-- all groups in order at a time, each over the history as it then stands
unfoldable pub round : Settings → List Group → List Entry → ℕ → Round
round s groups history now = fold (one_group s now) (begun_round history) groups

-- the label sets rise, so that none comes twice
abbrev pub FoundsRise : List RuleElement → Type 0
FoundsRise founds = IsRising (sets_in founds)

-- something with its number in a list, from 0
pub record Numbered (B : Type 0) : Type 0 where
  pub index : ℕ
  pub item : B

abbrev pub numbered_from : {B : Type 0} → ℕ → List B → List (Numbered B)
numbered_from i [] = []
numbered_from i (b ∷ bs) = record { index = i; item = b } ∷ numbered_from (i + 1) bs

abbrev pub numbered : {B : Type 0} → List B → List (Numbered B)
numbered bs = numbered_from 0 bs

-- the numbers of those that are taken
abbrev pub numbers_taken : {A B : Type 0} → (A → B → Bool) → List A → List B → List (Option ℕ)
numbers_taken may_take news olds = map (option_map (λ n. n.index)) (taken (λ a n. may_take a n.item) news (numbered olds))
