-- How far samples are passed by an evaluation of a group, so that they are not read again.
use Rattle.std.specs.Prelude.{◌≡◌, ℕ, ◌+◌, ◌≤◌, true, List, [], ◌∷◌, IfOk}
use Rattle.pr_ast.specs.pr_labels.declared.pair.Pair.{Pair}
use Rattle.pr_ast.specs.pr_labels.Rising.{is_among}
use Rattle.pr_ast.specs.Tree.{Tree, number, text, select, range, sub, neg, binary, call, aggregate, none, more}
use Rattle.spec_meaning.specs.pr_types.private.Numbers.{ranges_in}
use Rattle.spec_alerts.specs.spec_history.declared.entry.Entry.{Entry}
use Rattle.spec_alerts.specs.spec_history.private.Laws.{entries_until}
use Rattle.spec_meaning.specs.private.Cost.{PassedFor}
use Rattle.spec_meaning.specs.Selection.{chosen_by, moment_of}
use Rattle.spec_rules.specs.private.Costs.{PassedByRules}
use Rattle.spec_rules.specs.Evaluations.{RulesProgress, begun, one_rule, rule_outcome}
use Rattle.spec_rules.specs.Groups.{Group, RuleState}
use Rattle.spec_rules.specs.Settings.{Settings}

-- what was passed stays passed
abbrev pub NoneFalls : PassedFor → PassedFor → Type 0
NoneFalls u later = (k : ℕ) (labels : List Pair) → u k labels ≤ later k labels

-- Of each series that is chosen for a range selector outside subqueries as many entries were passed
-- as stand up to the end of its range. The first range selector has the number `node`.
abbrev pub ArePassed : List Entry → PassedFor → Tree → ℕ → ℕ → Type 0
ArePassed history u (range p s d) node time =
    (labels : List Pair) → is_among labels (chosen_by s history) ≡ true → u node labels ≡ entries_until history labels (moment_of s time)
ArePassed history u (sub p t d i o) node time = Unit {0}
ArePassed history u (neg p t) node time = ArePassed history u t node time
ArePassed history u (binary p o b m l r) node time = ArePassed history u l node time × ArePassed history u r (node + ranges_in l) time
ArePassed history u (call p f ts) node time = ArePassed history u ts node time
ArePassed history u (aggregate p o g ts) node time = ArePassed history u ts node time
ArePassed history u (more ts t) node time = ArePassed history u ts node time × ArePassed history u t (node + ranges_in ts) time
ArePassed history u (select p s) node time = Unit {0}
ArePassed history u (number p v) node time = Unit {0}
ArePassed history u (text p t) node time = Unit {0}
ArePassed history u none node time = Unit {0}

-- A rule that comes to a result has passed all that stood up to its ranges' ends, before its own
-- samples were put. After a fault as much was passed as before, or more.
pub record IsPassedByRule (s : Settings) (g : Group) (r : RuleState) (history : List Entry) (now : ℕ) (u later : PassedFor) : Type 0 where
  pub none_falls : NoneFalls u later
  pub fine : IfOk (rule_outcome s g r history now) (λ founds. ArePassed history later r.rule.expr 0 now)

-- each rule over the history as it then stands
abbrev pub ArePassedByRules : Settings → Group → ℕ → PassedByRules → PassedByRules → ℕ → List RuleState → RulesProgress → Type 0
ArePassedByRules s g now u later i [] p = Unit {0}
ArePassedByRules s g now u later i (r ∷ rules) p =
    IsPassedByRule s g r p.history now (u i) (later i) × ArePassedByRules s g now u later (i + 1) rules (one_rule s g now p r)

-- what was passed before and after an evaluation of a group
abbrev pub IsPassedAfter : Settings → Group → List Entry → ℕ → PassedByRules → PassedByRules → Type 0
IsPassedAfter s g history now u later = ArePassedByRules s g now u later 0 g.rules (begun history)
