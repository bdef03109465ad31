use Rattle.std.proofs.Common.{◌≡◌, ℕ, ◌+◌, ◌≤◌, List, Option, drop, length}
use Rattle.pr_rule.specs.spec_history.declared.entry.Entry.{Entry}
use Rattle.pr_rule.specs.spec_rules.private.Costs.{rules_cost}
use Rattle.pr_rule.specs.spec_rules.Evaluations.{begun}
use Rattle.pr_rule.specs.spec_rules.Groups.{Group}
use Rattle.pr_rule.specs.spec_rules.Settings.{Settings}
use Rattle.pr_group.specs.private.Evaluating.{HasCome, MayEvaluateRules, come_to}
use Rattle.pr_group.specs.private.Keeping.{passed_of}
use Rattle.pr_group.proofs.rules.evaluate_rules.Given as goal

-- the first ones were evaluated
abbrev pub invariant-loop-index : goal.invariant-loop-index
invariant-loop-index g l = record {
  many : length l.rules.items ≡ length l.fn.rules.items;
  come : (s : Settings) (group : Group) (history : List Entry) (until : Option ℕ)
      → MayEvaluateRules g.R.Ranges.fits g.R.Ranges.last g.R.Ranges.passed l.at.step l.at.external.now l.at.limit l.at.interval l.at.waits s group l.fn.head history l.at.time until l.definitions l.fn.rules.items
      → HasCome g.R.Ranges.fits g.R.Ranges.last g.R.Ranges.passed g.R.Ranges.keeps l.at.tells s group history l.at.time l.definitions l.fn.rules.items l.rules.items l.fn.head l.head l.fn.rows.items l.rows.items l.told.items l.index (come_to s group history l.at.time l.index);
  reads : (s : Settings) (group : Group) (history : List Entry) (until : Option ℕ)
      → MayEvaluateRules g.R.Ranges.fits g.R.Ranges.last g.R.Ranges.passed l.at.step l.at.external.now l.at.limit l.at.interval l.at.waits s group l.fn.head history l.at.time until l.definitions l.fn.rules.items
      → l.reads + rules_cost s group l.at.time (passed_of g.R.Ranges.passed history l.fn.rules.items) l.index (drop l.index group.rules) (come_to s group history l.at.time l.index)
      ≤ l.fn.reads + rules_cost s group l.at.time (passed_of g.R.Ranges.passed history l.fn.rules.items) 0 group.rules (begun history);
}
