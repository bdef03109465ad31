use Rattle.std.proofs.Common.{◌≡◌, drop, vec_len}
use Rattle.pr_match.specs.Matcher.{meets_all}
use Rattle.pr_match.proofs.selection.Selection.matches.Given as goal

-- the searchers stay, and those so far are met
abbrev pub invariant-loop-at : goal.invariant-loop-at
invariant-loop-at l = record {
  same : l.self-inside.searchers.items ≡ l.fn.self;
  long : l.at-end ≡ vec_len l.self-inside.searchers;
  left : meets_all (drop l.at l.fn.self) l.labels ≡ meets_all l.fn.self l.labels;
}
