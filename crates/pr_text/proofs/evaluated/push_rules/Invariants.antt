use Rattle.std.proofs.Common.{◌≡◌, ◌++◌, ◌+◌, drop, length, take}
use Rattle.pr_text.specs.Evaluated.{rules_text}
use Rattle.pr_text.proofs.evaluated.push_rules.Given as goal

-- what is written, and what is to come; how many rules were told
abbrev pub invariant-loop-rule : goal.invariant-loop-rule
invariant-loop-rule l = record {
  written : l.text.items ++ rules_text (l.number + 1) (drop l.rule-index l.rules) ≡ l.fn.text.items ++ rules_text 1 l.rules;
  front : take (length l.fn.text.items) l.text.items ≡ l.fn.text.items;
  told : l.number ≡ l.rule-index;
}
