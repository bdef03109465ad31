use Rattle.std.proofs.Common.{◌≡◌, ℕ, List, map}
use Rattle.std.specs.List.{AllByRecursion}
use Rattle.pr_checks.specs.RulesLoaded.{and_rules}
use Rattle.pr_checks.specs.declared.found.FoundFile.{FoundFile}
use Rattle.pr_checks.specs.private.RulesFound.{IsShortFile, rules_found}
use Rattle.pr_checks.specs.private.RulesTaken.{AreKept, rules_of}
use Rattle.pr_checks.proofs.loaded.read_all.Given as goal

-- the files so far are read
abbrev pub invariant-loop-found : goal.invariant-loop-found
invariant-loop-found l = record {
  short : AllByRecursion IsShortFile l.found-iterator.rest.items;
  read : and_rules (rules_of l.rules) (rules_found l.found-iterator.rest.items) ≡ rules_found l.fn.files.items;
  kept : AreKept (map (λ (f : FoundFile). f.name) l.fn.files.items) l.rules.files (map (λ (f : FoundFile). f.name) l.found-iterator.rest.items);
}
