use Rattle.std.proofs.Common.{◌≡◌, ◌++◌}
use Rattle.pr_engine.specs.private.ByName.{labels_in}
use Rattle.pr_engine.proofs.scrape.by_name.pairs_of.Given as goal

-- the pairs so far, and those of the labels that are left, are all
abbrev pub invariant-loop-name : goal.invariant-loop-name
invariant-loop-name l = l.pairs.items ++ labels_in l.name-iterator ≡ labels_in l.fn.named.entries
