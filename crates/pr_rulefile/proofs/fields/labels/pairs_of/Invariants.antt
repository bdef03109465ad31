use Rattle.std.proofs.Common.{◌≡◌, ◌++◌}
use Rattle.pr_rulefile.specs.Labels.{pairs_of}
use Rattle.pr_rulefile.proofs.fields.labels.pairs_of.Given as goal

-- the pairs so far, and those of the labels that are left, are all
abbrev pub invariant-loop-name : goal.invariant-loop-name
invariant-loop-name l = l.pairs ++ pairs_of l.name-iterator ≡ pairs_of l.fn.labels.entries
