use Rattle.std.proofs.Common.{◌≡◌, ℕ, List, take}
use Rattle.pr_words.specs.Names.{is_among, knows}
use Rattle.pr_labels.proofs.labels.known.known_names.Given as goal

-- the names so far are known
abbrev pub invariant-loop-name : goal.invariant-loop-name
invariant-loop-name l = (name : List ℕ) → knows l.known name ≡ is_among name (take l.name-index l.names)
