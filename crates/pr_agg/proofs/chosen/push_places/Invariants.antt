use Rattle.std.proofs.Common.{◌≡◌, ◌++◌, take, filter}
use Rattle.pr_agg.specs.private.Chosen.{is_in_key, pairs_at}
use Rattle.pr_agg.proofs.chosen.push_places.Given as goal

-- the pairs so far that the key has
abbrev pub invariant-loop-pair : goal.invariant-loop-pair
invariant-loop-pair l = pairs_at l.places.items ≡ pairs_at l.fn.places.items ++ filter (is_in_key l.on l.names) (take l.pair-index l.pairs)
