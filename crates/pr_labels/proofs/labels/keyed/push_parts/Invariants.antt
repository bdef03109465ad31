use Rattle.std.proofs.Common.{◌≡◌, ◌++◌, drop, flat_map, string_bytes}
use Rattle.pr_labels.specs.private.OrderKey.{key_part}
use Rattle.pr_labels.proofs.labels.keyed.push_parts.Given as goal

-- the parts so far, and those to come
abbrev pub invariant-loop-pair : goal.invariant-loop-pair
invariant-loop-pair l = string_bytes l.key ++ flat_map key_part (drop l.pair-index l.pairs) ≡ string_bytes l.fn.key ++ flat_map key_part l.pairs
