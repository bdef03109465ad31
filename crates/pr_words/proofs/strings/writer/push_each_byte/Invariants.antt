use Rattle.std.proofs.Common.{◌≡◌, ◌≤◌, ◌++◌, drop, flat_map, length}
use Rattle.pr_words.specs.Quoted.{escaped_byte}
use Rattle.pr_words.proofs.strings.writer.push_each_byte.Given as goal

-- what is written, and what is to come
abbrev pub invariant-loop-b : goal.invariant-loop-b
invariant-loop-b l =
    (l.out.items ++ flat_map escaped_byte (drop l.b-index l.bytes) ≡ l.fn.out.items ++ flat_map escaped_byte l.bytes) × (length l.fn.out.items ≤ length l.out.items)
