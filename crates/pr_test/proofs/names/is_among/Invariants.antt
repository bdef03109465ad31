use Rattle.std.proofs.Common.{◌≡◌, length, map, string_bytes}
use Rattle.pr_words.specs.Names.{is_among}
use Rattle.pr_test.proofs.names.is_among.Given as goal

abbrev pub invariant-seeking : goal.invariant-seeking
invariant-seeking l = is_among l.name (map string_bytes l.rest) ≡ is_among l.name (map string_bytes l.names)

abbrev pub decreases-seeking : goal.decreases-seeking
decreases-seeking l = length l.rest
