use Rattle.std.proofs.Common.{◌≡◌, length, map, string_bytes}
use Rattle.std.specs.List.{list_all}
use Rattle.pr_top.specs.Command.{is_file_word}
use Rattle.pr_top.proofs.command.are_file_words.Given as goal

abbrev pub invariant-testing : goal.invariant-testing
invariant-testing l = list_all is_file_word (map string_bytes l.rest) ≡ list_all is_file_word (map string_bytes l.words)

abbrev pub decreases-testing : goal.decreases-testing
decreases-testing l = length l.rest
