use Rattle.std.proofs.Common.{◌≡◌, ℕ, ◌+◌, length}
use Rattle.pr_outside.specs.pr_words.Lines.{lines_of}
use Rattle.pr_exercise.specs.private.Tallies.{HasRoom, counted_all}
use Rattle.pr_exercise.proofs.tally.Tally.count_lines.Given as goal

-- the lines so far are counted, and those of the rest to come
abbrev pub invariant-counting : goal.invariant-counting
invariant-counting l = record {
  counted : counted_all l.tally (lines_of l.rest) ≡ counted_all l.fn.self (lines_of l.fn.text);
  room : (more : ℕ) → HasRoom (more + length l.fn.text) l.fn.self → HasRoom (more + length l.rest) l.tally;
}

abbrev pub decreases-counting : goal.decreases-counting
decreases-counting l = length l.rest
