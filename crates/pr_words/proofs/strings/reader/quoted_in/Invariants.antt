use Rattle.std.proofs.Common.{◌≤◌, ◌++◌, length}
use Rattle.pr_words.specs.private.Reader.{KeepsText}
use Rattle.pr_words.proofs.StringReading.{Pieces}
use Rattle.pr_words.proofs.strings.reader.quoted_in.Given as goal

abbrev pub invariant-loop-bytes : goal.invariant-loop-bytes
invariant-loop-bytes l = record {
  pieces : Pieces l.mark l.text l.bytes.items l.rest;
  text : KeepsText l.text (l.bytes.items ++ l.rest);
  shorter : length l.rest ≤ length l.text;
}

abbrev pub decreases-loop-bytes : goal.decreases-loop-bytes
decreases-loop-bytes l = length l.rest
