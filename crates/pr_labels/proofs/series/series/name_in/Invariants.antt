use Rattle.std.proofs.Common.{ℕ, List, [], ◌∷◌, ◌≤◌, length}
use Rattle.std.specs.Prelude.{string_bytes}
use Rattle.pr_words.specs.private.Reader.{KeepsText}
use Rattle.pr_labels.specs.private.SeriesReader.{GoesOn}
use Rattle.pr_labels.proofs.series.series.name_in.Given as goal

abbrev pub invariant-loop-byte : goal.invariant-loop-byte
invariant-loop-byte l = record {
  read : (whole end : List ℕ) → GoesOn l.part (string_bytes l.name) l.rest whole end → GoesOn l.part (l.first ∷ []) l.text whole end;
  shorter : length l.rest ≤ length l.text;
  text : KeepsText l.text l.rest;
}

abbrev pub decreases-loop-byte : goal.decreases-loop-byte
decreases-loop-byte l = length l.rest
