use Rattle.std.proofs.Common.{◌≡◌, ◌++◌}
use Rattle.pr_tmpl.specs.Pieces.{ascii_front, escape_bytes}
use Rattle.std.specs.Prelude.{codes}
use Rattle.pr_tmpl.proofs.letter.quoted_escape.Given as goal

abbrev pub invariant-loop-byte : goal.invariant-loop-byte
invariant-loop-byte l = l.quoted.items ++ ascii_front l.left l.rest ≡ codes "\"\\" ++ escape_bytes l.text

abbrev pub decreases-loop-byte : goal.decreases-loop-byte
decreases-loop-byte l = l.left
