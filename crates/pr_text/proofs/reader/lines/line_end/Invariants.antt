use Rattle.std.proofs.Common.{◌≡◌, true, take}
use Rattle.std.specs.List.{list_all}
use Rattle.pr_text.specs.Taken.{is_no_feed}
use Rattle.pr_text.proofs.reader.lines.line_end.Given as goal

-- no line feed so far
abbrev pub invariant-loop-i : goal.invariant-loop-i
invariant-loop-i l = list_all is_no_feed (take l.i l.bytes) ≡ true
