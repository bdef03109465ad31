use Rattle.std.proofs.Common.{◌≡◌, ◌++◌, drop, flat_map, length, take}
use Rattle.pr_text.specs.Notices.{sending_lines}
use Rattle.pr_text.proofs.notices.push_sendings.Given as goal

-- what is written, and what is to come
abbrev pub invariant-loop-sending : goal.invariant-loop-sending
invariant-loop-sending l = record {
  written : l.text.items ++ flat_map sending_lines (drop l.sending-index l.sendings) ≡ l.fn.text.items ++ flat_map sending_lines l.sendings;
  front : take (length l.fn.text.items) l.text.items ≡ l.fn.text.items;
}
