use Rattle.std.proofs.Common.{◌≡◌, ◌++◌, drop, flat_map, length, take}
use Rattle.pr_text.specs.Notices.{note_line}
use Rattle.pr_text.proofs.notices.push_notes.Given as goal

-- what is written, and what is to come
abbrev pub invariant-loop-note : goal.invariant-loop-note
invariant-loop-note l = record {
  written : l.text.items ++ flat_map note_line (drop l.note-index l.notes) ≡ l.fn.text.items ++ flat_map note_line l.notes;
  front : take (length l.fn.text.items) l.text.items ≡ l.fn.text.items;
}
