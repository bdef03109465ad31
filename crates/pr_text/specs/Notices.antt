-- The printed lines of notices: what an evaluation sends, and what receivers are told.
use Rattle.std.specs.Prelude.{ℕ, Bool, true, false, List, ◌++◌, length, codes, decimal, flat_map, Option, Some, None}
use Rattle.spec_world.specs.pr_num.Shown.{shown}
use Rattle.pr_words.specs.Quoted.{quoted_text}
use Rattle.spec_world.specs.pr_labels.declared.pair.Pair.{Pair}
use Rattle.spec_world.specs.pr_labels.SeriesText.{series_text}
use Rattle.spec_world.specs.spec_alerts.declared.sending.Sending.{Sending}
use Rattle.spec_world.specs.spec_alerts.declared.notices.batch.Batch.{Batch}
use Rattle.spec_world.specs.spec_alerts.declared.notices.joined.Joined.{Joined}
use Rattle.spec_world.specs.spec_alerts.declared.notices.joined.Joined.TheVariants.{New, Known, Full}
use Rattle.pr_text.specs.Answers.{deliver_firing, deliver_resolved, send_firing, send_resolved, too_many_receivers}

-- a notice, behind its first words
abbrev pub notice_text : Sending → List ℕ
notice_text s =
    series_text s.labels ++ codes " value " ++ shown s.value ++ codes " starts " ++ decimal s.starts ++ codes " ends " ++ decimal s.ends ++ codes "\n"

abbrev pub note_line : Pair → List ℕ
note_line p = codes "note " ++ p.name ++ codes " " ++ quoted_text p.value ++ codes "\n"

-- a notice behind such words, and its annotations
abbrev pub notice_lines : List ℕ → Sending → List ℕ
notice_lines words s = words ++ notice_text s ++ flat_map note_line s.notes

-- that an evaluation sends it
abbrev pub sending_word : Bool → List ℕ
sending_word true = send_firing
sending_word false = send_resolved

abbrev pub sending_lines : Sending → List ℕ
sending_lines s = notice_lines (sending_word s.firing) s

-- that a receiver is given it
abbrev pub delivery_word : Bool → List ℕ
delivery_word true = deliver_firing
delivery_word false = deliver_resolved

abbrev pub delivery_lines : Sending → List ℕ
delivery_lines s = notice_lines (delivery_word s.firing) s

-- Receivers. A name is told as it stands.

-- what became of a name that was to be added
abbrev pub joined_text : List ℕ → Joined → List ℕ
joined_text name New = codes "receiver " ++ name ++ codes "\n"
joined_text name Known = codes "known " ++ name ++ codes "\n"
joined_text name Full = too_many_receivers

-- what a receiver is given: how many notices there are and were lost, and the notices
abbrev pub batch_line : List ℕ → Batch → List ℕ
batch_line name b = codes "batch " ++ name ++ codes " notices " ++ decimal (length b.notices) ++ codes " dropped " ++ decimal b.dropped ++ codes "\n"

abbrev pub batch_text : List ℕ → Batch → List ℕ
batch_text name b = batch_line name b ++ flat_map delivery_lines b.notices

abbrev pub no_receiver_text : List ℕ → List ℕ
no_receiver_text name = codes "no receiver " ++ name ++ codes "\n"

-- what is written for a receiver that is to be given its notices, where there is one
abbrev pub flush_text : List ℕ → Option Batch → List ℕ
flush_text name None = no_receiver_text name
flush_text name (Some b) = batch_text name b
