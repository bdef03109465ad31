use Rattle.test_rows.proofs.slide_rows.both.Both.asked.Given as goal

-- each count of reads is that of the blank that is handed in
abbrev pub ghosts-answer : goal.ghosts-answer
ghosts-answer a = record { name = a.blank.name; parts = a.blank.parts }

abbrev pub ghosts-answer-2 : goal.ghosts-answer-2
ghosts-answer-2 a = record { name = a.blank.name; parts = a.blank.parts }
