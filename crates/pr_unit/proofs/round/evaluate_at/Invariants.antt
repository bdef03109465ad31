use Rattle.pr_unit.proofs.round.evaluate_at.Given as goal

-- the count of reads is that of the blank that is handed in
abbrev pub ghosts-evaluate : goal.ghosts-evaluate
ghosts-evaluate g a = record { name = a.blank.name; parts = a.blank.parts }
