use Rattle.pr_backfill.proofs.backfill_command.filling.Filling.evaluate.Given as goal

-- the count of reads is that of the blank that is handed in
abbrev pub ghosts-evaluate_with : goal.ghosts-evaluate_with
ghosts-evaluate_with g a = record { name = a.blank.name; parts = a.blank.parts }
