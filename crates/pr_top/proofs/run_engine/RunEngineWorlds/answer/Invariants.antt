use Rattle.pr_top.proofs.run_engine.RunEngineWorlds.answer.Given as goal

-- the count of reads is that of the blank that is handed in
abbrev pub ghosts-answer_with : goal.ghosts-answer_with
ghosts-answer_with g a = record { name = a.blank.name; parts = a.blank.parts }
