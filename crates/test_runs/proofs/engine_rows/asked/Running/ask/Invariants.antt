use Rattle.test_runs.proofs.engine_rows.asked.Running.ask.Given as goal

-- the count of reads is that of the blank that is handed in
abbrev pub ghosts-applied : goal.ghosts-applied
ghosts-applied a = record { name = a.blank.name; parts = a.blank.parts }
