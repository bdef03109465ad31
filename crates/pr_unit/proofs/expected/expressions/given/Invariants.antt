use Rattle.pr_unit.proofs.expected.expressions.given.Given as goal

-- the count of reads is that of the blank that is handed in
abbrev pub ghosts-given_with : goal.ghosts-given_with
ghosts-given_with a = record { name = a.blank.name; parts = a.blank.parts }
