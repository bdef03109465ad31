use Rattle.pr_slide.proofs.sliding.SlidingRangesRanges.ask.Given as goal

-- the count of looks is that of the blank that is handed in
abbrev pub ghosts-ask_uncounted : goal.ghosts-ask_uncounted
ghosts-ask_uncounted g a = record { name = a.blank.name; parts = a.blank.parts }
