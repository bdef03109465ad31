use Rattle.pr_range.proofs.plain.PlainRangesRanges.ask.Goals as goal

pub returns-clause-answer : goal.returns-clause-answer
returns-clause-answer g c = λ history labels may fits ready. c.ask_plainly.ensures history labels may
