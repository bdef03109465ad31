use Rattle.pr_keep_sql.proofs.kept.Kept.make.Goals as goal

pub returns-in-Ok-clause-ran : goal.returns-in-Ok-clause-ran
returns-in-Ok-clause-ran g c = rw (← c.self.view_is) (λ clean. c.in-Ok.ensures.ran clean)
