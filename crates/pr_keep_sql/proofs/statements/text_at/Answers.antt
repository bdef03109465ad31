use Rattle.pr_keep_sql.proofs.RefusalLemmas.{wanted}
use Rattle.pr_keep_sql.proofs.statements.text_at.Goals as goal

pub returns-in-Err-clause-only : goal.returns-in-Err-clause-only
returns-in-Err-clause-only c text is low utf8 = wanted c.in-Err.error _ (λ other. c.in-Err.ensures.kind other low) (text, is, utf8)
