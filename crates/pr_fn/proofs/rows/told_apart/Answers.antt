use Rattle.pr_fn.proofs.RowLemmas.{all_told, same_told}
use Rattle.pr_fn.proofs.rows.told_apart.Goals as goal

pub returns-in-Some-clause-told : goal.returns-in-Some-clause-told
returns-in-Some-clause-told c = λ front h. same_told front c.args.rows c.in-Some.labels h c.in-Some.is

pub returns-in_ok-into_items-in-None-clause-told : goal.returns-in_ok-into_items-in-None-clause-told
returns-in_ok-into_items-in-None-clause-told c = λ front h. all_told front c.args.rows c.in_ok-into_items-in-None.field-0.items h c.in-None.is c.in_ok-into_items-in-None.ensures.items
