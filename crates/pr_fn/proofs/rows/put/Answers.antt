use Rattle.std.proofs.Common.{List, Option, subst}
use Rattle.pr_match.specs.pr_labels.declared.pair.Pair.{Pair}
use Rattle.pr_match.specs.pr_labels.private.Entries.{IsPut}
use Rattle.pr_fn.proofs.RowLemmas.{rows_again, rows_more}
use Rattle.pr_fn.proofs.rows.put.Goals as goal

pub returns-in-None : goal.returns-in-None
returns-in-None c = λ front h.
    rows_more front c.args.labels c.args.value c.args.rows.now c.put.new.self
    (subst (λ (o : Option (List Pair)). IsPut o c.args.labels c.args.value c.args.rows.now.elements c.put.new.self) c.in-None.is c.in_ok-put.ensures) h

pub returns-in-Some : goal.returns-in-Some
returns-in-Some c = λ front h.
    rows_again front c.args.labels c.args.value c.args.rows.now c.put.new.self c.in-Some.labels c.keep_least.new.least
    (subst (λ (o : Option (List Pair)). IsPut o c.args.labels c.args.value c.args.rows.now.elements c.put.new.self) c.in-Some.is c.in_ok-put.ensures) c.keep_least.ensures h
