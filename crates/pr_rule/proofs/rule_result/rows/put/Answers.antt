use Rattle.std.proofs.Common.{List, Option, refl, subst}
use Rattle.pr_labels.specs.declared.pair.Pair.{Pair}
use Rattle.pr_labels.specs.private.Entries.{IsPut}
use Rattle.pr_rule.specs.declared.rule_result.rows.ElementRest.{ElementRest}
use Rattle.pr_rule.proofs.RowLemmas.{rows_again, rows_more}
use Rattle.pr_rule.proofs.rule_result.rows.put.Goals as goal

pub returns-in-None : goal.returns-in-None
returns-in-None c = λ front h.
    let f = c.args.found in
    let row : ElementRest = record { notes = f.notes; value = f.value } in
    rows_more front f row c.args.rows.now c.put.new.self refl
    (subst (λ (o : Option (List Pair)). IsPut o f.labels row c.args.rows.now.founds c.put.new.self) c.in-None.is c.in_ok-put.ensures) h

pub returns-in-Some : goal.returns-in-Some
returns-in-Some c = λ front h.
    let f = c.args.found in
    let row : ElementRest = record { notes = f.notes; value = f.value } in
    rows_again front f row c.args.rows.now c.put.new.self c.in-Some.labels c.keep_least.new.least
    (subst (λ (o : Option (List Pair)). IsPut o f.labels row c.args.rows.now.founds c.put.new.self) c.in-Some.is c.in_ok-put.ensures) c.keep_least.ensures h
