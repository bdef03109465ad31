use Rattle.std.proofs.Common.{ℕ, ◌+◌, ◌≤◌, ◌++◌, List, sym, ap, ◌∙◌, subst}
use Rattle.pr_rule.specs.spec_alerts.declared.restored.Restored.{Restored}
use Rattle.pr_rule.specs.spec_rules.Definitions.{Rule, rule_of_def}
use Rattle.pr_group.proofs.Restored.{due_reads, due_stands, due_told, held_of, short_of, stands_with, undue_stands, undue_told}
use Rattle.pr_group.proofs.restoring.restore_rule.Goals as goal

pub returns-then-not-is_due-clause-stands : goal.returns-then-not-is_due-clause-stands
returns-then-not-is_due-clause-stands g c = λ history r over h.
    let k = c.args.kept.now in
    undue_stands c.a_move_of_no_alerts_leaves_the_records.ensures history c.args.now (rule_of_def c.args.definition.now) r k.templates k.previous k.records h
    (short_of c.args.definition.now.alert c.args.definition.now.hold c.is_due.result c.is_due.ensures c.if-not-is_due.true)

pub returns-then-not-is_due-clause-told : goal.returns-then-not-is_due-clause-told
returns-then-not-is_due-clause-told g c = λ history r over h read.
    undue_told history c.args.now (rule_of_def c.args.definition.now) r c.args.list.now.items h.rule
    (short_of c.args.definition.now.alert c.args.definition.now.hold c.is_due.result c.is_due.ensures c.if-not-is_due.true)

pub restore_alerts-requires : goal.restore_alerts-requires
restore_alerts-requires g c = (held_of c.args.definition.now.alert c.args.definition.now.hold c.is_due.result c.is_due.ensures c.if-not-is_due.false).1

pub returns-in_err-restore_alerts-clause-reads : goal.returns-in_err-restore_alerts-clause-reads
returns-in_err-restore_alerts-clause-reads g c = λ r h.
    let held = held_of c.args.definition.now.alert c.args.definition.now.hold c.is_due.result c.is_due.ensures c.if-not-is_due.false in
    let all = c.records_of_a_lineage_stand_for_it.ensures.alone c.args.kept.now.records r.lineage (h.records (ap (λ (x : Rule). x.alert) (sym h.rule) ∙ held.0)) in
    subst (λ (n : ℕ). c.restore_alerts.new.reads ≤ c.args.reads.now + n) (due_reads (rule_of_def c.args.definition.now) r c.args.kept.now.records h.rule all held.0 held.1) c.restore_alerts.ensures.reads

pub returns-clause-reads : goal.returns-clause-reads
returns-clause-reads g c = λ r h.
    let held = held_of c.args.definition.now.alert c.args.definition.now.hold c.is_due.result c.is_due.ensures c.if-not-is_due.false in
    let all = c.records_of_a_lineage_stand_for_it.ensures.alone c.args.kept.now.records r.lineage (h.records (ap (λ (x : Rule). x.alert) (sym h.rule) ∙ held.0)) in
    subst (λ (n : ℕ). c.restore_alerts.new.reads ≤ c.args.reads.now + n) (due_reads (rule_of_def c.args.definition.now) r c.args.kept.now.records h.rule all held.0 held.1) c.restore_alerts.ensures.reads

pub returns-clause-stands : goal.returns-clause-stands
returns-clause-stands g c = λ history r over h.
    let k = c.args.kept.now in
    let definition = rule_of_def c.args.definition.now in
    let held = held_of c.args.definition.now.alert c.args.definition.now.hold c.is_due.result c.is_due.ensures c.if-not-is_due.false in
    let mine = h.records (ap (λ (x : Rule). x.alert) (sym h.rule) ∙ held.0) in
    let all = c.records_of_a_lineage_stand_for_it.ensures.alone k.records r.lineage mine in
    stands_with k c.restore_alerts.new.kept definition _ c.restore_alerts.ensures.rest
    (due_stands history c.args.now definition r k.templates k.previous k.records c.restore_alerts.new.kept.records h all held.0 held.1 (c.in_ok-restore_alerts.ensures.stands history r.lineage over mine))

pub returns-clause-told : goal.returns-clause-told
returns-clause-told g c = λ history r over h read.
    let k = c.args.kept.now in
    let definition = rule_of_def c.args.definition.now in
    let held = held_of c.args.definition.now.alert c.args.definition.now.hold c.is_due.result c.is_due.ensures c.if-not-is_due.false in
    let mine = h.records (ap (λ (x : Rule). x.alert) (sym h.rule) ∙ held.0) in
    let all = c.records_of_a_lineage_stand_for_it.ensures.alone k.records r.lineage mine in
    c.in_ok-restore_alerts.ensures.told history r.lineage over mine read ∙ ap (λ (l : List Restored). c.args.list.now.items ++ l) (due_told history c.args.now definition r k.records h.rule all held.0 held.1)
