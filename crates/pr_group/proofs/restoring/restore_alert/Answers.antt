use Rattle.std.proofs.Common.{◌≡◌, ◌+◌, ◌≤◌, Bool, true, cond, sym, ap, ◌∙◌, subst}
use Rattle.pr_rule.specs.spec_alerts.declared.record.Record.{Record}
use Rattle.pr_rule.specs.spec_alerts.Records.{is_living}
use Rattle.pr_group.proofs.Restored.{living_here, over_stays, record_here, unwritten_stays, written_moves}
use Rattle.pr_group.proofs.restoring.restore_alert.Goals as goal

pub returns-then-not-is_living-clause-restored : goal.returns-then-not-is_living-clause-restored
returns-then-not-is_living-clause-restored g c = λ history lineage r over stands at.
    over_stays history c.args.hold c.args.now c.args.kept.now.records c.list.result.now c.args.index r c.index-list-index.result lineage c.is_living.result at (c.list.ensures ∙ c.records.ensures) c.index-list-index.is
    c.is_living.ensures c.if-not-is_living.true (c.a_move_of_no_alerts_leaves_the_records.ensures lineage c.args.kept.now.records stands)

pub returns-in_err-newest-clause-reads : goal.returns-in_err-newest-clause-reads
returns-in_err-newest-clause-reads g c = λ r at.
    let living : is_living r ≡ true = living_here c.args.kept.now.records c.list.result.now c.args.index r c.index-list-index.result c.is_living.result at (c.list.ensures ∙ c.records.ensures) c.index-list-index.is c.is_living.ensures ∙ c.if-not-is_living.false in
    subst (λ (b : Bool). c.newest.new.reads ≤ c.args.reads.now + cond b 1 0) (sym living) c.newest.ensures.reads

pub returns-in-None-clause-restored : goal.returns-in-None-clause-restored
returns-in-None-clause-restored g c = λ history lineage r over stands at.
    let living : is_living r ≡ true = living_here c.args.kept.now.records c.list.result.now c.args.index r c.index-list-index.result c.is_living.result at (c.list.ensures ∙ c.records.ensures) c.index-list-index.is c.is_living.ensures ∙ c.if-not-is_living.false in
    let here = record_here c.args.kept.now.records c.list.result.now c.args.index r c.index-list-index.result at (c.list.ensures ∙ c.records.ensures) c.index-list-index.is in
    unwritten_stays history c.args.hold c.args.now r c.in_ok-labels.labels c.in_ok-newest.field-0 lineage c.args.kept.now.records living (c.in_ok-labels.ensures ∙ ap (λ (x : Record). x.labels) here) (c.in_ok-newest.ensures.found history over) c.in-None.is
    (c.a_move_of_no_alerts_leaves_the_records.ensures lineage c.args.kept.now.records stands)

pub returns-in-None-clause-reads : goal.returns-in-None-clause-reads
returns-in-None-clause-reads g c = λ r at.
    let living : is_living r ≡ true = living_here c.args.kept.now.records c.list.result.now c.args.index r c.index-list-index.result c.is_living.result at (c.list.ensures ∙ c.records.ensures) c.index-list-index.is c.is_living.ensures ∙ c.if-not-is_living.false in
    subst (λ (b : Bool). c.newest.new.reads ≤ c.args.reads.now + cond b 1 0) (sym living) c.newest.ensures.reads

pub returns-in-Some-clause-restored : goal.returns-in-Some-clause-restored
returns-in-Some-clause-restored g c = λ history lineage r over stands at.
    let living : is_living r ≡ true = living_here c.args.kept.now.records c.list.result.now c.args.index r c.index-list-index.result c.is_living.result at (c.list.ensures ∙ c.records.ensures) c.index-list-index.is c.is_living.ensures ∙ c.if-not-is_living.false in
    let here = record_here c.args.kept.now.records c.list.result.now c.args.index r c.index-list-index.result at (c.list.ensures ∙ c.records.ensures) c.index-list-index.is in
    let own = c.in_ok-labels.ensures ∙ ap (λ (x : Record). x.labels) here in
    written_moves history c.args.hold c.args.now r c.in_ok-labels.labels c.in_ok-newest.field-0 c.in-Some.sample c.move_alert.result lineage c.move_alert.new.kept.records living own (c.in_ok-newest.ensures.found history over) c.in-Some.is
    (c.move_alert.ensures.restored lineage r stands at living own)

pub returns-in-Some-clause-reads : goal.returns-in-Some-clause-reads
returns-in-Some-clause-reads g c = λ r at.
    let living : is_living r ≡ true = living_here c.args.kept.now.records c.list.result.now c.args.index r c.index-list-index.result c.is_living.result at (c.list.ensures ∙ c.records.ensures) c.index-list-index.is c.is_living.ensures ∙ c.if-not-is_living.false in
    subst (λ (b : Bool). c.newest.new.reads ≤ c.args.reads.now + cond b 1 0) (sym living) c.newest.ensures.reads
