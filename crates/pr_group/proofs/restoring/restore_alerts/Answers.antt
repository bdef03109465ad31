use Rattle.std.proofs.Common.{◌≡◌, ◌+◌, ◌<◌, ◌++◌, ◌∷◌, [], List, length, slice_get, Some, ap, ◌∙◌, subst, arith}
use Rattle.pr_rule.specs.spec_alerts.declared.restored.Restored.{Restored}
use Rattle.pr_rule.specs.spec_alerts.Lineage.{moved}
use Rattle.pr_rule.specs.private.AlertStanding.{StandsFor}
use Rattle.pr_rule.specs.declared.remembered.Remembered.{Remembered}
use Rattle.pr_group.specs.private.Restoring.{restored_until}
use Rattle.pr_group.proofs.Places.{place_there}
use Rattle.pr_group.proofs.Restored.{living_reads, living_within, stands_next, told_next, until_all}
use Rattle.pr_group.proofs.restoring.restore_alerts.Goals as goal

pub returns-in_err-restored-clause-reads : goal.returns-in_err-restored-clause-reads
returns-in_err-restored-clause-reads g c =
    let rs = c.args.kept.now.records in
    let i = c.loop-index.index in
    let within : i < length rs = omega (arith, ap length (c.list-index-end.ensures ∙ c.records.ensures)) in
    let there = place_there rs i within in
    let here : slice_get c.loop-index.kept.records i ≡ Some there.0 = c.loop-index.invariant.later i (omega arith) ∙ there.1 in
    living_within rs (i + 1) c.args.reads.now c.restore_alert.new.reads (living_reads rs i there.0 c.args.reads.now c.loop-index.reads c.restore_alert.new.reads there.1 c.loop-index.invariant.reads (c.restore_alert.ensures.reads there.0 here))

pub returns-in_err-note-clause-reads : goal.returns-in_err-note-clause-reads
returns-in_err-note-clause-reads g c =
    let rs = c.args.kept.now.records in
    let i = c.loop-index.index in
    let within : i < length rs = omega (arith, ap length (c.list-index-end.ensures ∙ c.records.ensures)) in
    let there = place_there rs i within in
    let here : slice_get c.loop-index.kept.records i ≡ Some there.0 = c.loop-index.invariant.later i (omega arith) ∙ there.1 in
    living_within rs (i + 1) c.args.reads.now c.restore_alert.new.reads (living_reads rs i there.0 c.args.reads.now c.loop-index.reads c.restore_alert.new.reads there.1 c.loop-index.invariant.reads (c.restore_alert.ensures.reads there.0 here))

pub loop-index-preserved : goal.loop-index-preserved
loop-index-preserved g c =
    let rs = c.args.kept.now.records in
    let i = c.loop-index.index in
    let hold = c.args.hold in
    let now = c.args.now in
    let inv = c.loop-index.invariant in
    let new = c.restore_alert.new.kept in
    let within : i < length rs = omega (arith, ap length (c.list-index-end.ensures ∙ c.records.ensures)) in
    let there = place_there rs i within in
    let here : slice_get c.loop-index.kept.records i ≡ Some there.0 = inv.later i (omega arith) ∙ there.1 in
    record {
      rest = c.restore_alert.ensures.rest ∙ ap (λ (k : Remembered _). record k { records = new.records }) inv.rest;
      many = c.restore_alert.ensures.only.many ∙ inv.many;
      later = λ j low. c.restore_alert.ensures.only.others j (λ e. absurd (omega arith)) ∙ inv.later j (omega arith);
      reads = living_reads rs i there.0 c.args.reads.now c.loop-index.reads c.restore_alert.new.reads there.1 inv.reads (c.restore_alert.ensures.reads there.0 here);
      stands = λ history lineage over st.
          stands_next c.a_restored_record_is_moved.ensures.as_one history hold now lineage rs new.records i there.0 c.in_ok-restored.restored there.1
          (c.in_ok-restored.ensures.restored history (lineage ++ moved (restored_until history hold now rs i) ∷ []) there.0 over (inv.stands history lineage over st) here);
      told = λ history lineage over st read.
          told_next history hold now (lineage ++ moved (restored_until history hold now rs i) ∷ []) rs new.records i there.0 c.in_ok-restored.restored c.args.list.now.items c.loop-index.list.items c.note.new.list.items there.1
          (inv.told history lineage over st read)
          (c.in_ok-restored.ensures.restored history (lineage ++ moved (restored_until history hold now rs i) ∷ []) there.0 over (inv.stands history lineage over st) here)
          (c.in_ok-note.ensures read);
    }

pub returns-clause-stands : goal.returns-clause-stands
returns-clause-stands g c = λ history lineage over st.
    let rs = c.args.kept.now.records in
    let all : c.loop-index.index ≡ length rs = omega (arith, ap length (c.list-index-end.ensures ∙ c.records.ensures)) in
    subst (λ (l : List Restored). StandsFor c.loop-index.kept.records (lineage ++ moved l ∷ [])) (until_all history c.args.hold c.args.now rs c.loop-index.index all) (c.loop-index.invariant.stands history lineage over st)

pub returns-clause-told : goal.returns-clause-told
returns-clause-told g c = λ history lineage over st read.
    let rs = c.args.kept.now.records in
    let all : c.loop-index.index ≡ length rs = omega (arith, ap length (c.list-index-end.ensures ∙ c.records.ensures)) in
    c.loop-index.invariant.told history lineage over st read ∙ ap (λ (l : List Restored). c.args.list.now.items ++ l) (until_all history c.args.hold c.args.now rs c.loop-index.index all)
