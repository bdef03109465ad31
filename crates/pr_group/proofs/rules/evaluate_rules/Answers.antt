use Rattle.std.proofs.Common.{◌≡◌, ℕ, ◌+◌, ◌≤◌, ◌<◌, List, drop, length, set, slice_get, Some, refl, sym, ◌∙◌, subst, arith}
use Rattle.std.proofs.lemmas.List.{length-set}
use Rattle.std.proofs.lemmas.Option.{slice_get_read}
use Rattle.pr_rule.specs.spec_rules.declared.report.RuleReport.{RuleReport}
use Rattle.pr_rule.specs.spec_rules.private.Costs.{rules_cost}
use Rattle.pr_group.specs.private.Evaluating.{HasCome, come_to}
use Rattle.pr_group.specs.private.Keeping.{passed_of}
use Rattle.pr_group.proofs.Coming.{come_none, come_whole, rules_read, rules_then}
use Rattle.pr_group.proofs.rules.evaluate_rules.Goals as goal

within_rules : (definitions before now i : ℕ) → i < definitions → before ≡ definitions → now ≡ before → i < now
within_rules definitions before now i low same many = omega arith

pub loop-index-init : goal.loop-index-init
loop-index-init g c = record {
  many = refl;
  come = λ s group history until may. come_none g.R.Ranges.fits g.R.Ranges.last g.R.Ranges.passed g.R.Ranges.keeps c.args.at.now.tells s group history c.args.at.now.time c.args.definitions.now c.args.rules.now.items c.args.head.now c.args.rows.now.items c.new-told.result.items may.over.holds c.new-told.ensures.items;
  reads = λ s group history until may. omega arith;
}

pub loop-index-preserved : goal.loop-index-preserved
loop-index-preserved g c =
    let R = g.R.Ranges in
    let at = c.args.at.now in
    let i = c.loop-index.index in
    let definition = c.index-definitions-index.result in
    let m = c.index_mut.result.now in
    let m' = c.evaluate_rule.new.kept in
    let ec : slice_get c.args.definitions.now i ≡ Some definition = slice_get_read c.args.definitions.now (length c.args.definitions.now) i definition (λ k. length c.args.definitions.now) c.loop-index-test.true c.index-definitions-index.is in
    let em : slice_get c.loop-index.rules.items i ≡ Some m = slice_get_read c.loop-index.rules.items (length c.loop-index.rules.items) i m (λ k. length c.loop-index.rules.items) (within_rules (length c.args.definitions.now) (length c.args.rules.now.items) (length c.loop-index.rules.items) i c.loop-index-test.true c.requires.each c.loop-index.invariant.many) c.index_mut.ensures.value in
    record {
      many = length-set c.loop-index.rules.items i m' ∙ c.loop-index.invariant.many;
      come = λ s group history until may.
          let h = c.loop-index.invariant.come s group history until may in
          let p = come_to s group history at.time i in
          rules_then R.fits R.last R.passed R.keeps at.tells g.met.R.Ranges.stays at.step at.external.now at.limit at.interval at.waits s group c.args.head.now history at.time until c.args.definitions.now c.args.rules.now.items may i definition m c.loop-index.rules.items c.loop-index.head c.args.rows.now.items c.loop-index.rows.items c.loop-index.told.items ec em h
          m' c.evaluate_rule.new.head c.evaluate_rule.new.rows.items c.note_report.new.told.items c.in_ok-report.report c.in_ok-note_report.ensures
          (λ r over kept. c.in_ok-report.ensures.done s group r p.history until may.evaluation over may.early kept);
      reads = λ s group history until may.
          let h = c.loop-index.invariant.come s group history until may in
          let p = come_to s group history at.time i in
          rules_read R.fits R.last R.passed R.keeps at.tells g.met.R.Ranges.stays at.step at.external.now at.limit at.interval at.waits s group c.args.head.now history at.time until c.args.definitions.now c.args.rules.now.items may i definition m c.loop-index.rules.items c.loop-index.head c.args.rows.now.items c.loop-index.rows.items c.loop-index.told.items ec em h
          c.loop-index.reads c.evaluate_rule.new.reads (c.args.reads.now + rules_cost s group at.time (passed_of R.passed history c.args.rules.now.items) 0 group.rules (come_to s group history at.time 0))
          (c.loop-index.invariant.reads s group history until may)
          (λ r over kept. c.evaluate_rule.ensures.reads s group r p.history until may.evaluation over may.early kept);
    }

pub returns-in_err-report-clause-reads : goal.returns-in_err-report-clause-reads
returns-in_err-report-clause-reads g c = λ s group history until may.
    let R = g.R.Ranges in
    let at = c.args.at.now in
    let i = c.loop-index.index in
    let definition = c.index-definitions-index.result in
    let m = c.index_mut.result.now in
    let ec : slice_get c.args.definitions.now i ≡ Some definition = slice_get_read c.args.definitions.now (length c.args.definitions.now) i definition (λ k. length c.args.definitions.now) c.loop-index-test.true c.index-definitions-index.is in
    let em : slice_get c.loop-index.rules.items i ≡ Some m = slice_get_read c.loop-index.rules.items (length c.loop-index.rules.items) i m (λ k. length c.loop-index.rules.items) (within_rules (length c.args.definitions.now) (length c.args.rules.now.items) (length c.loop-index.rules.items) i c.loop-index-test.true c.requires.each c.loop-index.invariant.many) c.index_mut.ensures.value in
    let h = c.loop-index.invariant.come s group history until may in
    let p = come_to s group history at.time i in
    let total = c.args.reads.now + rules_cost s group at.time (passed_of R.passed history c.args.rules.now.items) 0 group.rules (come_to s group history at.time 0) in
    let all : c.evaluate_rule.new.reads + rules_cost s group at.time (passed_of R.passed history c.args.rules.now.items) (i + 1) (drop (i + 1) group.rules) (come_to s group history at.time (i + 1)) ≤ total =
    rules_read R.fits R.last R.passed R.keeps at.tells g.met.R.Ranges.stays at.step at.external.now at.limit at.interval at.waits s group c.args.head.now history at.time until c.args.definitions.now c.args.rules.now.items may i definition m c.loop-index.rules.items c.loop-index.head c.args.rows.now.items c.loop-index.rows.items c.loop-index.told.items ec em h
    c.loop-index.reads c.evaluate_rule.new.reads total
    (c.loop-index.invariant.reads s group history until may)
    (λ r over kept. c.evaluate_rule.ensures.reads s group r p.history until may.evaluation over may.early kept) in
    omega arith

pub returns-in_err-note_report-clause-reads : goal.returns-in_err-note_report-clause-reads
returns-in_err-note_report-clause-reads g c = λ s group history until may.
    let R = g.R.Ranges in
    let at = c.args.at.now in
    let i = c.loop-index.index in
    let definition = c.index-definitions-index.result in
    let m = c.index_mut.result.now in
    let ec : slice_get c.args.definitions.now i ≡ Some definition = slice_get_read c.args.definitions.now (length c.args.definitions.now) i definition (λ k. length c.args.definitions.now) c.loop-index-test.true c.index-definitions-index.is in
    let em : slice_get c.loop-index.rules.items i ≡ Some m = slice_get_read c.loop-index.rules.items (length c.loop-index.rules.items) i m (λ k. length c.loop-index.rules.items) (within_rules (length c.args.definitions.now) (length c.args.rules.now.items) (length c.loop-index.rules.items) i c.loop-index-test.true c.requires.each c.loop-index.invariant.many) c.index_mut.ensures.value in
    let h = c.loop-index.invariant.come s group history until may in
    let p = come_to s group history at.time i in
    let total = c.args.reads.now + rules_cost s group at.time (passed_of R.passed history c.args.rules.now.items) 0 group.rules (come_to s group history at.time 0) in
    let all : c.evaluate_rule.new.reads + rules_cost s group at.time (passed_of R.passed history c.args.rules.now.items) (i + 1) (drop (i + 1) group.rules) (come_to s group history at.time (i + 1)) ≤ total =
    rules_read R.fits R.last R.passed R.keeps at.tells g.met.R.Ranges.stays at.step at.external.now at.limit at.interval at.waits s group c.args.head.now history at.time until c.args.definitions.now c.args.rules.now.items may i definition m c.loop-index.rules.items c.loop-index.head c.args.rows.now.items c.loop-index.rows.items c.loop-index.told.items ec em h
    c.loop-index.reads c.evaluate_rule.new.reads total
    (c.loop-index.invariant.reads s group history until may)
    (λ r over kept. c.evaluate_rule.ensures.reads s group r p.history until may.evaluation over may.early kept) in
    omega arith

pub returns-clause-come : goal.returns-clause-come
returns-clause-come g c = λ s group history until may.
    let R = g.R.Ranges in
    let at = c.args.at.now in
    let all : c.loop-index.index ≡ length c.args.definitions.now = omega arith in
    come_whole R.fits R.last R.passed R.keeps at.tells s group history at.time c.args.definitions.now c.args.rules.now.items c.loop-index.rules.items c.args.head.now c.loop-index.head c.args.rows.now.items c.loop-index.rows.items c.loop-index.told.items c.loop-index.index (all ∙ may.many)
    (c.loop-index.invariant.come s group history until may)

pub returns-clause-reads : goal.returns-clause-reads
returns-clause-reads g c = λ s group history until may.
    let so_far = c.loop-index.invariant.reads s group history until may in
    omega arith
