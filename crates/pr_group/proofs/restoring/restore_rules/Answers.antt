use Rattle.std.proofs.Common.{◌≡◌, ℕ, ◌+◌, ◌≤◌, ◌<◌, length, slice_get, Some, sym, ◌∙◌, subst, arith}
use Rattle.std.proofs.lemmas.List.{length-set}
use Rattle.std.proofs.lemmas.Option.{slice_get_read}
use Rattle.pr_group.proofs.Places.{place_there}
use Rattle.pr_group.proofs.Restored.{all_restored, all_told, ranges_set, reads_all, restored_then, rules_reads, rules_within}
use Rattle.pr_group.proofs.restoring.restore_rules.Goals as goal

within_rules : (definitions before now i : ℕ) → i < definitions → before ≡ definitions → now ≡ before → i < now
within_rules definitions before now i low same many = omega arith

pub returns-in_err-restore_rule-clause-ranges : goal.returns-in_err-restore_rule-clause-ranges
returns-in_err-restore_rule-clause-ranges g c =
    let i = c.loop-index.index in
    let m = c.index_mut.result.now in
    let em : slice_get c.loop-index.rules.items i ≡ Some m =
    slice_get_read c.loop-index.rules.items (length c.loop-index.rules.items) i m (λ k. length c.loop-index.rules.items) (within_rules (length c.args.definitions.now) (length c.args.rules.now.items) (length c.loop-index.rules.items) i c.loop-index-test.true c.requires c.loop-index.invariant.many) c.index_mut.ensures.value in
    ranges_set c.loop-index.rules.items i m c.restore_rule.new.kept em c.restore_rule.ensures.rest ∙ c.loop-index.invariant.ranges

pub returns-in_err-restore_rule-clause-reads : goal.returns-in_err-restore_rule-clause-reads
returns-in_err-restore_rule-clause-reads g c = λ history until rs over size was.
    let R = g.R.Ranges in
    let i = c.loop-index.index in
    let definition = c.index-definitions-index.result in
    let m = c.index_mut.result.now in
    let ec : slice_get c.args.definitions.now i ≡ Some definition = slice_get_read c.args.definitions.now (length c.args.definitions.now) i definition (λ k. length c.args.definitions.now) c.loop-index-test.true c.index-definitions-index.is in
    let em : slice_get c.loop-index.rules.items i ≡ Some m =
    slice_get_read c.loop-index.rules.items (length c.loop-index.rules.items) i m (λ k. length c.loop-index.rules.items) (within_rules (length c.args.definitions.now) (length c.args.rules.now.items) (length c.loop-index.rules.items) i c.loop-index-test.true c.requires c.loop-index.invariant.many) c.index_mut.ensures.value in
    let r = place_there rs i (subst (λ (k : ℕ). i < k) size c.loop-index-test.true) in
    let h = c.loop-index.invariant.come history until rs over size was in
    let kept = was i definition m r.0 ec (sym (h.later i (omega arith)) ∙ em) r.1 in
    rules_within rs (i + 1) c.args.reads.now c.restore_rule.new.reads (rules_reads rs i r.0 c.args.reads.now c.loop-index.reads c.restore_rule.new.reads r.1 (c.loop-index.invariant.reads history until rs over size was) (c.restore_rule.ensures.reads r.0 kept.stands))

pub loop-index-preserved : goal.loop-index-preserved
loop-index-preserved g c =
    let R = g.R.Ranges in
    let i = c.loop-index.index in
    let definition = c.index-definitions-index.result in
    let m = c.index_mut.result.now in
    let m' = c.restore_rule.new.kept in
    let ec : slice_get c.args.definitions.now i ≡ Some definition = slice_get_read c.args.definitions.now (length c.args.definitions.now) i definition (λ k. length c.args.definitions.now) c.loop-index-test.true c.index-definitions-index.is in
    let em : slice_get c.loop-index.rules.items i ≡ Some m =
    slice_get_read c.loop-index.rules.items (length c.loop-index.rules.items) i m (λ k. length c.loop-index.rules.items) (within_rules (length c.args.definitions.now) (length c.args.rules.now.items) (length c.loop-index.rules.items) i c.loop-index-test.true c.requires c.loop-index.invariant.many) c.index_mut.ensures.value in
    record {
      ranges = ranges_set c.loop-index.rules.items i m m' em c.restore_rule.ensures.rest ∙ c.loop-index.invariant.ranges;
      many = length-set c.loop-index.rules.items i m' ∙ c.loop-index.invariant.many;
      come = λ history until rs over size was.
          let r = place_there rs i (subst (λ (k : ℕ). i < k) size c.loop-index-test.true) in
          restored_then c.args.tells R.fits R.last R.passed history c.args.now until c.args.definitions.now rs i definition r.0 m m' c.args.rules.now.items c.loop-index.rules.items c.loop-index.list.items c.restore_rule.new.list.items ec r.1 em was
          (c.loop-index.invariant.come history until rs over size was) c.restore_rule.ensures.rest
          (λ st. c.in_ok-restore_rule.ensures.stands history r.0 over st) (λ st. c.in_ok-restore_rule.ensures.told history r.0 over st);
      reads = λ history until rs over size was.
          let r = place_there rs i (subst (λ (k : ℕ). i < k) size c.loop-index-test.true) in
          let h = c.loop-index.invariant.come history until rs over size was in
          let kept = was i definition m r.0 ec (sym (h.later i (omega arith)) ∙ em) r.1 in
          rules_reads rs i r.0 c.args.reads.now c.loop-index.reads c.restore_rule.new.reads r.1 (c.loop-index.invariant.reads history until rs over size was) (c.restore_rule.ensures.reads r.0 kept.stands);
    }

pub returns-clause-kept : goal.returns-clause-kept
returns-clause-kept g c = λ history until rs over size was.
    let R = g.R.Ranges in
    let all : c.loop-index.index ≡ length c.args.definitions.now = omega arith in
    all_restored c.args.tells R.fits R.last R.passed history c.args.now until c.args.definitions.now rs c.loop-index.index c.args.rules.now.items c.loop-index.rules.items c.loop-index.list.items (all ∙ size) (c.loop-index.invariant.come history until rs over size was)

pub returns-clause-told : goal.returns-clause-told
returns-clause-told g c = λ history until rs over size was.
    let R = g.R.Ranges in
    let all : c.loop-index.index ≡ length c.args.definitions.now = omega arith in
    all_told c.args.tells R.fits R.last R.passed history c.args.now until c.args.definitions.now rs c.loop-index.index c.args.rules.now.items c.loop-index.rules.items c.loop-index.list.items (all ∙ size) (c.loop-index.invariant.come history until rs over size was)

pub returns-clause-reads : goal.returns-clause-reads
returns-clause-reads g c = λ history until rs over size was.
    let all : c.loop-index.index ≡ length c.args.definitions.now = omega arith in
    subst (λ (n : ℕ). c.loop-index.reads ≤ c.args.reads.now + n) (reads_all c.loop-index.index rs (all ∙ size)) (c.loop-index.invariant.reads history until rs over size was)
