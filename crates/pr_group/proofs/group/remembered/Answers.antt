use Rattle.std.proofs.Common.{◌≡◌, length, slice_get, Some}
use Rattle.std.proofs.lemmas.Option.{slice_get_read}
use Rattle.pr_group.proofs.Beginning.{no_rules, one_rule_more}
use Rattle.pr_group.proofs.group.remembered.Goals as goal

pub loop-index-init : goal.loop-index-init
loop-index-init g c = no_rules g.R.Ranges.fits g.R.Ranges.last g.R.Ranges.passed c.args.definitions.now c.new-rules.result.items c.new-rules.ensures.items

pub loop-index-preserved : goal.loop-index-preserved
loop-index-preserved g c =
    let i = c.loop-index.index in
    let definition = c.index-definitions-index.result in
    let ec : slice_get c.args.definitions.now i ≡ Some definition = slice_get_read c.args.definitions.now (length c.args.definitions.now) i definition (λ k. length c.args.definitions.now) c.loop-index-test.true c.index-definitions-index.is in
    let m = c.in_ok-new.field-0 in
    one_rule_more g.R.Ranges.fits g.R.Ranges.last g.R.Ranges.passed c.args.definitions.now c.loop-index.rules.items c.push.new.self.items i definition m c.loop-index.invariant ec
    (record { stands = c.in_ok-new.ensures.stands; fresh = c.in_ok-new.ensures.fresh; truly = c.in_ok-new.ensures.fits }) c.in_ok-push.ensures.items
