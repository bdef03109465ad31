use Rattle.std.proofs.Common.{◌≡◌, length, slice_get, Some, refl, arith}
use Rattle.std.proofs.lemmas.Option.{slice_get_read}
use Rattle.pr_group.specs.spec_rules.private.Times.{IsAfter}
use Rattle.pr_unit.proofs.Answers.{on_ok3}
use Rattle.pr_unit.proofs.Rounds.{group_there, may_evaluate, stands_next}
use Rattle.pr_unit.proofs.round.evaluate_at.Goals as goal

pub returns-clause-stands : goal.returns-clause-stands
returns-clause-stands g c = λ s w gs g0 apart there0 h in_round.
    let kept = c.args.groups.now.items in
    let n = c.args.number in
    let time = c.args.time in
    let k = c.index_mut.result.now in
    let at : slice_get kept n ≡ Some k = slice_get_read kept (length kept) n k refl c.requires c.index_mut.ensures.value in
    let x = group_there g.R.Ranges.fits g.R.Ranges.last g.R.Ranges.passed kept w.history s w.groups n k h.groups at in
    let may = may_evaluate g.R.Ranges.fits g.R.Ranges.last g.R.Ranges.passed c.args.head.now kept s w time h in
    let keeps = h.groups.each n k x.element at x.there in
    let after : IsAfter time x.element.last = in_round.rest n x.element (omega arith) x.there in
    on_ok3 c.evaluate.result _ _ _ _
    (λ a b d. stands_next g.R.Ranges.fits g.R.Ranges.last g.R.Ranges.passed c.a_kept_group_stays.ensures.keeps c.args.head.now c.evaluate.new.head kept s w gs n time k c.evaluate.new.group g0 x.element apart there0 at x.there h in_round
    (record { taken = a; keeps = b; told = d }))
    (c.evaluate.ensures.head w.history x.element may keeps after) (c.evaluate.ensures.keeps w.history x.element may keeps after) c.evaluate.ensures.settings
