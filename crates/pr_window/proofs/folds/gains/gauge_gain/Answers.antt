use Rattle.std.proofs.Common.{◌≡◌, ◌+◌, pos, ◌*ℤ◌, ap, ◌∙◌, arith, to_z, of_z}
use Rattle.std.specs.Int.{w128}
use Rattle.std.proofs.lemmas.Int.{to_z-of_z}
use Rattle.pr_num.specs.Half.{half}
use Rattle.pr_window.proofs.Stretched.{Stands, gauge_same}
use Rattle.pr_window.proofs.folds.gains.gauge_gain.Goals as goal

pub returns : goal.returns
returns c =
    let s = c.stretch_of-stretch.result in
    let stands : Stands c.args.first.now c.args.last.now c.args.steps = record { some = c.requires.some; rising = c.requires.rising } in
    let gain : to_z w128 (of_z w128 c.difference.result) ≡ c.difference.result = grind (arith, to_z-of_z) in
    let units : to_z w128 (of_z w128 c.extended.result) ≡ c.extended.result = grind (arith, to_z-of_z) in
    record {
      value = units ∙ c.extended.ensures.value
          ∙ ap (λ z. half (z *ℤ pos (s.covered + (s.before + s.after))) (pos s.covered)) (gain ∙ c.difference.ensures.value)
          ∙ gauge_same c.args.ask.now.from c.args.ask.now.to c.args.first.now c.args.last.now c.args.steps s c.stretch_of-stretch.ensures stands;
    }
