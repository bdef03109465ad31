use Rattle.std.proofs.Common.{◌+◌, ap, ◌∙◌, w64}
use Rattle.std.proofs.lemmas.Int.{to_z-of_z}
use Rattle.pr_head.specs.private.Stored.{Stored, position_of}
use Rattle.pr_head.proofs.series.Series.position.Goals as goal

pub returns : goal.returns
returns c =
    ap (λ (s : Stored). s.first + c.until.result) c.self.view_is ∙ c.until.ensures.place ∙ ap (position_of c.args.self.now) (to_z-of_z w64 c.args.time c.ranges.time)
