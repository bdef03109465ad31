use Rattle.std.proofs.Common.{◌∷◌, []}
use Rattle.pr_head.proofs.IntakeIntake.{taken_if}
use Rattle.pr_head.proofs.intake.taking.append.Goals as goal

pub returns-clause-taken : goal.returns-clause-taken
returns-clause-taken c = λ history h.
    taken_if c.append.result c.args.head.now c.append.new.self history (c.args.entry.now ∷ []) (c.append.ensures.holds history h) (λ x w. c.append.ensures.whole history x h w)
