use Rattle.std.proofs.Common.{◌≡◌, ℕ, ◌∷◌, [], IfSome, slice_get, Some, Option, subst}
use Rattle.pr_slide.specs.pr_head.private.Holds.{entry_of, sets_of}
use Rattle.pr_slide.proofs.HeadIntakeIntake.{taken_if}
use Rattle.pr_unit.proofs.feeding.feed.append_by.Goals as goal

pub returns-in-Some : goal.returns-in-Some
returns-in-Some c = λ history h.
    let labels = c.args.labels.now in
    let here : slice_get (sets_of c.args.head.now) c.in-Some.known ≡ Some labels =
    subst (λ (o : Option ℕ). IfSome o (λ n. slice_get (sets_of c.args.head.now) n ≡ Some labels)) c.in-Some.is c.requires in
    taken_if c.append_at.result c.args.head.now c.append_at.new.self history (entry_of labels c.args.time c.args.point ∷ [])
    (c.append_at.ensures.holds history labels h here) (λ x w. c.append_at.ensures.whole history labels x h here w)

pub returns-in-None : goal.returns-in-None
returns-in-None c = λ history h.
    taken_if c.append.result c.args.head.now c.append.new.self history (entry_of c.args.labels.now c.args.time c.args.point ∷ [])
    (c.append.ensures.holds history h) (λ x w. c.append.ensures.whole history x h w)
