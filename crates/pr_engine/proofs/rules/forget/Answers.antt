use Rattle.std.proofs.Common.{◌≡◌, ◌∙◌, ◌≤ℤ◌, ℤ, ap, sym, subst, w64}
use Rattle.std.proofs.lemmas.Int.{to_z-of_z}
use Rattle.std.specs.Int.Signed.{≤ℤ_refl}
use Rattle.pr_head.specs.private.Stored.{trimmed}
use Rattle.pr_head.specs.private.Intake.{Series}
use Rattle.pr_engine.specs.private.Standing.{HoldsNoneUntil}
use Rattle.pr_engine.specs.private.Times.{forgotten_at}
use Rattle.pr_engine.proofs.Values.{none_until, still_whole}
use Rattle.pr_engine.proofs.rules.forget.Goals as goal

pub returns-clause-keeps : goal.returns-clause-keeps
returns-clause-keeps c = λ last history h late.
    let until = to_z-of_z w64 c.args.until c.ranges.until ∙ c.requires in
    record {
      holds = c.trim.ensures.holds history h.holds;
      whole = λ x above. c.trim.ensures.whole history x x h.lawful h.holds (still_whole c.args.head.now last c.args.time history h late x above) (≤ℤ_refl x)
          (subst (λ (b : ℤ). b ≤ℤ x) (sym until) above);
      lawful = h.lawful;
    }

pub returns-clause-forgets : goal.returns-clause-forgets
returns-clause-forgets c =
    let until = to_z-of_z w64 c.args.until c.ranges.until ∙ c.requires in
    let after : c.trim.new.self ≡ trimmed (forgotten_at c.args.time) c.args.head.now = c.trim.ensures.later ∙ ap (λ (b : ℤ). trimmed b c.args.head.now) until in
    subst (λ (h : Series). HoldsNoneUntil h (forgotten_at c.args.time)) (sym after) (none_until c.args.head.now (forgotten_at c.args.time))
