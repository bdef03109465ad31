use Rattle.std.proofs.Common.{◌≡◌, true, subst}
use Rattle.pr_slide.specs.private.Kinds.{kept_in}
use Rattle.pr_slide.specs.private.Successions.{is_rising}
use Rattle.pr_slide.proofs.Telling.{rises_before}
use Rattle.pr_slide.proofs.window.push_spot.Goals as goal

pub returns-in_ok-push-in-Some-clause-told : goal.returns-in_ok-push-in-Some-clause-told
returns-in_ok-push-in-Some-clause-told g c = record {
  rising = λ r. rises_before (kept_in c.args.spots.now) _ (subst (λ l. is_rising l ≡ true) c.in_ok-push-in-Some.ensures.items r);
  told = λ f t r. c.in_ok-push-in-Some.ensures.told f t (subst (λ l. is_rising l ≡ true) c.in_ok-push-in-Some.ensures.items r);
}
