use Rattle.std.proofs.Common.{rules, refl}
use Rattle.pr_slide.specs.contracts.sliding.fn.renumber_all.retain_mut as closure
use Rattle.pr_slide.proofs.Carrying.{carried_retained}
use Rattle.pr_slide.proofs.sliding.renumber_all.Goals as goal

pub returns : goal.returns
returns c = carried_retained _ (λ f. (closure.captures f).from.now) c.args.from.now c.requires.once (λ s n there t m h. search rules) _ _ _ refl c.retain_mut.ensures.filtered
