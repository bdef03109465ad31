use Rattle.std.proofs.Common.{◌≡◌, ◌++◌, Some, None, ap, sym, subst, ◌∙◌}
use Rattle.pr_range.specs.private.Carried.{IsOnce}
use Rattle.pr_slide.specs.private.Carried.{number_from}
use Rattle.pr_slide.proofs.Numbers.{number_before, number_behind}
use Rattle.pr_slide.proofs.newer.number_near.Goals as goal

pub returns-in-Some : goal.returns-in-Some
returns-in-Some c = λ once.
    let whole : c.args.from.now ≡ c.split_at.result.0.now ++ c.split_at.result.1.now = c.split_at.ensures.by_index.0 in
    let found : number_from c.args.older c.split_at.result.1.now ≡ Some c.in-Some.place = sym c.first_from.ensures ∙ c.in-Some.is in
    sym (ap (number_from c.args.older) whole ∙ number_behind c.split_at.result.0.now c.split_at.result.1.now c.args.older c.in-Some.place (subst IsOnce whole once) found)

pub returns-in-None : goal.returns-in-None
returns-in-None c = λ once.
    let whole : c.args.from.now ≡ c.split_at.result.0.now ++ c.split_at.result.1.now = c.split_at.ensures.by_index.0 in
    let none : number_from c.args.older c.split_at.result.1.now ≡ None = sym c.first_from.ensures ∙ c.in-None.is in
    c.first_from-in-None.ensures ∙ number_before c.split_at.result.0.now c.split_at.result.1.now c.args.older (subst IsOnce whole once) none ∙ ap (number_from c.args.older) (sym whole)
