use Rattle.std.proofs.Common.{◌<◌, List, ℕ, Some, length, slice_get, ap, sym, subst, ◌∙◌, arith}
use Rattle.pr_eval.proofs.SubquerySteps.{counted, numbered, sum_small, time_small}
use Rattle.pr_eval.proofs.range_calls.times.SubqueryTimes.at.Goals as goal

pub overflow_add-self-inside : goal.overflow_add-self-inside
overflow_add-self-inside c =
    let t = c.self.inside in
    let within : c.args.number < t.count = subst (λ n. c.args.number < n) (ap (λ (l : List ℕ). length l) (sym c.self.view_is) ∙ counted t.step t.first t.count) c.requires in
    let small = sum_small t.step t.first t.count c.args.number c.self.invariant.0 c.self.invariant.2 within in
    omega (arith, small)

pub overflow_mul-self-inside : goal.overflow_mul-self-inside
overflow_mul-self-inside c =
    let t = c.self.inside in
    let within : c.args.number < t.count = subst (λ n. c.args.number < n) (ap (λ (l : List ℕ). length l) (sym c.self.view_is) ∙ counted t.step t.first t.count) c.requires in
    let small = time_small t.step t.first t.count c.args.number c.self.invariant.0 c.self.invariant.2 within in
    omega (arith, small)

pub moment-requires : goal.moment-requires
moment-requires c =
    let t = c.self.inside in
    let within : c.args.number < t.count = subst (λ n. c.args.number < n) (ap (λ (l : List ℕ). length l) (sym c.self.view_is) ∙ counted t.step t.first t.count) c.requires in
    time_small t.step t.first t.count c.args.number c.self.invariant.0 c.self.invariant.2 within

pub returns : goal.returns
returns c =
    let t = c.self.inside in
    let within : c.args.number < t.count = subst (λ n. c.args.number < n) (ap (λ (l : List ℕ). length l) (sym c.self.view_is) ∙ counted t.step t.first t.count) c.requires in
    ap (λ (l : List ℕ). slice_get l c.args.number) (sym c.self.view_is) ∙ numbered t.step t.first t.count c.args.number within ∙ ap Some (sym c.moment.ensures)
