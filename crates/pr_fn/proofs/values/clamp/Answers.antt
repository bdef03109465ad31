use Rattle.std.proofs.Common.{◌≡◌, Bool, Ok, [], if◌then◌else◌, rules, ap, sym}
use Rattle.spec_vectors.specs.Functions.{clamped, mapped, within}
use Rattle.pr_fn.specs.private.Faults.{function_told}
use Rattle.pr_fn.proofs.Mapping.{told_same}
use Rattle.pr_fn.proofs.values.clamp.Goals as goal

pub returns-clause-clamped : goal.returns-clause-clamped
returns-clause-clamped c =
    let least = c.args.least in
    let most = c.args.most in
    let items = c.args.vector.now in
    let is : clamped least most items ≡ mapped (λ v. Ok (within least most v)) items =
    ap (λ (b : Bool). if b then Ok [] else mapped (λ v. Ok (within least most v)) items) (sym c.if-are_crossed.ensures) in
    told_same c.map_values.result (λ v. v.items) function_told (clamped least most items) (mapped (λ v. Ok (within least most v)) items) is
    (c.map_values.ensures.mapped (λ v. Ok (within least most v)) (record { gives = λ v r k. search rules }))
