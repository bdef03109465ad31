use Rattle.std.proofs.Common.{◌≡◌, ◌≢◌, ◌+◌, ◌-◌, ◌≤◌, true, false, length, slice_get, ap, sym, subst, ◌∙◌, arith, w64}
use Rattle.std.specs.List.Sorted.{IsNonDecreasingBy}
use Rattle.std.proofs.lemmas.Int.{to_z-of_z}
use Rattle.pr_head.specs.private.Stored.{Stored, is_there_until}
use Rattle.pr_head.proofs.Places.{place_is}
use Rattle.pr_head.proofs.series.Series.until_near.Goals as goal
use Rattle.pr_head.proofs.series.Series.until_near.Goals.{then-near-eq0, else-near-eq0}

pub returns-else-is_there_until-2-clause-place : goal.returns-else-is_there_until-2-clause-place
returns-else-is_there_until-2-clause-place c =
    let s = c.args.self.now in
    let near = c.args.near in
    let time = to_z-of_z w64 c.args.time c.ranges.time in
    let rising : IsNonDecreasingBy (λ x. x.time) s.held = subst (λ (x : Stored). IsNonDecreasingBy (λ y. y.time) x.held) c.self.view_is c.self.invariant.rising in
    let before : is_there_until c.args.time (slice_get s.held near) ≡ true = ap (λ t. is_there_until t (slice_get s.held near)) (sym time) ∙ sym c.is_there_until.ensures.value ∙ c.if-is_there_until.true in
    let here : is_there_until c.args.time (slice_get s.held (near + 1)) ≡ false = ap (λ t. is_there_until t (slice_get s.held (near + 1))) (sym time) ∙ sym c.is_there_until-then-is_there_until.ensures.value ∙ c.if-is_there_until-2.false in
    let within : near + 1 ≤ length s.held = omega (arith, c.is_there_until.ensures.within c.if-is_there_until.true) in
    let back : near + 1 - 1 ≡ near = omega arith in
    ap (λ n. s.first + n) (sym (place_is c.args.time s.held (near + 1) rising within here (λ n. ap (λ k. is_there_until c.args.time (slice_get s.held k)) back ∙ before)))

pub returns-then-is_there_until-3-clause-place : goal.returns-then-is_there_until-3-clause-place
returns-then-is_there_until-3-clause-place c =
    let s = c.args.self.now in
    let near = c.args.near in
    let time = to_z-of_z w64 c.args.time c.ranges.time in
    let rising : IsNonDecreasingBy (λ x. x.time) s.held = subst (λ (x : Stored). IsNonDecreasingBy (λ y. y.time) x.held) c.self.view_is c.self.invariant.rising in
    let here : is_there_until c.args.time (slice_get s.held near) ≡ false = ap (λ t. is_there_until t (slice_get s.held near)) (sym time) ∙ sym c.is_there_until.ensures.value ∙ c.if-is_there_until.false in
    let parted : (near ≤ length s.held) × (near ≢ 0 → is_there_until c.args.time (slice_get s.held (near - 1)) ≡ true) = elim c.if-near-eq0.branch [
      | then-near-eq0 w ↦ (omega (arith, w.if-near-eq0.true), λ n. absurd (n w.if-near-eq0.true))
      | else-near-eq0 w ↦ (
        omega (arith, w.is_there_until-else-near-eq0.ensures.within (sym w.value-is ∙ c.if-is_there_until-3.true)),
        λ n. ap (λ t. is_there_until t (slice_get s.held (near - 1))) (sym time) ∙ sym w.is_there_until-else-near-eq0.ensures.value ∙ sym w.value-is ∙ c.if-is_there_until-3.true,
      )
    ] in
    ap (λ n. s.first + n) (sym (place_is c.args.time s.held near rising parted.0 here parted.1))
