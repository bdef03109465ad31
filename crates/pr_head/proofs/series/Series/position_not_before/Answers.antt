use Rattle.std.proofs.Common.{◌≡◌, ◌-◌, ◌≤◌, ◌<◌, true, false, max, slice_get, ap, subst, sym, ◌∙◌, arith, w64, to_z, of_z}
use Rattle.std.specs.List.Sorted.{IsNonDecreasingBy}
use Rattle.std.proofs.lemmas.Int.{to_z-of_z}
use Rattle.pr_head.specs.private.Stored.{Stored, is_there_until, position_of}
use Rattle.pr_head.proofs.Places.{place_above, place_at_most}
use Rattle.pr_head.proofs.series.Series.position_not_before.Goals as goal

pub returns-then-place-self : goal.returns-then-place-self
returns-then-place-self c =
    let s = c.args.self.now in
    let first : c.self.inside.first ≡ s.first = ap (λ (x : Stored). x.first) c.self.view_is in
    let found : c.position.result ≡ position_of s c.args.time = c.position.ensures ∙ ap (position_of s) (to_z-of_z w64 c.args.time c.ranges.time) in
    let low : c.args.place < s.first = omega (arith, first, c.if-place-self.true) in
    let above : max (position_of s c.args.time) c.args.place ≡ position_of s c.args.time = omega arith in
    found ∙ sym above

pub returns-then-is_there_until : goal.returns-then-is_there_until
returns-then-is_there_until c =
    let s = c.args.self.now in
    let first : c.self.inside.first ≡ s.first = ap (λ (x : Stored). x.first) c.self.view_is in
    let time = to_z-of_z w64 c.args.time c.ranges.time in
    let rising : IsNonDecreasingBy (λ x. x.time) s.held = subst (λ (x : Stored). IsNonDecreasingBy (λ y. y.time) x.held) c.self.view_is c.self.invariant.rising in
    let here : is_there_until c.args.time (slice_get s.held (c.args.place - s.first)) ≡ true = ap (λ t. is_there_until t (slice_get s.held (c.args.place - s.first))) (sym time) ∙ ap (λ n. is_there_until (to_z w64 (of_z w64 c.args.time)) (slice_get s.held (c.args.place - n))) (sym first) ∙ sym c.is_there_until.ensures.value ∙ c.if-is_there_until.true in
    let low = place_above c.args.time s.held (c.args.place - s.first) rising here in
    let begun : s.first ≤ c.args.place = omega (arith, first, c.if-place-self.false) in
    let found : c.position_near.result ≡ position_of s c.args.time = c.position_near.ensures ∙ ap (position_of s) time in
    let above : max (position_of s c.args.time) c.args.place ≡ position_of s c.args.time = omega (arith, low) in
    found ∙ sym above

pub returns : goal.returns
returns c =
    let s = c.args.self.now in
    let first : c.self.inside.first ≡ s.first = ap (λ (x : Stored). x.first) c.self.view_is in
    let time = to_z-of_z w64 c.args.time c.ranges.time in
    let here : is_there_until c.args.time (slice_get s.held (c.args.place - s.first)) ≡ false = ap (λ t. is_there_until t (slice_get s.held (c.args.place - s.first))) (sym time) ∙ ap (λ n. is_there_until (to_z w64 (of_z w64 c.args.time)) (slice_get s.held (c.args.place - n))) (sym first) ∙ sym c.is_there_until.ensures.value ∙ c.if-is_there_until.false in
    let low = place_at_most c.args.time s.held (c.args.place - s.first) here in
    let begun : s.first ≤ c.args.place = omega (arith, first, c.if-place-self.false) in
    omega (arith, low)
