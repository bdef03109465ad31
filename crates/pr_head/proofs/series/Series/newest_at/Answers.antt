use Rattle.std.proofs.Common.{◌≡◌, ◌-◌, suc, true, length, slice_get, ap, sym, ◌∙◌, arith, w64}
use Rattle.std.proofs.lemmas.Int.{to_z-of_z}
use Rattle.pr_head.specs.private.Stored.{Stored, newest_at, held_before, is_there_until}
use Rattle.pr_head.proofs.Places.{before_at, last_newest}
use Rattle.pr_head.proofs.series.Series.newest_at.Goals as goal

pub returns-then-until-eq0 : goal.returns-then-until-eq0
returns-then-until-eq0 c =
    let time = to_z-of_z w64 c.args.time c.ranges.time in
    sym (ap (newest_at c.args.self.now) (sym time) ∙ c.until-until.ensures.newest ∙ ap (held_before c.args.self.now.held) c.if-until-eq0.true)

pub returns : goal.returns
returns c =
    let time = to_z-of_z w64 c.args.time c.ranges.time in
    c.held-2.ensures ∙ before_at c.args.self.now.held c.until-until.result c.if-until-eq0.false ∙ sym (ap (newest_at c.args.self.now) (sym time) ∙ c.until-until.ensures.newest)

pub returns-then-is_there_until : goal.returns-then-is_there_until
returns-then-is_there_until c =
    let s = c.args.self.now in
    let n = c.len-count.result - 1 in
    let time = to_z-of_z w64 c.args.time c.ranges.time in
    let held : c.self.inside.samples.items ≡ s.held = ap (λ (x : Stored). x.held) c.self.view_is in
    let size = ap length held in
    let many : length s.held ≡ suc n = omega (arith, size, c.len-count.ensures, c.if-count-gt0.true) in
    let late : is_there_until c.args.time (slice_get s.held n) ≡ true = ap (λ t. is_there_until t (slice_get s.held n)) (sym time) ∙ sym c.is_there_until.ensures.value ∙ c.if-is_there_until.true in
    c.held.ensures ∙ sym (last_newest c.args.time s.held n many late)
