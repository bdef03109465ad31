use Rattle.std.proofs.Common.{◌≡◌, ◌<◌, length, get_or, ap, sym, ◌∙◌, arith}
use Rattle.pr_slide.proofs.Nodes.{Row}
use Rattle.pr_slide.proofs.Placing.{places_more}
use Rattle.pr_slide.proofs.places.Places.note_all.Goals as goal

pub loop-place-preserved : goal.loop-place-preserved
loop-place-preserved c =
    let at = c.loop-place.invariant.count in
    let test = c.loop-place-test.true in
    let inside : c.loop-place.self.0 < length c.args.nodes.now = omega arith in
    let here : c.number.result ≡ (get_or c.args.nodes.now c.loop-place.self.0 c.index-nodes-place.result).0 =
    c.number.ensures ∙ ap (λ (r : Row). r.0) c.index-nodes-place.is ∙ ap (λ i. (get_or c.args.nodes.now i c.index-nodes-place.result).0) (sym at) in
    let count = c.in_ok-note.ensures.count in
    record {
      places = places_more c.loop-place.self c.note.new.self c.args.nodes.now c.number.result c.index-nodes-place.result c.loop-place.invariant.places inside here count c.in_ok-note.ensures.places;
      count = omega arith;
    }
