use Rattle.std.proofs.Common.{rules, sym, ap, ◌∙◌, ◌<◌, ◌+◌, ◌++◌, ◌∷◌, ◌≡◌, drop, length, arith}
use Rattle.std.proofs.lemmas.List.{drop_more}
use Rattle.pr_expo.specs.Lint.{problems_from}
use Rattle.pr_expo.proofs.Marking.{marks_enough, family_done}
use Rattle.pr_expo.proofs.complaints.lint.Goals as goal

pub mark_at-requires : goal.mark_at-requires
mark_at-requires c =
    let held = c.loop-family.invariant in
    let enough : length c.in_ok-marks.marks.items ≡ length c.as_slice-families.result.now =
    ap length held.1 ∙ marks_enough (length c.as_slice-families.result.now) c.args.exposition.now.lines in
    search (rules, enough)

pub loop-family-preserved : goal.loop-family-preserved
loop-family-preserved c =
    let held = c.loop-family.invariant in
    let families = c.as_slice-families.result.now in
    let lines = c.args.exposition.now.lines in
    let i = c.loop-family.family-index in
    let place = c.loop-family.place in
    let f = c.family-item.result in
    let in_range : i < length families = search rules in
    let there : place < length families = omega (arith, in_range, held.0) in
    let front : drop place families ≡ f ∷ drop (i + 1) families =
    ap (λ k. drop k families) held.0 ∙ drop_more families i f in_range ∙ ap (λ x. x ∷ drop (i + 1) families) (sym c.family-item.is) in (
      ap (λ n. n + 1) held.0,
      held.1,
      family_done families (drop (i + 1) families) lines place f c.in_ok-marks.marks.items c.mark_at.result c.in_ok-kinds.kinds.items
          c.loop-family.problems.items c.in_ok-problems.problems.items _ front held.1 there (search rules) (search rules) (search rules)
          (ap (λ k. c.loop-family.problems.items ++ problems_from lines place (drop k families)) held.0 ∙ held.2),
    )
