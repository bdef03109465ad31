use Rattle.std.proofs.Common.{◌≡◌, true, List, sym, ap, ◌∙◌}
use Rattle.std.specs.Cmp.Lexicographic.{pointwise}
use Rattle.pr_labels.specs.declared.pair.Pair.{Pair}
use Rattle.pr_labels.specs.Order.{labels_eq}
use Rattle.pr_engine.proofs.Tracking.{same_kept}
use Rattle.pr_engine.proofs.scrape.known.are_same.Goals as goal

pub returns-in-Some : goal.returns-in-Some
returns-in-Some c = λ tracked h same.
    let told : pointwise labels_eq c.in-Some.sets c.args.kept.now ≡ true =
    ap (λ (l : List (List Pair)). pointwise labels_eq l c.args.kept.now) (sym c.as_slice.ensures) ∙ sym c.eq.ensures ∙ same in
    same_kept c.args.known.now c.in-Some.sets c.args.kept.now tracked c.in-Some.is h told
