use Rattle.std.proofs.Common.{◌≡◌, ℕ, List, Option, subst, sym}
use Rattle.std.specs.Prelude.{IfSome}
use Rattle.pr_labels.specs.SeriesText.{series_text}
use Rattle.pr_engine.proofs.PrintedTexts.{found_printed}
use Rattle.pr_engine.proofs.rows.texts.PrintedTexts.remembered.Goals as goal

pub returns-in-Some : goal.returns-in-Some
returns-in-Some c =
    subst (λ (found : Option (List ℕ)). IfSome found (λ text. text ≡ series_text c.args.labels.now)) (sym c.in-Some.ensures.value)
    (found_printed c.args.labels.now c.self.inside.texts.entries c.self.invariant.printed)
