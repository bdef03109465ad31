-- What is remembered of samples holds of those with the same labels.
use Rattle.std.proofs.Common.{◌≡◌, ℕ, ◌<◌, true, List, length, get_or, sym, ap, ◌∙◌, subst}
use Rattle.std.proofs.lemmas.List.Elements.{All-get_or}
use Rattle.pr_labels.specs.declared.pair.Pair.{Pair}
use Rattle.pr_labels.specs.Order.{labels_eq}
use Rattle.pr_labels.proofs.LabelOrder.{labels_decide}
use Rattle.pr_manager.specs.spec_world.Scrapes.{scraped_labels}
use Rattle.pr_engine.specs.declared.scrape.made.Made.{Made}
use Rattle.pr_engine.specs.private.Making.{AreMade}

pub known_made : (target : List Pair) (made : List Made) (place : ℕ) (one : Made) (from : List Pair) → AreMade target made → place < length made → one ≡ get_or made place one
    → labels_eq one.from from ≡ true → one.to ≡ scraped_labels target from
known_made target made place one from h within is same =
    subst (λ (m : Made). m.to ≡ scraped_labels target m.from) (sym is) (All-get_or (λ (m : Made). m.to ≡ scraped_labels target m.from) made place one within h)
    ∙ ap (scraped_labels target) ((labels_decide one.from from).0 same)
