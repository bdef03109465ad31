-- What is remembered of the samples of a target's last scrape. Private contracts cite this: a reader
-- can pass it over.
use Rattle.std.specs.Prelude.{◌≡◌, List, All}
use Rattle.pr_labels.specs.declared.pair.Pair.{Pair}
use Rattle.pr_manager.specs.spec_world.Scrapes.{scraped_labels}
use Rattle.pr_engine.specs.declared.scrape.made.Made.{Made}

-- under the target each of the samples has the labels that are remembered
abbrev pub AreMade : List Pair → List Made → Type 0
AreMade target made = All (λ m. m.to ≡ scraped_labels target m.from) made
