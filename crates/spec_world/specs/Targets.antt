-- The targets that are known, and what the orders about them come to.
use Rattle.std.specs.Prelude.{ℕ, not, cond, List, [], ◌∷◌, filter, unwrap_or, Option, Some, None}
use Rattle.pr_ast.specs.pr_labels.declared.pair.Pair.{Pair}
use Rattle.pr_ast.specs.pr_labels.Order.{labels_eq}
use Rattle.spec_vectors.specs.spec_history.declared.entry.Entry.{Entry}
use Rattle.spec_world.specs.declared.scraped.Scraped.{Scraped}
use Rattle.spec_world.specs.Scrapes.{Scrape, gone_of, scrape_of}

-- a target, and the series that its last scrape left tracked
pub record Target : Type 0 where
  pub labels : List Pair
  pub tracked : List (List Pair)

-- what is tracked of a target, where it is known
abbrev pub tracked_at : List Target → List Pair → Option (List (List Pair))
tracked_at [] labels = None
tracked_at (t ∷ targets) labels = cond (labels_eq labels t.labels) (Some t.tracked) (tracked_at targets labels)

-- nothing is tracked of an unknown one
abbrev pub tracked_of : List Target → List Pair → List (List Pair)
tracked_of targets labels = unwrap_or (tracked_at targets labels) []

abbrev pub without_target : List Target → List Pair → List Target
without_target targets labels = filter (λ t. not (labels_eq labels t.labels)) targets

-- The target with what is tracked of it from now on. It stands where it stood, or, where it was
-- unknown, last.
abbrev pub with_tracked : List Target → List Pair → List (List Pair) → List Target
with_tracked [] labels tracked = record { labels = labels; tracked = tracked } ∷ []
with_tracked (t ∷ ts) labels tracked =
    cond (labels_eq labels t.labels) (record { labels = t.labels; tracked = tracked } ∷ ts) (t ∷ with_tracked ts labels tracked)

-- what an order about a target comes to: the targets after it, the entries that are put, in order,
-- and what is answered
pub record TargetStep : Type 0 where
  pub targets : List Target
  pub entries : List Entry
  pub answer : Scraped

-- A scrape makes a target known, also one that failed.
abbrev pub scraped_target : List Target → List Pair → Scrape → TargetStep
scraped_target targets target s = record { targets = with_tracked targets target s.tracked; entries = s.entries; answer = s.answer }

abbrev pub scrape_step : List Target → List Entry → List Pair → ℕ → List ℕ → TargetStep
scrape_step targets history target now body = scraped_target targets target (scrape_of target now (tracked_of targets target) (Some body) history)

abbrev pub fail_step : List Target → List Entry → List Pair → ℕ → TargetStep
fail_step targets history target now = scraped_target targets target (scrape_of target now (tracked_of targets target) None history)

-- The end of a target makes it unknown. That of an unknown one is nothing.
abbrev pub forgotten_by : List Target → List Pair → Scrape → TargetStep
forgotten_by targets target s = record { targets = without_target targets target; entries = s.entries; answer = s.answer }

abbrev pub nothing_scraped : Scraped
nothing_scraped = record { admitted = []; fault = None; added = 0; dropped = 0; stale = 0 }

abbrev pub gone_by : Option (List (List Pair)) → List Target → List Entry → List Pair → ℕ → TargetStep
gone_by None targets history target now = record { targets = targets; entries = []; answer = nothing_scraped }
gone_by (Some tracked) targets history target now = forgotten_by targets target (gone_of target now tracked history)

abbrev pub gone_step : List Target → List Entry → List Pair → ℕ → TargetStep
gone_step targets history target now = gone_by (tracked_at targets target) targets history target now
