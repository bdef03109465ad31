-- Events are answered one after another.
use Rattle.std.proofs.Common.{◌≡◌, ℕ, List, [], ◌∷◌, ◌++◌, Option, Some, None, Ok, IfSome, IsSome, length, refl, sym, ap, ◌∙◌, subst, append_assoc, append-nil}
use Rattle.pr_outside.specs.Meant.{Store}
use Rattle.pr_outside.specs.Stores.{TellsHistory}
use Rattle.pr_outside.specs.private.Kept.{StartsRows}
use Rattle.pr_outside.specs.spec_history.Histories.{history_of}
use Rattle.pr_outside.specs.spec_history.declared.entry.Entry.{Entry}
use Rattle.pr_outside.specs.spec_history.declared.row.Row.{Row}
use Rattle.pr_engine.specs.pr_range.private.Asks.{LastAsks, Passed}
use Rattle.pr_engine.specs.private.Events.{IsKnownAfter, settings_of}
use Rattle.pr_engine.specs.private.Standing.{KeptEngine, StandsFor, Starts}
use Rattle.spec_world.specs.Step.{next, world_after}
use Rattle.spec_world.specs.World.{World, start}
use Rattle.spec_world.specs.declared.event.Event.{Event}
use Rattle.spec_world.specs.declared.event.Event.TheVariants as event
use Rattle.spec_world.specs.declared.report.Report.{Report}
use Rattle.test_embed.specs.private.Answers.{AreAnswers, reports_of}

-- where rows are told afterwards, what a restart reads again is known
pub known_after : (e : Event) (store : Store) → IsSome store.rows → IsKnownAfter e store
known_after (event.Add time labels point) store some = tt
known_after (event.Query time text) store some = tt
known_after (event.Scrape time target body) store some = tt
known_after (event.Fail time target) store some = tt
known_after (event.Gone time target) store some = tt
known_after (event.Eval time file group) store some = tt
known_after (event.Reload time files) store some = tt
known_after (event.Restart time) store some = some
known_after (event.Alerts time) store some = tt

-- rows that were told before a start tell what they tell after it
first_told : (before now : Option (List Row)) (history : List Entry) → StartsRows before now → IsSome now → IfSome now (λ rows. history_of rows ≡ Ok history) → IfSome before (λ rows. history_of rows ≡ Ok history)
first_told None now history kept some told = tt
first_told (Some rows) None history kept some told = absurd (cc)
first_told (Some rows) (Some given) history kept some told = subst (λ (rs : List Row). history_of rs ≡ Ok history) kept told

-- Of some events these are left, the others have these answers, and an engine stands for the world after
-- them.
pub record Answered {R : Type 0} (fits : R → List Entry → Type 0) (asked : R → LastAsks) (passed : R → Passed) (step : ℕ) (before : Store) (events rest : List Event) (answered : List Report) (k : KeptEngine R) (store : Store) : Type 0 where
  pub history : List Entry
  pub first : TellsHistory before history
  pub world : World
  pub stands : StandsFor fits asked passed k store world
  pub reports : answered ++ reports_of (settings_of step) world rest ≡ reports_of (settings_of step) (start history) events
  pub last : world_after (settings_of step) world rest ≡ world_after (settings_of step) (start history) events

module _ {R : Type 0} (fits : R → List Entry → Type 0) (asked : R → LastAsks) (passed : R → Passed) (step : ℕ) (before : Store) (events : List Event) where
  pub answered_none : (k : KeptEngine R) (store : Store) → Starts fits asked passed k store → StartsRows before.rows store.rows → IsSome store.rows → Answered fits asked passed step before events events [] k store
  answered_none k store s kept some = record {
    history = s.history;
    first = first_told before.rows store.rows s.history kept some s.stands.tells.rows;
    world = start s.history;
    stands = s.stands;
    reports = refl;
    last = refl;
  }

  pub answered_on : (e : Event) (rest : List Event) (answered : List Report) (report : Report) (k l : KeptEngine R) (a b : Store) (here : Answered fits asked passed step before events (e ∷ rest) answered k a) → k.step ≡ step
      → report ≡ (next (settings_of k.step) here.world e).report → StandsFor fits asked passed l b (next (settings_of k.step) here.world e).world
      → Answered fits asked passed step before events rest (answered ++ report ∷ []) l b
  answered_on e rest answered report k l a b here same told stands =
      let s = settings_of step in
      let w = (next s here.world e).world in
      record {
        history = here.history;
        first = here.first;
        world = w;
        stands = subst (λ (n : ℕ). StandsFor fits asked passed l b (next (settings_of n) here.world e).world) same stands;
        reports = append_assoc answered (report ∷ []) (reports_of s w rest)
            ∙ ap (λ (r : Report). answered ++ r ∷ reports_of s w rest) (told ∙ ap (λ (n : ℕ). (next (settings_of n) here.world e).report) same)
            ∙ here.reports;
        last = here.last;
      }

  pub answered_all : (rest : List Event) (answered : List Report) (k : KeptEngine R) (store : Store) → length rest ≡ 0 → Answered fits asked passed step before events rest answered k store → AreAnswers step events before store answered
  answered_all [] answered k store none here = record {
    history = here.history;
    first = here.first;
    reports = sym (append-nil answered) ∙ here.reports;
    kept = subst (λ (w : World). TellsHistory store w.history) here.last here.stands.tells.rows;
  }
  answered_all (e ∷ rest) answered k store none here = absurd (cc)
