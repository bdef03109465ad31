-- The world after samples.
use Rattle.std.proofs.Common.{◌≡◌, ℕ, ◌≤◌, Bool, false, cond, nat_lt, List, [], ◌∷◌, ◌++◌, map, Option, Some, None, refl, sym, ap, subst, ◌∙◌, arith}
use Rattle.std.proofs.lemmas.Bool.Decides.{nat_tests}
use Rattle.spec_world.specs.spec_history.Admission.{admit, put, put_all}
use Rattle.spec_world.specs.spec_history.declared.entry.Entry.{Entry}
use Rattle.spec_world.specs.spec_rules.Settings.{Settings}
use Rattle.spec_world.specs.declared.event.Event.{Event}
use Rattle.spec_world.specs.declared.event.Event.TheVariants.{Add}
use Rattle.spec_world.specs.declared.report.Report.TheVariants as report
use Rattle.spec_world.specs.Outcome.{EventOutcome, refuse, unless_backwards}
use Rattle.spec_world.specs.Step.{next, outcome_in_time, step_by, world_after}
use Rattle.spec_world.specs.World.{World}
use Rattle.spec_world.proofs.Steps.{put_is}
use Rattle.spec_tests.specs.Events.{add_of}
use Rattle.spec_tests.specs.private.Sooner.{AllAt}
use Rattle.spec_tests.specs.private.Rounds.{IsUpTo}

not_before : (a b : ℕ) → b ≤ a → nat_lt a b ≡ false
not_before a b h = grind (arith, nat_tests)

-- what is not before the last event is not refused for its time
pub in_time : (last : Option ℕ) (time : ℕ) (o : EventOutcome) → IsUpTo last time → unless_backwards last time o ≡ o
in_time None time o h = refl
in_time (Some last) time o h = ap (λ (b : Bool). cond b (refuse (report.Backwards last time)) o) (not_before time last h)

-- one event after another
pub world_parts : (s : Settings) (w : World) (es more : List Event) → world_after s w (es ++ more) ≡ world_after s (world_after s w es) more
world_parts s w [] more = refl
world_parts s w (e ∷ es) more = world_parts s (next s w e).world es more

abbrev after_sample : World → Entry → World
after_sample w e = record { history = put w.history e; last = Some e.time; targets = w.targets; groups = w.groups; reloaded = w.reloaded }

abbrev with_history : World → Entry → List Entry → World
with_history w e history = record { history = history; last = Some e.time; targets = w.targets; groups = w.groups; reloaded = w.reloaded }

one_added : (s : Settings) (w : World) (e : Entry) → IsUpTo w.last e.time → (next s w (add_of e)).world ≡ after_sample w e
unfolding next
one_added s w e h =
    ap (λ (o : EventOutcome). (step_by w e.time o).world) (in_time w.last e.time (outcome_in_time s w (Add e.time e.labels e.point)) h)
    ∙ ap (with_history w e) (sym (put_is (admit w.history e.labels e.time e.point) w.history e))

-- What samples of one time leave: they are put, and the groups stay.
pub record HasAdded (w new : World) (es : List Entry) (time : ℕ) : Type 0 where
  pub history : new.history ≡ put_all w.history es
  pub groups : new.groups ≡ w.groups
  pub last : IsUpTo new.last time

pub all_added : (s : Settings) (es : List Entry) (time : ℕ) (w : World) → AllAt (λ (e : Entry). e.time) time es → IsUpTo w.last time → HasAdded w (world_after s w (map add_of es)) es time
all_added s [] time w h up = record { history = refl; groups = refl; last = up }
all_added s (e ∷ es) time w h up =
    let first : (next s w (add_of e)).world ≡ after_sample w e = one_added s w e (subst (IsUpTo w.last) (sym h.0) up) in
    let rest : HasAdded (after_sample w e) (world_after s (after_sample w e) (map add_of es)) es time = all_added s es time (after_sample w e) h.1 (omega arith) in
    let same : HasAdded w (world_after s (after_sample w e) (map add_of es)) (e ∷ es) time = record { history = rest.history; groups = rest.groups; last = rest.last } in
    subst (λ (x : World). HasAdded w (world_after s x (map add_of es)) (e ∷ es) time) (sym first) same
