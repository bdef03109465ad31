-- The world after evaluations.
use Rattle.std.proofs.Common.{◌≡◌, ◌≢◌, ℕ, zero, suc, ◌+◌, ◌<◌, ◌≤◌, Bool, true, false, cond, nat_lt, List, [], ◌∷◌, ◌++◌, map, take, length, slice_get, Option, Some, None, ◌⊎◌, inl, inr, refl, sym, ap, subst, ◌∙◌, arith}
use Rattle.std.specs.Prelude.{◌==◌, find, slice_set}
use Rattle.std.specs.List.{AllByRecursion}
use Rattle.std.proofs.lemmas.Bool.Decides.{nat_tests}
use Rattle.spec_world.specs.spec_history.Admission.{put_all}
use Rattle.spec_world.specs.spec_history.declared.entry.Entry.{Entry}
use Rattle.spec_world.specs.spec_history.Puts.{marker}
use Rattle.spec_world.proofs.HistoryPutting.{puts_admitted}
use Rattle.spec_world.specs.spec_rules.Evaluations.{GroupStep, RulesProgress, all_rules, group_step, restoring}
use Rattle.spec_world.specs.spec_rules.Groups.{Group, is_group_named}
use Rattle.spec_world.specs.spec_rules.Settings.{Settings}
use Rattle.spec_world.specs.spec_rules.private.Times.{IsAfter, IsAfterAll}
use Rattle.spec_world.proofs.RulesPutting.{evaluation_admits}
use Rattle.spec_world.specs.declared.event.Event.TheVariants.{Eval}
use Rattle.spec_world.specs.declared.event.Event.{Event}
use Rattle.spec_world.specs.declared.report.Report.TheVariants as report
use Rattle.spec_world.specs.Outcome.{EventOutcome, refuse}
use Rattle.spec_world.specs.Rounds.{eval_after, eval_by, evaluation_outcome, with_group}
use Rattle.spec_world.specs.Step.{next, outcome_in_time, step_by, world_after}
use Rattle.spec_world.specs.World.{World}
use Rattle.spec_tests.specs.Events.{eval_at}
use Rattle.spec_tests.specs.private.Rounds.{AreApart, HaveSites, IsInRound, IsUpTo, site}
use Rattle.spec_tests.proofs.Adding.{in_time}
use Rattle.spec_tests.proofs.Named.{apart_by_sites, found_itself, same_site, set_itself, sites_set}

-- One group

is_later : (a b : ℕ) → a < b → nat_lt a b ≡ true
is_later a b h = grind (arith, nat_tests)

later_runs : (last : Option ℕ) (s : Settings) (w : World) (g : Group) (time : ℕ) → IsAfter time last → eval_after last s w g time ≡ evaluation_outcome w (group_step s g w.history time)
later_runs None s w g time h = refl
later_runs (Some last) s w g time h =
    ap (λ (b : Bool). cond b (evaluation_outcome w (group_step s g w.history time)) (refuse (report.NotLater last))) (is_later last time h)

-- the group keeps its file and its name, and was evaluated then
record StaysItself (g new : Group) (time : ℕ) : Type 0 where
  file : new.file ≡ g.file
  name : new.name ≡ g.name
  last : new.last ≡ Some time

itself_at_end : (b : Bool) (g : Group) (history : List Entry) (time : ℕ) (p : RulesProgress) (gone : List Entry) → StaysItself g (restoring b g history time p gone).group time
itself_at_end true g history time p gone = record { file = refl; name = refl; last = refl }
itself_at_end false g history time p gone = record { file = refl; name = refl; last = refl }

stays_itself : (s : Settings) (g : Group) (history : List Entry) (time : ℕ) → StaysItself g (group_step s g history time).group time
unfolding group_step
stays_itself s g history time = itself_at_end (g.waits == 1) g history time (all_rules s g history time) (map (marker time) g.leftovers)

-- The evaluation of the group with a number: what it puts is put, and it takes its own place.
pub record HasEvaluated (w new : World) (j : ℕ) (step : GroupStep) (time : ℕ) : Type 0 where
  pub history : new.history ≡ put_all w.history step.entries
  pub groups : new.groups ≡ slice_set w.groups j step.group
  pub last : new.last ≡ Some time

abbrev evaluated_world : World → GroupStep → ℕ → World
evaluated_world w step time =
    record { history = w.history ++ step.report.admitted; last = Some time; targets = w.targets; groups = with_group w.groups step.group; reloaded = w.reloaded }

next_is : (s : Settings) (w : World) (g : Group) (time : ℕ) → find (is_group_named g.file g.name) w.groups ≡ Some g → IsUpTo w.last time → IsAfter time g.last
    → (next s w (eval_at time g)).world ≡ evaluated_world w (group_step s g w.history time) time
unfolding next
next_is s w g time found up after =
    ap (λ (o : EventOutcome). (step_by w time o).world)
    (in_time w.last time (outcome_in_time s w (Eval time g.file g.name)) up
    ∙ ap (eval_by s w time g.file g.name) found
    ∙ later_runs g.last s w g time after)

pub one_evaluated : (s : Settings) (w : World) (j : ℕ) (g : Group) (time : ℕ) → AreApart w.groups → slice_get w.groups j ≡ Some g → IsUpTo w.last time → IsAfter time g.last
    → HasEvaluated w (next s w (eval_at time g)).world j (group_step s g w.history time) time
one_evaluated s w j g time apart there up after =
    let step = group_step s g w.history time in
    let is = next_is s w g time (found_itself w.groups j g apart there) up after in
    let itself = stays_itself s g w.history time in
    let so : HasEvaluated w (evaluated_world w step time) j step time = record {
      history = ap (λ (es : List Entry). w.history ++ es) (evaluation_admits s g w.history time) ∙ sym (puts_admitted w.history step.entries);
      groups = set_itself w.groups j g step.group apart there itself.file itself.name;
      last = refl;
    } in
    subst (λ (x : World). HasEvaluated w x j step time) (sym is) so

-- A round of evaluations

set_same : {X : Type 0} (xs : List X) (i : ℕ) (x y : X) → slice_get xs i ≡ Some x → slice_get (slice_set xs i y) i ≡ Some y
set_same [] i x y h = absurd cc
set_same (z ∷ xs) zero x y h = refl
set_same (z ∷ xs) (suc i) x y h = set_same xs i x y h

pub set_other : {X : Type 0} (xs : List X) (i j : ℕ) (y : X) → j ≢ i → slice_get (slice_set xs i y) j ≡ slice_get xs j
set_other [] i j y h = refl
set_other (z ∷ xs) zero zero y h = absurd (h refl)
set_other (z ∷ xs) zero (suc j) y h = refl
set_other (z ∷ xs) (suc i) zero y h = refl
set_other (z ∷ xs) (suc i) (suc j) y h = set_other xs i j y (λ e. h (ap suc e))

pub same_or_not : (i j : ℕ) → (i ≡ j) ⊎ (i ≢ j)
same_or_not zero zero = inl refl
same_or_not zero (suc j) = inr (λ e. absurd (omega arith))
same_or_not (suc i) zero = inr (λ e. absurd (omega arith))
same_or_not (suc i) (suc j) = by (same_or_not i j) where
  by : (i ≡ j) ⊎ (i ≢ j) → (suc i ≡ suc j) ⊎ (suc i ≢ suc j)
  by (inl e) = inl (ap suc e)
  by (inr n) = inr (λ e. n (omega arith))

-- the event of a group is that of the one in its place
pub same_event : (w : World) (groups : List Group) (time i : ℕ) (g g0 : Group) → HaveSites w.groups groups → slice_get w.groups i ≡ Some g → slice_get groups i ≡ Some g0 → eval_at time g ≡ eval_at time g0
same_event w groups time i g g0 sites there there0 = ap (λ (at : List ℕ × List ℕ). Eval time at.0 at.1) (same_site w.groups groups i g g0 sites there there0)

pub next_in_round : (s : Settings) (w : World) (groups : List Group) (time i : ℕ) (g g0 : Group) → AreApart groups → slice_get groups i ≡ Some g0 → slice_get w.groups i ≡ Some g → IsInRound groups time i w
    → HasEvaluated w (next s w (eval_at time g0)).world i (group_step s g w.history time) time × IsInRound groups time (i + 1) (next s w (eval_at time g0)).world
next_in_round s w groups time i g g0 apart there0 there in_round =
    let step = group_step s g w.history time in
    let itself = stays_itself s g w.history time in
    let came : HasEvaluated w (next s w (eval_at time g)).world i step time =
    one_evaluated s w i g time (apart_by_sites w.groups groups in_round.sites apart) there in_round.last (in_round.rest i g (omega arith) there) in
    let then : HasEvaluated w (next s w (eval_at time g0)).world i step time = subst (λ (e : Event). HasEvaluated w (next s w e).world i step time) (same_event w groups time i g g0 in_round.sites there there0) came in
    (then, further step itself then)
  where
    further : (step : GroupStep) → StaysItself g step.group time → HasEvaluated w (next s w (eval_at time g0)).world i step time → IsInRound groups time (i + 1) (next s w (eval_at time g0)).world
    further step itself then = record {
      sites = ap (λ (gs : List Group). map site gs) then.groups ∙ sites_set w.groups i g step.group there itself.file itself.name ∙ in_round.sites;
      last = subst (λ (o : Option ℕ). IsUpTo o time) (sym then.last) (omega arith);
      done = λ j x low at. done_by j x low (sym (ap (λ (gs : List Group). slice_get gs j) then.groups) ∙ at) (same_or_not j i);
      rest = λ j x high at. in_round.rest j x (omega arith) (sym (set_other w.groups i j step.group (λ e. absurd (omega arith))) ∙ sym (ap (λ (gs : List Group). slice_get gs j) then.groups) ∙ at);
    }
      where
        done_by : (j : ℕ) (x : Group) → j < i + 1 → slice_get (slice_set w.groups i step.group) j ≡ Some x → (j ≡ i) ⊎ (j ≢ i) → x.last ≡ Some time
        done_by j x low at (inl e) =
            let here : Some x ≡ Some step.group = sym at ∙ ap (slice_get (slice_set w.groups i step.group)) e ∙ set_same w.groups i g step.group there in
            let is : x ≡ step.group = cc in
            ap (λ (y : Group). y.last) is ∙ itself.last
        done_by j x low at (inr n) = in_round.done j x (omega arith) (sym (set_other w.groups i j step.group n) ∙ at)

-- The world after the first groups of a round, and one more.
pub world_next : (s : Settings) (w : World) (groups : List Group) (time i : ℕ) (g0 : Group) → take (i + 1) groups ≡ take i groups ++ g0 ∷ []
    → world_after s w (map (eval_at time) (take (i + 1) groups)) ≡ (next s (world_after s w (map (eval_at time) (take i groups))) (eval_at time g0)).world
world_next s w groups time i g0 e = ap (λ (gs : List Group). world_after s w (map (eval_at time) gs)) e ∙ by s w (take i groups) where
  by : (s : Settings) (w : World) (gs : List Group) → world_after s w (map (eval_at time) (gs ++ g0 ∷ [])) ≡ (next s (world_after s w (map (eval_at time) gs)) (eval_at time g0)).world
  by s w [] = refl
  by s w (g ∷ gs) = by s (next s w (eval_at time g)).world gs

-- Before a round and after it

all_from_each : {X : Type 0} (P : X → Type 0) (xs : List X) → ((j : ℕ) (x : X) → slice_get xs j ≡ Some x → P x) → AllByRecursion P xs
all_from_each P [] h = tt
all_from_each P (x ∷ xs) h = (h 0 x refl, all_from_each P xs (λ j y at. h (suc j) y at))

each_from_all : {X : Type 0} (P : X → Type 0) (xs : List X) → AllByRecursion P xs → (j : ℕ) (x : X) → slice_get xs j ≡ Some x → P x
each_from_all P [] h j x at = absurd cc
each_from_all P (y ∷ xs) h zero x at = let e : y ≡ x = cc in subst P e h.0
each_from_all P (y ∷ xs) h (suc j) x at = each_from_all P xs h.1 j x at

pub begins_round : (w : World) (groups : List Group) (time : ℕ) → HaveSites w.groups groups → IsUpTo w.last time → IsAfterAll time w.groups → IsInRound groups time 0 w
begins_round w groups time sites up ready = record {
  sites = sites;
  last = up;
  done = λ j g low at. absurd (omega arith);
  rest = λ j g low at. each_from_all (λ (x : Group). IsAfter time x.last) w.groups ready j g at;
}

pub ready_again : (w : World) (groups : List Group) (time next_time i : ℕ) → IsInRound groups time i w → length w.groups ≤ i → time < next_time → IsAfterAll next_time w.groups
ready_again w groups time next_time i in_round all later =
    all_from_each (λ (x : Group). IsAfter next_time x.last) w.groups (λ j g at. subst (IsAfter next_time) (sym (in_round.done j g (within j g at) at)) later) where
      inside : (xs : List Group) (j : ℕ) (g : Group) → slice_get xs j ≡ Some g → j < length xs
      inside [] j g at = absurd cc
      inside (x ∷ xs) zero g at = omega arith
      inside (x ∷ xs) (suc j) g at = let k : j < length xs = inside xs j g at in omega arith

      within : (j : ℕ) (g : Group) → slice_get w.groups j ≡ Some g → j < i
      within j g at = let k : j < length w.groups = inside w.groups j g at in omega arith
