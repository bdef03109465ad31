-- One place and one round after another, a test comes to what its events come to.
use Rattle.std.proofs.Common.{◌≡◌, ℕ, zero, suc, ◌+◌, ◌-◌, ◌*◌, ◌/◌, ◌<◌, ◌≤◌, List, [], ◌∷◌, ◌++◌, map, filter, length, Option, Some, None, refl, sym, ap, subst, ◌∙◌, arith, append_assoc}
use Rattle.std.specs.List.{AllByRecursion, cons_option, filter_map, flat_map, range_with_len}
use Rattle.std.proofs.lemmas.List.{map-append}
use Rattle.pr_num.specs.declared.value.Point.{Point}
use Rattle.pr_ast.specs.pr_labels.declared.pair.Pair.{Pair}
use Rattle.pr_testfile.specs.declared.inputs.input.Input.{Input}
use Rattle.pr_testfile.specs.declared.inputs.input.InputSeries.{InputSeries}
use Rattle.spec_world.specs.spec_history.declared.entry.Entry.{Entry}
use Rattle.pr_testfile.specs.pr_rulefile.Order.{ordered}
use Rattle.spec_world.specs.spec_rules.Groups.{Group}
use Rattle.spec_world.specs.spec_rules.Settings.{Settings}
use Rattle.spec_world.specs.spec_rules.private.Times.{IsAfter, IsAfterAll}
use Rattle.spec_world.specs.declared.event.Event.{Event}
use Rattle.spec_world.specs.Step.{time_of, world_after}
use Rattle.spec_world.specs.World.{World}
use Rattle.pr_testfile.specs.Series.{entries_at, entries_of, entry_at, entry_by, places, point_at}
use Rattle.pr_testfile.specs.Tests.{PlainTest}
use Rattle.spec_tests.specs.Events.{add_of, begun, eval_at, evaluations_until, events_of, is_earlier, is_until, last_check, settings_of, world_at}
use Rattle.spec_tests.specs.private.Sooner.{AllAbove, AllAt, AllFrom, AllUntil}
use Rattle.spec_tests.specs.private.Rounds.{AreNew, HasCome, HaveSites, IsInRound, IsUpTo, events_left, place_events, round_events, rounds_left, samples_left}
use Rattle.spec_tests.proofs.Merging.{all_joined, all_weaker, rounds_next, samples_first, until_is}
use Rattle.spec_tests.proofs.Adding.{HasAdded, all_added, world_parts}
use Rattle.spec_tests.proofs.Evaluating.{ready_again}

-- Times

one_more : (a b : ℕ) → (a + 1) * b ≡ a * b + b
one_more a b = omega arith

all_mapped : {X Y : Type 0} (P : Y → Type 0) (f : X → Y) (xs : List X) → AllByRecursion (λ x. P (f x)) xs → AllByRecursion P (map f xs)
all_mapped P f [] h = tt
all_mapped P f (x ∷ xs) h = (h.0, all_mapped P f xs h.1)

kept_times : (time : ℕ) (labels : List Pair) (o : Option Point) (es : List Entry) → AllAt (λ (e : Entry). e.time) time es → AllAt (λ (e : Entry). e.time) time (cons_option (entry_by labels time o) es)
kept_times time labels None es h = h
kept_times time labels (Some p) es h = (refl, h)

times_at : (interval place : ℕ) (series : List InputSeries) → AllAt (λ (e : Entry). e.time) (place * interval) (filter_map (entry_at interval place) series)
times_at interval place [] = tt
times_at interval place (s ∷ series) =
    kept_times (place * interval) s.labels (point_at s.values place) (filter_map (entry_at interval place) series) (times_at interval place series)

pub entries_timed : (input : Input) (place : ℕ) → AllAt (λ (e : Entry). e.time) (place * input.interval) (entries_at input.interval input.series place)
unfolding entries_at
entries_timed input place = times_at input.interval place input.series

place_at : (input : Input) (place : ℕ) → AllAt time_of (place * input.interval) (place_events input place)
place_at input place = all_mapped (λ (e : Event). time_of e ≡ place * input.interval) add_of (entries_at input.interval input.series place) (entries_timed input place)

-- one more place
samples_more : (input : Input) (place n : ℕ) → samples_left input place (suc n) ≡ place_events input place ++ samples_left input (place + 1) n
samples_more input place n = map-append add_of (entries_at input.interval input.series place) (flat_map (entries_at input.interval input.series) (range_with_len (place + 1) n))

later_from : {X : Type 0} (time : X → ℕ) (s t : ℕ) (xs : List X) → s ≤ t → AllFrom time t xs → AllFrom time s xs
later_from {X} time s t xs le h = all_weaker (λ (x : X). t ≤ time x) (λ (x : X). s ≤ time x) (λ (x : X) (k : t ≤ time x). omega arith) xs h

above_from : {X : Type 0} (time : X → ℕ) (s t : ℕ) (xs : List X) → s < t → AllFrom time t xs → AllAbove time s xs
above_from {X} time s t xs lt h = all_weaker (λ (x : X). t ≤ time x) (λ (x : X). s < time x) (λ (x : X) (k : t ≤ time x). omega arith) xs h

from_at : {X : Type 0} (time : X → ℕ) (t : ℕ) (xs : List X) → AllAt time t xs → AllFrom time t xs
from_at {X} time t xs h = all_weaker (λ (x : X). time x ≡ t) (λ (x : X). t ≤ time x) (λ (x : X) (k : time x ≡ t). omega arith) xs h

until_at : {X : Type 0} (time : X → ℕ) (s t : ℕ) (xs : List X) → s ≤ t → AllAt time s xs → AllUntil time t xs
until_at {X} time s t xs le h = all_weaker (λ (x : X). time x ≡ s) (λ (x : X). time x ≤ t) (λ (x : X) (k : time x ≡ s). omega arith) xs h

samples_from : (input : Input) (place n : ℕ) → AllFrom time_of (place * input.interval) (samples_left input place n)
samples_from input place zero = tt
samples_from input place (suc n) =
    let times : (place + 1) * input.interval ≡ place * input.interval + input.interval = one_more place input.interval in
    subst (AllFrom time_of (place * input.interval)) (sym (samples_more input place n))
    (all_joined (λ (e : Event). place * input.interval ≤ time_of e) (place_events input place) (samples_left input (place + 1) n)
    (from_at time_of (place * input.interval) (place_events input place) (place_at input place))
    (later_from time_of (place * input.interval) ((place + 1) * input.interval) (samples_left input (place + 1) n) (omega arith) (samples_from input (place + 1) n)))

round_times : (time : ℕ) (groups : List Group) → AllAt time_of time (map (eval_at time) groups)
round_times time [] = tt
round_times time (g ∷ groups) = (refl, round_times time groups)

rounds_from : (every : ℕ) (groups : List Group) (round n : ℕ) → AllFrom time_of (round * every) (rounds_left every groups round n)
rounds_from every groups round zero = tt
rounds_from every groups round (suc n) =
    let times : (round + 1) * every ≡ round * every + every = one_more round every in
    all_joined (λ (e : Event). round * every ≤ time_of e) (round_events every groups round) (rounds_left every groups (round + 1) n)
    (from_at time_of (round * every) (round_events every groups round) (round_times (round * every) groups))
    (later_from time_of (round * every) ((round + 1) * every) (rounds_left every groups (round + 1) n) (omega arith) (rounds_from every groups (round + 1) n))

-- The beginning

new_groups : (groups : List Group) → AreNew groups → IsAfterAll 0 groups
new_groups groups h = all_weaker (λ (g : Group). g.last ≡ None) (λ (g : Group). IsAfter 0 g.last) (λ (g : Group) (e : g.last ≡ None). subst (IsAfter 0) (sym e) tt) groups h

all_left : (n : ℕ) → n ≡ n - 0
all_left n = omega arith

at_once : (n : ℕ) → 0 ≡ 0 * n
at_once n = omega arith

pub begins : (input : Input) (every : ℕ) (groups : List Group) (s : Settings) (rounds now : ℕ) → AreNew groups
    → HasCome input every groups s rounds 0 (places input.series) 0 now (begun groups)
begins input every groups s rounds now new = record {
  done = [];
  parts = ap (events_left input every groups 0 (places input.series) 0) (all_left rounds);
  until = tt;
  world = refl;
  sampled = λ some. tt;
  evaluated = tt;
  ready = subst (λ (t : ℕ). IsAfterAll t groups) (at_once every) (new_groups groups new);
  sites = refl;
}

-- time goes by
pub goes_by : (input : Input) (every : ℕ) (groups : List Group) (s : Settings) (rounds place left round now later : ℕ) (w : World) → now ≤ later
    → HasCome input every groups s rounds place left round now w → HasCome input every groups s rounds place left round later w
goes_by input every groups s rounds place left round now later w le h = record {
  done = h.done;
  parts = h.parts;
  until = all_weaker (λ (e : Event). time_of e ≤ now) (λ (e : Event). time_of e ≤ later) (λ (e : Event) (k : time_of e ≤ now). omega arith) h.done h.until;
  world = h.world;
  sampled = h.sampled;
  evaluated = h.evaluated;
  ready = h.ready;
  sites = h.sites;
}

-- A place

up_to_later : (o : Option ℕ) (s t : ℕ) → s ≤ t → IsUpTo o s → IsUpTo o t
up_to_later None s t le h = tt
up_to_later (Some last) s t le h = omega arith

pub place_comes : (input : Input) (every : ℕ) (groups : List Group) (s : Settings) (rounds place n round now : ℕ) (w : World) → place * input.interval ≤ now → place * input.interval ≤ round * every
    → HasCome input every groups s rounds place (suc n) round now w
    → HasAdded w (world_after s w (place_events input place)) (entries_at input.interval input.series place) (place * input.interval)
    × HasCome input every groups s rounds (place + 1) n round now (world_after s w (place_events input place))
place_comes input every groups s rounds place n round now w low early h = (added, come)
  where
    batch : List Event
    batch = place_events input place

    added : HasAdded w (world_after s w (place_events input place)) (entries_at input.interval input.series place) (place * input.interval)
    added = all_added s (entries_at input.interval input.series place) (place * input.interval) w (entries_timed input place) (h.sampled (omega arith))

    times : (place + 1) * input.interval ≡ place * input.interval + input.interval
    times = one_more place input.interval

    first : events_left input every groups place (suc n) round (rounds - round) ≡ place_events input place ++ events_left input every groups (place + 1) n round (rounds - round)
    first =
        ap (λ (xs : List Event). ordered is_earlier (xs ++ rounds_left every groups round (rounds - round))) (samples_more input place n)
        ∙ ap (ordered is_earlier) (append_assoc (place_events input place) (samples_left input (place + 1) n) (rounds_left every groups round (rounds - round)))
        ∙ samples_first time_of (place * input.interval) (place_events input place) (samples_left input (place + 1) n ++ rounds_left every groups round (rounds - round)) (place_at input place)
        (all_joined (λ (e : Event). place * input.interval ≤ time_of e) (samples_left input (place + 1) n) (rounds_left every groups round (rounds - round))
        (later_from time_of (place * input.interval) ((place + 1) * input.interval) (samples_left input (place + 1) n) (omega arith) (samples_from input (place + 1) n))
        (later_from time_of (place * input.interval) (round * every) (rounds_left every groups round (rounds - round)) early (rounds_from every groups round (rounds - round))))

    come : HasCome input every groups s rounds (place + 1) n round now (world_after s w (place_events input place))
    come = record {
      done = h.done ++ place_events input place;
      parts = h.parts ∙ ap (λ (xs : List Event). h.done ++ xs) first ∙ sym (append_assoc h.done (place_events input place) (events_left input every groups (place + 1) n round (rounds - round)));
      until = all_joined (λ (e : Event). time_of e ≤ now) h.done (place_events input place) h.until (until_at time_of (place * input.interval) now (place_events input place) low (place_at input place));
      world = ap (λ (x : World). world_after s x (place_events input place)) h.world ∙ sym (world_parts s (begun groups) h.done (place_events input place));
      sampled = λ some. up_to_later (world_after s w (place_events input place)).last (place * input.interval) ((place + 1) * input.interval) (omega arith) added.last;
      evaluated = up_to_later (world_after s w (place_events input place)).last (place * input.interval) (round * every) early added.last;
      ready = subst (IsAfterAll (round * every)) (sym added.groups) h.ready;
      sites = subst (λ (gs : List Group). HaveSites gs groups) (sym added.groups) h.sites;
    }

-- A round

later_samples : (input : Input) (place left time : ℕ) → (0 < left → time < place * input.interval) → AllAbove time_of time (samples_left input place left)
later_samples input place zero time h = tt
later_samples input place (suc n) time h = above_from time_of time (place * input.interval) (samples_left input place (suc n)) (h (omega arith)) (samples_from input place (suc n))

pub round_comes : (input : Input) (every : ℕ) (groups : List Group) (s : Settings) (rounds place left round now i : ℕ) (w : World) → 0 < every → round < rounds → round * every ≤ now
    → (0 < left → round * every < place * input.interval)
    → HasCome input every groups s rounds place left round now w → length (world_after s w (round_events every groups round)).groups ≤ i
    → IsInRound groups (round * every) i (world_after s w (round_events every groups round))
    → HasCome input every groups s rounds place left (round + 1) now (world_after s w (round_events every groups round))
round_comes input every groups s rounds place left round now i w some within low later h all in_round = record {
  done = h.done ++ round_events every groups round;
  parts = h.parts ∙ ap (λ (xs : List Event). h.done ++ xs) next ∙ sym (append_assoc h.done (round_events every groups round) (events_left input every groups place left (round + 1) (rounds - (round + 1))));
  until = all_joined (λ (e : Event). time_of e ≤ now) h.done (round_events every groups round) h.until (until_at time_of (round * every) now (round_events every groups round) low (round_times (round * every) groups));
  world = ap (λ (x : World). world_after s x (round_events every groups round)) h.world ∙ sym (world_parts s (begun groups) h.done (round_events every groups round));
  sampled = λ more. let far : round * every < place * input.interval = later more in
      up_to_later (world_after s w (round_events every groups round)).last (round * every) (place * input.interval) (omega arith) in_round.last;
  evaluated = up_to_later (world_after s w (round_events every groups round)).last (round * every) ((round + 1) * every) (omega arith) in_round.last;
  ready = ready_again (world_after s w (round_events every groups round)) groups (round * every) ((round + 1) * every) i in_round all (omega arith);
  sites = in_round.sites;
}
  where
    times : (round + 1) * every ≡ round * every + every
    times = one_more round every

    fewer : rounds - round ≡ suc (rounds - (round + 1))
    fewer = omega arith

    next : events_left input every groups place left round (rounds - round) ≡ round_events every groups round ++ events_left input every groups place left (round + 1) (rounds - (round + 1))
    next =
        ap (events_left input every groups place left round) fewer
        ∙ rounds_next time_of (round * every) (samples_left input place left) (round_events every groups round) (rounds_left every groups (round + 1) (rounds - (round + 1)))
        (later_samples input place left (round * every) later) (round_times (round * every) groups)
        (later_from time_of (round * every) ((round + 1) * every) (rounds_left every groups (round + 1) (rounds - (round + 1))) (omega arith) (rounds_from every groups (round + 1) (rounds - (round + 1))))

-- What has come up to a time

pub has_all_come : (input : Input) (every : ℕ) (groups : List Group) (s : Settings) (rounds place left round now : ℕ) (w : World) → now < round * every → (0 < left → now < place * input.interval)
    → HasCome input every groups s rounds place left round now w
    → w ≡ world_after s (begun groups) (filter (is_until now) (events_left input every groups 0 (places input.series) 0 rounds))
has_all_come input every groups s rounds place left round now w high later h =
    h.world
    ∙ ap (world_after s (begun groups))
    (sym (ap (filter (is_until now)) h.parts
    ∙ until_is time_of now h.done (samples_left input place left ++ rounds_left every groups round (rounds - round)) h.until
    (all_joined (λ (e : Event). now < time_of e) (samples_left input place left) (rounds_left every groups round (rounds - round)) (later_samples input place left now later)
    (above_from time_of now (round * every) (rounds_left every groups round (rounds - round)) high (rounds_from every groups round (rounds - round))))))

pub world_is : (t : PlainTest) (input : Input) (every last : ℕ) (groups : List Group) (place left round now : ℕ) (w : World) → t.input ≡ entries_of input → last_check t ≡ Some last
    → now < round * every → (0 < left → now < place * input.interval)
    → HasCome input every groups (settings_of every t) (last / every + 1) place left round now w → w ≡ world_at every groups t now
unfolding world_at events_of entries_of
world_is t input every last groups place left round now w same at high later h =
    has_all_come input every groups (settings_of every t) (last / every + 1) place left round now w high later h
    ∙ ap (λ (es : List Entry). world_after (settings_of every t) (begun groups) (filter (is_until now) (ordered is_earlier (map add_of es ++ rounds_left every groups 0 (last / every + 1))))) (sym same)
    ∙ ap (λ (o : Option ℕ). world_after (settings_of every t) (begun groups) (filter (is_until now) (ordered is_earlier (map add_of t.input ++ evaluations_until every groups o)))) (sym at)
