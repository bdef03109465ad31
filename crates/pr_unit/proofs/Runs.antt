-- The run of a test goes on.
use Rattle.std.proofs.Common.{◌≡◌, ℕ, ℤ, zero, suc, ◌+◌, ◌-◌, ◌*◌, ◌/◌, ◌<◌, ◌≤◌, List, [], map, length, Option, Some, ◌⊎◌, inl, inr, refl, sym, ap, subst, ◌∙◌, arith}
use Rattle.std.proofs.Math.Nat.{mul-le-mul_right}
use Rattle.std.proofs.lemmas.List.{length-map}
use Rattle.pr_slide.specs.spec_history.declared.entry.Entry.{Entry}
use Rattle.pr_slide.specs.pr_head.private.Holds.{Holds, IsWhole}
use Rattle.spec_tests.specs.pr_testfile.declared.inputs.input.Input.{Input}
use Rattle.pr_slide.specs.pr_range.private.Asks.{LastAsks, Passed}
use Rattle.pr_slide.specs.pr_head.private.Intake.{HasTaken}
use Rattle.pr_group.specs.spec_rules.Groups.{Group}
use Rattle.pr_group.specs.spec_rules.Settings.{Settings}
use Rattle.spec_tests.specs.spec_world.Step.{world_after}
use Rattle.spec_tests.specs.spec_world.World.{World}
use Rattle.spec_tests.specs.pr_testfile.Series.{entries_at, places}
use Rattle.spec_tests.specs.pr_testfile.Tests.{plain_test}
use Rattle.spec_tests.specs.pr_testfile.declared.tests.Test.{Test}
use Rattle.spec_tests.specs.Events.{begun, eval_at, last_check, settings_of, world_at}
use Rattle.spec_tests.specs.private.Rounds.{AreApart, AreNew, HasCome, HaveSites, IsInRound, place_events, round_events, site}
use Rattle.spec_tests.proofs.Adding.{HasAdded}
use Rattle.spec_tests.proofs.Coming.{begins, goes_by, place_comes, round_comes, world_is}
use Rattle.spec_tests.proofs.Evaluating.{begins_round}
use Rattle.pr_unit.specs.private.Feeding.{HasFed}
use Rattle.pr_group.specs.private.Keeping.{KeptGroup}
use Rattle.pr_unit.specs.declared.run.Run.{Run}
use Rattle.pr_unit.specs.private.Kept.{KeepsGroups, StandsForWorld}
use Rattle.pr_unit.specs.private.Run.{HasRun, HasRunTest, rounds_until}
use Rattle.pr_unit.proofs.Rounds.{Stays, stands_added}

-- The beginning

pub run_begins : {R : Type 0} (fits : R → List Entry → Type 0) (last : R → LastAsks) (passed : R → Passed) (input : Input) (every : ℕ) (gs : List Group) (s : Settings) (rounds now : ℕ) (r : Run R)
    → AreNew gs → ((history : List Entry) → KeepsGroups fits last passed r.groups.items history s gs) → Holds r.head [] → ((history : List Entry) (x : ℤ) → IsWhole r.head history x)
    → HasFed input.series 0 r.feed → r.place ≡ 0 → r.left ≡ places input.series → r.round ≡ 0 → HasRun fits last passed input every gs s rounds now r
run_begins fits last passed input every gs s rounds now r new keeps holds whole fed place left round = record {
  world = begun gs;
  places_behind = 0;
  rounds_behind = 0;
  come = subst (λ (n : ℕ). HasCome input every gs s rounds 0 n 0 now (begun gs)) (sym left) (begins input every gs s rounds now new);
  stands = record { lawful = tt; holds = holds; whole = λ x. whole [] x; groups = keeps [] };
  fed = fed;
  place = place ∙ zero_times input.interval;
  round = round ∙ zero_times every;
  left = left ∙ less_none (places input.series);
}
  where
    zero_times : (n : ℕ) → 0 ≡ 0 * n
    zero_times n = omega arith

    less_none : (n : ℕ) → n ≡ n - 0
    less_none n = omega arith

-- Time goes by

pub time_goes : {R : Type 0} (fits : R → List Entry → Type 0) (last : R → LastAsks) (passed : R → Passed) (input : Input) (every : ℕ) (gs : List Group) (s : Settings) (rounds now later : ℕ) (r : Run R)
    → now ≤ later → HasRun fits last passed input every gs s rounds now r → HasRun fits last passed input every gs s rounds later r
time_goes fits last passed input every gs s rounds now later r le h = record {
  world = h.world;
  places_behind = h.places_behind;
  rounds_behind = h.rounds_behind;
  come = goes_by input every gs s rounds h.places_behind r.left h.rounds_behind now later h.world le h.come;
  stands = h.stands;
  fed = h.fed;
  place = h.place;
  round = h.round;
  left = h.left;
}

-- A place

-- what becomes of a run when a place is fed
pub record FeedsPlace {R : Type 0} (input : Input) (r new : Run R) : Type 0 where
  pub taken : (interval place : ℕ) (history : List Entry) → HasFed input.series place r.feed → r.place ≡ place * interval → Holds r.head history
      → HasTaken r.head new.head history (entries_at interval input.series place)
  pub fed : (place : ℕ) → HasFed input.series place r.feed → HasFed input.series (place + 1) new.feed
  pub groups : new.groups.items ≡ r.groups.items
  pub place : new.place ≡ r.place + input.interval
  pub left : new.left + 1 ≡ r.left
  pub round : new.round ≡ r.round

pub place_run : {R : Type 0} (fits : R → List Entry → Type 0) (last : R → LastAsks) (passed : R → Passed) → Stays fits last passed
    → (input : Input) (every : ℕ) (gs : List Group) (s : Settings) (rounds now : ℕ) (r new : Run R) → r.place ≤ r.round → r.place ≤ now
    → HasRun fits last passed input every gs s rounds now r → FeedsPlace input r new → HasRun fits last passed input every gs s rounds now new
place_run {R} fits last passed stays input every gs s rounds now r new early low h feeds = record {
  world = world_after s h.world (place_events input h.places_behind);
  places_behind = h.places_behind + 1;
  rounds_behind = h.rounds_behind;
  come = both.1;
  stands = subst (λ (ks : List (KeptGroup R)). StandsForWorld fits last passed new.head ks s (world_after s h.world (place_events input h.places_behind))) (sym feeds.groups)
      (stands_added fits last passed stays r.head new.head r.groups.items s h.world (world_after s h.world (place_events input h.places_behind))
      (entries_at input.interval input.series h.places_behind) (h.places_behind * input.interval) h.stands both.0
      (feeds.taken input.interval h.places_behind h.world.history h.fed h.place h.stands.holds));
  fed = feeds.fed h.places_behind h.fed;
  place = feeds.place ∙ ap (λ (n : ℕ). n + input.interval) h.place ∙ one_more h.places_behind input.interval;
  round = feeds.round ∙ h.round;
  left = one_less r.left new.left (places input.series) h.places_behind h.left feeds.left;
}
  where
    one_more : (a b : ℕ) → a * b + b ≡ (a + 1) * b
    one_more a b = omega arith

    one_less : (m n k p : ℕ) → m ≡ k - p → n + 1 ≡ m → n ≡ k - (p + 1)
    one_less m n k p e f = omega arith

    some_left : r.left ≡ suc new.left
    some_left = let e : new.left + 1 ≡ r.left = feeds.left in omega arith

    both : HasAdded h.world (world_after s h.world (place_events input h.places_behind)) (entries_at input.interval input.series h.places_behind) (h.places_behind * input.interval)
        × HasCome input every gs s rounds (h.places_behind + 1) new.left h.rounds_behind now (world_after s h.world (place_events input h.places_behind))
    both =
        place_comes input every gs s rounds h.places_behind new.left h.rounds_behind now h.world
        (subst (λ (n : ℕ). n ≤ now) h.place low)
        (subst (λ (n : ℕ). n ≤ h.rounds_behind * every) h.place (subst (λ (n : ℕ). r.place ≤ n) h.round early))
        (subst (λ (n : ℕ). HasCome input every gs s rounds h.places_behind n h.rounds_behind now h.world) some_left h.come)

-- A round

-- what becomes of a run when all groups are evaluated
pub record EvaluatesAll {R : Type 0} (fits : R → List Entry → Type 0) (last : R → LastAsks) (passed : R → Passed) (every : ℕ) (r new : Run R) : Type 0 where
  pub stands : (s : Settings) (w : World) (gs : List Group) → AreApart gs → StandsForWorld fits last passed r.head r.groups.items s w → IsInRound gs r.round 0 w
      → StandsForWorld fits last passed new.head new.groups.items s (world_after s w (map (eval_at r.round) gs))
  pub in_round : (s : Settings) (w : World) (gs : List Group) → AreApart gs → StandsForWorld fits last passed r.head r.groups.items s w → IsInRound gs r.round 0 w
      → IsInRound gs r.round (length gs) (world_after s w (map (eval_at r.round) gs))
  pub feed : new.feed ≡ r.feed
  pub place : new.place ≡ r.place
  pub left : new.left ≡ r.left
  pub round : new.round ≡ r.round + every

below_by : (a b n : ℕ) → a * n < b * n → (a < b) ⊎ (b ≤ a) → a < b
below_by a b n h (inl lt) = lt
below_by a b n h (inr le) = let k : b * n ≤ a * n = mul-le-mul_right n le in absurd (omega arith)

pub less_or_not : (a b : ℕ) → (a < b) ⊎ (b ≤ a)
less_or_not a zero = inr (omega arith)
less_or_not zero (suc b) = inl (omega arith)
less_or_not (suc a) (suc b) = by (less_or_not a b) where
  by : (a < b) ⊎ (b ≤ a) → (suc a < suc b) ⊎ (suc b ≤ suc a)
  by (inl lt) = inl (omega arith)
  by (inr le) = inr (omega arith)

same_length : (xs ys : List Group) → HaveSites xs ys → length xs ≤ length ys
same_length xs ys h =
    let e : length xs ≡ length ys = sym (length-map xs site) ∙ ap length h ∙ length-map ys site in omega arith

pub round_run : {R : Type 0} (fits : R → List Entry → Type 0) (last : R → LastAsks) (passed : R → Passed)
    → (input : Input) (every : ℕ) (gs : List Group) (s : Settings) (rounds now : ℕ) (r new : Run R) → AreApart gs → 0 < every → r.round < rounds * every → r.round ≤ now → (0 < r.left → r.round < r.place)
    → HasRun fits last passed input every gs s rounds now r → EvaluatesAll fits last passed every r new → HasRun fits last passed input every gs s rounds now new
round_run {R} fits last passed input every gs s rounds now r new apart some within low later h all = record {
  world = world_after s h.world (round_events every gs h.rounds_behind);
  places_behind = h.places_behind;
  rounds_behind = h.rounds_behind + 1;
  come = subst (λ (n : ℕ). HasCome input every gs s rounds h.places_behind n (h.rounds_behind + 1) now (world_after s h.world (round_events every gs h.rounds_behind))) (sym all.left)
      (round_comes input every gs s rounds h.places_behind r.left h.rounds_behind now (length gs) h.world some
      (below_by h.rounds_behind rounds every (subst (λ (t : ℕ). t < rounds * every) h.round within) (less_or_not h.rounds_behind rounds))
      (subst (λ (t : ℕ). t ≤ now) h.round low)
      (λ more. subst (λ (t : ℕ). t < h.places_behind * input.interval) h.round (subst (λ (t : ℕ). r.round < t) h.place (later more)))
      h.come (same_length (world_after s h.world (round_events every gs h.rounds_behind)).groups gs done.sites) done);
  stands = at_time (λ t. StandsForWorld fits last passed new.head new.groups.items s (world_after s h.world (map (eval_at t) gs))) (all.stands s h.world gs apart h.stands begun_at);
  fed = subst (HasFed input.series h.places_behind) (sym all.feed) h.fed;
  place = all.place ∙ h.place;
  round = all.round ∙ ap (λ (n : ℕ). n + every) h.round ∙ one_more h.rounds_behind every;
  left = all.left ∙ h.left;
}
  where
    one_more : (a b : ℕ) → a * b + b ≡ (a + 1) * b
    one_more a b = omega arith

    at_time : (P : ℕ → Type 0) → P r.round → P (h.rounds_behind * every)
    at_time P p = subst P h.round p

    begun_at : IsInRound gs r.round 0 h.world
    begun_at = subst (λ (t : ℕ). IsInRound gs t 0 h.world) (sym h.round) (begins_round h.world gs (h.rounds_behind * every) h.come.sites h.come.evaluated h.come.ready)

    done : IsInRound gs (h.rounds_behind * every) (length gs) (world_after s h.world (round_events every gs h.rounds_behind))
    done = at_time (λ t. IsInRound gs t (length gs) (world_after s h.world (map (eval_at t) gs))) (all.in_round s h.world gs apart h.stands begun_at)

-- What a check sees

pub before_end : (last every until : ℕ) → 0 < every → until ≤ last → until < (last / every + 1) * every
before_end last every until some le = omega arith

pub world_seen : {R : Type 0} (fits : R → List Entry → Type 0) (last : R → LastAsks) (passed : R → Passed) (t : Test) (every latest until : ℕ) (gs : List Group) (r : Run R)
    → last_check (plain_test t) ≡ Some latest → until < r.round → (0 < r.left → until < r.place) → HasRunTest fits last passed t every gs until r
    → StandsForWorld fits last passed r.head r.groups.items (settings_of every (plain_test t)) (world_at every gs (plain_test t) until)
world_seen {R} fits last passed t every latest until gs r at high later h =
    subst (StandsForWorld fits last passed r.head r.groups.items (settings_of every (plain_test t)))
    (world_is (plain_test t) t.input every latest gs h.places_behind r.left h.rounds_behind until h.world refl at
    (subst (λ (n : ℕ). until < n) h.round high) (λ more. subst (λ (n : ℕ). until < n) h.place (later more))
    (subst (λ (o : Option ℕ). HasCome t.input every gs (settings_of every (plain_test t)) (rounds_until every o) h.places_behind r.left h.rounds_behind until h.world) at h.come))
    h.stands
