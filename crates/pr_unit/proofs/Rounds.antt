-- The head and the groups stand for the world after samples, and after evaluations.
use Rattle.std.proofs.Common.{◌≡◌, ◌≢◌, ℕ, pos, ◌-ℤ◌, ◌+◌, ◌<◌, ◌≤◌, List, ◌++◌, map, take, length, slice_get, Some, ◌⊎◌, inl, inr, sym, ap, subst, ◌∙◌, arith}
use Rattle.std.specs.Prelude.{slice_set}
use Rattle.std.proofs.lemmas.List.{length-map}
use Rattle.pr_slide.specs.spec_history.declared.entry.Entry.{Entry}
use Rattle.pr_slide.specs.spec_history.private.Laws.{IsLawful}
use Rattle.pr_slide.specs.spec_history.Admission.{put_all}
use Rattle.pr_slide.proofs.HistoryLawful.{put_all_lawful}
use Rattle.pr_slide.specs.pr_head.private.Holds.{Holds, IsWhole}
use Rattle.pr_slide.specs.pr_range.private.Asks.{LastAsks, Passed}
use Rattle.pr_slide.specs.spec_history.Puts.{admitted}
use Rattle.pr_slide.proofs.HistoryPutting.{puts_admitted}
use Rattle.pr_slide.specs.pr_head.private.Intake.{HasTaken, Series}
use Rattle.pr_group.specs.spec_rules.Evaluations.{GroupStep, group_step}
use Rattle.pr_group.specs.spec_rules.Groups.{Group}
use Rattle.pr_group.specs.spec_rules.Settings.{Settings}
use Rattle.spec_tests.specs.spec_world.Step.{next, world_after}
use Rattle.spec_tests.specs.spec_world.World.{World}
use Rattle.spec_tests.specs.Events.{eval_at}
use Rattle.spec_tests.specs.private.Rounds.{AreApart, HaveSites, IsInRound, site}
use Rattle.spec_tests.proofs.Adding.{HasAdded}
use Rattle.spec_tests.proofs.Evaluating.{HasEvaluated, next_in_round, same_or_not, set_other, world_next}
use Rattle.pr_group.specs.private.Keeping.{KeepsGroup, KeptGroup, MayEvaluateOver, settings_of}
use Rattle.pr_unit.specs.private.Kept.{KeepsGroups, StandsForWorld}
use Rattle.pr_unit.proofs.Lists.{IsThere, set_here, set_length, take_there, take_whole, there_within, within_list}

-- what is kept of a group stands for it over each later history too
abbrev pub Stays : {R : Type 0} → (R → List Entry → Type 0) → (R → LastAsks) → (R → Passed) → Type 0
Stays {R} fits last passed =
    (k : KeptGroup R) (history more : List Entry) (g : Group) → KeepsGroup fits last passed k history g → IsLawful (history ++ more) → KeepsGroup fits last passed k (history ++ more) g

keeps_over : {R : Type 0} (fits : R → List Entry → Type 0) (last : R → LastAsks) (passed : R → Passed) → Stays fits last passed → (k : KeptGroup R) (history es : List Entry) (g : Group) → IsLawful history
    → KeepsGroup fits last passed k history g → KeepsGroup fits last passed k (put_all history es) g
keeps_over fits last passed stays k history es g lawful h =
    subst (λ (l : List Entry). KeepsGroup fits last passed k l g) (sym (puts_admitted history es))
    (stays k history (admitted history es) g h (subst IsLawful (puts_admitted history es) (put_all_lawful history es lawful)))

pub kept_over : {R : Type 0} (fits : R → List Entry → Type 0) (last : R → LastAsks) (passed : R → Passed) → Stays fits last passed → (kept : List (KeptGroup R)) (history es : List Entry) (s : Settings) (gs : List Group) → IsLawful history
    → KeepsGroups fits last passed kept history s gs → KeepsGroups fits last passed kept (put_all history es) s gs
kept_over fits last passed stays kept history es s gs lawful h = record {
  many = h.many;
  each = λ i k g a b. keeps_over fits last passed stays k history es g lawful (h.each i k g a b);
  told = h.told;
}

-- Samples

pub stands_added : {R : Type 0} (fits : R → List Entry → Type 0) (last : R → LastAsks) (passed : R → Passed) → Stays fits last passed
    → (head new_head : Series) (kept : List (KeptGroup R)) (s : Settings) (w new : World) (es : List Entry) (time : ℕ)
    → StandsForWorld fits last passed head kept s w → HasAdded w new es time → HasTaken head new_head w.history es → StandsForWorld fits last passed new_head kept s new
stands_added {R} fits last passed stays head new_head kept s w new es time h added taken = record {
  lawful = subst IsLawful (sym added.history) (put_all_lawful w.history es h.lawful);
  holds = subst (Holds new_head) (sym added.history) taken.holds;
  whole = λ x. subst (λ (l : List Entry). IsWhole new_head l x) (sym added.history) (taken.whole x (h.whole x));
  groups = subst (λ (l : List Entry). KeepsGroups fits last passed kept l s new.groups) (sym added.history)
      (subst (KeepsGroups fits last passed kept (put_all w.history es) s) (sym added.groups) (kept_over fits last passed stays kept w.history es s w.groups h.lawful h.groups));
}

-- One group

set_kept : {R : Type 0} (fits : R → List Entry → Type 0) (last : R → LastAsks) (passed : R → Passed) (kept : List (KeptGroup R)) (history : List Entry) (s : Settings) (gs : List Group) (n : ℕ) (k : KeptGroup R) (g : Group)
    → KeepsGroups fits last passed kept history s gs → KeepsGroup fits last passed k history g → settings_of k ≡ s → KeepsGroups fits last passed (slice_set kept n k) history s (slice_set gs n g)
set_kept {R} fits last passed kept history s gs n k g h keeps told = record {
  many = set_length kept n k ∙ h.many ∙ sym (set_length gs n g);
  each = λ i x y a b. each_by i x y a b (same_or_not i n);
  told = λ i x a. told_by i x a (same_or_not i n);
}
  where
    each_by : (i : ℕ) (x : KeptGroup R) (y : Group) → slice_get (slice_set kept n k) i ≡ Some x → slice_get (slice_set gs n g) i ≡ Some y → (i ≡ n) ⊎ (i ≢ n) → KeepsGroup fits last passed x history y
    each_by i x y a b (inl e) =
        let mine : x ≡ k = set_here kept n x k (ap (slice_get (slice_set kept n k)) (sym e) ∙ a) in
        let yours : y ≡ g = set_here gs n y g (ap (slice_get (slice_set gs n g)) (sym e) ∙ b) in
        subst (λ (z : KeptGroup R). KeepsGroup fits last passed z history y) (sym mine) (subst (KeepsGroup fits last passed k history) (sym yours) keeps)
    each_by i x y a b (inr d) = h.each i x y (sym (set_other kept n i k d) ∙ a) (sym (set_other gs n i g d) ∙ b)

    told_by : (i : ℕ) (x : KeptGroup R) → slice_get (slice_set kept n k) i ≡ Some x → (i ≡ n) ⊎ (i ≢ n) → settings_of x ≡ s
    told_by i x a (inl e) =
        let mine : x ≡ k = set_here kept n x k (ap (slice_get (slice_set kept n k)) (sym e) ∙ a) in ap settings_of mine ∙ told
    told_by i x a (inr d) = h.told i x (sym (set_other kept n i k d) ∙ a)

stands_set : {R : Type 0} (fits : R → List Entry → Type 0) (last : R → LastAsks) (passed : R → Passed) → Stays fits last passed
    → (head new_head : Series) (kept : List (KeptGroup R)) (s : Settings) (w new : World) (n : ℕ) (k : KeptGroup R) (step : GroupStep) (time : ℕ)
    → StandsForWorld fits last passed head kept s w → HasEvaluated w new n step time → HasTaken head new_head w.history step.entries
    → KeepsGroup fits last passed k (put_all w.history step.entries) step.group → settings_of k ≡ s
    → StandsForWorld fits last passed new_head (slice_set kept n k) s new
stands_set {R} fits last passed stays head new_head kept s w new n k step time h came taken keeps told = record {
  lawful = subst IsLawful (sym came.history) (put_all_lawful w.history step.entries h.lawful);
  holds = subst (Holds new_head) (sym came.history) taken.holds;
  whole = λ x. subst (λ (l : List Entry). IsWhole new_head l x) (sym came.history) (taken.whole x (h.whole x));
  groups = subst (λ (l : List Entry). KeepsGroups fits last passed (slice_set kept n k) l s new.groups) (sym came.history)
      (subst (KeepsGroups fits last passed (slice_set kept n k) (put_all w.history step.entries) s) (sym came.groups)
      (set_kept fits last passed kept (put_all w.history step.entries) s w.groups n k step.group
      (kept_over fits last passed stays kept w.history step.entries s w.groups h.lawful h.groups) keeps told));
}

pub may_evaluate : {R : Type 0} (fits : R → List Entry → Type 0) (last : R → LastAsks) (passed : R → Passed) (head : Series) (kept : List (KeptGroup R)) (s : Settings) (w : World) (time : ℕ)
    → StandsForWorld fits last passed head kept s w → MayEvaluateOver head w.history time
may_evaluate fits last passed head kept s w time h = record { lawful = h.lawful; holds = h.holds; whole = h.whole (pos time -ℤ pos 3888000000) }

-- What one evaluation gives of a group that is kept, and of the head.
pub record Evaluates {R : Type 0} (fits : R → List Entry → Type 0) (last : R → LastAsks) (passed : R → Passed) (head new_head : Series) (k new : KeptGroup R) (history : List Entry) (g : Group) (time : ℕ) : Type 0 where
  pub taken : HasTaken head new_head history (group_step (settings_of k) g history time).entries
  pub keeps : KeepsGroup fits last passed new (put_all history (group_step (settings_of k) g history time).entries) (group_step (settings_of k) g history time).group
  pub told : settings_of new ≡ settings_of k

-- the group of a world that stands in a place where one is kept
pub group_there : {R : Type 0} (fits : R → List Entry → Type 0) (last : R → LastAsks) (passed : R → Passed) (kept : List (KeptGroup R)) (history : List Entry) (s : Settings) (gs : List Group) (n : ℕ) (k : KeptGroup R)
    → KeepsGroups fits last passed kept history s gs → slice_get kept n ≡ Some k → IsThere gs n
group_there fits last passed kept history s gs n k h at = let low : n < length kept = within_list kept n k at in there_within gs n (omega (arith, h.many))

pub stands_next : {R : Type 0} (fits : R → List Entry → Type 0) (last : R → LastAsks) (passed : R → Passed) → Stays fits last passed
    → (head new_head : Series) (kept : List (KeptGroup R)) (s : Settings) (w : World) (gs : List Group) (n time : ℕ) (k new : KeptGroup R) (g here : Group)
    → AreApart gs → slice_get gs n ≡ Some g → slice_get kept n ≡ Some k → slice_get w.groups n ≡ Some here → StandsForWorld fits last passed head kept s w → IsInRound gs time n w
    → Evaluates fits last passed head new_head k new w.history here time
    → StandsForWorld fits last passed new_head (slice_set kept n new) s (next s w (eval_at time g)).world
stands_next {R} fits last passed stays head new_head kept s w gs n time k new g here apart there0 at there h in_round came =
    let told : settings_of k ≡ s = h.groups.told n k at in
    by s told (next_in_round s w gs time n here g apart there0 there in_round).0 h
  where
    by : (t : Settings) → settings_of k ≡ t → HasEvaluated w (next t w (eval_at time g)).world n (group_step t here w.history time) time → StandsForWorld fits last passed head kept t w
        → StandsForWorld fits last passed new_head (slice_set kept n new) t (next t w (eval_at time g)).world
    by t e evaluated stands =
        let step = group_step t here w.history time in
        stands_set fits last passed stays head new_head kept t w (next t w (eval_at time g)).world n new step time stands evaluated
        (subst (λ (u : Settings). HasTaken head new_head w.history (group_step u here w.history time).entries) e came.taken)
        (subst (λ (u : Settings). KeepsGroup fits last passed new (put_all w.history (group_step u here w.history time).entries) (group_step u here w.history time).group) e came.keeps)
        (came.told ∙ e)

-- A round

-- as many groups are kept as the test begins with
pub as_many : {R : Type 0} (fits : R → List Entry → Type 0) (last : R → LastAsks) (passed : R → Passed) (head : Series) (kept : List (KeptGroup R)) (s : Settings) (w : World) (gs : List Group) (time n : ℕ)
    → StandsForWorld fits last passed head kept s w → IsInRound gs time n w → length kept ≡ length gs
as_many fits last passed head kept s w gs time n h in_round =
    h.groups.many ∙ sym (length-map w.groups site) ∙ ap length in_round.sites ∙ length-map gs site

-- the world after the first groups of a round
abbrev pub world_of : Settings → World → List Group → ℕ → ℕ → World
world_of s w gs time n = world_after s w (map (eval_at time) (take n gs))

pub next_stands : {R : Type 0} (fits : R → List Entry → Type 0) (last : R → LastAsks) (passed : R → Passed) (head : Series) (kept : List (KeptGroup R)) (s : Settings) (w : World) (gs : List Group) (time n : ℕ) (g : Group)
    → slice_get gs n ≡ Some g → StandsForWorld fits last passed head kept s (next s (world_of s w gs time n) (eval_at time g)).world → StandsForWorld fits last passed head kept s (world_of s w gs time (n + 1))
next_stands fits last passed head kept s w gs time n g there h =
    subst (StandsForWorld fits last passed head kept s) (sym (world_next s w gs time n g (take_there gs n g there))) h

same_many : (xs ys : List Group) → HaveSites xs ys → length xs ≡ length ys
same_many xs ys h = sym (length-map xs site) ∙ ap length h ∙ length-map ys site

pub next_round : (s : Settings) (w : World) (gs : List Group) (time n : ℕ) (g : Group) → AreApart gs → slice_get gs n ≡ Some g → IsInRound gs time n (world_of s w gs time n) → IsInRound gs time (n + 1) (world_of s w gs time (n + 1))
next_round s w gs time n g apart there h =
    let low : n < length gs = within_list gs n g there in
    let many : length (world_of s w gs time n).groups ≡ length gs = same_many (world_of s w gs time n).groups gs h.sites in
    let here = there_within (world_of s w gs time n).groups n (omega arith) in
    subst (IsInRound gs time (n + 1)) (sym (world_next s w gs time n g (take_there gs n g there)))
    (next_in_round s (world_of s w gs time n) gs time n here.element g apart there here.there h).1

pub whole_stands : {R : Type 0} (fits : R → List Entry → Type 0) (last : R → LastAsks) (passed : R → Passed) (head : Series) (kept : List (KeptGroup R)) (s : Settings) (w : World) (gs : List Group) (time n : ℕ)
    → length gs ≤ n → StandsForWorld fits last passed head kept s (world_of s w gs time n) → StandsForWorld fits last passed head kept s (world_after s w (map (eval_at time) gs))
whole_stands fits last passed head kept s w gs time n all h = subst (λ (l : List Group). StandsForWorld fits last passed head kept s (world_after s w (map (eval_at time) l))) (take_whole gs n all) h

pub whole_round : (s : Settings) (w : World) (gs : List Group) (time n : ℕ) → n ≡ length gs → IsInRound gs time n (world_of s w gs time n) → IsInRound gs time (length gs) (world_after s w (map (eval_at time) gs))
whole_round s w gs time n all h =
    subst (λ (l : List Group). IsInRound gs time (length gs) (world_after s w (map (eval_at time) l))) (take_whole gs n (omega arith)) (subst (λ (m : ℕ). IsInRound gs time m (world_of s w gs time n)) all h)
