-- The evaluation of a named group, as a step of the world.
use Rattle.std.proofs.Common.{◌≡◌, ℕ, ◌+◌, ◌<◌, ◌≤◌, length, zero, suc, ltb-true, Bool, true, false, cond, List, [], ◌∷◌, ◌++◌, Option, Some, None, Result, Ok, Err, IfOk, OnOk, slice_get, refl, sym, ap, subst, ◌∙◌, arith}
use Rattle.std.proofs.lemmas.Grind.{common_steps}
use Rattle.std.specs.Prelude.{find, nat_lt, slice_set, MatchBool, ◌&&◌}
use Rattle.std.specs.Option.{option_map}
use Rattle.std.specs.declared.alloc.AllocError.{AllocError}
use Rattle.std.specs.Str.{bytes_eq}
use Rattle.std.proofs.lemmas.Slice.Eq.{bytes_eq-Decides}
use Rattle.spec_world.specs.spec_rules.declared.definitions.GroupDef.{GroupDef}
use Rattle.spec_world.specs.spec_history.private.Laws.{IsLawful}
use Rattle.spec_world.specs.spec_history.Admission.{put_all}
use Rattle.spec_world.specs.spec_history.declared.entry.Entry.{Entry}
use Rattle.spec_world.proofs.HistoryLawful.{put_all_lawful}
use Rattle.spec_world.proofs.HistoryPutting.{puts_admitted}
use Rattle.pr_group.specs.pr_head.private.Holds.{Holds, IsWhole}
use Rattle.pr_group.specs.pr_head.private.Intake.{HasTaken, Series}
use Rattle.pr_group.specs.pr_range.private.Asks.{LastAsks, Passed}
use Rattle.spec_world.proofs.RulesPutting.{evaluation_admits}
use Rattle.spec_world.specs.spec_rules.declared.report.GroupReport.{GroupReport}
use Rattle.spec_world.specs.spec_rules.private.Costs.{PassedByRules, group_cost}
use Rattle.spec_world.specs.spec_rules.Evaluations.{GroupStep, group_step}
use Rattle.spec_world.specs.spec_rules.Groups.{Group, is_group_named}
use Rattle.spec_world.specs.spec_rules.private.Passed.{IsPassedAfter}
use Rattle.spec_world.specs.spec_rules.Settings.{Settings}
use Rattle.spec_world.specs.spec_rules.private.Times.{IsAfter}
use Rattle.pr_group.specs.private.Keeping.{KeepsGroup, KeptGroup, MayEvaluateOver, passed_by, settings_of}
use Rattle.spec_world.specs.declared.report.Report.{Report}
use Rattle.spec_world.specs.declared.report.Report.TheVariants as report
use Rattle.spec_world.specs.Outcome.{refuse}
use Rattle.spec_world.specs.Rounds.{eval_after, eval_by, evaluation_outcome, with_group}
use Rattle.spec_world.specs.Step.{Step, step_by}
use Rattle.spec_world.specs.World.{World}
use Rattle.pr_manager.specs.private.Coming.{GroupComes, ComesAt, IsEvaluated, IsNotLater, history_with, is_later, too_late}
use Rattle.pr_manager.specs.private.Finding.{place_of}
use Rattle.pr_manager.specs.private.Keeping.{HasGoneOn, KeepEach, ManagesGroupsOf, KeepsUnder, KeptManager, settings_in}
use Rattle.pr_manager.specs.private.Naming.{is_kept_named, kept_named, passed_by_any, passed_by_named}
use Rattle.pr_manager.specs.private.Rounds.{admitted_in, cost_after, cost_by, eval_cost, eval_step}
use Rattle.pr_manager.proofs.Each.{StaysKept, each_stays}
use Rattle.pr_manager.proofs.Names.{both, kept_is_named, kept_name}
use Rattle.pr_manager.proofs.Places.{find_set, first_at, none_found, same_places, some_is, zip_at, zip_set}

-- Times

pub later_is : (last : Option ℕ) (time : ℕ) → is_later last time ≡ true → IsAfter time last
later_is None time h = tt
later_is (Some at) time h = ltb-true at time h

is_sooner : (a b : ℕ) → a < b → nat_lt a b ≡ true
is_sooner a b h = grind (arith, common_steps)

pub not_later_is : (last : Option ℕ) (time : ℕ) → is_later last time ≡ false → (at : ℕ) × (last ≡ Some at)
not_later_is None time h = absurd cc
not_later_is (Some at) time h = (at, refl)

-- Steps of the world

abbrev pub refused_step : World → Report → Step
refused_step w r = record { world = w; report = r; rows = []; refused = true }

abbrev pub evaluated_step : World → ℕ → GroupStep → Step
evaluated_step w time step = step_by w time (evaluation_outcome w step)

pub step_missing : (s : Settings) (w : World) (time : ℕ) (file name : List ℕ) → find (is_group_named file name) w.groups ≡ None → eval_step s w time file name ≡ refused_step w (report.NoGroup file name)
step_missing s w time file name none = ap (λ (o : Option Group). step_by w time (eval_by s w time file name o)) none

after_later : (last : Option ℕ) (s : Settings) (w : World) (g : Group) (time : ℕ) → is_later last time ≡ true → step_by w time (eval_after last s w g time) ≡ evaluated_step w time (group_step s g w.history time)
after_later None s w g time h = refl
after_later (Some at) s w g time h = ap (λ b. step_by w time (cond b (evaluation_outcome w (group_step s g w.history time)) (refuse (report.NotLater at)))) h

after_not : (last : Option ℕ) (at : ℕ) (s : Settings) (w : World) (g : Group) (time : ℕ) → last ≡ Some at → is_later last time ≡ false → step_by w time (eval_after last s w g time) ≡ refused_step w (report.NotLater at)
after_not None at s w g time e h = absurd cc
after_not (Some since) at s w g time e h =
    let same : since ≡ at = cc in
    ap (λ b. step_by w time (cond b (evaluation_outcome w (group_step s g w.history time)) (refuse (report.NotLater since)))) h ∙ ap (λ n. refused_step w (report.NotLater n)) same

pub step_later : (s : Settings) (w : World) (time : ℕ) (file name : List ℕ) (g : Group) → find (is_group_named file name) w.groups ≡ Some g → is_later g.last time ≡ true
    → eval_step s w time file name ≡ evaluated_step w time (group_step s g w.history time)
step_later s w time file name g found h = ap (λ (o : Option Group). step_by w time (eval_by s w time file name o)) found ∙ after_later g.last s w g time h

pub step_not : (s : Settings) (w : World) (time : ℕ) (file name : List ℕ) (g : Group) (at : ℕ) → find (is_group_named file name) w.groups ≡ Some g → g.last ≡ Some at → is_later g.last time ≡ false
    → eval_step s w time file name ≡ refused_step w (report.NotLater at)
step_not s w time file name g at found e h = ap (λ (o : Option Group). step_by w time (eval_by s w time file name o)) found ∙ after_not g.last at s w g time e h

cost_later : (last : Option ℕ) (s : Settings) (g : Group) (history : List Entry) (time : ℕ) (u : PassedByRules) → is_later last time ≡ true → cost_after last s g history time u ≡ group_cost s g history time u
cost_later None s g history time u h = refl
cost_later (Some at) s g history time u h = ap (λ b. cond b (group_cost s g history time u) 0) h

-- What is known after the evaluation of a named group

-- the answer is that of the step, the groups of the world after it are kept, and the head has gone on
pub record HasStepped {R : Type 0} (fits : R → List Entry → Type 0) (last : R → LastAsks) (passed : R → Passed) (w : World) (k after : KeptManager R) (old new : Series) (step : Step) (r : Report) : Type 0 where
  pub report : r ≡ step.report
  pub rows : admitted_in r ≡ step.rows
  pub keeps : ManagesGroupsOf fits last passed after step.world
  pub head : HasGoneOn old new w.history step.world.history
  pub refused : step.refused ≡ true → (after ≡ k) × (new ≡ old)

-- a manager with other groups
pub record HasGroups {R : Type 0} (k after : KeptManager R) (groups : List (KeptGroup R)) : Type 0 where
  pub groups_are : after.groups ≡ groups
  pub since : after.reloaded ≡ k.reloaded
  pub settings : settings_in after ≡ settings_in k

pub same_manager : {R : Type 0} (k after : KeptManager R) → HasGroups k after k.groups → after ≡ k
same_manager k after h =
    let groups = h.groups_are in
    let since = h.since in
    let settings = h.settings in
    λ i. record { groups = groups i; reloaded = since i; step = (settings i).subquery_step; external = (settings i).external }

-- it was refused, and nothing has changed
pub refused_stepped : {R : Type 0} (fits : R → List Entry → Type 0) (last : R → LastAsks) (passed : R → Passed) (w : World) (k after : KeptManager R) (old new : Series) (told r : Report)
    → ManagesGroupsOf fits last passed k w → HasGoneOn old old w.history w.history → after ≡ k → new ≡ old → admitted_in told ≡ [] → r ≡ told → HasStepped fits last passed w k after old new (refused_step w told) r
refused_stepped fits last passed w k after old new told r keeps whole same head none is = record {
  report = is;
  rows = ap admitted_in is ∙ none;
  keeps = subst (λ m. ManagesGroupsOf fits last passed m w) (sym same) keeps;
  head = subst (λ h. HasGoneOn old h w.history w.history) (sym head) whole;
  refused = λ e. (same, head);
}

-- with_group puts a group in the place of the first of its file and name
with_placed : (groups : List Group) (new : Group) (i : ℕ) → place_of (is_group_named new.file new.name) groups ≡ Some i → with_group groups new ≡ slice_set groups i new
with_placed [] new i h = absurd cc
with_placed (g ∷ groups) new zero h = by (is_group_named new.file new.name g) h where
  by : (b : Bool) → cond b (Some 0) (option_map suc (place_of (is_group_named new.file new.name) groups)) ≡ Some zero → cond b (new ∷ groups) (g ∷ with_group groups new) ≡ new ∷ groups
  by true k = refl
  by false k = let it = some_is (place_of (is_group_named new.file new.name) groups) zero k in let no : zero ≡ suc it.0 = it.2 in absurd cc
with_placed (g ∷ groups) new (suc i) h = by (is_group_named new.file new.name g) h (with_placed groups new i) where
  by : (b : Bool) → cond b (Some 0) (option_map suc (place_of (is_group_named new.file new.name) groups)) ≡ Some (suc i)
      → (place_of (is_group_named new.file new.name) groups ≡ Some i → with_group groups new ≡ slice_set groups i new) → cond b (new ∷ groups) (g ∷ with_group groups new) ≡ g ∷ slice_set groups i new
  by true k again = absurd cc
  by false k again =
      let it = some_is (place_of (is_group_named new.file new.name) groups) (suc i) k in
      let same : it.0 ≡ i = cc in
      ap (λ (l : List Group). g ∷ l) (again (it.1 ∙ ap Some same))

-- the group of a file and a name stands at a place
pub record IsThere {R : Type 0} (fits : R → List Entry → Type 0) (last : R → LastAsks) (passed : R → Passed) (s : Settings) (history : List Entry) (file name : List ℕ) (ks : List (KeptGroup R)) (groups : List Group) (i : ℕ) : Type 0 where
  pub kept : KeptGroup R
  pub group : Group
  pub kept_at : slice_get ks i ≡ Some kept
  pub group_at : slice_get groups i ≡ Some group
  pub kept_found : kept_named file name ks ≡ Some kept
  pub group_found : find (is_group_named file name) groups ≡ Some group
  pub named : is_kept_named file name kept ≡ true
  pub kept_placed : place_of (is_kept_named file name) ks ≡ Some i
  pub placed : place_of (is_group_named file name) groups ≡ Some i
  pub keeps : KeepsUnder fits last passed s history kept group

pub is_there : {R : Type 0} (fits : R → List Entry → Type 0) (last : R → LastAsks) (passed : R → Passed) (s : Settings) (history : List Entry) (file name : List ℕ) (ks : List (KeptGroup R)) (groups : List Group) (i : ℕ)
    → KeepEach fits last passed s history ks groups → place_of (is_kept_named file name) ks ≡ Some i → IsThere fits last passed s history file name ks groups i
is_there fits last passed s history file name ks groups i each at =
    let Under = KeepsUnder fits last passed s history in
    let places = same_places Under (is_kept_named file name) (is_group_named file name) (λ k g u. kept_is_named fits last passed history file name k g u.keeps) ks groups each in
    let there = sym places ∙ at in
    let one = first_at (is_kept_named file name) ks i at in
    let two = first_at (is_group_named file name) groups i there in
    record {
      kept = one.item;
      group = two.item;
      kept_at = one.at;
      group_at = two.at;
      kept_found = one.found;
      group_found = two.found;
      named = one.passes;
      kept_placed = at;
      placed = there;
      keeps = zip_at Under ks groups i one.item two.item each one.at two.at;
    }

pub is_nowhere : {R : Type 0} (fits : R → List Entry → Type 0) (last : R → LastAsks) (passed : R → Passed) (s : Settings) (history : List Entry) (file name : List ℕ) (ks : List (KeptGroup R)) (groups : List Group)
    → KeepEach fits last passed s history ks groups → place_of (is_kept_named file name) ks ≡ None → find (is_group_named file name) groups ≡ None
is_nowhere fits last passed s history file name ks groups each none =
    none_found (is_group_named file name) groups
    (sym (same_places (KeepsUnder fits last passed s history) (is_kept_named file name) (is_group_named file name) (λ k g u. kept_is_named fits last passed history file name k g u.keeps) ks groups each) ∙ none)

-- the group after its evaluation has the file and the name of before
pub still_named : {R : Type 0} (fits : R → List Entry → Type 0) (last : R → LastAsks) (passed : R → Passed) (history : List Entry) (file name : List ℕ) (k kept : KeptGroup R) (g : Group)
    → is_kept_named file name k ≡ true → kept.file ≡ k.file → kept.def ≡ k.def → KeepsGroup fits last passed kept history g → (g.file ≡ file) × (g.name ≡ name)
still_named fits last passed history file name k kept g named filed defined keeps =
    let parts = both (bytes_eq k.file file) (bytes_eq k.def.name name) named in (
      sym keeps.file ∙ filed ∙ (bytes_eq-Decides k.file file).0 parts.0,
      sym (kept_name fits last passed history kept g keeps) ∙ ap (λ (d : GroupDef). d.name) defined ∙ (bytes_eq-Decides k.def.name name).0 parts.1,
    )

moved : {R : Type 0} (fits : R → List Entry → Type 0) (last : R → LastAsks) (passed : R → Passed) (s t : Settings) (history : List Entry) (ks ms : List (KeptGroup R)) (gs hs : List Group)
    → s ≡ t → ks ≡ ms → gs ≡ hs → KeepEach fits last passed s history ks gs → KeepEach fits last passed t history ms hs
moved fits last passed s t history ks ms gs hs p q r h =
    subst (λ u. KeepEach fits last passed u history ms hs) p (subst (λ l. KeepEach fits last passed s history l hs) q (subst (λ l. KeepEach fits last passed s history ks l) r h))

pub evaluated_stepped : {R : Type 0} (fits : R → List Entry → Type 0) (last : R → LastAsks) (passed : R → Passed) (remembers : Bool) → StaysKept fits last passed
    → (w : World) (k after : KeptManager R) (kept : KeptGroup R) (old new : Series) (file name : List ℕ) (time i before now : ℕ) (r : Report) → ManagesGroupsOf fits last passed k w
    → (t : IsThere fits last passed (settings_in k) w.history file name k.groups w.groups i) → after.groups ≡ slice_set k.groups i kept → after.reloaded ≡ k.reloaded → settings_in after ≡ settings_in k
    → IsEvaluated fits last passed remembers (settings_in k) t.group t.kept kept w.history time old new before now r
    → HasStepped fits last passed w k after old new (evaluated_step w time (group_step (settings_in k) t.group w.history time)) r
evaluated_stepped fits last passed remembers stays w k after kept old new file name time i before now r keeps t groups since settings e =
    let step = group_step (settings_in k) t.group w.history time in
    let later = history_with w.history step in
    let named = still_named fits last passed later file name t.kept kept step.group t.named e.file e.def e.keeps.keeps in
    let placed : place_of (is_group_named step.group.file step.group.name) w.groups ≡ Some i = (λ j. place_of (is_group_named (named.0 j) (named.1 j)) w.groups) ∙ t.placed in
    let each = each_stays fits last passed stays (settings_in k) w.history step.report.admitted e.head.lawful k.groups w.groups keeps.each in
    record {
      report = e.told;
      rows = ap admitted_in e.told;
      keeps = record {
        each = moved fits last passed (settings_in k) (settings_in after) later (slice_set k.groups i kept) after.groups (slice_set w.groups i step.group) (with_group w.groups step.group)
            (sym settings) (sym groups) (sym (with_placed w.groups step.group i placed))
            (zip_set (KeepsUnder fits last passed (settings_in k) later) k.groups w.groups i kept step.group each e.keeps);
        since = since ∙ keeps.since;
      };
      head = e.head;
      refused = λ x. absurd cc;
    }

-- what was passed by the group after it
pub passed_after : {R : Type 0} (passed : R → Passed) (k after : KeptManager R) (later : List Entry) (file name : List ℕ) (i : ℕ) (was kept : KeptGroup R) → place_of (is_kept_named file name) k.groups ≡ Some i
    → after.groups ≡ slice_set k.groups i kept → is_kept_named file name was ≡ true → kept.file ≡ was.file → kept.def ≡ was.def → passed_by_named passed after later file name ≡ passed_by passed kept later
passed_after passed k after later file name i was kept placed groups named filed defined =
    let still : is_kept_named file name kept ≡ true = (λ j. bytes_eq (filed j) file && bytes_eq (defined j).name name) ∙ named in
    ap (passed_by_any passed later) (ap (kept_named file name) groups ∙ find_set (is_kept_named file name) k.groups i kept placed still)

-- The answer to the evaluation of a group

too_late_not : (last : Option ℕ) (time at : ℕ) → too_late last time ≡ Some at → (is_later last time ≡ false) × (last ≡ Some at)
too_late_not None time at h = absurd cc
too_late_not (Some since) time at h = by (nat_lt since time) h where
  by : (b : Bool) → cond b None (Some since) ≡ Some at → (b ≡ false) × (Some since ≡ Some at)
  by true k = absurd cc
  by false k = (refl, k)

too_late_none : (last : Option ℕ) (time : ℕ) → too_late last time ≡ None → is_later last time ≡ true
too_late_none None time h = refl
too_late_none (Some since) time h = by (nat_lt since time) h where
  by : (b : Bool) → cond b None (Some since) ≡ None → b ≡ true
  by true k = refl
  by false k = absurd cc

pub comes_refused : {R : Type 0} (fits : R → List Entry → Type 0) (last : R → LastAsks) (passed : R → Passed) (remembers : Bool) (s : Settings) (g : Group) (k : KeptGroup R) (history : List Entry) (time at : ℕ) (head : Series) (reads : ℕ)
    → KeepsUnder fits last passed s history k g → too_late k.last time ≡ Some at → GroupComes fits last passed remembers s g k k history time head head reads reads (report.NotLater at)
comes_refused fits last passed remembers s g k history time at head reads under late =
    let it = too_late_not g.last time at (ap (λ o. too_late o time) (sym under.keeps.until) ∙ late) in
    subst (λ b. MatchBool b (IsEvaluated fits last passed remembers s g k k history time head head reads reads (report.NotLater at)) (IsNotLater g.last k k head head reads reads (report.NotLater at)))
    (sym it.0)
    (record { told = λ since e. let same : at ≡ since = cc in ap report.NotLater same; head = refl; same = refl; few = refl })

pub comes_evaluated : {R : Type 0} (fits : R → List Entry → Type 0) (last : R → LastAsks) (passed : R → Passed) (remembers : Bool) (s : Settings) (g : Group) (k kept : KeptGroup R) (history : List Entry) (time : ℕ) (old new : Series) (before now : ℕ) (r : Report)
    → KeepsUnder fits last passed s history k g → too_late k.last time ≡ None → (IsAfter time g.last → IsEvaluated fits last passed remembers s g k kept history time old new before now r)
    → GroupComes fits last passed remembers s g k kept history time old new before now r
comes_evaluated fits last passed remembers s g k kept history time old new before now r under none e =
    let it = too_late_none g.last time (ap (λ o. too_late o time) (sym under.keeps.until) ∙ none) in
    subst (λ b. MatchBool b (IsEvaluated fits last passed remembers s g k kept history time old new before now r) (IsNotLater g.last k kept old new before now r)) (sym it) (e (later_is g.last time it))

pub step_adds : (s : Settings) (g : Group) (history : List Entry) (time : ℕ) → put_all history (group_step s g history time).entries ≡ history_with history (group_step s g history time)
step_adds s g history time =
    puts_admitted history (group_step s g history time).entries ∙ ap (λ (l : List Entry). history ++ l) (sym (evaluation_admits s g history time))

-- what a group says of its own evaluation, under its own settings and over the entries that were put
pub own_evaluated : {R : Type 0} (fits : R → List Entry → Type 0) (last : R → LastAsks) (passed : R → Passed) (remembers : Bool) (s : Settings) (g : Group) (k kept : KeptGroup R) (history : List Entry) (time : ℕ) (old new : Series) (before now : ℕ) (told : GroupReport)
    → settings_of k ≡ s → IsLawful history → (told ≡ (group_step (settings_of k) g history time).report)
    → HasTaken old new history (group_step (settings_of k) g history time).entries
    → KeepsGroup fits last passed kept (put_all history (group_step (settings_of k) g history time).entries) (group_step (settings_of k) g history time).group
    → now ≤ before + group_cost (settings_of k) g history time (passed_by passed k history)
    → (remembers ≡ true → IsPassedAfter (settings_of k) g history time (passed_by passed k history) (passed_by passed kept (put_all history (group_step (settings_of k) g history time).entries)))
    → kept.def ≡ k.def → kept.file ≡ k.file → settings_of kept ≡ settings_of k
    → IsEvaluated fits last passed remembers s g k kept history time old new before now (report.Evaluated told)
own_evaluated fits last passed remembers s g k kept history time old new before now told same lawful is taken keeps few passing def file settings =
    subst (λ (t : Settings). IsEvaluated fits last passed remembers t g k kept history time old new before now (report.Evaluated told)) same
    (let step = group_step (settings_of k) g history time in
    let adds : put_all history step.entries ≡ history_with history step = step_adds (settings_of k) g history time in
    record {
      told = ap report.Evaluated is;
      head = record {
        holds = subst (λ l. Holds new l) adds taken.holds;
        whole = λ x h. subst (λ l. IsWhole new l x) adds (taken.whole x h);
        lawful = subst IsLawful adds (put_all_lawful history step.entries lawful);
      };
      def = def;
      file = file;
      keeps = record { keeps = subst (λ l. KeepsGroup fits last passed kept l step.group) adds keeps; told = settings };
      few = few;
      passing = λ r. subst (λ l. IsPassedAfter (settings_of k) g history time (passed_by passed k history) (passed_by passed kept l)) adds (passing r);
    })

-- The answer to the evaluation of a named group

within : {A : Type 0} (test : A → Bool) (xs : List A) (i : ℕ) → place_of test xs ≡ Some i → i < length xs
within test [] i h = absurd cc
within test (x ∷ xs) i h = by (test x) h (within test xs) where
  by : (b : Bool) → cond b (Some 0) (option_map suc (place_of test xs)) ≡ Some i → ((j : ℕ) → place_of test xs ≡ Some j → j < length xs) → i < suc (length xs)
  by true k again = let zero_is : 0 ≡ i = cc in omega (arith, zero_is)
  by false k again =
      let it = some_is (place_of test xs) i k in
      let less = again it.0 it.1 in
      let is = it.2 in
      omega (arith, less, is)

pub found_place : {R : Type 0} (file name f n : List ℕ) (ks ls : List (KeptGroup R)) (o other : Option ℕ) → f ≡ file → n ≡ name → ls ≡ ks → o ≡ place_of (is_kept_named f n) ls → o ≡ other
    → place_of (is_kept_named file name) ks ≡ other
found_place file name f n ks ls o other p q r h is = (λ i. place_of (is_kept_named (sym p i) (sym q i)) (sym r i)) ∙ sym h ∙ is

pub place_within : {R : Type 0} (file name : List ℕ) (ks : List (KeptGroup R)) (i : ℕ) → place_of (is_kept_named file name) ks ≡ Some i → i < length ks
place_within file name ks i h = within (is_kept_named file name) ks i h

-- what is known of the group at a place
abbrev pub IsKnownAt : {R : Type 0} → (R → List Entry → Type 0) → (R → LastAsks) → (R → Passed) → Bool → KeptManager R → KeptManager R → Series → Series → ℕ → ℕ → ℕ → ℕ → Report → Type 0
IsKnownAt {R} fits last passed remembers k after old new time i before now r =
    (history : List Entry) (kept : KeptGroup R) (g : Group) → slice_get k.groups i ≡ Some kept → KeepsUnder fits last passed (settings_in k) history kept g → MayEvaluateOver old history time
    → ComesAt fits last passed remembers (settings_in k) g kept history time old new k.groups after.groups i before now r

pub gone_nowhere : (head : Series) (history : List Entry) (time : ℕ) → MayEvaluateOver head history time → HasGoneOn head head history history
gone_nowhere head history time may = record { holds = may.holds; whole = λ x h. h; lawful = may.lawful }

pub set_same : {A : Type 0} (xs : List A) (i : ℕ) (x : A) → slice_get xs i ≡ Some x → slice_set xs i x ≡ xs
set_same [] i x h = refl
set_same (y ∷ xs) zero x h = let e : y ≡ x = cc in ap (λ v. v ∷ xs) (sym e)
set_same (y ∷ xs) (suc i) x h = ap (λ l. y ∷ l) (set_same xs i x h)

pub came : {R : Type 0} (fits : R → List Entry → Type 0) (last : R → LastAsks) (passed : R → Passed) (remembers : Bool) → StaysKept fits last passed
    → (w : World) (k after : KeptManager R) (old new : Series) (file name : List ℕ) (time i before now : ℕ) (r : Report) → place_of (is_kept_named file name) k.groups ≡ Some i
    → IsKnownAt fits last passed remembers k after old new time i before now r → after.reloaded ≡ k.reloaded → settings_in after ≡ settings_in k
    → ManagesGroupsOf fits last passed k w → MayEvaluateOver old w.history time → HasStepped fits last passed w k after old new (eval_step (settings_in k) w time file name) r
came {R} fits last passed remembers stays w k after old new file name time i before now r at known since settings keeps may =
    let t = is_there fits last passed (settings_in k) w.history file name k.groups w.groups i keeps.each at in
    let c = known w.history t.kept t.group t.kept_at t.keeps may in
    by c.kept c.placed t (is_later t.group.last time) refl c.comes
  where
    by : (kept : KeptGroup R) → after.groups ≡ slice_set k.groups i kept → (t : IsThere fits last passed (settings_in k) w.history file name k.groups w.groups i) → (b : Bool) → is_later t.group.last time ≡ b
        → MatchBool b (IsEvaluated fits last passed remembers (settings_in k) t.group t.kept kept w.history time old new before now r) (IsNotLater t.group.last t.kept kept old new before now r)
        → HasStepped fits last passed w k after old new (eval_step (settings_in k) w time file name) r
    by kept groups t true e h =
        subst (λ step. HasStepped fits last passed w k after old new step r) (sym (step_later (settings_in k) w time file name t.group t.group_found e))
        (evaluated_stepped fits last passed remembers stays w k after kept old new file name time i before now r keeps t groups since settings h)
    by kept groups t false e h =
        let late = not_later_is t.group.last time e in
        let same : after.groups ≡ k.groups = groups ∙ ap (slice_set k.groups i) h.same ∙ set_same k.groups i t.kept t.kept_at in
        subst (λ step. HasStepped fits last passed w k after old new step r) (sym (step_not (settings_in k) w time file name t.group late.0 t.group_found late.1 e))
        (refused_stepped fits last passed w k after old new (report.NotLater late.0) r keeps (gone_nowhere old w.history time may) (same_manager k after (record { groups_are = same; since = since; settings = settings })) h.head refl (h.told late.0 late.1))

-- what was read
pub few_named : {R : Type 0} (fits : R → List Entry → Type 0) (last : R → LastAsks) (passed : R → Passed) (w : World) (k : KeptManager R) (old : Series) (file name : List ℕ) (time i before now : ℕ)
    → place_of (is_kept_named file name) k.groups ≡ Some i
    → ((history : List Entry) (kept : KeptGroup R) (g : Group) → slice_get k.groups i ≡ Some kept → KeepsUnder fits last passed (settings_in k) history kept g → MayEvaluateOver old history time
    → now ≤ before + cost_after g.last (settings_in k) g history time (passed_by passed kept history))
    → ManagesGroupsOf fits last passed k w → MayEvaluateOver old w.history time → now ≤ before + eval_cost (settings_in k) w time file name (passed_by_named passed k w.history file name)
few_named fits last passed w k old file name time i before now at few keeps may =
    let t = is_there fits last passed (settings_in k) w.history file name k.groups w.groups i keeps.each at in
    subst (λ n. now ≤ before + n) (λ j. cost_by (settings_in k) w.history time (passed_by_any passed w.history (sym t.kept_found j)) (sym t.group_found j)) (few w.history t.kept t.group t.kept_at t.keeps may)

pub few_group : {R : Type 0} (fits : R → List Entry → Type 0) (last : R → LastAsks) (passed : R → Passed) (s : Settings) (g : Group) (k : KeptGroup R) (history : List Entry) (time before now : ℕ)
    → KeepsUnder fits last passed s history k g → too_late k.last time ≡ None → (IsAfter time g.last → now ≤ before + group_cost (settings_of k) g history time (passed_by passed k history))
    → now ≤ before + cost_after g.last s g history time (passed_by passed k history)
few_group fits last passed s g k history time before now under none few =
    let it = too_late_none g.last time (ap (λ o. too_late o time) (sym under.keeps.until) ∙ none) in
    subst (λ n. now ≤ before + n) (sym (cost_later g.last s g history time (passed_by passed k history) it))
    (subst (λ t. now ≤ before + group_cost t g history time (passed_by passed k history)) under.told (few (later_is g.last time it)))

-- what was passed
pub after_is : (last : Option ℕ) (time : ℕ) → IsAfter time last → is_later last time ≡ true
after_is None time h = refl
after_is (Some at) time h = is_sooner at time h

pub came_passed : {R : Type 0} (fits : R → List Entry → Type 0) (last : R → LastAsks) (passed : R → Passed) (remembers : Bool)
    → (w : World) (g : Group) (k after : KeptManager R) (old new : Series) (file name : List ℕ) (time i before now : ℕ) (r : Report) → place_of (is_kept_named file name) k.groups ≡ Some i
    → IsKnownAt fits last passed remembers k after old new time i before now r → ManagesGroupsOf fits last passed k w → MayEvaluateOver old w.history time
    → find (is_group_named file name) w.groups ≡ Some g → IsAfter time g.last → remembers ≡ true
    → IsPassedAfter (settings_in k) g w.history time (passed_by_named passed k w.history file name) (passed_by_named passed after (eval_step (settings_in k) w time file name).world.history file name)
came_passed {R} fits last passed remembers w g k after old new file name time i before now r at known keeps may found later does =
    let t = is_there fits last passed (settings_in k) w.history file name k.groups w.groups i keeps.each at in
    let c = known w.history t.kept t.group t.kept_at t.keeps may in
    by c.kept c.placed t (is_later t.group.last time) refl c.comes
  where
    by : (kept : KeptGroup R) → after.groups ≡ slice_set k.groups i kept → (t : IsThere fits last passed (settings_in k) w.history file name k.groups w.groups i) → (b : Bool) → is_later t.group.last time ≡ b
        → MatchBool b (IsEvaluated fits last passed remembers (settings_in k) t.group t.kept kept w.history time old new before now r) (IsNotLater t.group.last t.kept kept old new before now r)
        → IsPassedAfter (settings_in k) g w.history time (passed_by_named passed k w.history file name) (passed_by_named passed after (eval_step (settings_in k) w time file name).world.history file name)
    by kept groups t true e h =
        let same : t.group ≡ g = let both_found = sym t.group_found ∙ found in cc in
        let s = settings_in k in
        let end = history_with w.history (group_step s t.group w.history time) in
        let ends : end ≡ (eval_step s w time file name).world.history = sym (ap (λ (x : Step). x.world.history) (step_later s w time file name t.group t.group_found e)) in
        let first : passed_by passed t.kept w.history ≡ passed_by_named passed k w.history file name = sym (ap (passed_by_any passed w.history) t.kept_found) in
        let second : passed_by passed kept end ≡ passed_by_named passed after end file name = sym (passed_after passed k after end file name i t.kept kept t.kept_placed groups t.named h.file h.def) in
        subst (λ l. IsPassedAfter s g w.history time (passed_by_named passed k w.history file name) (passed_by_named passed after l file name)) ends
        (subst (λ u. IsPassedAfter s g w.history time (passed_by_named passed k w.history file name) u) second
        (subst (λ u. IsPassedAfter s g w.history time u (passed_by passed kept end)) first
        (subst (λ x. IsPassedAfter s x w.history time (passed_by passed t.kept w.history) (passed_by passed kept end)) same (h.passing does))))
    by kept groups t false e h =
        let same : t.group ≡ g = let both_found = sym t.group_found ∙ found in cc in
        let yes_later : is_later t.group.last time ≡ true = ap (λ (x : Group). is_later x.last time) same ∙ after_is g.last time later in
        absurd (let no = sym e ∙ yes_later in cc)

-- the group at a place, as it stands in the manager
pub comes_at : {R : Type 0} (fits : R → List Entry → Type 0) (last : R → LastAsks) (passed : R → Passed) (remembers : Bool) (s : Settings) (g : Group) (k now_there kept : KeptGroup R) (history : List Entry) (time : ℕ) (old new : Series)
    → (ks inside : List (KeptGroup R)) (place before now : ℕ) (result : Result Report AllocError) → now_there ≡ k → inside ≡ ks
    → IfOk result (GroupComes fits last passed remembers s g now_there kept history time old new before now)
    → IfOk result (ComesAt fits last passed remembers s g k history time old new ks (slice_set inside place kept) place before now)
comes_at fits last passed remembers s g k now_there kept history time old new ks inside place before now (Err e) same groups h = tt
comes_at fits last passed remembers s g k now_there kept history time old new ks inside place before now (Ok r) same groups h =
    record { kept = kept; placed = ap (λ l. slice_set l place kept) groups; comes = subst (λ x. GroupComes fits last passed remembers s g x kept history time old new before now r) same h }

-- clause by clause
pub if_ok : {T E : Type 0} (P Q : T → Type 0) (result : Result T E) → ((x : T) → P x → Q x) → IfOk result P → IfOk result Q
if_ok P Q (Ok x) by h = by x h
if_ok P Q (Err e) by h = tt

pub on_ok : {T E : Type 0} (P : T → Type 0) (Q : Type 0) (result : Result T E) → ((x : T) → P x → Q) → IfOk result P → OnOk result Q
on_ok P Q (Ok x) by h = by x h
on_ok P Q (Err e) by h = tt

-- what is known of the group at a place, where the call answers
abbrev pub KnownAt : {R : Type 0} → (R → List Entry → Type 0) → (R → LastAsks) → (R → Passed) → Bool → KeptManager R → KeptManager R → Series → Series → ℕ → ℕ → ℕ → ℕ → Result Report AllocError → Type 0
KnownAt {R} fits last passed remembers k after old new time i before now result =
    (history : List Entry) (kept : KeptGroup R) (g : Group) → slice_get k.groups i ≡ Some kept → KeepsUnder fits last passed (settings_in k) history kept g → MayEvaluateOver old history time
    → IfOk result (ComesAt fits last passed remembers (settings_in k) g kept history time old new k.groups after.groups i before now)

pub answered : {R : Type 0} (fits : R → List Entry → Type 0) (last : R → LastAsks) (passed : R → Passed) (remembers : Bool) → StaysKept fits last passed
    → (w : World) (k after : KeptManager R) (old new : Series) (file name : List ℕ) (time i before now : ℕ) (result : Result Report AllocError) → place_of (is_kept_named file name) k.groups ≡ Some i
    → KnownAt fits last passed remembers k after old new time i before now result → OnOk result (after.reloaded ≡ k.reloaded) → OnOk result (settings_in after ≡ settings_in k)
    → ManagesGroupsOf fits last passed k w → MayEvaluateOver old w.history time → IfOk result (HasStepped fits last passed w k after old new (eval_step (settings_in k) w time file name))
answered fits last passed remembers stays w k after old new file name time i before now (Err e) at known since settings keeps may = tt
answered fits last passed remembers stays w k after old new file name time i before now (Ok r) at known since settings keeps may =
    came fits last passed remembers stays w k after old new file name time i before now r at known since settings keeps may
