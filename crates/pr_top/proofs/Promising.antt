-- What each command means gives what it promises.
use Rattle.std.proofs.Common.{◌≡◌, ◌≢◌, ◌⊎◌, ℕ, ◌+◌, ◌<◌, ◌^◌, Bool, true, false, List, [], Option, Some, None, IfSome, IsSome, IsTrue, Result, Ok, Err, inl, inr, refl, sym, ap, ◌∙◌, subst, arith}
use Rattle.std.proofs.lemmas.Bool.{false≢true}
use Rattle.std.specs.Io.KnownBytes.{Appends}
use Rattle.pr_outside.specs.Causes.{IsCalm, Rose}
use Rattle.pr_outside.specs.Checks.{ends_by}
use Rattle.pr_outside.specs.Courses.{GoesOn, IsInTime}
use Rattle.pr_outside.specs.Ends.{AtInput, Ends, IsCalled, KnowsLength, StopsBy, no_row, status_of, stop_status}
use Rattle.pr_outside.specs.Meant.{Input}
use Rattle.pr_outside.specs.Opening.{OpensBy}
use Rattle.pr_outside.specs.Outside.{Outside}
use Rattle.pr_outside.specs.Status.{HasCause, IsTooLong, TookMany}
use Rattle.pr_outside.specs.Stores.{IsBadIn, StartsTelling}
use Rattle.pr_outside.specs.declared.check_loops.verdict.Verdict.{Verdict}
use Rattle.pr_outside.specs.declared.check_loops.verdict.Verdict.TheVariants.{Complaints, Good, Refused}
use Rattle.pr_outside.specs.declared.course.Course.{Course}
use Rattle.pr_outside.specs.declared.course.Course.TheVariants.{Going, Late}
use Rattle.pr_outside.specs.declared.status.status.Status.{Status}
use Rattle.pr_outside.specs.declared.status.status.Status.TheVariants.{Lint, Memory, Problem, ReadFault, TooLong, Usage}
use Rattle.pr_outside.specs.declared.status.status.Stop.{Stop}
use Rattle.pr_outside.specs.declared.status.status.Stop.TheVariants as stop
use Rattle.pr_outside.proofs.Causes.{ending_cause, stop_cause}
use Rattle.pr_outside.proofs.StoredRows.{IsDecoding}
use Rattle.pr_backfill.specs.Means.{AsksFirst, FillOpens}
use Rattle.pr_backfill.specs.pr_text.BadRows.{TellsRow, bad_row_text}
use Rattle.pr_backfill.specs.pr_checks.Metrics.{metrics_told}
use Rattle.pr_backfill.specs.pr_checks.RuleFiles.{rules_told}
use Rattle.pr_exercise.specs.Means.{exercise_status}
use Rattle.pr_test.specs.TestsTold.{tests_told}
use Rattle.pr_top.specs.Command.{Command, runs, tests_rules, checks_rules, checks_metrics, exercises, backfills, uses}
use Rattle.pr_top.specs.Follows.{EndsAtBadRow, FollowsPlan, IsOverStore, IsReadBy, OpensStore, Promises}
use Rattle.pr_top.specs.Means.{MeansCommand, usage_status}
use Rattle.pr_top.specs.Usage.{usage_text}
use Rattle.pr_top.proofs.Commands.{command_cause}
use Rattle.pr_top.proofs.Following.{backfill, exercise, files, input_check, run, usage}

-- The plan

follows_of : IsDecoding → (c : Option Command) (before now : Outside) (result : Status) → MeansCommand c before now result → ((uses c).store ≡ None → now.store ≡ before.store)
    → (input : List ℕ) → (IsTrue (uses c).input → before.input.left ≡ Some input) → FollowsPlan c input before now result
follows_of decodes None before now result m same input is = λ held. usage usage_text input held before now result m (same refl)
follows_of decodes (Some (runs path)) before now result m same input is = run decodes path input before now result m (is refl)
follows_of decodes (Some (tests_rules names)) before now result m same input is = λ held. files tests_told names input held before now result m (same refl)
follows_of decodes (Some (checks_rules names)) before now result m same input is = λ held. files rules_told names input held before now result m (same refl)
follows_of decodes (Some checks_metrics) before now result m same input is = λ held. input_check metrics_told input held before now result m (is refl) (same refl)
follows_of decodes (Some (exercises rounds)) before now result m same input is = exercise decodes rounds input before now result m
follows_of decodes (Some (backfills path times names)) before now result m same input is = λ held known. backfill decodes path times names input held before now result m known

-- Causes

-- what is known of the bad row that ended a call
stops_with : {T : Type 0} (bad shows : ℕ → Type 0) (long : Type 0) (before now : Outside) (r : Result T Stop) → ((index : ℕ) → r ≡ Err (stop.BadRow index) → bad index → shows index)
    → StopsBy bad long before now r → StopsBy shows long before now r
stops_with bad shows long before now (Ok done) f c = c
stops_with bad shows long before now (Err stop.Read) f c = c
stops_with bad shows long before now (Err stop.Load) f c = c
stops_with bad shows long before now (Err stop.Store) f c = c
stops_with bad shows long before now (Err (stop.BadRow index)) f c = (c.0, f index refl c.1)
stops_with bad shows long before now (Err stop.Write) f c = c
stops_with bad shows long before now (Err stop.Memory) f c = c
stops_with bad shows long before now (Err stop.TooLong) f c = c

ends_with : {T : Type 0} (bad shows : ℕ → Type 0) (long : Type 0) (before now : Outside) (r : Result T Stop) → ((index : ℕ) → r ≡ Err (stop.BadRow index) → bad index → shows index)
    → Ends bad long before now r → Ends shows long before now r
ends_with bad shows long before now r f e = record { cause = stops_with bad shows long before now r f e.cause; input = e.input; files = e.files; out = e.out }

-- a bad row, and what was written that tells it
abbrev Shows : Outside → (ℕ → Type 0) → ℕ → Type 0
Shows now Tells index = IsBadIn now.store index × Tells index

bool_cause : (P : Type 0) (Tells : ℕ → Type 0) (long : Type 0) (before now : Outside) (result : Status) (r : Result Bool Stop) → result ≡ status_of r → Ends (IsBadIn now.store) long before now r
    → (long → TookMany before.input now.input) → ((index : ℕ) → r ≡ Err (stop.BadRow index) → Tells index) → ((index : ℕ) → Shows now Tells index → P) → HasCause P before now result
bool_cause P Tells long before now result r answer e many tells shows =
    subst (HasCause P before now) (sym answer)
    (ending_cause (Shows now Tells) P long before now r shows many (ends_with (IsBadIn now.store) (Shows now Tells) long before now r (λ index is bad. (bad, tells index is)) e))

unit_cause : (P : Type 0) (Tells : ℕ → Type 0) (before now : Outside) (result : Status) (r : Result Unit Stop) → result ≡ exercise_status r → Ends (IsBadIn now.store) ⊥ before now r
    → ((index : ℕ) → r ≡ Err (stop.BadRow index) → Tells index) → ((index : ℕ) → Shows now Tells index → P) → HasCause P before now result
unit_cause P Tells before now result r answer e tells shows =
    subst (HasCause P before now) (sym answer) (by r (ends_with (IsBadIn now.store) (Shows now Tells) ⊥ before now r (λ index is bad. (bad, tells index is)) e))
  where
    by : (r : Result Unit Stop) → Ends (Shows now Tells) ⊥ before now r → HasCause P before now (exercise_status r)
    by (Ok done) e = e.cause
    by (Err s) e = stop_cause Unit (Shows now Tells) P ⊥ before now s shows (λ never. absurd never) e.cause

cause_of : (c : Option Command) (before now : Outside) (result : Status) → MeansCommand c before now result → HasCause (EndsAtBadRow c before now) before now result
cause_of None before now result m = command_cause None before now result m
cause_of (Some (runs path)) before now result m =
    bool_cause (EndsAtBadRow (Some (runs path)) before now) (λ index. TellsRow index before.out.taken now.out.taken) (IsTooLong before.input now.input) before now result m.ending m.answer m.ends
    (λ long. long.1) m.row (λ index shows. (index, shows.0, shows.1))
cause_of (Some (tests_rules names)) before now result m = command_cause (Some (tests_rules names)) before now result m
cause_of (Some (checks_rules names)) before now result m = command_cause (Some (checks_rules names)) before now result m
cause_of (Some checks_metrics) before now result m = command_cause (Some checks_metrics) before now result m
cause_of (Some (exercises rounds)) before now result m =
    unit_cause (EndsAtBadRow (Some (exercises rounds)) before now) (λ index. Appends before.out.taken now.out.taken (bad_row_text index)) before now result m.ending m.answer m.ends m.row
    (λ index shows. (index, shows.0, shows.1))
cause_of (Some (backfills path times names)) before now result m =
    bool_cause (EndsAtBadRow (Some (backfills path times names)) before now) (λ index. Appends before.out.taken now.out.taken (bad_row_text index)) ⊥ before now result m.ending m.answer m.ends
    (λ never. absurd never) m.row (λ index shows. (index, shows.0, shows.1))

-- What the statuses say

abbrev IsOfOther : Status → Type 0
IsOfOther Usage = ⊥
IsOfOther Lint = ⊥
IsOfOther _ = Unit {0}

stop_is_other : (s : Stop) → IsOfOther (stop_status s)
stop_is_other stop.Read = tt
stop_is_other stop.Load = tt
stop_is_other stop.Store = tt
stop_is_other (stop.BadRow index) = tt
stop_is_other stop.Write = tt
stop_is_other stop.Memory = tt
stop_is_other stop.TooLong = tt

bool_is_other : (r : Result Bool Stop) → IsOfOther (status_of r)
bool_is_other (Ok true) = tt
bool_is_other (Ok false) = tt
bool_is_other (Err s) = stop_is_other s

unit_is_other : (r : Result Unit Stop) → IsOfOther (exercise_status r)
unit_is_other (Ok done) = tt
unit_is_other (Err s) = stop_is_other s

-- the status of what is no usage and no check of metrics
other : (result status : Status) → result ≡ status → IsOfOther status → IsOfOther result
other result status is h = subst IsOfOther (sym is) h

no_usage : (result : Status) → IsOfOther result → result ≡ Usage → ⊥
no_usage result h is = subst IsOfOther is h

no_lint : (result : Status) → IsOfOther result → result ≡ Lint → ⊥
no_lint result h is = subst IsOfOther is h

check_no_usage : (r : Result Verdict Stop) → ends_by r ≡ Usage → ⊥
check_no_usage (Ok Good) is = absurd cc
check_no_usage (Ok Complaints) is = absurd cc
check_no_usage (Ok Refused) is = absurd cc
check_no_usage (Err s) is = no_usage (stop_status s) (stop_is_other s) is

usage_no_lint : (r : Result Unit Stop) → usage_status r ≡ Lint → ⊥
usage_no_lint (Ok done) is = absurd cc
usage_no_lint (Err s) is = no_lint (stop_status s) (stop_is_other s) is

usage_of : (c : Option Command) (before now : Outside) (result : Status) → MeansCommand c before now result → result ≡ Usage → c ≡ None
usage_of None before now result m is = refl
usage_of (Some (runs path)) before now result m is = absurd (no_usage result (other result _ m.answer (bool_is_other m.ending)) is)
usage_of (Some (tests_rules names)) before now result m is = absurd (no_usage result (other result _ m.answer (bool_is_other m.ending)) is)
usage_of (Some (checks_rules names)) before now result m is = absurd (no_usage result (other result _ m.answer (bool_is_other m.ending)) is)
usage_of (Some checks_metrics) before now result m is = absurd (check_no_usage m.ending (sym m.answer ∙ is))
usage_of (Some (exercises rounds)) before now result m is = absurd (no_usage result (other result _ m.answer (unit_is_other m.ending)) is)
usage_of (Some (backfills path times names)) before now result m is = absurd (no_usage result (other result _ m.answer (bool_is_other m.ending)) is)

lint_of : (c : Option Command) (before now : Outside) (result : Status) → MeansCommand c before now result → result ≡ Lint → c ≡ Some checks_metrics
lint_of None before now result m is = absurd (usage_no_lint m.ending (sym m.answer ∙ is))
lint_of (Some (runs path)) before now result m is = absurd (no_lint result (other result _ m.answer (bool_is_other m.ending)) is)
lint_of (Some (tests_rules names)) before now result m is = absurd (no_lint result (other result _ m.answer (bool_is_other m.ending)) is)
lint_of (Some (checks_rules names)) before now result m is = absurd (no_lint result (other result _ m.answer (bool_is_other m.ending)) is)
lint_of (Some checks_metrics) before now result m is = refl
lint_of (Some (exercises rounds)) before now result m is = absurd (no_lint result (other result _ m.answer (unit_is_other m.ending)) is)
lint_of (Some (backfills path times names)) before now result m is = absurd (no_lint result (other result _ m.answer (bool_is_other m.ending)) is)

-- an exercise refuses nothing
unit_no_problem : (r : Result Unit Stop) → exercise_status r ≡ Problem → ⊥
unit_no_problem (Ok done) is = absurd cc
unit_no_problem (Err stop.Read) is = absurd cc
unit_no_problem (Err stop.Load) is = absurd cc
unit_no_problem (Err stop.Store) is = absurd cc
unit_no_problem (Err (stop.BadRow index)) is = absurd cc
unit_no_problem (Err stop.Write) is = absurd cc
unit_no_problem (Err stop.Memory) is = absurd cc
unit_no_problem (Err stop.TooLong) is = absurd cc

fine_of : (c : Option Command) (before now : Outside) (result : Status) → MeansCommand c before now result → (rounds : ℕ) → c ≡ Some (exercises rounds) → result ≢ Problem
fine_of None before now result m rounds is = absurd cc
fine_of (Some (runs path)) before now result m rounds is = absurd cc
fine_of (Some (tests_rules names)) before now result m rounds is = absurd cc
fine_of (Some (checks_rules names)) before now result m rounds is = absurd cc
fine_of (Some checks_metrics) before now result m rounds is = absurd cc
fine_of (Some (exercises others)) before now result m rounds is = λ problem. unit_no_problem m.ending (sym m.answer ∙ problem)
fine_of (Some (backfills path times names)) before now result m rounds is = absurd cc

run_read : (before now : Input) (r : Result Bool Stop) → KnowsLength before now r → IsReadBy (status_of r) before now
run_read before now (Ok true) k = k
run_read before now (Ok false) k = k
run_read before now (Err stop.Read) k = tt
run_read before now (Err stop.Load) k = tt
run_read before now (Err stop.Store) k = tt
run_read before now (Err (stop.BadRow index)) k = tt
run_read before now (Err stop.Write) k = tt
run_read before now (Err stop.Memory) k = tt
run_read before now (Err stop.TooLong) k = k.0

check_read : (before now : Input) (r : Result Verdict Stop) → KnowsLength before now r → IsReadBy (ends_by r) before now
check_read before now (Ok Good) k = k
check_read before now (Ok Complaints) k = k
check_read before now (Ok Refused) k = k
check_read before now (Err stop.Read) k = tt
check_read before now (Err stop.Load) k = tt
check_read before now (Err stop.Store) k = tt
check_read before now (Err (stop.BadRow index)) k = tt
check_read before now (Err stop.Write) k = tt
check_read before now (Err stop.Memory) k = tt
check_read before now (Err stop.TooLong) k = k.0

read_of : (c : Option Command) (before now : Outside) (result : Status) → MeansCommand c before now result → (uses c).input ≡ true → IsReadBy result before.input now.input
read_of None before now result m used = absurd (false≢true used)
read_of (Some (runs path)) before now result m used = subst (λ (s : Status). IsReadBy s before.input now.input) (sym m.answer) (run_read before.input now.input m.ending m.known)
read_of (Some (tests_rules names)) before now result m used = absurd (false≢true used)
read_of (Some (checks_rules names)) before now result m used = absurd (false≢true used)
read_of (Some checks_metrics) before now result m used = subst (λ (s : Status). IsReadBy s before.input now.input) (sym m.answer) (check_read before.input now.input m.ending m.known)
read_of (Some (exercises rounds)) before now result m used = absurd (false≢true used)
read_of (Some (backfills path times names)) before now result m used = absurd (false≢true used)

-- Calls in time

goes_on : (before now : Course) → GoesOn before now → IsInTime before now
goes_on before now h = λ going late. going_not_late (sym (h going) ∙ late)
  where
    going_not_late : Going ≡ Late → ⊥
    going_not_late is = absurd cc

called : {T : Type 0} (before now : Course) (r : Result T Stop) → IsCalled before now r → IsInTime before now
called before now (Ok done) h = goes_on before now h
called before now (Err s) h = h

ends_in_time : {T : Type 0} (bad : ℕ → Type 0) (long : Type 0) (before now : Outside) (r : Result T Stop) → Ends bad long before now r
    → IsInTime before.input.course now.input.course × IsInTime before.files.course now.files.course × IsInTime before.out.course now.out.course
ends_in_time bad long before now r e = (e.input, called before.files.course now.files.course r e.files, called before.out.course now.out.course r e.out)

in_time_of : (c : Option Command) (before now : Outside) (result : Status) → MeansCommand c before now result
    → IsInTime before.input.course now.input.course × IsInTime before.files.course now.files.course × IsInTime before.out.course now.out.course
in_time_of None before now result m = ends_in_time no_row ⊥ before now m.ending m.ends
in_time_of (Some (runs path)) before now result m = ends_in_time (IsBadIn now.store) (IsTooLong before.input now.input) before now m.ending m.ends
in_time_of (Some (tests_rules names)) before now result m = ends_in_time no_row ⊥ before now m.ending m.ends
in_time_of (Some (checks_rules names)) before now result m = ends_in_time no_row ⊥ before now m.ending m.ends
in_time_of (Some checks_metrics) before now result m = ends_in_time no_row (IsTooLong before.input now.input) before now m.ending m.ends
in_time_of (Some (exercises rounds)) before now result m = ends_in_time (IsBadIn now.store) ⊥ before now m.ending m.ends
in_time_of (Some (backfills path times names)) before now result m = ends_in_time (IsBadIn now.store) ⊥ before now m.ending m.ends

-- The input

no_rise : (before now : ℕ) → IsCalm before now → Rose before now → ⊥
no_rise before now calm rose = omega (arith, calm.same, calm.below, rose)

silent_by : (long P : Type 0) (before now : Outside) (result : Status) (r : Result Verdict Stop) → result ≡ ends_by r → StopsBy no_row long before now r
    → (result ≡ TooLong) ⊎ ((result ≡ ReadFault) × IsCalm before.files.faults now.files.faults) → AtInput r P → P
silent_by long P before now result (Ok Good) is cause (inl h) p = absurd cc
silent_by long P before now result (Ok Good) is cause (inr h) p = let e = h.0 in absurd cc
silent_by long P before now result (Ok Complaints) is cause (inl h) p = absurd cc
silent_by long P before now result (Ok Complaints) is cause (inr h) p = let e = h.0 in absurd cc
silent_by long P before now result (Ok Refused) is cause (inl h) p = absurd cc
silent_by long P before now result (Ok Refused) is cause (inr h) p = let e = h.0 in absurd cc
silent_by long P before now result (Err stop.Read) is cause h p = p
silent_by long P before now result (Err stop.Load) is cause (inl h) p = absurd cc
silent_by long P before now result (Err stop.Load) is cause (inr h) p = absurd (no_rise before.files.faults now.files.faults h.1 cause.1)
silent_by long P before now result (Err stop.Store) is cause (inl h) p = absurd cc
silent_by long P before now result (Err stop.Store) is cause (inr h) p = let e = h.0 in absurd cc
silent_by long P before now result (Err (stop.BadRow index)) is cause h p = absurd cause.1
silent_by long P before now result (Err stop.Write) is cause (inl h) p = absurd cc
silent_by long P before now result (Err stop.Write) is cause (inr h) p = let e = h.0 in absurd cc
silent_by long P before now result (Err stop.Memory) is cause (inl h) p = absurd cc
silent_by long P before now result (Err stop.Memory) is cause (inr h) p = let e = h.0 in absurd cc
silent_by long P before now result (Err stop.TooLong) is cause h p = p

silent_of : (c : Option Command) (before now : Outside) (result : Status) → MeansCommand c before now result → c ≡ Some checks_metrics
    → (result ≡ TooLong) ⊎ ((result ≡ ReadFault) × IsCalm before.files.faults now.files.faults) → Appends before.out.taken now.out.taken []
silent_of None before now result m is h = absurd cc
silent_of (Some (runs path)) before now result m is h = absurd cc
silent_of (Some (tests_rules names)) before now result m is h = absurd cc
silent_of (Some (checks_rules names)) before now result m is h = absurd cc
silent_of (Some checks_metrics) before now result m is h = silent_by _ (Appends before.out.taken now.out.taken []) before now result m.ending m.answer m.ends.cause h m.silent
silent_of (Some (exercises rounds)) before now result m is h = absurd cc
silent_of (Some (backfills path times names)) before now result m is h = absurd cc

-- of an input that is as it was nothing more is taken
untaken : (a b : Input) → b ≡ a → b.taken < a.taken + 2 ^ 32 + 2 ^ 14
untaken a b same = omega (arith, ap (λ (i : Input). i.taken) same)

most_of : (c : Option Command) (before now : Outside) (result : Status) → MeansCommand c before now result → ((uses c).input ≡ false → now.input ≡ before.input)
    → now.input.taken < before.input.taken + 2 ^ 32 + 2 ^ 14
most_of None before now result m same = untaken before.input now.input (same refl)
most_of (Some (runs path)) before now result m same = omega (arith, m.most)
most_of (Some (tests_rules names)) before now result m same = untaken before.input now.input (same refl)
most_of (Some (checks_rules names)) before now result m same = untaken before.input now.input (same refl)
most_of (Some checks_metrics) before now result m same = m.most
most_of (Some (exercises rounds)) before now result m same = untaken before.input now.input (same refl)
most_of (Some (backfills path times names)) before now result m same = untaken before.input now.input (same refl)

-- The store

run_opens : (opened path : List ℕ) (before now : List (List ℕ)) (r : Result Bool Stop) → OpensBy path before now r → OpensStore (Some (runs opened)) (status_of r) path before now
run_opens opened path before now (Ok true) o = o
run_opens opened path before now (Ok false) o = o
run_opens opened path before now (Err stop.Read) o = o
run_opens opened path before now (Err stop.Load) o = o
run_opens opened path before now (Err stop.Store) o = o
run_opens opened path before now (Err (stop.BadRow index)) o = inr o
run_opens opened path before now (Err stop.Write) o = o
run_opens opened path before now (Err stop.Memory) o = o
run_opens opened path before now (Err stop.TooLong) o = o

exercise_opens : (rounds : ℕ) (path : List ℕ) (before now : List (List ℕ)) (r : Result Unit Stop) → OpensBy path before now r
    → OpensStore (Some (exercises rounds)) (exercise_status r) path before now
exercise_opens rounds path before now (Ok done) o = o
exercise_opens rounds path before now (Err stop.Read) o = o
exercise_opens rounds path before now (Err stop.Load) o = o
exercise_opens rounds path before now (Err stop.Store) o = o
exercise_opens rounds path before now (Err (stop.BadRow index)) o = inr o
exercise_opens rounds path before now (Err stop.Write) o = o
exercise_opens rounds path before now (Err stop.Memory) o = o
exercise_opens rounds path before now (Err stop.TooLong) o = o

fill_opens : (times : List ℕ) (names : List (List ℕ)) (path : List ℕ) (before now : List (List ℕ)) (r : Result Bool Stop) → FillOpens path before now r
    → OpensStore (Some (backfills path times names)) (status_of r) path before now
fill_opens times names path before now (Ok true) o = o
fill_opens times names path before now (Ok false) o = o
fill_opens times names path before now (Err stop.Read) o = absurd o
fill_opens times names path before now (Err stop.Load) o = o
fill_opens times names path before now (Err stop.Store) o = o
fill_opens times names path before now (Err (stop.BadRow index)) o = inr o
fill_opens times names path before now (Err stop.Write) o = o
fill_opens times names path before now (Err stop.Memory) o = o
fill_opens times names path before now (Err stop.TooLong) o = absurd o

opens_by : (c : Option Command) (before now : Outside) (result : Status) → MeansCommand c before now result
    → IfSome (uses c).store (λ path. OpensStore c result path before.store.paths now.store.paths)
opens_by None before now result m = tt
opens_by (Some (runs path)) before now result m =
    subst (λ (s : Status). OpensStore (Some (runs path)) s path before.store.paths now.store.paths) (sym m.answer)
    (run_opens path path before.store.paths now.store.paths m.ending m.opens)
opens_by (Some (tests_rules names)) before now result m = tt
opens_by (Some (checks_rules names)) before now result m = tt
opens_by (Some checks_metrics) before now result m = tt
opens_by (Some (exercises rounds)) before now result m =
    subst (λ (s : Status). OpensStore (Some (exercises rounds)) s [] before.store.paths now.store.paths) (sym m.answer)
    (exercise_opens rounds [] before.store.paths now.store.paths m.ending m.opens)
opens_by (Some (backfills path times names)) before now result m =
    subst (λ (s : Status). OpensStore (Some (backfills path times names)) s path before.store.paths now.store.paths) (sym m.answer)
    (fill_opens times names path before.store.paths now.store.paths m.ending m.opens)

-- a load ended a backfill, since it reads no input
fill_load : (calls calls_now size : ℕ) (r : Result Bool Stop) → AsksFirst calls calls_now size r → status_of r ≡ ReadFault → r ≡ Err stop.Load
fill_load calls calls_now size (Ok true) a is = absurd cc
fill_load calls calls_now size (Ok false) a is = absurd cc
fill_load calls calls_now size (Err stop.Read) a is = absurd a
fill_load calls calls_now size (Err stop.Load) a is = refl
fill_load calls calls_now size (Err stop.Store) a is = absurd cc
fill_load calls calls_now size (Err (stop.BadRow index)) a is = absurd cc
fill_load calls calls_now size (Err stop.Write) a is = absurd cc
fill_load calls calls_now size (Err stop.Memory) a is = absurd cc
fill_load calls calls_now size (Err stop.TooLong) a is = absurd a

unwritten_of : (c : Option Command) (before now : Outside) (result : Status) → MeansCommand c before now result → (path times : List ℕ) (names : List (List ℕ)) → c ≡ Some (backfills path times names)
    → result ≡ ReadFault → now.out ≡ before.out
unwritten_of None before now result m path times names is four = absurd cc
unwritten_of (Some (runs other)) before now result m path times names is four = absurd cc
unwritten_of (Some (tests_rules others)) before now result m path times names is four = absurd cc
unwritten_of (Some (checks_rules others)) before now result m path times names is four = absurd cc
unwritten_of (Some checks_metrics) before now result m path times names is four = absurd cc
unwritten_of (Some (exercises rounds)) before now result m path times names is four = absurd cc
unwritten_of (Some (backfills other other_times others)) before now result m path times names is four = m.unwritten (fill_load _ _ _ m.ending m.asked (sym m.answer ∙ four))

unopened_of : (c : Option Command) (before now : Outside) (result : Status) → MeansCommand c before now result → (path times : List ℕ) (names : List (List ℕ)) → c ≡ Some (backfills path times names)
    → now.store.paths ≡ before.store.paths → IfSome now.store.rows (λ rows. before.store.rows ≡ Some rows)
unopened_of None before now result m path times names is same = absurd cc
unopened_of (Some (runs other)) before now result m path times names is same = absurd cc
unopened_of (Some (tests_rules others)) before now result m path times names is same = absurd cc
unopened_of (Some (checks_rules others)) before now result m path times names is same = absurd cc
unopened_of (Some checks_metrics) before now result m path times names is same = absurd cc
unopened_of (Some (exercises rounds)) before now result m path times names is same = absurd cc
unopened_of (Some (backfills other others_times others)) before now result m path times names is same = m.unopened same

told_after : {T : Type 0} (bad : ℕ → Type 0) (long : Type 0) (before now : Outside) (r : Result T Stop) → StopsBy bad long before now r → IsCalm before.store.faults now.store.faults → (r ≡ Err stop.Memory → ⊥)
    → StartsTelling before.store now.store r → IsTrue now.store.sound → IsSome now.store.rows
told_after bad long before now (Ok done) cause calm some tells sound = tells.told sound
told_after bad long before now (Err stop.Read) cause calm some tells sound = tells.told sound
told_after bad long before now (Err stop.Load) cause calm some tells sound = tells.told sound
told_after bad long before now (Err stop.Store) cause calm some tells sound = absurd (no_rise before.store.faults now.store.faults calm cause.2)
told_after bad long before now (Err (stop.BadRow index)) cause calm some tells sound = tells.told sound
told_after bad long before now (Err stop.Write) cause calm some tells sound = tells.told sound
told_after bad long before now (Err stop.Memory) cause calm some tells sound = absurd (some refl)
told_after bad long before now (Err stop.TooLong) cause calm some tells sound = tells.told sound

told_of : (c : Option Command) (before now : Outside) (result : Status) → MeansCommand c before now result
    → IsOverStore c before now → IsCalm before.store.faults now.store.faults → result ≢ Memory → IsTrue now.store.sound → IsSome now.store.rows
told_of None before now result m opened calm some sound = absurd (false≢true opened)
told_of (Some (runs path)) before now result m opened calm some sound =
    told_after (IsBadIn now.store) _ before now m.ending m.ends.cause calm (λ is. some (m.answer ∙ ap status_of is)) m.tells sound
told_of (Some (tests_rules names)) before now result m opened calm some sound = absurd (false≢true opened)
told_of (Some (checks_rules names)) before now result m opened calm some sound = absurd (false≢true opened)
told_of (Some checks_metrics) before now result m opened calm some sound = absurd (false≢true opened)
told_of (Some (exercises rounds)) before now result m opened calm some sound =
    told_after (IsBadIn now.store) ⊥ before now m.ending m.ends.cause calm (λ is. some (m.answer ∙ ap exercise_status is)) m.tells sound
told_of (Some (backfills path times names)) before now result m opened calm some sound =
    told_after (IsBadIn now.store) ⊥ before now m.ending m.ends.cause calm (λ is. some (m.answer ∙ ap status_of is)) (m.tells opened) sound

-- All of it

pub promises_of : IsDecoding → (c : Option Command) (before now : Outside) (result : Status) → MeansCommand c before now result → ((uses c).input ≡ false → now.input ≡ before.input)
    → ((uses c).files ≡ false → now.files ≡ before.files) → ((uses c).store ≡ None → now.store ≡ before.store) → Promises c before now result
promises_of decodes c before now result m input files store = record {
  follows = follows_of decodes c before now result m store;
  cause = cause_of c before now result m;
  usage = usage_of c before now result m;
  lint = lint_of c before now result m;
  fine = fine_of c before now result m;
  read = read_of c before now result m;
  silent = silent_of c before now result m;
  opens = opens_by c before now result m;
  in_time = in_time_of c before now result m;
  most = most_of c before now result m input;
  unwritten = unwritten_of c before now result m;
  unopened = unopened_of c before now result m;
  told = told_of c before now result m;
  input = input;
  files = files;
  store = store;
}
