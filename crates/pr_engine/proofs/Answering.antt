-- What an engine stands for after an answer.
use Rattle.std.proofs.Common.{◌≡◌, ◌≢◌, ℕ, ◌+◌, Bool, true, false, cond, List, [], ◌++◌, length, map, Option, Some, None, Result, Ok, Err, IfOk, OnOk, refl, sym, ap, ◌∙◌, subst, append-nil, true≢false}
use Rattle.std.specs.Prelude.{IfSome, IsSome}
use Rattle.pr_head.specs.spec_history.private.Laws.{IsLawful}
use Rattle.pr_head.specs.spec_history.declared.entry.Entry.{Entry}
use Rattle.pr_head.specs.private.Intake.{Series}
use Rattle.pr_manager.specs.private.Keeping.{ManagesGroups, KeptManager, settings_in}
use Rattle.pr_outside.specs.Causes.{HasKeepCause}
use Rattle.pr_outside.specs.private.Kept.{AppendsRows, KeepsRows}
use Rattle.pr_outside.specs.Meant.{Store}
use Rattle.pr_outside.specs.declared.keeping.KeepError.{KeepError}
use Rattle.pr_outside.specs.declared.keeping.KeepError.TheVariants as keeping
use Rattle.pr_outside.specs.spec_history.declared.row.Row.{Row}
use Rattle.pr_manager.specs.pr_range.private.Asks.{LastAsks, Passed}
use Rattle.pr_head.specs.spec_history.Histories.{history_of}
use Rattle.pr_head.specs.spec_history.Rows.{encoded}
use Rattle.pr_engine.specs.private.Knowing.{Knows, Tracked}
use Rattle.pr_manager.specs.spec_world.private.Laws.{IsNotBefore, is_refusal}
use Rattle.pr_manager.specs.spec_world.Outcome.{EventOutcome}
use Rattle.pr_manager.specs.spec_world.Settings.{Settings}
use Rattle.pr_manager.specs.spec_world.Step.{Step, next, outcome, step_by, time_of}
use Rattle.pr_manager.specs.spec_world.World.{World, begin}
use Rattle.pr_manager.specs.spec_world.declared.event.Event.{Event}
use Rattle.pr_manager.specs.spec_world.declared.event.Event.TheVariants as event
use Rattle.pr_manager.specs.spec_world.declared.report.Report.{Report}
use Rattle.pr_manager.specs.spec_world.declared.report.Report.TheVariants as report
use Rattle.pr_manager.proofs.WorldRefusals.{refusal_is_told}
use Rattle.pr_engine.specs.private.Causes.{HasApplyCause, IfAnswered, apply_error, broken_after, last_after, restart_error}
use Rattle.pr_engine.specs.private.StartCauses.{HasStartCause, IfLoaded}
use Rattle.pr_engine.specs.private.Events.{IsKnownAfter, is_restart, settings_of, step_in_time}
use Rattle.pr_engine.specs.private.Loading.{IsLoaded}
use Rattle.pr_engine.specs.private.Rows.{AreRead, TellsOf}
use Rattle.pr_engine.specs.private.Standing.{Begins, Forgets, KeptEngine, KeptParts, KeepsBefore, KeepsUnless, KeepsWorld, StandsFor, StandsForSome, Starts}
use Rattle.pr_engine.specs.declared.fault.ApplyError.{ApplyError}
use Rattle.pr_engine.specs.declared.fault.ApplyError.TheVariants as apply
use Rattle.pr_engine.specs.declared.fault.Cause.{Cause}
use Rattle.pr_engine.specs.declared.rows.fault.StartError.{StartError}
use Rattle.pr_engine.specs.declared.rows.fault.StartError.TheVariants as start
use Rattle.pr_engine.proofs.Steps.{in_time, stepped_history, stepped_last}
use Rattle.pr_engine.proofs.StoreTelling.{tells_more}
use Rattle.pr_engine.proofs.Times.{head_of_all}
use Rattle.pr_engine.proofs.Values.{told_in_time}

-- Errors

pub keep_applied : (T U : Type 0) (before now : ℕ) (e : KeepError) → HasKeepCause {T = T} before now (Err e) → HasApplyCause {T = U} before now (Err (apply_error e))
keep_applied T U before now keeping.Failed h = h
keep_applied T U before now keeping.Memory h = h

pub start_applied : (T U : Type 0) (before now : ℕ) (e : StartError) → HasStartCause {T = T} before now (Err e) → HasApplyCause {T = U} before now (Err (restart_error e))
start_applied T U before now start.Memory h = h
start_applied T U before now start.StoreFailed h = h
start_applied T U before now (start.BadRow at) h = h

pub kept_no_row : (e : KeepError) (at : ℕ) → apply_error e ≢ apply.BadRow at
kept_no_row keeping.Failed at = λ h. absurd cc
kept_no_row keeping.Memory at = λ h. absurd cc

pub kept_unbroken : (e : KeepError) (first : Cause) → apply_error e ≢ apply.Broken first
kept_unbroken keeping.Failed first = λ h. absurd cc
kept_unbroken keeping.Memory first = λ h. absurd cc

pub started_unbroken : (e : StartError) (first : Cause) → restart_error e ≢ apply.Broken first
started_unbroken start.Memory first = λ h. absurd cc
started_unbroken start.StoreFailed first = λ h. absurd cc
started_unbroken (start.BadRow at) first = λ h. absurd cc

pub started_row : (e : StartError) (at : ℕ) → restart_error e ≡ apply.BadRow at → e ≡ start.BadRow at
started_row start.Memory at h = absurd cc
started_row start.StoreFailed at h = absurd cc
started_row (start.BadRow n) at h = let same : n ≡ at = cc in ap start.BadRow same

-- rows that are told after an error

pub kept_still : (T : Type 0) (e : KeepError) (now : Option (List Row)) → IfAnswered {T = T} (Err (apply_error e)) (IsSome now)
kept_still T keeping.Failed now = tt
kept_still T keeping.Memory now = tt

pub started_tells : (T U : Type 0) (e : StartError) (now : Option (List Row)) → IfLoaded {T = T} (Err e) (IsSome now) → IfAnswered {T = U} (Err (restart_error e)) (IsSome now)
started_tells T U start.Memory now told = tt
started_tells T U start.StoreFailed now told = tt
started_tells T U (start.BadRow at) now told = told

-- Rows

pub kept_tells : (w : World) (time : ℕ) (o : EventOutcome) (before now : Store) (added : List Entry) → TellsOf before w.history → added ≡ (step_by w time o).rows
    → IsLawful (step_by w time o).world.history → AreRead added → AppendsRows before.rows now.rows (map encoded added) → now.count ≡ before.count + length added
    → TellsOf now (step_by w time o).world.history
kept_tells w time o before now added tells is lawful are appends count =
    let after : (step_by w time o).world.history ≡ w.history ++ added = stepped_history w time o ∙ ap (λ (l : List Entry). w.history ++ l) (sym is) in
    subst (λ (h : List Entry). TellsOf now h) (sym after) (tells_more before now w.history added tells are (subst IsLawful after lawful) appends count)

pub begins : {R : Type 0} (fits : R → List Entry → Type 0) (asked : R → LastAsks) (passed : R → Passed) (step : ℕ) (head : Series) (tracked : Tracked) (manager : KeptManager R) (store : Store) → IsLoaded head store → Knows tracked []
    → settings_in manager ≡ settings_of step → ((history : List Entry) → ManagesGroups fits asked passed manager history [] false)
    → Begins fits asked passed step (record { head = head; targets = tracked; manager = manager }) store
begins fits asked passed step head tracked manager store l k told none = record {
  history = l.history;
  keeps = λ last. record { head = head_of_all head last l.history l.head; targets = k; settings = told; groups = none l.history };
  tells = l.tells;
}

same_history : (rows all : List Row) (history other : List Entry) → history_of rows ≡ Ok history → history_of all ≡ Ok other → all ≡ rows → other ≡ history
same_history rows all history other told again same = let both : Ok other ≡ Ok history = sym again ∙ ap history_of same ∙ told in cc

read_again : (old now : Option (List Row)) (history other : List Entry) → KeepsRows old now → IsSome now → IfSome old (λ rows. history_of rows ≡ Ok history)
    → IfSome now (λ rows. history_of rows ≡ Ok other) → other ≡ history
read_again old None history other same some told again = absurd (true≢false (sym some))
read_again None (Some now) history other same some told again = absurd same
read_again (Some rows) (Some now) history other same some told again = same_history rows now history other told again same

pub begun_keeps : {R : Type 0} (fits : R → List Entry → Type 0) (asked : R → LastAsks) (passed : R → Passed) (step : ℕ) (k : KeptParts R) (before now : Store) (w : World) (last : Option ℕ) → Begins fits asked passed step k now → KeepsRows before.rows now.rows
    → TellsOf before w.history → IsSome now.rows → KeepsWorld fits asked passed step k (begin last w.history)
begun_keeps fits asked passed step k before now w last b same tells some =
    subst (λ (h : List Entry). KeepsWorld fits asked passed step k (begin last h)) (read_again before.rows now.rows w.history b.history same some tells.rows b.tells.rows) (b.keeps last)

-- Restarts

abbrev pub anew_step : World → ℕ → Step
anew_step w time = record { world = begin (Some time) (w.history ++ []); report = report.Restarted (length w.history); rows = []; refused = false }

pub restart_step : (step : ℕ) (w : World) (e : Event) → is_restart e ≡ true → step_in_time step w e ≡ anew_step w (time_of e)
restart_step step w (event.Add time labels point) is = absurd cc
restart_step step w (event.Query time text) is = absurd cc
restart_step step w (event.Scrape time target body) is = absurd cc
restart_step step w (event.Fail time target) is = absurd cc
restart_step step w (event.Gone time target) is = absurd cc
restart_step step w (event.Eval time file group) is = absurd cc
restart_step step w (event.Reload time files) is = absurd cc
restart_step step w (event.Restart time) is = refl
restart_step step w (event.Alerts time) is = absurd cc

pub known_rows : (e : Event) (store : Store) → is_restart e ≡ true → IsKnownAfter e store → IsSome store.rows
known_rows (event.Add time labels point) store is known = absurd cc
known_rows (event.Query time text) store is known = absurd cc
known_rows (event.Scrape time target body) store is known = absurd cc
known_rows (event.Fail time target) store is known = absurd cc
known_rows (event.Gone time target) store is known = absurd cc
known_rows (event.Eval time file group) store is known = absurd cc
known_rows (event.Reload time files) store is known = absurd cc
known_rows (event.Restart time) store is known = known
known_rows (event.Alerts time) store is known = absurd cc

pub known_else : (e : Event) (store : Store) → is_restart e ≡ false → IsKnownAfter e store
known_else (event.Add time labels point) store is = tt
known_else (event.Query time text) store is = tt
known_else (event.Scrape time target body) store is = tt
known_else (event.Fail time target) store is = tt
known_else (event.Gone time target) store is = tt
known_else (event.Eval time file group) store is = tt
known_else (event.Reload time files) store is = tt
known_else (event.Restart time) store is = absurd cc
known_else (event.Alerts time) store is = tt

-- what is kept after a restart, and what is told of it
pub anew_report : (step : ℕ) (w : World) (e : Event) (r : Report) → is_restart e ≡ true → r ≡ report.Restarted (length w.history) → r ≡ (step_in_time step w e).report
anew_report step w e r is told = told ∙ sym (ap (λ (s : Step). s.report) (restart_step step w e is))

anew_world : (step : ℕ) (w : World) (e : Event) → is_restart e ≡ true → (step_in_time step w e).world ≡ begin (Some (time_of e)) w.history
anew_world step w e is = ap (λ (s : Step). s.world) (restart_step step w e is) ∙ ap (begin (Some (time_of e))) (append-nil w.history)

pub anew_keeps : {R : Type 0} (fits : R → List Entry → Type 0) (asked : R → LastAsks) (passed : R → Passed) (step : ℕ) (w : World) (e : Event) (k : KeptParts R) → is_restart e ≡ true → KeepsWorld fits asked passed step k (begin (Some (time_of e)) w.history)
    → KeepsWorld fits asked passed step k (step_in_time step w e).world
anew_keeps fits asked passed step w e k is keeps = subst (λ (v : World). KeepsWorld fits asked passed step k v) (sym (anew_world step w e is)) keeps

pub anew_tells : (step : ℕ) (w : World) (e : Event) (store : Store) → is_restart e ≡ true → TellsOf store w.history → TellsOf store (step_in_time step w e).world.history
anew_tells step w e store is tells = subst (λ (v : World). TellsOf store v.history) (sym (anew_world step w e is)) tells

-- it forgets nothing, and reads nothing
pub anew_forgets : (e : Event) (r : Report) (head : Series) → is_restart e ≡ true → Forgets e r head
anew_forgets (event.Add time labels point) r head is = tt
anew_forgets (event.Query time text) r head is = tt
anew_forgets (event.Scrape time target body) r head is = tt
anew_forgets (event.Fail time target) r head is = tt
anew_forgets (event.Gone time target) r head is = tt
anew_forgets (event.Eval time file group) r head is = absurd cc
anew_forgets (event.Reload time files) r head is = tt
anew_forgets (event.Restart time) r head is = tt
anew_forgets (event.Alerts time) r head is = tt

-- The engine

keeps_unless : {R : Type 0} (fits : R → List Entry → Type 0) (asked : R → LastAsks) (passed : R → Passed) (step : ℕ) (broken : Option Cause) (k : KeptParts R) (w : World) → KeepsWorld fits asked passed step k w → KeepsUnless fits asked passed step broken k w
keeps_unless fits asked passed step None k w keeps = keeps
keeps_unless fits asked passed step (Some first) k w keeps = tt

pub keeps_whole : {R : Type 0} (fits : R → List Entry → Type 0) (asked : R → LastAsks) (passed : R → Passed) (step : ℕ) (broken : Option Cause) (k : KeptParts R) (w : World) → broken ≡ None → KeepsUnless fits asked passed step broken k w → KeepsWorld fits asked passed step k w
keeps_whole fits asked passed step None k w is keeps = keeps
keeps_whole fits asked passed step (Some first) k w is keeps = absurd cc

-- what an engine keeps that is not broken, where an event comes in time
pub keeps_before : {R : Type 0} (fits : R → List Entry → Type 0) (asked : R → LastAsks) (passed : R → Passed) (k : KeptEngine R) (store : Store) (w : World) (time : ℕ) → StandsFor fits asked passed k store w → k.broken ≡ None → IsNotBefore k.last time
    → KeepsBefore fits asked passed k.step k.parts w time
keeps_before fits asked passed k store w time stands whole late = record {
  keeps = keeps_whole fits asked passed k.step k.broken k.parts w whole stands.keeps;
  in_time = subst (λ (l : Option ℕ). IsNotBefore l time) stands.last late;
}

next_last : (s : Settings) (w : World) (e : Event) → (next s w e).world.last ≡ cond (next s w e).refused w.last (Some (time_of e))
unfolding next
next_last s w e = stepped_last w (time_of e) (outcome s w e)

pub last_is : (s : Settings) (w : World) (e : Event) (last : Option ℕ) (r : Report) → last ≡ w.last → r ≡ (next s w e).report
    → last_after last (time_of e) (Ok r) ≡ (next s w e).world.last
last_is s w e last r same told =
    ap (λ (x : Report). cond (is_refusal x) last (Some (time_of e))) told
    ∙ ap (λ (b : Bool). cond b last (Some (time_of e))) (refusal_is_told s w e)
    ∙ ap (λ (l : Option ℕ). cond (next s w e).refused l (Some (time_of e))) same
    ∙ sym (next_last s w e)

pub stands_after : {R : Type 0} (fits : R → List Entry → Type 0) (asked : R → LastAsks) (passed : R → Passed) (k : KeptEngine R) (parts : KeptParts R) (before now : Store) (w : World) (e : Event) (r : Report) (broken : Option Cause) → StandsFor fits asked passed k before w
    → IsNotBefore k.last (time_of e) → r ≡ (step_in_time k.step w e).report → KeepsWorld fits asked passed k.step parts (step_in_time k.step w e).world
    → TellsOf now (step_in_time k.step w e).world.history
    → StandsFor fits asked passed (record { parts = parts; step = k.step; last = last_after k.last (time_of e) (Ok r); broken = broken }) now (next (settings_of k.step) w e).world
stands_after fits asked passed k parts before now w e r broken stands late told keeps tells =
    let is : next (settings_of k.step) w e ≡ step_in_time k.step w e =
    in_time k.step w e (subst (λ (l : Option ℕ). IsNotBefore l (time_of e)) stands.last late) in
    record {
      last = last_is (settings_of k.step) w e k.last r stands.last (told ∙ sym (ap (λ (s : Step). s.report) is));
      tells = subst (λ (s : Step). TellsOf now s.world.history) (sym is) tells;
      keeps = keeps_unless fits asked passed k.step broken parts (next (settings_of k.step) w e).world (subst (λ (s : Step). KeepsWorld fits asked passed k.step parts s.world) (sym is) keeps);
    }

pub stands_answered : {R : Type 0} (fits : R → List Entry → Type 0) (asked : R → LastAsks) (passed : R → Passed) (result : Result Report ApplyError) (k : KeptEngine R) (parts : KeptParts R) (before now : Store) (w : World) (e : Event) (broken : Option Cause)
    → StandsFor fits asked passed k before w → IsNotBefore k.last (time_of e) → IfOk result (λ r. r ≡ (step_in_time k.step w e).report)
    → OnOk result (KeepsWorld fits asked passed k.step parts (step_in_time k.step w e).world) → OnOk result (TellsOf now (step_in_time k.step w e).world.history)
    → OnOk result (StandsFor fits asked passed (record { parts = parts; step = k.step; last = last_after k.last (time_of e) result; broken = broken }) now (next (settings_of k.step) w e).world)
stands_answered fits asked passed (Ok r) k parts before now w e broken stands late told keeps tells = stands_after fits asked passed k parts before now w e r broken stands late told keeps tells
stands_answered fits asked passed (Err x) k parts before now w e broken stands late told keeps tells = tt

pub stands_broken : {R : Type 0} (fits : R → List Entry → Type 0) (asked : R → LastAsks) (passed : R → Passed) (k : KeptEngine R) (parts : KeptParts R) (before now : Store) (w : World) (first : Cause) → StandsFor fits asked passed k before w → TellsOf now w.history
    → StandsFor fits asked passed (record { parts = parts; step = k.step; last = k.last; broken = Some first }) now w
stands_broken fits asked passed k parts before now w first stands tells = record { last = stands.last; tells = tells; keeps = tt }

pub stands_anew : {R : Type 0} (fits : R → List Entry → Type 0) (asked : R → LastAsks) (passed : R → Passed) (parts : KeptParts R) (now : Store) (step : ℕ) (last : Option ℕ) (broken : Option Cause) → Begins fits asked passed step parts now
    → StandsForSome fits asked passed (record { parts = parts; step = step; last = last; broken = broken }) now
stands_anew fits asked passed parts now step last broken b = record {
  world = begin last b.history;
  stands = record { last = refl; tells = b.tells; keeps = keeps_unless fits asked passed step broken parts (begin last b.history) (b.keeps last) };
}

pub report_in_time : (step : ℕ) (w : World) (e : Event) (r : Report) → IsNotBefore w.last (time_of e) → r ≡ (step_in_time step w e).report → r ≡ (next (settings_of step) w e).report
report_in_time step w e r late told = told ∙ sym (ap (λ (s : Step). s.report) (in_time step w e late))

pub rows_in_time : (step : ℕ) (w : World) (e : Event) → IsNotBefore w.last (time_of e) → (next (settings_of step) w e).rows ≡ [] → (step_in_time step w e).rows ≡ []
rows_in_time step w e late none = sym (ap (λ (s : Step). s.rows) (in_time step w e late)) ∙ none

pub starts : {R : Type 0} (fits : R → List Entry → Type 0) (asked : R → LastAsks) (passed : R → Passed) (parts : KeptParts R) (now : Store) (step : ℕ) → Begins fits asked passed step parts now → Starts fits asked passed (record { parts = parts; step = step; last = None; broken = None }) now
starts fits asked passed parts now step b = record { history = b.history; stands = record { last = refl; tells = b.tells; keeps = b.keeps None } }

-- whatever was answered, the engine stands for some world
pub some_stands : {R : Type 0} (fits : R → List Entry → Type 0) (asked : R → LastAsks) (passed : R → Passed) (r : Result Report ApplyError) (e : Event) (k : KeptEngine R) (now : Store) (v : World)
    → (is_restart e ≡ true → OnOk r (Begins fits asked passed k.step k.parts now)) → (IsKnownAfter e now → OnOk r (StandsFor fits asked passed k now v)) → OnOk r (StandsForSome fits asked passed k now)
some_stands fits asked passed (Err x) e k now v anew stands = tt
some_stands fits asked passed (Ok x) e k now v anew stands = by (is_restart e) refl where
  by : (b : Bool) → is_restart e ≡ b → StandsForSome fits asked passed k now
  by true is = stands_anew fits asked passed k.parts now k.step k.last k.broken (anew is)
  by false is = record { world = v; stands = stands (known_else e now is) }

-- A refused event

pub refused_goes_on : (step : ℕ) (w : World) (e : Event) → (step_in_time step w e).refused ≡ true → is_restart e ≡ false
refused_goes_on step w (event.Add time labels point) is = refl
refused_goes_on step w (event.Query time text) is = refl
refused_goes_on step w (event.Scrape time target body) is = refl
refused_goes_on step w (event.Fail time target) is = refl
refused_goes_on step w (event.Gone time target) is = refl
refused_goes_on step w (event.Eval time file group) is = refl
refused_goes_on step w (event.Reload time files) is = refl
refused_goes_on step w (event.Restart time) is = absurd (true≢false (sym is))
refused_goes_on step w (event.Alerts time) is = refl

-- leaves an engine as it was
unmoved : {R : Type 0} (k : KeptEngine R) (parts : KeptParts R) (time : ℕ) (r : Report) → is_refusal r ≡ true → parts ≡ k.parts
    → record { parts = parts; step = k.step; last = last_after k.last time (Ok r); broken = broken_after k.broken (Ok r) } ≡ k
unmoved k parts time r is same = λ i. record { parts = same i; step = k.step; last = cond (is i) k.last (Some time); broken = cond (is i) k.broken None }

-- and standing for the same world
pub refused_stays : {R : Type 0} (fits : R → List Entry → Type 0) (asked : R → LastAsks) (passed : R → Passed) (result : Result Report ApplyError) (k : KeptEngine R) (parts : KeptParts R) (before now : Store) (w : World) (e : Event) (last : Option ℕ) (broken : Option Cause)
    → StandsFor fits asked passed k before w → now ≡ before → IsNotBefore w.last (time_of e) → IfOk result (λ r. r ≡ (step_in_time k.step w e).report) → (step_in_time k.step w e).refused ≡ true
    → OnOk result (parts ≡ k.parts) → last ≡ last_after k.last (time_of e) result → broken ≡ broken_after k.broken result
    → OnOk result ((record { parts = parts; step = k.step; last = last; broken = broken } ≡ k) × StandsFor fits asked passed (record { parts = parts; step = k.step; last = last; broken = broken }) now w)
refused_stays {R} fits asked passed (Ok r) k parts before now w e last broken stands same late told refused kept lasts breaks =
    let is : is_refusal r ≡ true = told_in_time k.step w e r (is_refusal r) late told refl ∙ refused in
    let all : record { parts = parts; step = k.step; last = last; broken = broken } ≡ k =
    (λ i. record { parts = parts; step = k.step; last = lasts i; broken = breaks i }) ∙ unmoved k parts (time_of e) r is kept in
    (all, subst (λ (x : KeptEngine R). StandsFor fits asked passed x now w) (sym all) (subst (λ (s : Store). StandsFor fits asked passed k s w) (sym same) stands))
refused_stays fits asked passed (Err x) k parts before now w e last broken stands same late told refused kept lasts breaks = tt
