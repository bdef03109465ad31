-- What each step does to the history, the targets and the groups.
use Rattle.std.proofs.Common.{◌≡◌, ℕ, Bool, true, false, List, [], ◌∷◌, ◌++◌, Option, Some, None, Result, Ok, Err, refl, sym, ap, ◌∙◌, subst, append_assoc, append-nil}
use Rattle.std.specs.Prelude.{cond, find, nat_lt}
use Rattle.spec_vectors.specs.spec_history.Admission.{admit, put_all, put_by}
use Rattle.spec_vectors.specs.spec_history.private.Laws.{IsLawful}
use Rattle.spec_vectors.specs.spec_history.declared.append.Append.{Append}
use Rattle.spec_vectors.specs.spec_history.declared.append.Append.TheVariants as append
use Rattle.spec_vectors.specs.spec_history.declared.entry.Entry.{Entry}
use Rattle.spec_vectors.proofs.HistoryLawful.{put_all_lawful, put_lawful}
use Rattle.spec_vectors.proofs.HistoryPutting.{admitted_lawful}
use Rattle.pr_ast.specs.Tree.{Tree}
use Rattle.spec_rules.specs.Evaluations.{group_step}
use Rattle.spec_rules.specs.Groups.{Group, is_group_named}
use Rattle.spec_rules.specs.Reloads.{LoadedFile, reload_step}
use Rattle.spec_rules.proofs.Putting.{evaluation_admits}
use Rattle.spec_world.specs.declared.event.Event.{Event}
use Rattle.spec_world.specs.declared.event.Event.TheVariants.{Add, Query, Scrape, Fail, Gone, Eval, Reload, Restart, Alerts}
use Rattle.spec_world.specs.declared.event.NamedFile.{NamedFile}
use Rattle.spec_world.specs.Settings.{Settings}
use Rattle.spec_world.specs.Outcome.{EventOutcome, refuse, accept, Change, nothing_else, targets_become, groups_become, reloads, begins_anew, changed_by, unless_backwards}
use Rattle.spec_world.specs.Query.{expression_outcome}
use Rattle.pr_rulefile.specs.pr_parse.Expressions.{ExpressionFault, expression_of}
use Rattle.spec_world.specs.Rounds.{all_loaded, eval_after, eval_by, eval_outcome, reload_outcome_by, reload_outcome}
use Rattle.spec_world.specs.declared.report.Report.{Report}
use Rattle.spec_world.specs.declared.report.Report.TheVariants as report
use Rattle.spec_world.specs.private.Laws.{changes_groups, changes_targets}
use Rattle.spec_world.specs.Step.{outcome, outcome_in_time, rows_by, entry_of, step_by, next, time_of, world_after, rows_of}
use Rattle.spec_world.specs.Targets.{TargetStep, scrape_step, fail_step, gone_step}
use Rattle.spec_world.specs.World.{World, begin, start}
use Rattle.spec_world.proofs.Targeting.{scrape_puts, fail_puts, gone_puts}

-- Refused and accepted events

changed_last : (c : Change) (w : World) (time : ℕ) (entries : List Entry) → (changed_by c w time entries).last ≡ Some time
changed_last nothing_else w time entries = refl
changed_last (targets_become targets) w time entries = refl
changed_last (groups_become groups) w time entries = refl
changed_last (reloads groups) w time entries = refl
changed_last begins_anew w time entries = refl

changed_history : (c : Change) (w : World) (time : ℕ) (entries : List Entry) → (changed_by c w time entries).history ≡ w.history ++ entries
changed_history nothing_else w time entries = refl
changed_history (targets_become targets) w time entries = refl
changed_history (groups_become groups) w time entries = refl
changed_history (reloads groups) w time entries = refl
changed_history begins_anew w time entries = refl

refused_by : (w : World) (time : ℕ) (o : EventOutcome) → (step_by w time o).refused ≡ true
    → ((step_by w time o).world ≡ w) × ((step_by w time o).rows ≡ [])
refused_by w time (refuse report) h = (refl, refl)
refused_by w time (accept report entries change) h = absurd (cc)

accepted_by : (w : World) (time : ℕ) (o : EventOutcome) → (step_by w time o).refused ≡ false
    → ((step_by w time o).world.last ≡ Some time) × ((step_by w time o).world.history ≡ w.history ++ (step_by w time o).rows)
accepted_by w time (refuse report) h = absurd (cc)
accepted_by w time (accept report entries change) h = (changed_last change w time entries, changed_history change w time entries)

pub step_refused : (s : Settings) (w : World) (e : Event) → (next s w e).refused ≡ true
    → ((next s w e).world ≡ w) × ((next s w e).rows ≡ [])
unfolding next
step_refused s w e h = refused_by w (time_of e) (outcome s w e) h

pub step_accepted : (s : Settings) (w : World) (e : Event) → (next s w e).refused ≡ false
    → ((next s w e).world.last ≡ Some (time_of e)) × ((next s w e).world.history ≡ w.history ++ (next s w e).rows)
unfolding next
step_accepted s w e h = accepted_by w (time_of e) (outcome s w e) h

-- either way the rows come behind the history
appended_by : (w : World) (time : ℕ) (o : EventOutcome) → (step_by w time o).world.history ≡ w.history ++ (step_by w time o).rows
appended_by w time (refuse report) = sym (append-nil w.history)
appended_by w time (accept report entries change) = changed_history change w time entries

appended : (s : Settings) (w : World) (e : Event) → (next s w e).world.history ≡ w.history ++ (next s w e).rows
unfolding next
appended s w e = appended_by w (time_of e) (outcome s w e)

pub history_is_rows : (s : Settings) (w : World) (events : List Event) → (world_after s w events).history ≡ w.history ++ rows_of s w events
history_is_rows s w [] = sym (append-nil w.history)
history_is_rows s w (e ∷ events) =
    history_is_rows s (next s w e).world events ∙ ap (λ (l : List Entry). l ++ rows_of s (next s w e).world events) (appended s w e)
    ∙ append_assoc w.history (next s w e).rows (rows_of s (next s w e).world events)

-- What holds of the outcome of each event holds of the outcome of an event that may be before the
-- last one, where it holds of refusals.

either_way : (P : EventOutcome → Type 0) (b : Bool) (o p : EventOutcome) → P o → P p → P (cond b o p)
either_way P true o p h k = h
either_way P false o p h k = k

pub after_last : (P : EventOutcome → Type 0) (last : Option ℕ) (time : ℕ) (o : EventOutcome) → ((before : ℕ) → P (refuse (report.Backwards before time))) → P o
    → P (unless_backwards last time o)
after_last P None time o refused h = h
after_last P (Some last) time o refused h = either_way P (nat_lt time last) (refuse (report.Backwards last time)) o (refused last) h

-- so of the evaluation of a group that is found, and of a reload of files that are read
eval_held_after : (P : EventOutcome → Type 0) → ((report : Report) → P (refuse report)) → (last : Option ℕ) (s : Settings) (w : World) (g : Group) (time : ℕ)
    → P (eval_after None s w g time) → P (eval_after last s w g time)
eval_held_after P refused None s w g time h = h
eval_held_after P refused (Some last) s w g time h = either_way P (nat_lt last time) (eval_after None s w g time) (refuse (report.NotLater last)) h (refused (report.NotLater last))

eval_held_by : (P : EventOutcome → Type 0) → ((report : Report) → P (refuse report)) → (s : Settings) (w : World) (time : ℕ) (file name : List ℕ) (found : Option Group)
    → ((g : Group) → P (eval_after None s w g time)) → P (eval_by s w time file name found)
eval_held_by P refused s w time file name None h = refused (report.NoGroup file name)
eval_held_by P refused s w time file name (Some g) h = eval_held_after P refused g.last s w g time (h g)

reload_held_by : (P : EventOutcome → Type 0) → ((report : Report) → P (refuse report)) → (w : World) (time : ℕ) (r : Result (List LoadedFile) Report)
    → ((files : List LoadedFile) → P (reload_outcome_by w time (Ok files))) → P (reload_outcome_by w time r)
reload_held_by P refused w time (Ok files) h = h files
reload_held_by P refused w time (Err refusal) h = refused refusal

eval_held : (P : EventOutcome → Type 0) → ((report : Report) → P (refuse report)) → (s : Settings) (w : World) (time : ℕ) (file name : List ℕ)
    → ((g : Group) → P (eval_after None s w g time)) → P (eval_outcome s w time file name)
eval_held P refused s w time file name h = eval_held_by P refused s w time file name (find (is_group_named file name) w.groups) h

pub reload_held : (P : EventOutcome → Type 0) → ((report : Report) → P (refuse report)) → (w : World) (time : ℕ) (files : List NamedFile)
    → ((loaded : List LoadedFile) → P (reload_outcome_by w time (Ok loaded))) → P (reload_outcome w time files)
unfolding reload_outcome
reload_held P refused w time files h = reload_held_by P refused w time (all_loaded files) h

-- Queries

-- a query adds nothing and changes nothing else
abbrev pub OnlyAnswers : EventOutcome → Type 0
OnlyAnswers (refuse report) = Unit {0}
OnlyAnswers (accept report entries change) = (entries ≡ []) × (change ≡ nothing_else)

pub only_expression : (s : Settings) (history : List Entry) (time : ℕ) (r : Result Tree ExpressionFault) → OnlyAnswers (expression_outcome s history time r)
only_expression s history time (Ok tree) = (refl, refl)
only_expression s history time (Err f) = tt

only_asked : (s : Settings) (w : World) (time : ℕ) (text : List ℕ) → OnlyAnswers (outcome s w (Query time text))
only_asked s w time text = after_last OnlyAnswers w.last time (outcome_in_time s w (Query time text)) (λ last. tt) (only_expression s w.history time (expression_of text))

only_alerts : (s : Settings) (w : World) (time : ℕ) → OnlyAnswers (outcome s w (Alerts time))
only_alerts s w time = after_last OnlyAnswers w.last time (outcome_in_time s w (Alerts time)) (λ last. tt) (refl, refl)

no_rows : (w : World) (time : ℕ) (o : EventOutcome) → OnlyAnswers o → (step_by w time o).rows ≡ []
no_rows w time (refuse report) h = refl
no_rows w time (accept report entries change) h = h.0

pub query_adds_nothing : (s : Settings) (w : World) (time : ℕ) (text : List ℕ) → (next s w (Query time text)).rows ≡ []
unfolding next
query_adds_nothing s w time text = no_rows w time (outcome s w (Query time text)) (only_asked s w time text)

pub alerts_add_nothing : (s : Settings) (w : World) (time : ℕ) → (next s w (Alerts time)).rows ≡ []
unfolding next
alerts_add_nothing s w time = no_rows w time (outcome s w (Alerts time)) (only_alerts s w time)

-- Targets and groups

-- what is changed is neither the targets, nor by a restart; neither the groups, nor by a restart
abbrev LeavesTargets : Change → Type 0
LeavesTargets nothing_else = Unit {0}
LeavesTargets (targets_become targets) = ⊥
LeavesTargets (groups_become groups) = Unit {0}
LeavesTargets (reloads groups) = Unit {0}
LeavesTargets begins_anew = ⊥

abbrev LeavesGroups : Change → Type 0
LeavesGroups nothing_else = Unit {0}
LeavesGroups (targets_become targets) = Unit {0}
LeavesGroups (groups_become groups) = ⊥
LeavesGroups (reloads groups) = ⊥
LeavesGroups begins_anew = ⊥

abbrev Leaves : (Change → Type 0) → EventOutcome → Type 0
Leaves P (refuse report) = Unit {0}
Leaves P (accept report entries change) = P change

leaves : (P : Change → Type 0) → P nothing_else → (o : EventOutcome) → OnlyAnswers o → Leaves P o
leaves P p (refuse report) h = tt
leaves P p (accept report entries change) h = subst P (sym h.1) p

kept_targets : (c : Change) (w : World) (time : ℕ) (entries : List Entry) → LeavesTargets c → (changed_by c w time entries).targets ≡ w.targets
kept_targets nothing_else w time entries h = refl
kept_targets (targets_become targets) w time entries h = absurd h
kept_targets (groups_become groups) w time entries h = refl
kept_targets (reloads groups) w time entries h = refl
kept_targets begins_anew w time entries h = absurd h

kept_groups : (c : Change) (w : World) (time : ℕ) (entries : List Entry) → LeavesGroups c
    → ((changed_by c w time entries).groups ≡ w.groups) × ((changed_by c w time entries).reloaded ≡ w.reloaded)
kept_groups nothing_else w time entries h = (refl, refl)
kept_groups (targets_become targets) w time entries h = (refl, refl)
kept_groups (groups_become groups) w time entries h = absurd h
kept_groups (reloads groups) w time entries h = absurd h
kept_groups begins_anew w time entries h = absurd h

targets_by : (w : World) (time : ℕ) (o : EventOutcome) → Leaves LeavesTargets o → (step_by w time o).world.targets ≡ w.targets
targets_by w time (refuse report) h = refl
targets_by w time (accept report entries change) h = kept_targets change w time entries h

groups_by : (w : World) (time : ℕ) (o : EventOutcome) → Leaves LeavesGroups o → ((step_by w time o).world.groups ≡ w.groups) × ((step_by w time o).world.reloaded ≡ w.reloaded)
groups_by w time (refuse report) h = (refl, refl)
groups_by w time (accept report entries change) h = kept_groups change w time entries h

targets_in_time : (s : Settings) (w : World) (e : Event) → changes_targets e ≡ false → Leaves LeavesTargets (outcome_in_time s w e)
targets_in_time s w (Add time labels point) h = tt
targets_in_time s w (Query time text) h = leaves LeavesTargets tt (expression_outcome s w.history time (expression_of text)) (only_expression s w.history time (expression_of text))
targets_in_time s w (Scrape time target body) h = absurd cc
targets_in_time s w (Fail time target) h = absurd cc
targets_in_time s w (Gone time target) h = absurd cc
targets_in_time s w (Eval time file group) h = eval_held (Leaves LeavesTargets) (λ report. tt) s w time file group (λ g. tt)
targets_in_time s w (Reload time files) h = reload_held (Leaves LeavesTargets) (λ report. tt) w time files (λ loaded. tt)
targets_in_time s w (Restart time) h = absurd cc
targets_in_time s w (Alerts time) h = tt

groups_in_time : (s : Settings) (w : World) (e : Event) → changes_groups e ≡ false → Leaves LeavesGroups (outcome_in_time s w e)
groups_in_time s w (Add time labels point) h = tt
groups_in_time s w (Query time text) h = leaves LeavesGroups tt (expression_outcome s w.history time (expression_of text)) (only_expression s w.history time (expression_of text))
groups_in_time s w (Scrape time target body) h = tt
groups_in_time s w (Fail time target) h = tt
groups_in_time s w (Gone time target) h = tt
groups_in_time s w (Eval time file group) h = absurd cc
groups_in_time s w (Reload time files) h = absurd cc
groups_in_time s w (Restart time) h = absurd cc
groups_in_time s w (Alerts time) h = tt

pub targets_stay : (s : Settings) (w : World) (e : Event) → changes_targets e ≡ false → (next s w e).world.targets ≡ w.targets
unfolding next
targets_stay s w e h = targets_by w (time_of e) (outcome s w e) (after_last (Leaves LeavesTargets) w.last (time_of e) (outcome_in_time s w e) (λ last. tt) (targets_in_time s w e h))

pub groups_stay : (s : Settings) (w : World) (e : Event) → changes_groups e ≡ false → ((next s w e).world.groups ≡ w.groups) × ((next s w e).world.reloaded ≡ w.reloaded)
unfolding next
groups_stay s w e h = groups_by w (time_of e) (outcome s w e) (after_last (Leaves LeavesGroups) w.last (time_of e) (outcome_in_time s w e) (λ last. tt) (groups_in_time s w e h))

-- a restart that is accepted
restarted_after : (last : Option ℕ) (s : Settings) (w : World) (time : ℕ) → (step_by w time (unless_backwards last time (outcome_in_time s w (Restart time)))).refused ≡ false
    → (step_by w time (unless_backwards last time (outcome_in_time s w (Restart time)))).world ≡ begin (Some time) (w.history ++ [])
restarted_after None s w time h = refl
restarted_after (Some last) s w time h = by (nat_lt time last) h where
  by : (b : Bool) → (step_by w time (cond b (refuse (report.Backwards last time)) (outcome_in_time s w (Restart time)))).refused ≡ false
      → (step_by w time (cond b (refuse (report.Backwards last time)) (outcome_in_time s w (Restart time)))).world ≡ begin (Some time) (w.history ++ [])
  by true k = absurd cc
  by false k = refl

pub restarted : (s : Settings) (w : World) (time : ℕ) → (next s w (Restart time)).refused ≡ false → (next s w (Restart time)).world ≡ begin (Some time) w.history
unfolding next
restarted s w time h = restarted_after w.last s w time h ∙ ap (λ l. begin (Some time) l) (append-nil w.history)

-- Lawful histories

-- the entries of an outcome may come behind the history
abbrev MayCome : List Entry → EventOutcome → Type 0
MayCome history (refuse report) = IsLawful history
MayCome history (accept report entries change) = IsLawful (history ++ entries)

pub put_is : (answer : Append) (history : List Entry) (e : Entry) → put_by answer history e ≡ history ++ rows_by answer e
put_is append.Added history e = refl
put_is append.Same history e = sym (append-nil history)
put_is (append.OutOfOrder last) history e = sym (append-nil history)
put_is (append.Conflict kept) history e = sym (append-nil history)

may_put : (history : List Entry) (e : Entry) → IsLawful history → IsLawful (history ++ rows_by (admit history e.labels e.time e.point) e)
may_put history e lawful = subst IsLawful (put_is (admit history e.labels e.time e.point) history e) (put_lawful history e lawful)

may_come : (history : List Entry) (o : EventOutcome) → OnlyAnswers o → IsLawful history → MayCome history o
may_come history (refuse report) h lawful = lawful
may_come history (accept report entries change) h lawful = subst IsLawful (sym (append-nil history) ∙ ap (λ l. history ++ l) (sym h.0)) lawful

may_admit : (history : List Entry) (step : TargetStep) → put_all history step.entries ≡ history ++ step.answer.admitted → IsLawful history
    → IsLawful (history ++ step.answer.admitted)
may_admit history step h lawful = subst IsLawful h (put_all_lawful history step.entries lawful)

nothing_more : (history : List Entry) → IsLawful history → IsLawful (history ++ [])
nothing_more history lawful = subst IsLawful (sym (append-nil history)) lawful

may_evaluate : (s : Settings) (w : World) (g : Group) (time : ℕ) → IsLawful w.history → IsLawful (w.history ++ (group_step s g w.history time).report.admitted)
may_evaluate s w g time lawful =
    subst (λ l. IsLawful (w.history ++ l)) (sym (evaluation_admits s g w.history time)) (admitted_lawful w.history (group_step s g w.history time).entries lawful)

in_time : (s : Settings) (w : World) (e : Event) → IsLawful w.history → MayCome w.history (outcome_in_time s w e)
in_time s w (Add time labels point) lawful = may_put w.history (entry_of time labels point) lawful
in_time s w (Query time text) lawful = may_come w.history (expression_outcome s w.history time (expression_of text)) (only_expression s w.history time (expression_of text)) lawful
in_time s w (Scrape time target body) lawful =
    may_admit w.history (scrape_step w.targets w.history target time body) (scrape_puts w.targets w.history target time body) lawful
in_time s w (Fail time target) lawful = may_admit w.history (fail_step w.targets w.history target time) (fail_puts w.targets w.history target time) lawful
in_time s w (Gone time target) lawful = may_admit w.history (gone_step w.targets w.history target time) (gone_puts w.targets w.history target time) lawful
in_time s w (Eval time file group) lawful = eval_held (MayCome w.history) (λ report. lawful) s w time file group (λ g. may_evaluate s w g time lawful)
in_time s w (Reload time files) lawful =
    reload_held (MayCome w.history) (λ report. lawful) w time files (λ loaded. admitted_lawful w.history (reload_step w.reloaded w.groups time loaded).entries lawful)
in_time s w (Restart time) lawful = nothing_more w.history lawful
in_time s w (Alerts time) lawful = nothing_more w.history lawful

lawful_by : (w : World) (time : ℕ) (o : EventOutcome) → MayCome w.history o → IsLawful w.history → IsLawful (step_by w time o).world.history
lawful_by w time (refuse report) h lawful = lawful
lawful_by w time (accept report entries change) h lawful = subst IsLawful (sym (changed_history change w time entries)) h

step_lawful : (s : Settings) (w : World) (e : Event) → IsLawful w.history → IsLawful (next s w e).world.history
unfolding next
step_lawful s w e lawful =
    lawful_by w (time_of e) (outcome s w e) (after_last (MayCome w.history) w.last (time_of e) (outcome_in_time s w e) (λ last. lawful) (in_time s w e lawful)) lawful

pub stays_lawful : (s : Settings) (w : World) (events : List Event) → IsLawful w.history → IsLawful (world_after s w events).history
stays_lawful s w [] lawful = lawful
stays_lawful s w (e ∷ events) lawful = stays_lawful s (next s w e).world events (step_lawful s w e lawful)

-- a restart after events begins over the rows at the start and theirs
pub restarted_over : (s : Settings) (rows : List Entry) (events : List Event) (time : ℕ) → (next s (world_after s (start rows) events) (Restart time)).refused ≡ false
    → (next s (world_after s (start rows) events) (Restart time)).world ≡ begin (Some time) (rows ++ rows_of s (start rows) events)
restarted_over s rows events time h =
    restarted s (world_after s (start rows) events) time h ∙ ap (λ (l : List Entry). begin (Some time) l) (history_is_rows s (start rows) events)
