-- That a reload was accepted is remembered.
use Rattle.std.proofs.Common.{◌≡◌, ℕ, Bool, true, false, cond, List, Option, Some, None, refl, sym, subst}
use Rattle.std.specs.Prelude.{find, nat_lt}
use Rattle.spec_history.specs.declared.entry.Entry.{Entry}
use Rattle.spec_rules.specs.Evaluations.{group_step}
use Rattle.spec_rules.specs.Groups.{Group, is_group_named}
use Rattle.spec_rules.specs.Settings.{Settings}
use Rattle.spec_world.specs.declared.event.Event.{Event}
use Rattle.spec_world.specs.declared.event.Event.TheVariants.{Add, Query, Scrape, Fail, Gone, Eval, Reload, Restart, Alerts}
use Rattle.spec_world.specs.declared.event.NamedFile.{NamedFile}
use Rattle.spec_world.specs.declared.report.Report.TheVariants as report
use Rattle.spec_world.specs.Outcome.{EventOutcome, refuse, accept, Change, nothing_else, targets_become, groups_become, reloads, begins_anew, changed_by}
use Rattle.spec_world.specs.Query.{expression_outcome}
use Rattle.spec_world.specs.pr_parse.Expressions.{expression_of}
use Rattle.spec_world.specs.Rounds.{eval_after, eval_by, evaluation_outcome}
use Rattle.spec_world.specs.Step.{next, outcome, outcome_in_time, step_by, time_of}
use Rattle.spec_world.specs.World.{World}
use Rattle.spec_world.proofs.Steps.{OnlyAnswers, after_last, only_expression, reload_held}
use Rattle.laws_runs.specs.private.Worked.{is_restart}

-- By a reload

abbrev Reloads : EventOutcome → Type 0
Reloads (refuse report) = Unit {0}
Reloads (accept report entries nothing_else) = ⊥
Reloads (accept report entries (targets_become targets)) = ⊥
Reloads (accept report entries (groups_become groups)) = ⊥
Reloads (accept report entries (reloads groups)) = Unit {0}
Reloads (accept report entries begins_anew) = ⊥

reloaded_by : (w : World) (time : ℕ) (o : EventOutcome) → Reloads o → (step_by w time o).refused ≡ false → (step_by w time o).world.reloaded ≡ true
reloaded_by w time (refuse report) h k = absurd cc
reloaded_by w time (accept report entries nothing_else) h k = absurd h
reloaded_by w time (accept report entries (targets_become targets)) h k = absurd h
reloaded_by w time (accept report entries (groups_become groups)) h k = absurd h
reloaded_by w time (accept report entries (reloads groups)) h k = refl
reloaded_by w time (accept report entries begins_anew) h k = absurd h

pub by_a_reload : (s : Settings) (w : World) (time : ℕ) (files : List NamedFile) → (next s w (Reload time files)).refused ≡ false
    → (next s w (Reload time files)).world.reloaded ≡ true
unfolding next
by_a_reload s w time files k =
    reloaded_by w time (outcome s w (Reload time files))
    (after_last Reloads w.last time (outcome_in_time s w (Reload time files)) (λ last. tt) (reload_held Reloads (λ report. tt) w time files (λ loaded. tt))) k

-- Until a restart

abbrev Remains : Change → Type 0
Remains nothing_else = Unit {0}
Remains (targets_become targets) = Unit {0}
Remains (groups_become groups) = Unit {0}
Remains (reloads groups) = Unit {0}
Remains begins_anew = ⊥

abbrev Stays : EventOutcome → Type 0
Stays (refuse report) = Unit {0}
Stays (accept report entries change) = Remains change

stays_by : (c : Change) (w : World) (time : ℕ) (entries : List Entry) → Remains c → w.reloaded ≡ true → (changed_by c w time entries).reloaded ≡ true
stays_by nothing_else w time entries h k = k
stays_by (targets_become targets) w time entries h k = k
stays_by (groups_become groups) w time entries h k = k
stays_by (reloads groups) w time entries h k = refl
stays_by begins_anew w time entries h k = absurd h

stepped : (w : World) (time : ℕ) (o : EventOutcome) → Stays o → w.reloaded ≡ true → (step_by w time o).world.reloaded ≡ true
stepped w time (refuse report) h k = k
stepped w time (accept report entries change) h k = stays_by change w time entries h k

answers_stay : (o : EventOutcome) → OnlyAnswers o → Stays o
answers_stay (refuse report) h = tt
answers_stay (accept report entries change) h = subst Remains (sym h.1) tt

later_stays : (b : Bool) (s : Settings) (w : World) (g : Group) (time last : ℕ) → Stays (cond b (evaluation_outcome w (group_step s g w.history time)) (refuse (report.NotLater last)))
later_stays true s w g time last = tt
later_stays false s w g time last = tt

after_stays : (last : Option ℕ) (s : Settings) (w : World) (g : Group) (time : ℕ) → Stays (eval_after last s w g time)
after_stays None s w g time = tt
after_stays (Some last) s w g time = later_stays (nat_lt last time) s w g time last

eval_stays : (s : Settings) (w : World) (time : ℕ) (file name : List ℕ) (found : Option Group) → Stays (eval_by s w time file name found)
eval_stays s w time file name None = tt
eval_stays s w time file name (Some g) = after_stays g.last s w g time

in_time_stays : (s : Settings) (w : World) (e : Event) → is_restart e ≡ false → Stays (outcome_in_time s w e)
in_time_stays s w (Add time labels point) h = tt
in_time_stays s w (Query time text) h = answers_stay (expression_outcome s w.history time (expression_of text)) (only_expression s w.history time (expression_of text))
in_time_stays s w (Scrape time target body) h = tt
in_time_stays s w (Fail time target) h = tt
in_time_stays s w (Gone time target) h = tt
in_time_stays s w (Eval time file group) h = eval_stays s w time file group (find (is_group_named file group) w.groups)
in_time_stays s w (Reload time files) h = reload_held Stays (λ report. tt) w time files (λ loaded. tt)
in_time_stays s w (Restart time) h = absurd cc
in_time_stays s w (Alerts time) h = tt

pub until_a_restart : (s : Settings) (w : World) (e : Event) → is_restart e ≡ false → w.reloaded ≡ true → (next s w e).world.reloaded ≡ true
unfolding next
until_a_restart s w e h k =
    stepped w (time_of e) (outcome s w e) (after_last Stays w.last (time_of e) (outcome_in_time s w e) (λ last. tt) (in_time_stays s w e h)) k
