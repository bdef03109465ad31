-- The groups of a world are evaluated at rising times.
use Rattle.std.proofs.Common.{◌≡◌, ℕ, ltb-true, Bool, true, false, cond, List, [], ◌∷◌, Option, Some, None, refl, sym, subst}
use Rattle.std.specs.Prelude.{find, nat_lt}
use Rattle.std.specs.List.{AllByRecursion}
use Rattle.spec_vectors.specs.spec_history.declared.entry.Entry.{Entry}
use Rattle.spec_rules.specs.Evaluations.{group_step}
use Rattle.spec_rules.specs.Groups.{Group, is_group_named}
use Rattle.spec_rules.specs.Settings.{Settings}
use Rattle.spec_rules.specs.private.Times.{IsAfter, IsTimely}
use Rattle.spec_rules.proofs.Timing.{evaluation_on_time, reload_on_time}
use Rattle.spec_world.specs.declared.event.Event.{Event}
use Rattle.spec_world.specs.declared.event.Event.TheVariants.{Add, Query, Scrape, Fail, Gone, Eval, Reload, Restart, Alerts}
use Rattle.spec_world.specs.declared.report.Report.TheVariants as report
use Rattle.spec_world.specs.Outcome.{EventOutcome, refuse, accept, Change, nothing_else, targets_become, groups_become, reloads, begins_anew, changed_by}
use Rattle.spec_world.specs.Query.{expression_outcome}
use Rattle.pr_rulefile.specs.pr_parse.Expressions.{expression_of}
use Rattle.spec_world.specs.Rounds.{eval_after, eval_by, evaluation_outcome, with_group}
use Rattle.spec_world.specs.Step.{next, outcome, outcome_in_time, step_by, time_of, world_after}
use Rattle.spec_world.specs.World.{World}
use Rattle.spec_world.proofs.Steps.{OnlyAnswers, after_last, only_expression, reload_held}

abbrev pub AreTimely : List Group → Type 0
AreTimely groups = AllByRecursion IsTimely groups

-- the groups that an event leaves
abbrev Becomes : Change → Type 0
Becomes nothing_else = Unit {0}
Becomes (targets_become targets) = Unit {0}
Becomes (groups_become groups) = AreTimely groups
Becomes (reloads groups) = AreTimely groups
Becomes begins_anew = Unit {0}

abbrev Comes : EventOutcome → Type 0
Comes (refuse report) = Unit {0}
Comes (accept report entries change) = Becomes change

changed : (c : Change) (w : World) (time : ℕ) (entries : List Entry) → Becomes c → AreTimely w.groups → AreTimely (changed_by c w time entries).groups
changed nothing_else w time entries h k = k
changed (targets_become targets) w time entries h k = k
changed (groups_become groups) w time entries h k = h
changed (reloads groups) w time entries h k = h
changed begins_anew w time entries h k = tt

stepped : (w : World) (time : ℕ) (o : EventOutcome) → Comes o → AreTimely w.groups → AreTimely (step_by w time o).world.groups
stepped w time (refuse report) h k = k
stepped w time (accept report entries change) h k = changed change w time entries h k

-- Evaluations

replaced : (groups : List Group) (new : Group) → AreTimely groups → IsTimely new → AreTimely (with_group groups new)
replaced [] new h k = tt
replaced (g ∷ groups) new h k = by (is_group_named new.file new.name g) (replaced groups new h.1 k) where
  by : (b : Bool) → AreTimely (with_group groups new) → AreTimely (cond b (new ∷ groups) (g ∷ with_group groups new))
  by true rest = (k, h.1)
  by false rest = (h.0, rest)

abbrev MayBe : Option Group → Type 0
MayBe None = Unit {0}
MayBe (Some g) = IsTimely g

found : (test : Group → Bool) (groups : List Group) → AreTimely groups → MayBe (find test groups)
found test [] h = tt
found test (g ∷ groups) h = by (test g) (found test groups h.1) where
  by : (b : Bool) → MayBe (find test groups) → MayBe (cond b (Some g) (find test groups))
  by true rest = h.0
  by false rest = rest

evaluated_so : (s : Settings) (w : World) (g : Group) (time : ℕ) → IsAfter time g.last → IsTimely g → AreTimely w.groups → Comes (evaluation_outcome w (group_step s g w.history time))
evaluated_so s w g time after h k = replaced w.groups (group_step s g w.history time).group k (evaluation_on_time s g w.history time after h)

after_its_last : (s : Settings) (w : World) (g : Group) (time : ℕ) (last : Option ℕ) → g.last ≡ last → IsTimely g → AreTimely w.groups → Comes (eval_after last s w g time)
after_its_last s w g time None e h k = evaluated_so s w g time (subst (IsAfter time) (sym e) tt) h k
after_its_last s w g time (Some last) e h k = by (nat_lt last time) refl where
  by : (b : Bool) → nat_lt last time ≡ b → Comes (cond b (evaluation_outcome w (group_step s g w.history time)) (refuse (report.NotLater last)))
  by true later = evaluated_so s w g time (subst (IsAfter time) (sym e) (ltb-true last time later)) h k
  by false later = tt

of_found : (s : Settings) (w : World) (time : ℕ) (file name : List ℕ) (o : Option Group) → MayBe o → AreTimely w.groups → Comes (eval_by s w time file name o)
of_found s w time file name None h k = tt
of_found s w time file name (Some g) h k = after_its_last s w g time g.last refl h k

-- All events

answers_come : (o : EventOutcome) → OnlyAnswers o → Comes o
answers_come (refuse report) h = tt
answers_come (accept report entries change) h = subst Becomes (sym h.1) tt

comes_in_time : (s : Settings) (w : World) (e : Event) → AreTimely w.groups → Comes (outcome_in_time s w e)
comes_in_time s w (Add time labels point) h = tt
comes_in_time s w (Query time text) h = answers_come (expression_outcome s w.history time (expression_of text)) (only_expression s w.history time (expression_of text))
comes_in_time s w (Scrape time target body) h = tt
comes_in_time s w (Fail time target) h = tt
comes_in_time s w (Gone time target) h = tt
comes_in_time s w (Eval time file group) h = of_found s w time file group (find (is_group_named file group) w.groups) (found (is_group_named file group) w.groups h) h
comes_in_time s w (Reload time files) h = reload_held Comes (λ report. tt) w time files (λ loaded. reload_on_time w.reloaded w.groups time loaded h)
comes_in_time s w (Restart time) h = tt
comes_in_time s w (Alerts time) h = tt

step_timely : (s : Settings) (w : World) (e : Event) → AreTimely w.groups → AreTimely (next s w e).world.groups
unfolding next
step_timely s w e h = stepped w (time_of e) (outcome s w e) (after_last Comes w.last (time_of e) (outcome_in_time s w e) (λ last. tt) (comes_in_time s w e h)) h

pub stay_timely : (s : Settings) (w : World) (events : List Event) → AllByRecursion IsTimely w.groups → AllByRecursion IsTimely (world_after s w events).groups
stay_timely s w [] h = h
stay_timely s w (e ∷ events) h = stay_timely s (next s w e).world events (step_timely s w e h)
