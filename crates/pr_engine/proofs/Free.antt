-- A refused event reads no sample.
use Rattle.std.proofs.Common.{◌≡◌, ℕ, ◌+◌, ◌≤◌, Bool, true, false, cond, List, Option, Some, None, Result, Ok, Err, refl, sym, ap, ◌∙◌, subst, arith}
use Rattle.std.specs.Prelude.{find, nat_lt}
use Rattle.pr_ast.specs.Tree.{Tree}
use Rattle.pr_head.specs.spec_history.declared.entry.Entry.{Entry}
use Rattle.pr_manager.specs.private.Naming.{passed_by_named}
use Rattle.pr_manager.specs.private.Rounds.{cost_after, cost_by}
use Rattle.pr_outside.specs.Meant.{Store}
use Rattle.pr_manager.specs.pr_range.private.Asks.{LastAsks, Passed}
use Rattle.pr_manager.specs.spec_rules.private.Costs.{PassedByRules, group_cost}
use Rattle.pr_manager.specs.spec_rules.Evaluations.{group_step}
use Rattle.pr_manager.specs.spec_rules.Groups.{Group, is_group_named}
use Rattle.pr_manager.specs.spec_world.private.Laws.{IsNotBefore}
use Rattle.pr_manager.specs.spec_world.Outcome.{refuse}
use Rattle.pr_manager.specs.spec_world.Query.{expression_outcome}
use Rattle.pr_manager.specs.pr_parse.Expressions.{ExpressionFault, expression_of}
use Rattle.pr_manager.specs.spec_world.Rounds.{eval_after, eval_by, evaluation_outcome}
use Rattle.pr_manager.specs.spec_world.Settings.{Settings}
use Rattle.pr_manager.specs.spec_world.Step.{Step, next, step_by, time_of}
use Rattle.pr_manager.specs.spec_world.World.{World}
use Rattle.pr_manager.specs.spec_world.declared.event.Event.{Event}
use Rattle.pr_manager.specs.spec_world.declared.event.Event.TheVariants as event
use Rattle.pr_manager.specs.spec_world.declared.report.Report.TheVariants as report
use Rattle.pr_engine.specs.private.Events.{event_cost, expression_cost, settings_of, step_in_time}
use Rattle.pr_engine.specs.private.Standing.{KeptEngine, StandsFor}
use Rattle.pr_engine.proofs.Steps.{in_time}

not_accepted : (n : ℕ) → false ≡ true → n ≡ 0
not_accepted n h = absurd cc

expression_free : (s : Settings) (step : ℕ) (w : World) (history : List Entry) (time : ℕ) (r : Result Tree ExpressionFault)
    → (step_by w time (expression_outcome s history time r)).refused ≡ true → expression_cost step history time r ≡ 0
expression_free s step w history time (Ok tree) h = not_accepted (expression_cost step history time (Ok tree)) h
expression_free s step w history time (Err f) h = refl

after_free : (last : Option ℕ) (s : Settings) (w : World) (g : Group) (time : ℕ) (u : PassedByRules)
    → (step_by w time (eval_after last s w g time)).refused ≡ true → cost_after last s g w.history time u ≡ 0
after_free None s w g time u h = not_accepted (group_cost s g w.history time u) h
after_free (Some last) s w g time u h = by (nat_lt last time) h
  where
    by : (b : Bool) → (step_by w time (cond b (evaluation_outcome w (group_step s g w.history time)) (refuse (report.NotLater last)))).refused ≡ true
        → cond b (group_cost s g w.history time u) 0 ≡ 0
    by true r = not_accepted (group_cost s g w.history time u) r
    by false r = refl

found_free : (s : Settings) (w : World) (time : ℕ) (file name : List ℕ) (u : PassedByRules) (g : Option Group)
    → (step_by w time (eval_by s w time file name g)).refused ≡ true → cost_by s w.history time u g ≡ 0
found_free s w time file name u None h = refl
found_free s w time file name u (Some g) h = after_free g.last s w g time u h

event_free : (step : ℕ) (passed : List ℕ → List ℕ → PassedByRules) (w : World) (e : Event) → (step_in_time step w e).refused ≡ true → event_cost step passed w e ≡ 0
event_free step passed w (event.Add time labels point) h = refl
event_free step passed w (event.Query time text) h = expression_free (settings_of step) step w w.history time (expression_of text) h
event_free step passed w (event.Scrape time target body) h = refl
event_free step passed w (event.Fail time target) h = refl
event_free step passed w (event.Gone time target) h = refl
event_free step passed w (event.Eval time file group) h = found_free (settings_of step) w time file group (passed file group) (find (is_group_named file group) w.groups) h
event_free step passed w (event.Reload time files) h = refl
event_free step passed w (event.Restart time) h = refl
event_free step passed w (event.Alerts time) h = refl

pub refused_free : {R : Type 0} (fits : R → List Entry → Type 0) (asked : R → LastAsks) (passed : R → Passed) (k : KeptEngine R) (store : Store) (w : World) (e : Event) (before now : ℕ)
    → StandsFor fits asked passed k store w → IsNotBefore k.last (time_of e) → (next (settings_of k.step) w e).refused ≡ true
    → now ≤ before + event_cost k.step (passed_by_named passed k.parts.manager w.history) w e → now ≤ before
refused_free fits asked passed k store w e before now stands late refused few =
    let is : next (settings_of k.step) w e ≡ step_in_time k.step w e = in_time k.step w e (subst (λ (l : Option ℕ). IsNotBefore l (time_of e)) stands.last late) in
    let free : event_cost k.step (passed_by_named passed k.parts.manager w.history) w e ≡ 0 =
    event_free k.step (passed_by_named passed k.parts.manager w.history) w e (sym (ap (λ (x : Step). x.refused) is) ∙ refused) in
    let none : now ≤ before + 0 = subst (λ (n : ℕ). now ≤ before + n) free few in
    omega (arith, none)
