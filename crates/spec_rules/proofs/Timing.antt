-- The rules of a group are evaluated at rising times.
use Rattle.std.proofs.Common.{◌≡◌, ℕ, ◌+◌, ◌<◌, ◌≤◌, Bool, true, false, cond, List, [], ◌∷◌, ◌++◌, map, fold, reverse, Option, Some, None, Result, Ok, Err, refl, sym, ap, ◌∙◌, subst, arith}
use Rattle.std.specs.Prelude.{◌==◌, find}
use Rattle.std.specs.List.{AllByRecursion, zip}
use Rattle.std.proofs.lemmas.List.{reverse-append}
use Rattle.pr_ast.specs.pr_labels.declared.pair.Pair.{Pair}
use Rattle.spec_alerts.specs.spec_history.declared.entry.Entry.{Entry}
use Rattle.spec_alerts.specs.spec_history.Admission.{put_all}
use Rattle.spec_alerts.specs.spec_history.Puts.{marker}
use Rattle.spec_rules.specs.Definitions.{Group as Definition, Rule}
use Rattle.spec_alerts.specs.declared.found.RuleElement.{RuleElement}
use Rattle.spec_alerts.specs.Lineage.{Evaluation, EvaluationOutcome, Occurrence, seen, moved}
use Rattle.spec_rules.specs.declared.fault.RuleFailure.{RuleFailure}
use Rattle.spec_rules.specs.Evaluations.{RulesProgress, all_rules, begun, evaluated, group_step, one_rule, rule_outcome, restores, restoring, rule_step, rule_step_by, with_restored}
use Rattle.spec_rules.specs.Groups.{Group, RuleState, fresh, fresh_rule, rules_of}
use Rattle.spec_rules.specs.Reloads.{LoadedFile, carried, continued, continued_by, continued_rule, continued_rules, continues, fresh_groups, is_gone, reload_step, waits_at_first}
use Rattle.spec_rules.specs.Settings.{Settings}
use Rattle.spec_rules.specs.Taking.{taken, without_first}
use Rattle.spec_rules.specs.private.Times.{AreBefore, AreUntil, IsAfter, IsOnTime, IsTimely}

-- Lineages

before_later : (a b : ℕ) (steps : List Occurrence) → a ≤ b → AreBefore a steps → AreBefore b steps
before_later a b [] h k = tt
before_later a b (seen e ∷ earlier) h k = let first = k.0 in (omega arith, k.1)
before_later a b (moved alerts ∷ earlier) h k = before_later a b earlier h k

before_none : (now : ℕ) (steps : List Occurrence) → AreUntil None steps → AreBefore now steps
before_none now [] h = tt
before_none now (seen e ∷ earlier) h = absurd h
before_none now (moved alerts ∷ earlier) h = before_none now earlier h

before_now : (last : Option ℕ) (now : ℕ) (steps : List Occurrence) → IsAfter now last → AreUntil last steps → AreBefore now steps
before_now None now steps after h = before_none now steps h
before_now (Some last) now steps after h = before_later (last + 1) now steps (omega arith) h

-- a rule with one more evaluation, or with alerts that were moved
evaluated_now : (last : Option ℕ) (now : ℕ) (r : RuleState) (outcome : EvaluationOutcome) (wrote : List (List Pair)) → IsAfter now last → IsOnTime last r
    → AreUntil (Some now) (reverse (evaluated r now outcome wrote))
evaluated_now last now r outcome wrote after h =
    subst (AreUntil (Some now)) (sym (reverse-append r.lineage _)) (omega arith, before_now last now (reverse r.lineage) after h)

step_on_time : (g : Group) (last : Option ℕ) (now : ℕ) (r : RuleState) (history : List Entry) (result : Result (List RuleElement) RuleFailure) → IsAfter now last → IsOnTime last r
    → AreUntil (Some now) (reverse (rule_step_by g r history now result).lineage)
step_on_time g last now r history (Ok founds) after h = evaluated_now last now r _ _ after h
step_on_time g last now r history (Err f) after h = evaluated_now last now r _ _ after h

rule_on_time : (s : Settings) (g : Group) (last : Option ℕ) (now : ℕ) (r : RuleState) (history : List Entry) → IsAfter now last → IsOnTime last r
    → AreUntil (Some now) (reverse (rule_step s g r history now).lineage)
unfolding rule_step
rule_on_time s g last now r history after h = step_on_time g last now r history (rule_outcome s g r history now) after h

moved_on_time : (history : List Entry) (now : ℕ) (r : RuleState) → IsOnTime (Some now) r → IsOnTime (Some now) (with_restored history now r)
moved_on_time history now r h = subst (AreUntil (Some now)) (sym (reverse-append r.lineage (moved (restores history now r) ∷ []))) h

-- Groups

also : {X : Type 0} (P : X → Type 0) (xs : List X) (x : X) → AllByRecursion P xs → P x → AllByRecursion P (xs ++ x ∷ [])
also P [] x h k = (k, tt)
also P (y ∷ ys) x h k = (h.0, also P ys x h.1 k)

each_of : {X Y : Type 0} (P : X → Type 0) (Q : Y → Type 0) (f : X → Y) (xs : List X) → ((x : X) → P x → Q (f x)) → AllByRecursion P xs → AllByRecursion Q (map f xs)
each_of P Q f [] k h = tt
each_of P Q f (x ∷ xs) k h = (k x h.0, each_of P Q f xs k h.1)

rules_on_time : (s : Settings) (g : Group) (last : Option ℕ) (now : ℕ) (rules : List RuleState) (p : RulesProgress) → IsAfter now last → AllByRecursion (IsOnTime last) rules
    → AllByRecursion (IsOnTime (Some now)) p.rules → AllByRecursion (IsOnTime (Some now)) (fold (one_rule s g now) p rules).rules
rules_on_time s g last now [] p after h k = k
rules_on_time s g last now (r ∷ rules) p after h k =
    rules_on_time s g last now rules (one_rule s g now p r) after h.1
    (also (IsOnTime (Some now)) p.rules _ k (rule_on_time s g last now r p.history after h.0))

end_on_time : (b : Bool) (g : Group) (history : List Entry) (now : ℕ) (p : RulesProgress) (gone : List Entry) → AllByRecursion (IsOnTime (Some now)) p.rules
    → IsTimely (restoring b g history now p gone).group
end_on_time false g history now p gone h = h
end_on_time true g history now p gone h =
    each_of (IsOnTime (Some now)) (IsOnTime (Some now)) (with_restored (put_all p.history gone) now) p.rules (moved_on_time (put_all p.history gone) now) h

pub evaluation_on_time : (s : Settings) (g : Group) (history : List Entry) (now : ℕ) → IsAfter now g.last → IsTimely g → IsTimely (group_step s g history now).group
unfolding group_step
evaluation_on_time s g history now after h =
    end_on_time (g.waits == 1) g history now (all_rules s g history now) (map (marker now) g.leftovers)
    (rules_on_time s g g.last now g.rules (begun history) after h tt)

-- Reloads

never : (last : Option ℕ) (rule : Rule) → IsOnTime last (fresh_rule rule)
never None rule = tt
never (Some last) rule = tt

fresh_on_time : (last : Option ℕ) (rules : List Rule) → AllByRecursion (IsOnTime last) (map fresh_rule rules)
fresh_on_time last [] = tt
fresh_on_time last (rule ∷ rules) = (never last rule, fresh_on_time last rules)

without_on_time : (last : Option ℕ) (test : RuleState → Bool) (olds : List RuleState) → AllByRecursion (IsOnTime last) olds → AllByRecursion (IsOnTime last) (without_first test olds)
without_on_time last test [] h = tt
without_on_time last test (r ∷ olds) h = by (test r) (without_on_time last test olds h.1) where
  by : (b : Bool) → AllByRecursion (IsOnTime last) (without_first test olds) → AllByRecursion (IsOnTime last) (cond b olds (r ∷ without_first test olds))
  by true k = h.1
  by false k = (h.0, k)

found_on_time : (last : Option ℕ) (rule : Rule) (test : RuleState → Bool) (olds : List RuleState) → AllByRecursion (IsOnTime last) olds → IsOnTime last (continued_rule rule (find test olds))
found_on_time last rule test [] h = never last rule
found_on_time last rule test (r ∷ olds) h = by (test r) (found_on_time last rule test olds h.1) where
  by : (b : Bool) → IsOnTime last (continued_rule rule (find test olds)) → IsOnTime last (continued_rule rule (cond b (Some r) (find test olds)))
  by true k = h.0
  by false k = k

continued_on_time : (last : Option ℕ) (rules : List Rule) (olds : List RuleState) → AllByRecursion (IsOnTime last) olds → AllByRecursion (IsOnTime last) (continued_rules rules olds)
continued_on_time last [] olds h = tt
continued_on_time last (rule ∷ rules) olds h =
    (found_on_time last rule (continues rule) olds h, continued_on_time last rules (without_first (continues rule) olds) (without_on_time last (continues rule) olds h))

pub carried_on_time : (new old : Group) → IsTimely old → IsTimely (carried new old)
carried_on_time new old h = continued_on_time old.last (rules_of new) old.rules h

by_on_time : (new : Group) (olds : List Group) (test : Group → Bool) → IsTimely new → AllByRecursion IsTimely olds → IsTimely (continued_by new (find test olds))
by_on_time new [] test n h = n
by_on_time new (old ∷ olds) test n h = by (test old) (by_on_time new olds test n h.1) where
  by : (b : Bool) → IsTimely (continued_by new (find test olds)) → IsTimely (continued_by new (cond b (Some old) (find test olds)))
  by true k = carried_on_time new old h.0
  by false k = k

all_fresh_on_time : (waits : ℕ) (file : List ℕ) (ds : List Definition) (more : List Group) → AllByRecursion IsTimely more → AllByRecursion IsTimely (map (fresh waits file) ds ++ more)
all_fresh_on_time waits file [] more h = h
all_fresh_on_time waits file (d ∷ ds) more h = (fresh_on_time None d.rules, all_fresh_on_time waits file ds more h)

files_on_time : (reloaded : Bool) (files : List LoadedFile) → AllByRecursion IsTimely (fresh_groups reloaded files)
files_on_time reloaded [] = tt
files_on_time reloaded (f ∷ files) = all_fresh_on_time (waits_at_first reloaded) f.name f.groups (fresh_groups reloaded files) (files_on_time reloaded files)

pub reload_on_time : (reloaded : Bool) (olds : List Group) (now : ℕ) (files : List LoadedFile) → AllByRecursion IsTimely olds
    → AllByRecursion IsTimely (reload_step reloaded olds now files).groups
unfolding reload_step
reload_on_time reloaded olds now files h =
    each_of IsTimely IsTimely (continued olds) (fresh_groups reloaded files) (λ new n. by_on_time new olds _ n h) (files_on_time reloaded files)
