-- An evaluation leaves all groups there, in their order.
use Rattle.std.proofs.Common.{◌≡◌, ℕ, Bool, true, false, cond, List, [], ◌∷◌, map, Option, Some, None, refl, sym, ap, ◌∙◌}
use Rattle.std.specs.Prelude.{◌==◌, find, nat_lt}
use Rattle.std.specs.Str.{bytes_eq}
use Rattle.std.proofs.lemmas.Slice.Eq.{bytes_eq-Decides}
use Rattle.pr_labels.proofs.LabelOrder.{both}
use Rattle.spec_history.specs.declared.entry.Entry.{Entry}
use Rattle.spec_history.specs.Puts.{marker}
use Rattle.spec_rules.specs.Definitions.{Group as Definition}
use Rattle.spec_rules.specs.Evaluations.{RulesProgress, all_rules, group_step, restoring}
use Rattle.spec_rules.specs.Groups.{Group, is_group_named}
use Rattle.spec_rules.specs.private.Laws.{definition_of}
use Rattle.spec_rules.specs.Settings.{Settings}
use Rattle.spec_rules.proofs.Keeping.{definition_stays}
use Rattle.spec_world.specs.declared.event.Event.TheVariants.{Eval}
use Rattle.spec_world.specs.declared.report.Report.TheVariants as report
use Rattle.spec_world.specs.Outcome.{EventOutcome, refuse}
use Rattle.spec_world.specs.Rounds.{eval_after, eval_by, evaluation_outcome, with_group}
use Rattle.spec_world.specs.Step.{next, outcome_in_time, step_by}
use Rattle.spec_world.specs.World.{World}
use Rattle.spec_world.proofs.Steps.{after_last}

abbrev definitions : List Group → List Definition
definitions groups = map definition_of groups

-- the group keeps its file and its name
same_end : (b : Bool) (g : Group) (history : List Entry) (now : ℕ) (p : RulesProgress) (gone : List Entry)
    → ((restoring b g history now p gone).group.file ≡ g.file) × ((restoring b g history now p gone).group.name ≡ g.name)
same_end true g history now p gone = (refl, refl)
same_end false g history now p gone = (refl, refl)

same_name : (s : Settings) (g : Group) (history : List Entry) (now : ℕ)
    → ((group_step s g history now).group.file ≡ g.file) × ((group_step s g history now).group.name ≡ g.name)
unfolding group_step
same_name s g history now = same_end (g.waits == 1) g history now (all_rules s g history now) (map (marker now) g.leftovers)

-- A group takes the place of the first that passes the test.
abbrev put_for : (Group → Bool) → List Group → Group → List Group
put_for test [] new = []
put_for test (g ∷ groups) new = cond (test g) (new ∷ groups) (g ∷ put_for test groups new)

abbrev definition_or : Definition → Option Group → Definition
definition_or d None = d
definition_or d (Some g) = definition_of g

put_stays : (test : Group → Bool) (groups : List Group) (g new : Group) → find test groups ≡ Some g → definition_of new ≡ definition_of g
    → definitions (put_for test groups new) ≡ definitions groups
put_stays test [] g new e d = refl
put_stays test (first ∷ groups) g new e d = by (test first) e (put_stays test groups g new) where
  by : (b : Bool) → cond b (Some first) (find test groups) ≡ Some g
      → (find test groups ≡ Some g → definition_of new ≡ definition_of g → definitions (put_for test groups new) ≡ definitions groups)
      → definitions (cond b (new ∷ groups) (first ∷ put_for test groups new)) ≡ definitions (first ∷ groups)
  by true f again = ap (λ (x : Definition). x ∷ definitions groups) (d ∙ ap (definition_or (definition_of first)) (sym f))
  by false f again = ap (λ (l : List Definition). definition_of first ∷ l) (again f d)

same_put : (groups : List Group) (new : Group) → with_group groups new ≡ put_for (is_group_named new.file new.name) groups new
same_put [] new = refl
same_put (g ∷ groups) new = ap (λ (l : List Group). cond (is_group_named new.file new.name g) (new ∷ groups) (g ∷ l)) (same_put groups new)

-- what is found passes the test
abbrev passes_or : Bool → (Group → Bool) → Option Group → Bool
passes_or b test None = b
passes_or b test (Some g) = test g

found_passes : (test : Group → Bool) (groups : List Group) (g : Group) → find test groups ≡ Some g → test g ≡ true
found_passes test [] g e = absurd cc
found_passes test (first ∷ groups) g e = by (test first) refl e (found_passes test groups g) where
  by : (b : Bool) → test first ≡ b → cond b (Some first) (find test groups) ≡ Some g → (find test groups ≡ Some g → test g ≡ true) → test g ≡ true
  by true t f again = ap (passes_or true test) (sym f) ∙ t
  by false t f again = again f

is_so : (file name : List ℕ) (g : Group) → is_group_named file name g ≡ true → (g.file ≡ file) × (g.name ≡ name)
is_so file name g h =
    let k = both (bytes_eq g.file file) (bytes_eq g.name name) h in ((bytes_eq-Decides g.file file).0 k.0, (bytes_eq-Decides g.name name).0 k.1)

-- the evaluation of a group that was found
put_back : (s : Settings) (w : World) (time : ℕ) (file name : List ℕ) (g : Group) → find (is_group_named file name) w.groups ≡ Some g
    → definitions (with_group w.groups (group_step s g w.history time).group) ≡ definitions w.groups
put_back s w time file name g e =
    let new = (group_step s g w.history time).group in
    let named = is_so file name g (found_passes (is_group_named file name) w.groups g e) in
    let same = same_name s g w.history time in
    ap (λ (l : List Group). definitions l) (same_put w.groups new)
    ∙ ap (λ (f : List ℕ). definitions (put_for (is_group_named f new.name) w.groups new)) (same.0 ∙ named.0)
    ∙ ap (λ (n : List ℕ). definitions (put_for (is_group_named file n) w.groups new)) (same.1 ∙ named.1)
    ∙ put_stays (is_group_named file name) w.groups g new e (definition_stays s g w.history time)

-- the groups after an outcome
abbrev Keeps : World → ℕ → EventOutcome → Type 0
Keeps w time o = definitions (step_by w time o).world.groups ≡ definitions w.groups

later_keeps : (b : Bool) (s : Settings) (w : World) (time last : ℕ) (g : Group) → definitions (with_group w.groups (group_step s g w.history time).group) ≡ definitions w.groups
    → Keeps w time (cond b (evaluation_outcome w (group_step s g w.history time)) (refuse (report.NotLater last)))
later_keeps true s w time last g h = h
later_keeps false s w time last g h = refl

after_keeps : (last : Option ℕ) (s : Settings) (w : World) (time : ℕ) (g : Group) → definitions (with_group w.groups (group_step s g w.history time).group) ≡ definitions w.groups
    → Keeps w time (eval_after last s w g time)
after_keeps None s w time g h = h
after_keeps (Some last) s w time g h = later_keeps (nat_lt last time) s w time last g h

eval_keeps : (s : Settings) (w : World) (time : ℕ) (file name : List ℕ) (o : Option Group) → find (is_group_named file name) w.groups ≡ o → Keeps w time (eval_by s w time file name o)
eval_keeps s w time file name None e = refl
eval_keeps s w time file name (Some g) e = after_keeps g.last s w time g (put_back s w time file name g e)

pub all_stay : (s : Settings) (w : World) (time : ℕ) (file group : List ℕ) → map definition_of (next s w (Eval time file group)).world.groups ≡ map definition_of w.groups
unfolding next
all_stay s w time file group =
    after_last (Keeps w time) w.last time (outcome_in_time s w (Eval time file group)) (λ last. refl)
    (eval_keeps s w time file group (find (is_group_named file group) w.groups) refl)
