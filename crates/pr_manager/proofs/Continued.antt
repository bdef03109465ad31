-- New groups that go on from old ones.
use Rattle.std.proofs.Common.{◌≡◌, ℕ, true, cond, List, [], ◌∷◌, ◌++◌, append_assoc, append-nil, map, Option, Some, None, refl, sym, ap, subst, ◌∙◌}
use Rattle.pr_ast.specs.pr_labels.declared.pair.Pair.{Pair}
use Rattle.spec_world.specs.spec_history.declared.entry.Entry.{Entry}
use Rattle.pr_group.specs.pr_range.private.Asks.{LastAsks, Passed}
use Rattle.spec_world.specs.spec_rules.Definitions.{Group as Definition, group_of_def, Rule}
use Rattle.spec_world.specs.spec_rules.private.Carried.{carried_by_group}
use Rattle.spec_world.specs.spec_rules.Groups.{Group, RuleState, fresh, fresh_rule}
use Rattle.spec_world.specs.spec_rules.private.Laws.{definition_of}
use Rattle.spec_world.specs.spec_rules.Reloads.{carried, continued_by}
use Rattle.pr_group.specs.private.Keeping.{KeepsGroup, KeptGroup, passed_by, settings_of}
use Rattle.pr_manager.specs.declared.naming.GroupName.{GroupName}
use Rattle.pr_manager.specs.private.Continuing.{EachContinues, Continues, KeepsAny}
use Rattle.pr_manager.specs.private.Loading.{HasPassedNothing}
use Rattle.pr_manager.specs.private.Naming.{AreApart, is_among, name_of, names_of, same_name}
use Rattle.pr_manager.specs.private.Passing.{none_passed, taken_over}
use Rattle.pr_manager.proofs.Parts.{differs, is_first, is_later_one}

rules_again : (rs : List Rule) → map (λ (r : RuleState). r.rule) (map fresh_rule rs) ≡ rs
rules_again [] = refl
rules_again (r ∷ rs) = ap (λ (l : List Rule). r ∷ l) (rules_again rs)

defined_again : (waits : ℕ) (file : List ℕ) (d : Definition) → definition_of (fresh waits file d) ≡ d
defined_again waits file d =
    let rules = rules_again d.rules in
    λ i. record { name = d.name; interval = d.interval; limit = d.limit; rules = rules i }

-- a new group stands for the one that its own definition and file make
own_fresh : {R : Type 0} (fits : R → List Entry → Type 0) (last : R → LastAsks) (passed : R → Passed) (history : List Entry) (k : KeptGroup R) (waits : ℕ) (file : List ℕ) (d : Definition)
    → KeepsGroup fits last passed k history (fresh waits file d) → fresh waits file d ≡ fresh waits k.file (group_of_def k.def)
own_fresh fits last passed history k waits file d h =
    let files = sym h.file in
    let defs = sym (defined_again waits file d) ∙ h.definition in
    λ i. fresh waits (files i) (defs i)

pub carried_on : {R : Type 0} (fits : R → List Entry → Type 0) (last : R → LastAsks) (passed : R → Passed) (new old done : KeptGroup R)
    → ((history : List Entry) (waits : ℕ) (was : Group) → KeepsGroup fits last passed new history (fresh waits new.file (group_of_def new.def)) → KeepsGroup fits last passed old history was
    → KeepsGroup fits last passed done history (carried (fresh waits new.file (group_of_def new.def)) was))
    → ((history : List Entry) (waits : ℕ) (was : Group) → KeepsGroup fits last passed new history (fresh waits new.file (group_of_def new.def)) → KeepsGroup fits last passed old history was → (i n : ℕ) (labels : List Pair)
    → passed_by passed done history i n labels ≡ carried_by_group (fresh waits new.file (group_of_def new.def)) was (passed_by passed old history) i n labels)
    → done.def ≡ new.def → done.file ≡ new.file → settings_of done ≡ settings_of new → Continues fits last passed new (Some old) done
carried_on {R} fits last passed new old done by passing def file settings = record {
  keeps = λ history waits file d was h k. any history waits file d was h k;
  passing = λ none history waits file d was h k. any_passes history waits file d was h k;
  def = def;
  file = file;
  settings = settings;
} where
  any : (history : List Entry) (waits : ℕ) (file : List ℕ) (d : Definition) (was : Option Group) → KeepsGroup fits last passed new history (fresh waits file d)
      → KeepsAny fits last passed history (Some old) was → KeepsGroup fits last passed done history (continued_by (fresh waits file d) was)
  any history waits file d None h k = absurd k
  any history waits file d (Some was) h k =
      let own = own_fresh fits last passed history new waits file d h in
      subst (λ f. KeepsGroup fits last passed done history (carried f was)) (sym own) (by history waits was (subst (λ f. KeepsGroup fits last passed new history f) own h) k)

  any_passes : (history : List Entry) (waits : ℕ) (file : List ℕ) (d : Definition) (was : Option Group) → KeepsGroup fits last passed new history (fresh waits file d)
      → KeepsAny fits last passed history (Some old) was → passed_by passed done history ≡ taken_over was (fresh waits file d) (passed_by passed old history)
  any_passes history waits file d None h k = absurd k
  any_passes history waits file d (Some was) h k =
      let own = own_fresh fits last passed history new waits file d h in
      let all = passing history waits was (subst (λ f. KeepsGroup fits last passed new history f) own h) k in
      subst (λ f. passed_by passed done history ≡ carried_by_group f was (passed_by passed old history)) (sym own) (λ j i n labels. all i n labels j)

pub goes_alone : {R : Type 0} (fits : R → List Entry → Type 0) (last : R → LastAsks) (passed : R → Passed) (new : KeptGroup R) → Continues fits last passed new None new
goes_alone {R} fits last passed new = record {
  keeps = λ history waits file d was h k. any history waits file d was h k;
  passing = λ none history waits file d was h k. nothing none history was k waits file d;
  def = refl;
  file = refl;
  settings = refl;
} where
  any : (history : List Entry) (waits : ℕ) (file : List ℕ) (d : Definition) (was : Option Group) → KeepsGroup fits last passed new history (fresh waits file d)
      → KeepsAny fits last passed history None was → KeepsGroup fits last passed new history (continued_by (fresh waits file d) was)
  any history waits file d None h k = h
  any history waits file d (Some was) h k = absurd k

  nothing : HasPassedNothing passed new → (history : List Entry) (was : Option Group) → KeepsAny fits last passed history None was → (waits : ℕ) (file : List ℕ) (d : Definition)
      → passed_by passed new history ≡ taken_over was (fresh waits file d) none_passed
  nothing none history None k waits file d = λ j i n labels. none history i n labels j
  nothing none history (Some was) k waits file d = absurd k

-- Loops over new groups: what is still to come

-- so many are done, and the others are still to go on from what waited first
pub record AreGoingOn {R : Type 0} (fits : R → List Entry → Type 0) (last : R → LastAsks) (passed : R → Passed) (first now : GroupName → Option (KeptGroup R)) (rest news dones : List (KeptGroup R)) : Type 0 where
  pub apart : AreApart (names_of rest)
  pub waiting : (q : GroupName) → is_among q (names_of rest) ≡ true → now q ≡ first q
  pub goes : (more : List (KeptGroup R)) → EachContinues fits last passed first rest more → EachContinues fits last passed first news (dones ++ more)

pub going_first : {R : Type 0} (fits : R → List Entry → Type 0) (last : R → LastAsks) (passed : R → Passed) (first : GroupName → Option (KeptGroup R)) (rest news dones : List (KeptGroup R)) → rest ≡ news → dones ≡ [] → AreApart (names_of news)
    → AreGoingOn fits last passed first first rest news dones
going_first fits last passed first rest news dones same none apart = record {
  apart = subst (λ l. AreApart (names_of l)) (sym same) apart;
  waiting = λ q h. refl;
  goes = λ more h. subst (λ l. EachContinues fits last passed first news (l ++ more)) (sym none) (subst (λ l. EachContinues fits last passed first l more) same h);
}

pub going_then : {R : Type 0} (fits : R → List Entry → Type 0) (last : R → LastAsks) (passed : R → Passed) (first now later : GroupName → Option (KeptGroup R)) (before rest news dones more : List (KeptGroup R)) (new done : KeptGroup R)
    → before ≡ new ∷ rest → more ≡ dones ++ done ∷ [] → Continues fits last passed new (now (name_of new)) done → ((q : GroupName) → later q ≡ cond (same_name (name_of new) q) None (now q))
    → AreGoingOn fits last passed first now before news dones → AreGoingOn fits last passed first later rest news more
going_then {R} fits last passed first now later before rest news dones more new done is pushed goes others h =
    at (subst (λ l. AreGoingOn fits last passed first now l news dones) is h) where
      at : AreGoingOn fits last passed first now (new ∷ rest) news dones → AreGoingOn fits last passed first later rest news more
      at g =
          let own : now (name_of new) ≡ first (name_of new) = g.waiting (name_of new) (is_first new rest) in
          record {
            apart = g.apart.1;
            waiting = λ q among.
                others q ∙ ap (λ b. cond b None (now q)) (differs (name_of new) q (names_of rest) g.apart.0 among) ∙ g.waiting q (is_later_one (name_of new) q (names_of rest) among);
            goes = λ others_done k.
                subst (λ l. EachContinues fits last passed first news l) (sym (append_assoc dones (done ∷ []) others_done) ∙ ap (λ l. l ++ others_done) (sym pushed))
                (g.goes (done ∷ others_done) (subst (λ o. Continues fits last passed new o done) own goes, k));
          }

pub going_end : {R : Type 0} (fits : R → List Entry → Type 0) (last : R → LastAsks) (passed : R → Passed) (first now : GroupName → Option (KeptGroup R)) (rest news dones : List (KeptGroup R)) → rest ≡ []
    → AreGoingOn fits last passed first now rest news dones → EachContinues fits last passed first news dones
going_end fits last passed first now rest news dones none h =
    let g = subst (λ l. AreGoingOn fits last passed first now l news dones) none h in
    subst (λ l. EachContinues fits last passed first news l) (append-nil dones) (g.goes [] tt)
