-- Groups that are replaced at a reload.
use Rattle.std.proofs.Common.{◌≡◌, ℕ, suc, ◌+◌, Bool, true, false, cond, not, ◌||◌, List, [], ◌∷◌, ◌++◌, map, length, Option, Some, None, refl, sym, ap, subst, ◌∙◌}
use Rattle.std.specs.Prelude.{filter, find, flat_map, sum_by}
use Rattle.std.specs.List.{All, AllByRecursion, list_any}
use Rattle.std.specs.Str.{bytes_eq}
use Rattle.std.proofs.lemmas.List.Elements.{All-head, All-tail}
use Rattle.std.proofs.lemmas.Slice.Eq.{bytes_eq-Decides}
use Rattle.std.proofs.lemmas.List.{length-map}
use Rattle.std.proofs.lemmas.List.Sums.{sum_by-cons}
use Rattle.spec_world.specs.spec_history.private.Laws.{IsLawful}
use Rattle.spec_world.specs.spec_history.Admission.{put_all}
use Rattle.spec_world.proofs.HistoryLawful.{put_all_lawful}
use Rattle.spec_world.specs.spec_history.declared.entry.Entry.{Entry}
use Rattle.pr_group.specs.pr_head.private.Holds.{Holds, IsWhole}
use Rattle.pr_group.specs.pr_head.private.Intake.{HasTaken, Series}
use Rattle.spec_world.proofs.HistoryPutting.{admitted_counted, puts_admitted}
use Rattle.spec_world.specs.spec_history.Puts.{added_count, admitted, marker}
use Rattle.pr_group.specs.pr_range.private.Asks.{LastAsks, Passed}
use Rattle.spec_world.specs.spec_rules.declared.definitions.GroupDef.{GroupDef}
use Rattle.spec_world.specs.spec_rules.Definitions.{Group as Definition, group_of_def, rule_of_def}
use Rattle.spec_world.specs.spec_rules.private.Carried.{carried_by_rules}
use Rattle.spec_world.specs.spec_rules.private.Costs.{PassedByRules}
use Rattle.spec_world.specs.spec_rules.Groups.{Group, RuleState, fresh, is_group_named}
use Rattle.spec_world.specs.spec_rules.private.Laws.{definition_of}
use Rattle.spec_world.specs.spec_rules.Reloads.{LoadedFile, continued, continued_by, gone_groups, is_gone, reload_by, remains, rules_in}
use Rattle.spec_world.specs.spec_rules.Settings.{Settings}
use Rattle.pr_group.specs.private.Keeping.{KeepsGroup, KeptGroup, passed_by}
use Rattle.spec_world.specs.declared.report.Report.{Report}
use Rattle.spec_world.specs.declared.report.Report.TheVariants as report
use Rattle.pr_manager.specs.declared.naming.GroupName.{GroupName}
use Rattle.pr_manager.specs.private.Continuing.{EachContinues, Continues, KeepsAny}
use Rattle.pr_manager.specs.private.Keeping.{KeepEach, KeepsUnder}
use Rattle.pr_manager.specs.private.Loading.{HasPassedNothing, fresh_by}
use Rattle.pr_manager.specs.private.Naming.{is_among, is_kept_named, kept_named, kept_under, name_of, names_of, passed_by_any, same_name, site_of, value_of}
use Rattle.pr_manager.specs.private.Passing.{taken_over, taken_over_by}
use Rattle.pr_manager.specs.private.Replacing.{HasReplaced}
use Rattle.pr_manager.proofs.Apart.{names_are}
use Rattle.pr_manager.proofs.Each.{StaysKept, each_stays}
use Rattle.pr_manager.proofs.Names.{both, kept_is_named, kept_name, kept_site}
use Rattle.pr_manager.proofs.Parts.{is_first, is_later_one}
use Rattle.pr_manager.proofs.Passing.{StaysPassed, each_stays_passed}

-- Old groups that are gone

named_sites : (g : Group) (fresh_ones : List Group) → is_among (site_of g) (map site_of fresh_ones) ≡ list_any (is_group_named g.file g.name) fresh_ones
named_sites g [] = refl
named_sites g (f ∷ fs) = ap (λ b. is_group_named g.file g.name f || b) (named_sites g fs)

pub gone_are_kept : {R : Type 0} (fits : R → List Entry → Type 0) (last : R → LastAsks) (passed : R → Passed) (s : Settings) (history : List Entry) (names : List GroupName) (news : List Group) → names ≡ map site_of news
    → (ks : List (KeptGroup R)) (olds : List Group) → KeepEach fits last passed s history ks olds → KeepEach fits last passed s history (filter (λ k. not (is_among (name_of k) names)) ks) (gone_groups olds news)
gone_are_kept fits last passed s history names news are [] [] h = tt
gone_are_kept fits last passed s history names news are [] (g ∷ olds) h = absurd h
gone_are_kept fits last passed s history names news are (k ∷ ks) [] h = absurd h
gone_are_kept {R} fits last passed s history names news are (k ∷ ks) (g ∷ olds) h =
    by (not (is_among (name_of k) names)) (is_gone news g) ((λ i. not (is_among (kept_site fits last passed history k g h.0.keeps i) (are i))) ∙ ap not (named_sites g news))
    (gone_are_kept fits last passed s history names news are ks olds h.1)
  where
    by : (b d : Bool) → b ≡ d → KeepEach fits last passed s history (filter (λ m. not (is_among (name_of m) names)) ks) (gone_groups olds news)
        → KeepEach fits last passed s history (cond b (k ∷ filter (λ m. not (is_among (name_of m) names)) ks) (filter (λ m. not (is_among (name_of m) names)) ks)) (cond d (g ∷ gone_groups olds news) (gone_groups olds news))
    by true true e rest = (h.0, rest)
    by true false e rest = absurd cc
    by false true e rest = absurd cc
    by false false e rest = rest

-- Old groups that are found by their names

pub found_any : {R : Type 0} (fits : R → List Entry → Type 0) (last : R → LastAsks) (passed : R → Passed) (s : Settings) (history : List Entry) (q : GroupName) (ks : List (KeptGroup R)) (olds : List Group)
    → KeepEach fits last passed s history ks olds → KeepsAny fits last passed history (kept_under q ks) (find (is_group_named q.file q.name) olds)
found_any fits last passed s history q [] [] h = tt
found_any fits last passed s history q [] (g ∷ olds) h = absurd h
found_any fits last passed s history q (k ∷ ks) [] h = absurd h
found_any {R} fits last passed s history q (k ∷ ks) (g ∷ olds) h =
    by (same_name (name_of k) q) (is_group_named q.file q.name g) (ap (λ n. same_name n q) (kept_site fits last passed history k g h.0.keeps)) (found_any fits last passed s history q ks olds h.1)
  where
    by : (b d : Bool) → b ≡ d → KeepsAny fits last passed history (kept_under q ks) (find (is_group_named q.file q.name) olds)
        → KeepsAny fits last passed history (cond b (Some k) (kept_under q ks)) (cond d (Some g) (find (is_group_named q.file q.name) olds))
    by true true e rest = h.0.keeps
    by true false e rest = absurd cc
    by false true e rest = absurd cc
    by false false e rest = rest

-- New groups

-- a group to which nothing has happened
pub record IsNew (g : Group) : Type 0 where
  pub waits : ℕ
  pub file : List ℕ
  pub definition : Definition
  pub is : g ≡ fresh waits file definition

new_in_file : (waits : ℕ) (file : List ℕ) (ds : List Definition) (more : List Group) → AllByRecursion IsNew more → AllByRecursion IsNew (map (fresh waits file) ds ++ more)
new_in_file waits file [] more h = h
new_in_file waits file (d ∷ ds) more h = (record { waits = waits; file = file; definition = d; is = refl }, new_in_file waits file ds more h)

all_new : (waits : ℕ) (files : List LoadedFile) → AllByRecursion IsNew (fresh_by waits files)
all_new waits [] = tt
all_new waits (f ∷ files) = new_in_file waits f.name f.groups (fresh_by waits files) (all_new waits files)

one_done : {R : Type 0} (fits : R → List Entry → Type 0) (last : R → LastAsks) (passed : R → Passed) (s : Settings) (history : List Entry) (olds : List Group) (k done : KeptGroup R) (old : Option (KeptGroup R)) (g : Group) → IsNew g
    → KeepsUnder fits last passed s history k g → KeepsAny fits last passed history old (find (is_group_named g.file g.name) olds) → Continues fits last passed k old done → KeepsUnder fits last passed s history done (continued olds g)
one_done fits last passed s history olds k done old g is under any goes =
    let whole = goes.keeps history is.waits is.file is.definition (find (is_group_named g.file g.name) olds) (subst (λ x. KeepsGroup fits last passed k history x) is.is under.keeps) any in
    record {
      keeps = subst (λ x. KeepsGroup fits last passed done history (continued_by x (find (is_group_named g.file g.name) olds))) (sym is.is) whole;
      told = goes.settings ∙ under.told;
    }

pub all_done : {R : Type 0} (fits : R → List Entry → Type 0) (last : R → LastAsks) (passed : R → Passed) (s : Settings) (history : List Entry) (olds : List Group) (was : List (KeptGroup R)) (found : GroupName → Option (KeptGroup R))
    → KeepEach fits last passed s history was olds → (names : List GroupName) → ((q : GroupName) → is_among q names ≡ true → found q ≡ kept_under q was)
    → (ks dones : List (KeptGroup R)) (news : List Group) → ((q : GroupName) → is_among q (names_of ks) ≡ true → is_among q names ≡ true)
    → AllByRecursion IsNew news → KeepEach fits last passed s history ks news → EachContinues fits last passed found ks dones → KeepEach fits last passed s history dones (map (continued olds) news)
all_done fits last passed s history olds was found each names waiting [] [] [] among new h goes = tt
all_done fits last passed s history olds was found each names waiting [] [] (g ∷ news) among new h goes = absurd h
all_done fits last passed s history olds was found each names waiting [] (d ∷ dones) news among new h goes = absurd goes
all_done fits last passed s history olds was found each names waiting (k ∷ ks) [] news among new h goes = absurd goes
all_done fits last passed s history olds was found each names waiting (k ∷ ks) (d ∷ dones) [] among new h goes = absurd h
all_done fits last passed s history olds was found each names waiting (k ∷ ks) (d ∷ dones) (g ∷ news) among new h goes =
    let q = name_of k in
    let site = kept_site fits last passed history k g h.0.keeps in
    let old : found q ≡ kept_under q was = waiting q (among q (is_first k ks)) in
    let any = subst (λ n. KeepsAny fits last passed history (kept_under q was) (find (is_group_named n.file n.name) olds)) site (found_any fits last passed s history q was olds each) in (
      one_done fits last passed s history olds k d (kept_under q was) g new.0 h.0 any (subst (λ o. Continues fits last passed k o d) old goes.0),
      all_done fits last passed s history olds was found each names waiting ks dones news (λ n e. among n (is_later_one (name_of k) n (names_of ks) e)) new.1 h.1 goes.1,
    )

-- What was passed

taken_over_so : (old : Option Group) (a b : Group) (u : PassedByRules) → definition_of a ≡ definition_of b → taken_over old a u ≡ taken_over old b u
taken_over_so None a b u same = refl
taken_over_so (Some old) a b u same = ap (λ (d : Definition). carried_by_rules d.rules old.rules u) same

one_passes : {R : Type 0} (fits : R → List Entry → Type 0) (last : R → LastAsks) (passed : R → Passed) (s : Settings) (history : List Entry) (olds : List Group) (k done : KeptGroup R) (old : Option (KeptGroup R)) (g : Group) → IsNew g
    → HasPassedNothing passed k → KeepsUnder fits last passed s history k g → KeepsUnder fits last passed s history done (continued olds g) → KeepsAny fits last passed history old (find (is_group_named g.file g.name) olds)
    → Continues fits last passed k old done → passed_by passed done history ≡ taken_over (find (is_group_named g.file g.name) olds) (continued olds g) (passed_by_any passed history old)
one_passes fits last passed s history olds k done old g is none under after any goes =
    let was = find (is_group_named g.file g.name) olds in
    let u = passed_by_any passed history old in
    goes.passing none history is.waits is.file is.definition was (subst (λ x. KeepsGroup fits last passed k history x) is.is under.keeps) any
    ∙ taken_over_so was (fresh is.waits is.file is.definition) (continued olds g) u
    (ap definition_of (sym is.is) ∙ (under.keeps.definition ∙ ap group_of_def (sym goes.def)) ∙ sym after.keeps.definition)

all_pass : {R : Type 0} (fits : R → List Entry → Type 0) (last : R → LastAsks) (passed : R → Passed) (s : Settings) (history : List Entry) (olds : List Group) (was : List (KeptGroup R)) (found : GroupName → Option (KeptGroup R))
    → KeepEach fits last passed s history was olds → (names : List GroupName) → ((q : GroupName) → is_among q names ≡ true → found q ≡ kept_under q was) → (f n : List ℕ)
    → (ks dones : List (KeptGroup R)) (news : List Group) → ((q : GroupName) → is_among q (names_of ks) ≡ true → is_among q names ≡ true)
    → AllByRecursion IsNew news → All (HasPassedNothing passed) ks → KeepEach fits last passed s history ks news → KeepEach fits last passed s history dones (map (continued olds) news) → EachContinues fits last passed found ks dones
    → passed_by_any passed history (kept_named f n dones) ≡ taken_over_by (find (is_group_named f n) olds) (find (is_group_named f n) (map (continued olds) news)) (passed_by_any passed history (kept_named f n was))
all_pass fits last passed s history olds was found each names waiting f n [] [] [] among new none h after goes = refl
all_pass fits last passed s history olds was found each names waiting f n [] [] (g ∷ news) among new none h after goes = absurd h
all_pass fits last passed s history olds was found each names waiting f n [] (d ∷ dones) news among new none h after goes = absurd goes
all_pass fits last passed s history olds was found each names waiting f n (k ∷ ks) [] news among new none h after goes = absurd goes
all_pass fits last passed s history olds was found each names waiting f n (k ∷ ks) (d ∷ dones) [] among new none h after goes = absurd h
all_pass {R} fits last passed s history olds was found each names waiting f n (k ∷ ks) (d ∷ dones) (g ∷ news) among new none h after goes =
    by (is_kept_named f n d) (is_group_named f n (continued olds g)) refl (kept_is_named fits last passed history f n d (continued olds g) after.0.keeps)
    (all_pass fits last passed s history olds was found each names waiting f n ks dones news (λ q e. among q (is_later_one (name_of k) q (names_of ks) e)) new.1 (All-tail (HasPassedNothing passed) k ks none) h.1 after.1 goes.1)
  where
    own : is_kept_named f n d ≡ true → passed_by passed d history ≡ taken_over (find (is_group_named f n) olds) (continued olds g) (passed_by_any passed history (kept_named f n was))
    own named =
        let q = name_of k in
        let site = kept_site fits last passed history k g h.0.keeps in
        let old : found q ≡ kept_under q was = waiting q (among q (is_first k ks)) in
        let any = subst (λ m. KeepsAny fits last passed history (kept_under q was) (find (is_group_named m.file m.name) olds)) site (found_any fits last passed s history q was olds each) in
        let one = one_passes fits last passed s history olds k d (kept_under q was) g new.0 (All-head (HasPassedNothing passed) k ks none) h.0 after.0 any (subst (λ o. Continues fits last passed k o d) old goes.0) in
        let parts = both (bytes_eq d.file f) (bytes_eq d.def.name n) named in
        let filed : k.file ≡ f = sym goes.0.file ∙ (bytes_eq-Decides d.file f).0 parts.0 in
        let called : k.def.name ≡ n = ap (λ (x : GroupDef). x.name) (sym goes.0.def) ∙ (bytes_eq-Decides d.def.name n).0 parts.1 in
        let g_filed : g.file ≡ f = sym h.0.keeps.file ∙ filed in
        let g_called : g.name ≡ n = sym (kept_name fits last passed history k g h.0.keeps) ∙ called in
        subst (λ o. passed_by passed d history ≡ taken_over o (continued olds g) (passed_by_any passed history (kept_named f n was))) (λ i. find (is_group_named (g_filed i) (g_called i)) olds)
        (subst (λ o. passed_by passed d history ≡ taken_over (find (is_group_named g.file g.name) olds) (continued olds g) (passed_by_any passed history o)) (λ i. kept_named (filed i) (called i) was) one)

    by : (b e : Bool) → is_kept_named f n d ≡ b → b ≡ e
        → passed_by_any passed history (kept_named f n dones) ≡ taken_over_by (find (is_group_named f n) olds) (find (is_group_named f n) (map (continued olds) news)) (passed_by_any passed history (kept_named f n was))
        → passed_by_any passed history (cond b (Some d) (kept_named f n dones))
        ≡ taken_over_by (find (is_group_named f n) olds) (cond e (Some (continued olds g)) (find (is_group_named f n) (map (continued olds) news))) (passed_by_any passed history (kept_named f n was))
    by true true named same rest = own named
    by true false named same rest = absurd cc
    by false true named same rest = absurd cc
    by false false named same rest = rest

-- What is told

so_many_rules : {R : Type 0} (fits : R → List Entry → Type 0) (last : R → LastAsks) (passed : R → Passed) (history : List Entry) (k : KeptGroup R) (g : Group) → KeepsGroup fits last passed k history g → length k.def.rules ≡ length g.rules
so_many_rules fits last passed history k g h =
    sym (length-map k.def.rules rule_of_def) ∙ ap (λ (d : Definition). length d.rules) (sym h.definition) ∙ length-map g.rules (λ (r : RuleState). r.rule)

rules_counted : {R : Type 0} (fits : R → List Entry → Type 0) (last : R → LastAsks) (passed : R → Passed) (s : Settings) (history : List Entry) (ks : List (KeptGroup R)) (groups : List Group)
    → KeepEach fits last passed s history ks groups → sum_by (λ k. length k.def.rules) ks ≡ rules_in groups
rules_counted fits last passed s history [] [] h = refl
rules_counted fits last passed s history [] (g ∷ groups) h = absurd h
rules_counted fits last passed s history (k ∷ ks) [] h = absurd h
rules_counted fits last passed s history (k ∷ ks) (g ∷ groups) h =
    sum_by-cons (λ k. length k.def.rules) k ks
    ∙ (λ i. so_many_rules fits last passed history k g h.0.keeps i + rules_counted fits last passed s history ks groups h.1 i)
    ∙ sym (sum_by-cons (λ (x : Group). length x.rules) g groups)

as_many : {R : Type 0} (fits : R → List Entry → Type 0) (last : R → LastAsks) (passed : R → Passed) (s : Settings) (history : List Entry) (ks : List (KeptGroup R)) (groups : List Group) → KeepEach fits last passed s history ks groups → length ks ≡ length groups
as_many fits last passed s history [] [] h = refl
as_many fits last passed s history [] (g ∷ groups) h = absurd h
as_many fits last passed s history (k ∷ ks) [] h = absurd h
as_many fits last passed s history (k ∷ ks) (g ∷ groups) h = ap suc (as_many fits last passed s history ks groups h.1)

-- The whole

pub replaced : {R : Type 0} (fits : R → List Entry → Type 0) (last : R → LastAsks) (passed : R → Passed) → StaysKept fits last passed → StaysPassed fits last passed → (s : Settings) (history : List Entry) (olds : List Group) (waits time : ℕ) (files : List LoadedFile)
    → (was ks dones gone : List (KeptGroup R)) (waiting : List (GroupName × KeptGroup R)) (old new : Series) (added : List Entry) (told : Report)
    → KeepEach fits last passed s history was olds → KeepEach fits last passed s history ks (fresh_by waits files) → All (HasPassedNothing passed) ks → IsLawful history → Holds old history
    → ((q : GroupName) → is_among q (names_of ks) ≡ true → value_of waiting q ≡ kept_under q was) → gone ≡ filter (λ k. not (is_among (name_of k) (names_of ks))) was
    → EachContinues fits last passed (value_of waiting) ks dones
    → ((t : Settings) (h : List Entry) (groups : List Group) → KeepEach fits last passed t h gone groups → Holds old h → HasTaken old new h (map (marker time) (flat_map remains groups)))
    → ((t : Settings) (h : List Entry) (groups : List Group) → KeepEach fits last passed t h gone groups → Holds old h → added ≡ admitted h (map (marker time) (flat_map remains groups)))
    → told ≡ report.Reloaded (length dones) (sum_by (λ k. length k.def.rules) dones) (length added)
    → HasReplaced fits last passed s history olds (reload_by olds time (fresh_by waits files)) old new was dones (record { report = told; added = added })
replaced fits last passed stays stays_passed s history olds waits time files was ks dones gone waiting old new added told each fresh_each none lawful holds waits_so gone_so goes taken marked is =
    let news = fresh_by waits files in
    let step = reload_by olds time news in
    let left : KeepEach fits last passed s history gone (gone_groups olds news) =
    subst (λ l. KeepEach fits last passed s history l (gone_groups olds news)) (sym gone_so)
    (gone_are_kept fits last passed s history (names_of ks) news (names_are fits last passed s history ks news fresh_each) was olds each) in
    let takes = taken s history (gone_groups olds news) left holds in
    let adds : added ≡ admitted history step.entries = marked s history (gone_groups olds news) left holds in
    let later : put_all history step.entries ≡ history ++ admitted history step.entries = puts_admitted history step.entries in
    let lawful_later = subst IsLawful later (put_all_lawful history step.entries lawful) in
    let done = all_done fits last passed s history olds was (value_of waiting) each (names_of ks) waits_so ks dones news (λ q e. e) (all_new waits files) fresh_each goes in
    let many = as_many fits last passed s history dones step.groups done in
    let rules = rules_counted fits last passed s history dones step.groups done in
    let count : length added ≡ added_count history step.entries = ap length adds ∙ admitted_counted history step.entries in
    record {
      report = is ∙ (λ i. report.Reloaded (many i) (rules i) (count i));
      added = adds;
      keeps = each_stays fits last passed stays s history (admitted history step.entries) lawful_later dones step.groups done;
      passing = λ f n.
          each_stays_passed fits last passed stays_passed s history (admitted history step.entries) f n dones step.groups done
          ∙ all_pass fits last passed s history olds was (value_of waiting) each (names_of ks) waits_so f n ks dones news (λ q e. e) (all_new waits files) none fresh_each done goes;
      head = record {
        holds = subst (λ l. Holds new l) later takes.holds;
        whole = λ x h. subst (λ l. IsWhole new l x) later (takes.whole x h);
        lawful = lawful_later;
      };
    }
