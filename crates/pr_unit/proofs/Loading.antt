-- Files that are loaded.
use Rattle.std.proofs.Common.{◌≡◌, ℕ, List, [], ◌∷◌, ◌++◌, map, IfOk, Result, Ok, Err, refl, sym, ap, subst, ◌∙◌, append_assoc, append-nil}
use Rattle.std.specs.Prelude.{All}
use Rattle.std.specs.List.{AllByRecursion, AllZip, IsDistinct}
use Rattle.std.specs.Str.{bytes_eq}
use Rattle.std.specs.declared.alloc.AllocError.{AllocError}
use Rattle.std.proofs.lemmas.List.Elements.{All-from_recursion, recursion_from_All}
use Rattle.pr_group.specs.spec_meaning.Answers.{go_on}
use Rattle.pr_group.specs.spec_rules.declared.definitions.GroupDef.{GroupDef}
use Rattle.pr_group.specs.spec_rules.declared.definitions.RuleDef.{RuleDef}
use Rattle.spec_tests.specs.pr_rulefile.File.{RuleReading, gives_file, gives_problems, rule_file_of}
use Rattle.pr_group.specs.spec_rules.Definitions.{Group as Definition, group_of_def, rule_of_def}
use Rattle.spec_tests.proofs.RulefileSomeProblems.{problem_is_told}
use Rattle.spec_tests.proofs.RulefileSoundGroups.{all_rules, sound_file}
use Rattle.pr_group.specs.pr_rule.private.Templates.{HasTemplates, HaveTemplates}
use Rattle.pr_group.specs.spec_rules.Reloads.{LoadedFile}
use Rattle.spec_tests.specs.spec_world.declared.event.NamedFile.{NamedFile}
use Rattle.spec_tests.specs.spec_world.declared.report.Report.{Report}
use Rattle.spec_tests.specs.spec_world.Rounds.{all_loaded, groups_by, with_groups}
use Rattle.spec_tests.specs.private.Rounds.{AreToldApart}
use Rattle.pr_unit.specs.declared.rules.RuleGroups.{RuleGroups}
use Rattle.pr_unit.specs.private.Loaded.{AreAllSound, AreSound, IsRead, LoadAs, LoadsAs, definitions_of, file_of}
use Rattle.pr_unit.proofs.Lists.{zip_joined}

-- Files that load as these are those of a reload.

abbrev rest_by : NamedFile → List Definition → Result (List LoadedFile) Report → Result (List LoadedFile) Report
rest_by f groups rest = go_on (λ more. Ok (with_groups f groups ∷ more)) rest

abbrev file_by : NamedFile → Result (List LoadedFile) Report → Result (List Definition) Report → Result (List LoadedFile) Report
file_by f rest groups = go_on (λ gs. rest_by f gs rest) groups

pub loaded_each : (files : List NamedFile) (loaded : List LoadedFile) → all_loaded files ≡ Ok loaded → LoadAs files loaded
loaded_each [] [] h = tt
loaded_each [] (l ∷ ls) h = absurd cc
loaded_each (f ∷ files) loaded h = by_file (rule_file_of f.bytes) refl (all_loaded files) (λ ls e. loaded_each files ls e) refl h
  where
    by_rest : (groups : List Definition) (rest : Result (List LoadedFile) Report) → rule_file_of f.bytes ≡ gives_file groups
        → ((ls : List LoadedFile) → all_loaded files ≡ Ok ls → LoadAs files ls) → all_loaded files ≡ rest → rest_by f groups rest ≡ Ok loaded → LoadAs (f ∷ files) loaded
    by_rest groups (Err refusal) is each e k = absurd cc
    by_rest groups (Ok ls) is each e k =
        let here : with_groups f groups ∷ ls ≡ loaded = cc in
        let first : LoadsAs f (with_groups f groups) = record { name = refl; groups = is } in
        subst (LoadAs (f ∷ files)) here (first, each ls e)

    by_file : (r : RuleReading) → rule_file_of f.bytes ≡ r → (rest : Result (List LoadedFile) Report)
        → ((ls : List LoadedFile) → all_loaded files ≡ Ok ls → LoadAs files ls) → all_loaded files ≡ rest → file_by f rest (groups_by f.name r) ≡ Ok loaded → LoadAs (f ∷ files) loaded
    by_file (gives_file groups) is rest each e k = by_rest groups rest is each e k
    by_file (gives_problems []) is rest each e k = absurd (problem_is_told f.bytes [] is refl)
    by_file (gives_problems (p ∷ ps)) is rest each e k = absurd cc

-- The alerts of a file that is read have templates.

of_rules : (rs : List RuleDef) → AllByRecursion HasTemplates (map rule_of_def rs) → AllByRecursion (λ (r : RuleDef). HasTemplates (rule_of_def r)) rs
of_rules [] h = tt
of_rules (r ∷ rs) h = (h.0, of_rules rs h.1)

of_groups : (ds : List GroupDef) → AllByRecursion (λ (g : Definition). All HasTemplates g.rules) (map group_of_def ds) → AllByRecursion HaveTemplates ds
of_groups [] h = tt
of_groups (d ∷ ds) h =
    (All-from_recursion (λ (r : RuleDef). HasTemplates (rule_of_def r)) d.rules (of_rules d.rules (recursion_from_All HasTemplates (map rule_of_def d.rules) h.0)), of_groups ds h.1)

pub have_templates : (text : List ℕ) (ds : List GroupDef) → rule_file_of text ≡ gives_file (map group_of_def ds) → All HaveTemplates ds
have_templates text ds h =
    All-from_recursion HaveTemplates ds (of_groups ds (recursion_from_All (λ (g : Definition). All HasTemplates g.rules) (map group_of_def ds) (all_rules {P = HasTemplates} (λ r s. s.templates) text (map group_of_def ds) h)))

pub rest_have : (d : GroupDef) (rest all : List GroupDef) → all ≡ d ∷ rest → All HaveTemplates all → All HaveTemplates rest
rest_have d rest all is h = All-from_recursion HaveTemplates rest (recursion_from_All HaveTemplates (d ∷ rest) (subst (All HaveTemplates) is h)).1

pub first_has : (d : GroupDef) (rest all : List GroupDef) → all ≡ d ∷ rest → All HaveTemplates all → HaveTemplates d
first_has d rest all is h = (recursion_from_All HaveTemplates (d ∷ rest) (subst (All HaveTemplates) is h)).0

abbrev loaded_with : List ℕ → List Definition → LoadedFile
loaded_with name groups = record { name = name; groups = groups }

-- What is read of a text is sound.

pub read_is_sound : (text : List ℕ) (ds : List GroupDef) → rule_file_of text ≡ gives_file (map group_of_def ds) → AreSound ds
read_is_sound text ds h = record { templates = have_templates text ds h; apart = (sound_file text (map group_of_def ds) h).distinct }

-- no groups are sound
none_apart : IsDistinct bytes_eq []
unfolding IsDistinct
none_apart = tt

pub none_sound : (ds : List GroupDef) → ds ≡ [] → AreSound ds
none_sound ds none = subst AreSound (sym none) (record { templates = All-from_recursion HaveTemplates [] tt; apart = none_apart })

read_is : (r : RuleGroups) (name : List ℕ) (defs : List GroupDef) → r.name ≡ name → definitions_of r ≡ defs → (l : LoadedFile) → name ≡ l.name → map group_of_def defs ≡ l.groups → file_of r ≡ l
read_is r name defs named is l same groups =
    ap (λ (n : List ℕ). loaded_with n (map group_of_def (definitions_of r))) (named ∙ same)
    ∙ ap (loaded_with l.name) (ap (map group_of_def) is ∙ groups)

pub read_so : (f : NamedFile) (name : List ℕ) (defs : List GroupDef) (r : Result RuleGroups AllocError) → name ≡ f.name → IfOk r (λ x. x.name ≡ name) → IfOk r (λ x. definitions_of x ≡ defs)
    → AreSound defs → ((l : LoadedFile) → LoadsAs f l → map group_of_def defs ≡ l.groups) → IfOk r (IsRead f)
read_so f name defs (Err e) same named is sound loads = tt
read_so f name defs (Ok r) same named is sound loads = record {
  name = named ∙ same;
  sound = subst AreSound (sym is) sound;
  loads = λ l h. read_is r name defs named is l (same ∙ sym h.name) (loads l h);
}

-- Files that are read, one after the other.

pub are_sound : (files : List NamedFile) (rules : List RuleGroups) → AllZip IsRead files rules → AreAllSound rules
are_sound [] [] h = tt
are_sound [] (r ∷ rs) h = absurd h
are_sound (f ∷ fs) [] h = absurd h
are_sound (f ∷ fs) (r ∷ rs) h = (h.0.sound, are_sound fs rs h.1)

pub same_names : (files : List NamedFile) (rules : List RuleGroups) → AllZip IsRead files rules → map (λ (f : NamedFile). f.name) files ≡ map (λ (r : RuleGroups). r.name) rules
same_names [] [] h = refl
same_names [] (r ∷ rs) h = absurd h
same_names (f ∷ fs) [] h = absurd h
same_names (f ∷ fs) (r ∷ rs) h =
    ap (λ (n : List ℕ). n ∷ map (λ (x : NamedFile). x.name) fs) (sym h.0.name) ∙ ap (λ (ns : List (List ℕ)). r.name ∷ ns) (same_names fs rs h.1)

pub read_as : (files : List NamedFile) (rules : List RuleGroups) (loaded : List LoadedFile) → AllZip IsRead files rules → LoadAs files loaded → map file_of rules ≡ loaded
read_as [] [] [] h k = refl
read_as [] [] (l ∷ ls) h k = absurd k
read_as [] (r ∷ rs) loaded h k = absurd h
read_as (f ∷ fs) [] loaded h k = absurd h
read_as (f ∷ fs) (r ∷ rs) [] h k = absurd k
read_as (f ∷ fs) (r ∷ rs) (l ∷ ls) h k = ap (λ (x : LoadedFile). x ∷ map file_of rs) (h.0.loads l k.0) ∙ ap (λ (xs : List LoadedFile). l ∷ xs) (read_as fs rs ls h.1 k.1)

-- The groups of files are told apart, where the files have names that differ.

names_of : (rules : List RuleGroups) → map (λ (r : RuleGroups). r.name) rules ≡ map (λ (l : LoadedFile). l.name) (map file_of rules)
names_of [] = refl
names_of (r ∷ rs) = ap (λ (ns : List (List ℕ)). r.name ∷ ns) (names_of rs)

groups_distinct : (rules : List RuleGroups) → AreAllSound rules → AllByRecursion (λ (l : LoadedFile). IsDistinct bytes_eq (map (λ (d : Definition). d.name) l.groups)) (map file_of rules)
groups_distinct [] h = tt
groups_distinct (r ∷ rs) h = (h.0.apart, groups_distinct rs h.1)

pub told_apart : (rules : List RuleGroups) → AreAllSound rules → IsDistinct bytes_eq (map (λ (r : RuleGroups). r.name) rules) → AreToldApart (map file_of rules)
told_apart rules h distinct = (subst (IsDistinct bytes_eq) (names_of rules) distinct, groups_distinct rules h)

-- what is left of files that are read
pub record HasRead (all rest : List NamedFile) (rules : List RuleGroups) : Type 0 where
  pub done : List NamedFile
  pub read : AllZip IsRead done rules
  pub whole : done ++ rest ≡ all

pub begins_reading : (all : List NamedFile) (rules : List RuleGroups) → rules ≡ [] → HasRead all all rules
begins_reading all rules none = record { done = []; read = subst (AllZip IsRead []) (sym none) tt; whole = refl }

pub next_read : (all rest after : List NamedFile) (f : NamedFile) (r : RuleGroups) (old new : List RuleGroups) → rest ≡ f ∷ after → new ≡ old ++ r ∷ [] → IsRead f r → HasRead all rest old
    → HasRead all after new
next_read all rest after f r old new parts is one h = record {
  done = h.done ++ f ∷ [];
  read = subst (AllZip IsRead (h.done ++ f ∷ [])) (sym is) (zip_joined IsRead h.done (f ∷ []) old (r ∷ []) h.read (one, tt));
  whole = append_assoc h.done (f ∷ []) after ∙ ap (λ (l : List NamedFile). h.done ++ l) (sym parts) ∙ h.whole;
}

pub ends_reading : (all rest : List NamedFile) (rules : List RuleGroups) → rest ≡ [] → HasRead all rest rules → AllZip IsRead all rules
ends_reading all rest rules none h =
    subst (λ (fs : List NamedFile). AllZip IsRead fs rules) (sym (append-nil h.done) ∙ ap (λ (l : List NamedFile). h.done ++ l) (sym none) ∙ h.whole) h.read
