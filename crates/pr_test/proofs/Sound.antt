-- The groups of rule files are sound, and stand under their names.
use Rattle.std.proofs.Common.{◌≡◌, ℕ, List, [], ◌∷◌, ◌++◌, map, refl, sym, ap, ◌∙◌, append_assoc}
use Rattle.std.specs.List.{AllByRecursion}
use Rattle.std.proofs.lemmas.List.{map-append}
use Rattle.pr_text.specs.pr_rulefile.File.{gives_file}
use Rattle.pr_text.specs.spec_rules.Definitions.{Group, group_of_def}
use Rattle.pr_text.specs.spec_rules.Reloads.{LoadedFile}
use Rattle.pr_text.specs.spec_rules.declared.definitions.GroupDef.{GroupDef}
use Rattle.pr_checks.specs.declared.loaded.LoadedRules.{LoadedRules}
use Rattle.pr_checks.specs.private.RulesTaken.{IsRuleFile, loaded_of}
use Rattle.pr_unit.specs.declared.rules.RuleGroups.{RuleGroups}
use Rattle.pr_unit.specs.private.Loaded.{AreAllSound, definitions_of, file_of}
use Rattle.pr_unit.proofs.Loading.{read_is_sound}

-- what is read of a text is sound, also once it is shared
pub are_sound : (files : List LoadedRules) (rules : List RuleGroups) → map file_of rules ≡ map loaded_of files → AllByRecursion IsRuleFile files → AreAllSound rules
are_sound files [] e h = tt
are_sound [] (r ∷ rs) e h = absurd cc
are_sound (f ∷ fs) (r ∷ rs) e h =
    let first : file_of r ≡ loaded_of f = cc in
    let rest : map file_of rs ≡ map loaded_of fs = cc in (
      read_is_sound h.0.text (definitions_of r) (h.0.good ∙ ap gives_file (sym (ap (λ (l : LoadedFile). l.groups) first))),
      are_sound fs rs rest h.1,
    )

names_of : (rules : List RuleGroups) → map (λ (r : RuleGroups). r.name) rules ≡ map (λ (l : LoadedFile). l.name) (map file_of rules)
names_of [] = refl
names_of (r ∷ rs) = ap (λ (ns : List (List ℕ)). r.name ∷ ns) (names_of rs)

loaded_names : (files : List LoadedRules) → map (λ (f : LoadedRules). f.name) files ≡ map (λ (l : LoadedFile). l.name) (map loaded_of files)
loaded_names [] = refl
loaded_names (f ∷ fs) = ap (λ (ns : List (List ℕ)). f.name ∷ ns) (loaded_names fs)

pub same_names : (files : List LoadedRules) (rules : List RuleGroups) → map file_of rules ≡ map loaded_of files
    → map (λ (f : LoadedRules). f.name) files ≡ map (λ (r : RuleGroups). r.name) rules
same_names files rules e = loaded_names files ∙ ap (map (λ (l : LoadedFile). l.name)) (sym e) ∙ sym (names_of rules)

abbrev loaded_with : List ℕ → List Group → LoadedFile
loaded_with name groups = record { name = name; groups = groups }

-- one more file is shared
pub shares_one : (old new : List RuleGroups) (r : RuleGroups) (f : LoadedRules) (rest left : List LoadedRules) (all : List LoadedFile) → new ≡ old ++ r ∷ [] → rest ≡ f ∷ left
    → r.name ≡ f.name → definitions_of r ≡ f.groups → map file_of old ++ map loaded_of rest ≡ all → map file_of new ++ map loaded_of left ≡ all
shares_one old new r f rest left all is parts name groups h =
    let one : file_of r ≡ loaded_of f =
    ap (λ (n : List ℕ). loaded_with n (map group_of_def (definitions_of r))) name ∙ ap (λ (ds : List GroupDef). loaded_with f.name (map group_of_def ds)) groups in
    ap (λ (rs : List RuleGroups). map file_of rs ++ map loaded_of left) is
    ∙ ap (λ (ls : List LoadedFile). ls ++ map loaded_of left) (map-append file_of old (r ∷ []))
    ∙ append_assoc (map file_of old) (file_of r ∷ []) (map loaded_of left)
    ∙ ap (λ (l : LoadedFile). map file_of old ++ l ∷ map loaded_of left) one
    ∙ ap (λ (fs : List LoadedRules). map file_of old ++ map loaded_of fs) (sym parts)
    ∙ h
