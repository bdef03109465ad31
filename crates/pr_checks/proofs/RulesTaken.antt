-- What is read of a rule file comes behind what was read of those before it.
use Rattle.std.proofs.Common.{◌≡◌, ℕ, List, [], ◌∷◌, ◌++◌, map, flat_map, refl, sym, ap, ◌∙◌, append_assoc, append-nil}
use Rattle.std.proofs.lemmas.List.{map-append}
use Rattle.pr_outside.specs.Meant.{Content}
use Rattle.pr_outside.specs.Outside.{AreTold, Held}
use Rattle.spec_world.specs.pr_rulefile.declared.fields.problem.Problem.{Problem}
use Rattle.spec_world.specs.pr_rulefile.File.{RuleReading, gives_file, gives_problems}
use Rattle.spec_world.specs.spec_rules.Definitions.{group_of_def}
use Rattle.spec_world.specs.spec_rules.Reloads.{LoadedFile}
use Rattle.pr_checks.specs.Problems.{problem_line}
use Rattle.pr_checks.specs.RulesLoaded.{RulesLoaded, and_rules, none_loaded, rules_by, rules_held}
use Rattle.pr_checks.specs.declared.found.FoundFile.{FoundFile}
use Rattle.pr_checks.specs.declared.loaded.LoadedRules.{LoadedRules}
use Rattle.pr_checks.specs.declared.loaded.Rules.{Rules}
use Rattle.pr_checks.specs.private.RulesFound.{holding_of, rules_found}
use Rattle.pr_checks.specs.private.RulesTaken.{loaded_of, rules_of, with_wrong}

abbrev loaded_with : List ℕ → List LoadedFile → RulesLoaded
loaded_with wrong files = record { wrong = wrong; files = files }

same_loaded : (v w : List ℕ) (fs gs : List LoadedFile) → v ≡ w → fs ≡ gs → loaded_with v fs ≡ loaded_with w gs
same_loaded v w fs gs e f = ap (λ (x : List ℕ). loaded_with x fs) e ∙ ap (loaded_with w) f

-- One file

pub file_taken : (old new : Rules) (f : LoadedRules) (reading : RuleReading) → new.wrong ≡ old.wrong → new.files ≡ old.files ++ f ∷ [] → reading ≡ gives_file (map group_of_def f.groups)
    → rules_of new ≡ and_rules (rules_of old) (rules_by f.name reading)
file_taken old new f reading wrong files is =
    same_loaded new.wrong (old.wrong ++ []) (map loaded_of new.files) (map loaded_of old.files ++ loaded_of f ∷ []) (wrong ∙ sym (append-nil old.wrong))
    (ap (map loaded_of) files ∙ map-append loaded_of old.files (f ∷ []))
    ∙ ap (λ (r : RuleReading). and_rules (rules_of old) (rules_by f.name r)) (sym is)

pub wrong_taken : (old new : Rules) (lines : List ℕ) → new ≡ with_wrong old lines → rules_of new ≡ and_rules (rules_of old) (none_loaded lines)
wrong_taken old new lines is =
    ap rules_of is
    ∙ same_loaded (old.wrong ++ lines) (old.wrong ++ lines) (map loaded_of old.files) (map loaded_of old.files ++ []) refl (sym (append-nil (map loaded_of old.files)))

pub problems_taken : (old new : Rules) (name : List ℕ) (list : List Problem) (reading : RuleReading) → reading ≡ gives_problems list
    → new ≡ with_wrong old (flat_map (problem_line name) list) → rules_of new ≡ and_rules (rules_of old) (rules_by name reading)
problems_taken old new name list reading is taken =
    wrong_taken old new (flat_map (problem_line name) list) taken ∙ ap (λ (r : RuleReading). and_rules (rules_of old) (rules_by name r)) (sym is)

-- All files

and_assoc : (a b c : RulesLoaded) → and_rules (and_rules a b) c ≡ and_rules a (and_rules b c)
and_assoc a b c =
    same_loaded ((a.wrong ++ b.wrong) ++ c.wrong) (a.wrong ++ (b.wrong ++ c.wrong)) ((a.files ++ b.files) ++ c.files) (a.files ++ (b.files ++ c.files))
    (append_assoc a.wrong b.wrong c.wrong) (append_assoc a.files b.files c.files)

-- nothing is read yet
pub reads_none : (none : Rules) (all : List FoundFile) → none.wrong ≡ [] → none.files ≡ [] → and_rules (rules_of none) (rules_found all) ≡ rules_found all
reads_none none all wrong files =
    ap (λ (a : RulesLoaded). and_rules a (rules_found all)) (same_loaded none.wrong [] (map loaded_of none.files) [] wrong (ap (map loaded_of) files))

-- the next file is read
pub reads_one : (old new : Rules) (f : FoundFile) (rest left all : List FoundFile) → rest ≡ f ∷ left → rules_of new ≡ and_rules (rules_of old) (rules_held f.name (holding_of f.content))
    → and_rules (rules_of old) (rules_found rest) ≡ rules_found all → and_rules (rules_of new) (rules_found left) ≡ rules_found all
reads_one old new f rest left all parts taken h =
    ap (λ (a : RulesLoaded). and_rules a (rules_found left)) taken
    ∙ and_assoc (rules_of old) (rules_held f.name (holding_of f.content)) (rules_found left)
    ∙ ap (λ (l : List FoundFile). and_rules (rules_of old) (rules_found l)) (sym parts)
    ∙ h

-- no file is left
pub reads_all : (r : Rules) (rest all : List FoundFile) → rest ≡ [] → and_rules (rules_of r) (rules_found rest) ≡ rules_found all → rules_of r ≡ rules_found all
reads_all r rest all none h =
    same_loaded r.wrong (r.wrong ++ []) (map loaded_of r.files) (map loaded_of r.files ++ []) (sym (append-nil r.wrong)) (sym (append-nil (map loaded_of r.files)))
    ∙ ap (λ (l : List FoundFile). and_rules (rules_of r) (rules_found l)) (sym none)
    ∙ h

-- names are told as before
pub told_same : (content now : Content) (held : Held) (names : List (List ℕ)) → ((other : List ℕ) → now other ≡ content other) → AreTold content held names
    → AreTold now held names
told_same content now held [] same told = tt
told_same content now held (name ∷ names) same told = (same name ∙ told.0, told_same content now held names same told.1)
