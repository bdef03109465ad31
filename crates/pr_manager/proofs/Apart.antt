-- The names of new groups differ.
use Rattle.std.proofs.Common.{◌≡◌, ℕ, Bool, true, false, ◌||◌, ◌&&◌, List, [], ◌∷◌, ◌++◌, map, refl, sym, ap, subst, ◌∙◌}
use Rattle.std.specs.Prelude.{flat_map}
use Rattle.std.specs.List.{AllByRecursion, IsDistinct}
use Rattle.std.specs.Str.{bytes_eq}
use Rattle.std.proofs.lemmas.List.Folds.{list_any-append}
use Rattle.std.proofs.lemmas.List.{map-append}
use Rattle.spec_world.specs.spec_history.declared.entry.Entry.{Entry}
use Rattle.pr_group.specs.pr_range.private.Asks.{LastAsks, Passed}
use Rattle.spec_world.specs.pr_rulefile.File.{RuleReading, gives_file, gives_problems, groups_given, rule_file_of}
use Rattle.spec_world.specs.spec_rules.Definitions.{Group as Definition}
use Rattle.spec_world.specs.spec_rules.Groups.{Group, fresh}
use Rattle.spec_world.specs.spec_rules.Reloads.{LoadedFile}
use Rattle.spec_world.specs.spec_rules.Settings.{Settings}
use Rattle.pr_group.specs.private.Keeping.{KeptGroup}
use Rattle.spec_world.specs.declared.event.NamedFile.{NamedFile}
use Rattle.pr_manager.specs.declared.naming.GroupName.{GroupName}
use Rattle.pr_manager.specs.private.Keeping.{KeepEach}
use Rattle.pr_manager.specs.private.Loading.{fresh_by, loaded_files}
use Rattle.pr_manager.specs.private.Naming.{AreApart, comes_again, names_of, same_name, site_of}
use Rattle.pr_manager.proofs.Names.{kept_site}

-- the names of groups that are kept are those of the groups
pub names_are : {R : Type 0} (fits : R → List Entry → Type 0) (last : R → LastAsks) (passed : R → Passed) (s : Settings) (history : List Entry) (ks : List (KeptGroup R)) (groups : List Group)
    → KeepEach fits last passed s history ks groups → names_of ks ≡ map site_of groups
names_are fits last passed s history [] [] h = refl
names_are fits last passed s history [] (g ∷ groups) h = absurd h
names_are fits last passed s history (k ∷ ks) [] h = absurd h
names_are fits last passed s history (k ∷ ks) (g ∷ groups) h = λ i. kept_site fits last passed history k g h.0.keeps i ∷ names_are fits last passed s history ks groups h.1 i

-- what stands in two lists
apart_both : (xs ys : List GroupName) → AreApart xs → AreApart ys → AllByRecursion (λ n. comes_again n ys ≡ false) xs → AreApart (xs ++ ys)
apart_both [] ys h k none = k
apart_both (x ∷ xs) ys h k none =
    ((list_any-append (same_name x) xs ys) ∙ (λ i. h.0 i || none.0 i), apart_both xs ys h.1 k none.1)

-- the name of a group in a file
abbrev name_in : List ℕ → List ℕ → GroupName
name_in file name = record { file = file; name = name }

and_false : (b : Bool) → (b && false) ≡ false
and_false true = refl
and_false false = refl

other_names : (file name : List ℕ) (ds : List Definition) → AllByRecursion (λ n. bytes_eq name n ≡ false) (map (λ d. d.name) ds) → comes_again (name_in file name) (map (λ (d : Definition). name_in file d.name) ds) ≡ false
other_names file name [] h = refl
other_names file name (d ∷ ds) h = λ i. (ap (λ b. bytes_eq file file && b) h.0 ∙ and_false (bytes_eq file file)) i || other_names file name ds h.1 i

file_apart : (file : List ℕ) (ds : List Definition) → IsDistinct bytes_eq (map (λ d. d.name) ds) → AreApart (map (λ (d : Definition). name_in file d.name) ds)
unfolding IsDistinct
file_apart file [] h = tt
file_apart file (d ∷ ds) h = (other_names file d.name ds h.0, file_apart file ds h.1)

-- of another file
other_file : (file name other : List ℕ) (ds : List Definition) → bytes_eq file other ≡ false → comes_again (name_in file name) (map (λ (d : Definition). name_in other d.name) ds) ≡ false
other_file file name other [] h = refl
other_file file name other (d ∷ ds) h = λ i. (h i && bytes_eq name d.name) || other_file file name other ds h i

-- all names of files
abbrev all_names : List LoadedFile → List GroupName
all_names files = flat_map (λ f. map (λ (d : Definition). name_in f.name d.name) f.groups) files

none_in_others : (file name : List ℕ) (files : List LoadedFile) → AllByRecursion (λ n. bytes_eq file n ≡ false) (map (λ f. f.name) files) → comes_again (name_in file name) (all_names files) ≡ false
none_in_others file name [] h = refl
none_in_others file name (f ∷ files) h =
    list_any-append (same_name (name_in file name)) (map (λ (d : Definition). name_in f.name d.name) f.groups) (all_names files)
    ∙ (λ i. other_file file name f.name f.groups h.0 i || none_in_others file name files h.1 i)

all_others : (file : List ℕ) (ds : List Definition) (files : List LoadedFile) → AllByRecursion (λ n. bytes_eq file n ≡ false) (map (λ f. f.name) files)
    → AllByRecursion (λ n. comes_again n (all_names files) ≡ false) (map (λ (d : Definition). name_in file d.name) ds)
all_others file [] files h = tt
all_others file (d ∷ ds) files h = (none_in_others file d.name files h, all_others file ds files h)

names_apart : (files : List LoadedFile) → IsDistinct bytes_eq (map (λ f. f.name) files) → AllByRecursion (λ f. IsDistinct bytes_eq (map (λ d. d.name) f.groups)) files → AreApart (all_names files)
unfolding IsDistinct
names_apart [] h k = tt
names_apart (f ∷ files) h k =
    apart_both (map (λ (d : Definition). name_in f.name d.name) f.groups) (all_names files) (file_apart f.name f.groups k.0) (names_apart files h.1 k.1) (all_others f.name f.groups files h.0)

-- the sites of new groups
sites_in : (waits : ℕ) (file : List ℕ) (ds : List Definition) → map site_of (map (fresh waits file) ds) ≡ map (λ (d : Definition). name_in file d.name) ds
sites_in waits file [] = refl
sites_in waits file (d ∷ ds) = ap (λ (l : List GroupName). name_in file d.name ∷ l) (sites_in waits file ds)

sites_are : (waits : ℕ) (files : List LoadedFile) → map site_of (fresh_by waits files) ≡ all_names files
sites_are waits [] = refl
sites_are waits (f ∷ files) =
    map-append site_of (map (fresh waits f.name) f.groups) (fresh_by waits files) ∙ (λ i. sites_in waits f.name f.groups i ++ sites_are waits files i)

-- the groups of each file
abbrev pub AreDistinctIn : Type 0
AreDistinctIn = (text : List ℕ) (groups : List Definition) → rule_file_of text ≡ gives_file groups → IsDistinct bytes_eq (map (λ g. g.name) groups)

given_distinct : (r : RuleReading) → ((groups : List Definition) → r ≡ gives_file groups → IsDistinct bytes_eq (map (λ (g : Definition). g.name) groups)) → IsDistinct bytes_eq (map (λ (g : Definition). g.name) (groups_given r))
unfolding IsDistinct
given_distinct (gives_file groups) h = h groups refl
given_distinct (gives_problems list) h = tt

each_distinct : AreDistinctIn → (files : List NamedFile) → AllByRecursion (λ (f : LoadedFile). IsDistinct bytes_eq (map (λ d. d.name) f.groups)) (loaded_files files)
each_distinct law [] = tt
each_distinct law (f ∷ files) = (given_distinct (rule_file_of f.bytes) (law f.bytes), each_distinct law files)

same_files : (files : List NamedFile) → map (λ (f : LoadedFile). f.name) (loaded_files files) ≡ map (λ f. f.name) files
same_files [] = refl
same_files (f ∷ files) = ap (λ (l : List (List ℕ)). f.name ∷ l) (same_files files)

pub news_apart : {R : Type 0} (fits : R → List Entry → Type 0) (last : R → LastAsks) (passed : R → Passed) (s : Settings) (history : List Entry) (ks : List (KeptGroup R)) (waits : ℕ) (files : List NamedFile)
    → AreDistinctIn → IsDistinct bytes_eq (map (λ f. f.name) files) → KeepEach fits last passed s history ks (fresh_by waits (loaded_files files)) → AreApart (names_of ks)
news_apart fits last passed s history ks waits files law apart each =
    subst AreApart (sym (names_are fits last passed s history ks (fresh_by waits (loaded_files files)) each ∙ sites_are waits (loaded_files files)))
    (names_apart (loaded_files files) (subst (IsDistinct bytes_eq) (sym (same_files files)) apart) (each_distinct law files))
