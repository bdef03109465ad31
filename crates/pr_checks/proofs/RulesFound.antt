-- The files that are found under names.
use Rattle.std.proofs.Common.{◌≡◌, ℕ, List, [], ◌∷◌, ◌++◌, map, refl, sym, ap, ◌∙◌, subst, append_assoc, append-nil}
use Rattle.std.specs.List.{AllByRecursion}
use Rattle.std.proofs.lemmas.List.{map-append}
use Rattle.pr_outside.specs.Meant.{Content}
use Rattle.pr_outside.specs.Outside.{AreTold, Held}
use Rattle.pr_outside.specs.Loading.{Holding, holds, is_missing, is_too_large, Walk, holding_by, walk}
use Rattle.pr_checks.specs.RulesLoaded.{RulesLoaded, all_rules, and_rules, rules_held}
use Rattle.pr_checks.specs.declared.found.FoundFiles.{FoundFiles}
use Rattle.pr_checks.specs.declared.found.FoundFile.{FoundFile}
use Rattle.pr_checks.specs.private.RulesFound.{AreFound, IsShortFile, content_of, found_by, holding_of, rules_found, with_file}
use Rattle.pr_checks.proofs.RulesKept.{all_snoc}

-- A walk over all names

module _ {N : Type 0} (file : N → List ℕ) (held : Held) where
  abbrev pub walk_from : List N → FoundFiles → Walk FoundFiles
  walk_from names a = walk file (λ (n : N). with_file (file n)) held names a

  walk_files : (names : List N) (a : FoundFiles) → (walk_from names a).made.files ≡ a.files ++ map (found_by held) (map file names)
  walk_files [] a = sym (append-nil a.files)
  walk_files (n ∷ names) a =
      walk_files names (record { files = a.files ++ found_by held (file n) ∷ [] })
      ∙ append_assoc a.files (found_by held (file n) ∷ []) (map (found_by held) (map file names))

  walk_asks : (names : List N) (a : FoundFiles) → (walk_from names a).asks ≡ map file names
  walk_asks [] a = refl
  walk_asks (n ∷ names) a = ap (λ (l : List (List ℕ)). file n ∷ l) (walk_asks names (record { files = a.files ++ found_by held (file n) ∷ [] }))

  pub walk_told : (content : Content) (names : List N) (a : FoundFiles) → AreTold content held (map file names) → AreTold content held (walk_from names a).asks
  walk_told content names a told = subst (AreTold content held) (sym (walk_asks names a)) told

  pub walk_made : (names : List N) (made none : FoundFiles) → none.files ≡ [] → made ≡ (walk_from names none).made → made.files ≡ map (found_by held) (map file names)
  walk_made names made none is_none is =
      ap (λ (a : FoundFiles). a.files) is ∙ walk_files names none ∙ ap (λ (l : List FoundFile). l ++ map (found_by held) (map file names)) is_none

-- what is found is what is held
holding_back : (h : Holding) → holding_of (content_of h) ≡ h
holding_back (holds bytes) = refl
holding_back is_missing = refl
holding_back is_too_large = refl

pub rules_of_found : (held : Held) (names : List (List ℕ)) → rules_found (map (found_by held) names) ≡ all_rules held names
rules_of_found held [] = refl
rules_of_found held (name ∷ names) =
    ap (λ (h : Holding). and_rules (rules_held name h) (rules_found (map (found_by held) names))) (holding_back (holding_by (held name)))
    ∙ ap (λ (r : RulesLoaded). and_rules (rules_held name (holding_by (held name))) r) (rules_of_found held names)

-- Names and lengths

abbrev name_of : FoundFile → List ℕ
name_of f = f.name

module _ {N : Type 0} (file : N → List ℕ) (all : List N) where
  pub none_found : (a : FoundFiles) → a.files ≡ [] → AreFound file all all a
  none_found a none = record {
    names = ap (λ (fs : List FoundFile). map name_of fs ++ map file all) none;
    short = subst (AllByRecursion IsShortFile) (sym none) tt;
  }

  pub finds_one : (rest : List N) (n : N) (old new : FoundFiles) (f : FoundFile) → new.files ≡ old.files ++ f ∷ [] → f.name ≡ file n → IsShortFile f → AreFound file all (n ∷ rest) old
      → AreFound file all rest new
  finds_one rest n old new f is named short h = record {
    names =
        ap (λ (fs : List FoundFile). map name_of fs ++ map file rest) is
        ∙ ap (λ (ns : List (List ℕ)). ns ++ map file rest) (map-append name_of old.files (f ∷ []))
        ∙ append_assoc (map name_of old.files) (f.name ∷ []) (map file rest)
        ∙ ap (λ (m : List ℕ). map name_of old.files ++ m ∷ map file rest) named
        ∙ h.names;
    short = subst (AllByRecursion IsShortFile) (sym is) (all_snoc IsShortFile old.files f h.short short);
  }

  pub names_found : (a : FoundFiles) → AreFound file all [] a → map name_of a.files ≡ map file all
  names_found a h = sym (append-nil (map name_of a.files)) ∙ h.names
