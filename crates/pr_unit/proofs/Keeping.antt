-- Groups that are kept, in the order of their names and of their files.
use Rattle.std.proofs.Common.{◌≡◌, ℕ, zero, suc, not, List, [], ◌∷◌, ◌++◌, filter, slice_get, Some, refl, sym, ap, ◌∙◌}
use Rattle.std.specs.List.{AllZip}
use Rattle.std.specs.Str.{bytes_eq}
use Rattle.pr_slide.specs.spec_history.declared.entry.Entry.{Entry}
use Rattle.pr_slide.specs.pr_range.private.Asks.{LastAsks, Passed}
use Rattle.pr_group.specs.spec_rules.Definitions.{Group as Definition}
use Rattle.pr_group.specs.spec_rules.Groups.{Group}
use Rattle.pr_group.specs.spec_rules.Settings.{Settings}
use Rattle.spec_tests.specs.Events.{by_names, is_called}
use Rattle.pr_group.specs.private.Keeping.{KeepsGroup, KeptGroup, settings_of}
use Rattle.pr_unit.specs.private.Kept.{KeepsGroups, name_of}
use Rattle.pr_unit.specs.private.Ordered.{is_so_named, named_first}
use Rattle.pr_unit.proofs.Lists.{zip_each, zip_filtered, zip_joined, zip_long, zip_there}

-- what is kept of one group
pub record KeepsOne {R : Type 0} (fits : R → List Entry → Type 0) (last : R → LastAsks) (passed : R → Passed) (history : List Entry) (s : Settings) (k : KeptGroup R) (g : Group) : Type 0 where
  pub keeps : KeepsGroup fits last passed k history g
  pub told : settings_of k ≡ s

told_each : {R : Type 0} (s : Settings) (kept : List (KeptGroup R)) (gs : List Group) (P : KeptGroup R → Group → Type 0) → ((k : KeptGroup R) (g : Group) → P k g → settings_of k ≡ s)
    → AllZip P kept gs → (i : ℕ) (k : KeptGroup R) → slice_get kept i ≡ Some k → settings_of k ≡ s
told_each s [] gs P tells h i k at = absurd cc
told_each s (x ∷ kept) [] P tells h i k at = absurd h
told_each s (x ∷ kept) (g ∷ gs) P tells h zero k at = let e : x ≡ k = cc in ap settings_of (sym e) ∙ tells x g h.0
told_each s (x ∷ kept) (g ∷ gs) P tells h (suc i) k at = told_each s kept gs P tells h.1 i k at

pub zipped : {R : Type 0} (fits : R → List Entry → Type 0) (last : R → LastAsks) (passed : R → Passed) (kept : List (KeptGroup R)) (history : List Entry) (s : Settings) (gs : List Group)
    → KeepsGroups fits last passed kept history s gs → AllZip (KeepsOne fits last passed history s) kept gs
zipped fits last passed kept history s gs h = zip_each (KeepsOne fits last passed history s) kept gs h.many (λ i k g a b. record { keeps = h.each i k g a b; told = h.told i k a })

pub unzipped : {R : Type 0} (fits : R → List Entry → Type 0) (last : R → LastAsks) (passed : R → Passed) (kept : List (KeptGroup R)) (history : List Entry) (s : Settings) (gs : List Group)
    → AllZip (KeepsOne fits last passed history s) kept gs → KeepsGroups fits last passed kept history s gs
unzipped fits last passed kept history s gs h = record {
  many = zip_long (KeepsOne fits last passed history s) kept gs h;
  each = λ i k g a b. (zip_there (KeepsOne fits last passed history s) kept gs h i k g a b).keeps;
  told = told_each s kept gs (KeepsOne fits last passed history s) (λ k g o. o.told) h;
}

pub none_kept : {R : Type 0} (fits : R → List Entry → Type 0) (last : R → LastAsks) (passed : R → Passed) (history : List Entry) (s : Settings) → KeepsGroups fits last passed [] history s []
none_kept fits last passed history s = record { many = refl; each = λ i k g a b. absurd cc; told = λ i k a. absurd cc }

-- one more
pub one_more_kept : {R : Type 0} (fits : R → List Entry → Type 0) (last : R → LastAsks) (passed : R → Passed) (kept : List (KeptGroup R)) (history : List Entry) (s : Settings) (gs : List Group) (k : KeptGroup R) (g : Group)
    → KeepsGroups fits last passed kept history s gs → KeepsGroup fits last passed k history g → settings_of k ≡ s → KeepsGroups fits last passed (kept ++ k ∷ []) history s (gs ++ g ∷ [])
one_more_kept fits last passed kept history s gs k g h keeps told =
    unzipped fits last passed (kept ++ k ∷ []) history s (gs ++ g ∷ [])
    (zip_joined (KeepsOne fits last passed history s) kept (k ∷ []) gs (g ∷ []) (zipped fits last passed kept history s gs h) (record { keeps = keeps; told = told }, tt))

-- in the order of names
same_name : {R : Type 0} (fits : R → List Entry → Type 0) (last : R → LastAsks) (passed : R → Passed) (history : List Entry) (s : Settings) (name : List ℕ) (k : KeptGroup R) (g : Group)
    → KeepsOne fits last passed history s k g → is_so_named name_of name k ≡ is_called name g
same_name fits last passed history s name k g h = ap (λ (d : Definition). bytes_eq d.name name) (sym h.keeps.definition)

zip_by_names : {R : Type 0} (fits : R → List Entry → Type 0) (last : R → LastAsks) (passed : R → Passed) (history : List Entry) (s : Settings) (names : List (List ℕ)) (kept : List (KeptGroup R)) (gs : List Group)
    → AllZip (KeepsOne fits last passed history s) kept gs → AllZip (KeepsOne fits last passed history s) (named_first name_of names kept) (by_names names gs)
zip_by_names fits last passed history s [] kept gs h = h
zip_by_names {R} fits last passed history s (name ∷ names) kept gs h =
    zip_joined (KeepsOne fits last passed history s)
    (filter (is_so_named name_of name) kept) (named_first name_of names (filter (λ (k : KeptGroup R). not (is_so_named name_of name k)) kept))
    (filter (is_called name) gs) (by_names names (filter (λ (g : Group). not (is_called name g)) gs))
    (zip_filtered (KeepsOne fits last passed history s) (is_so_named name_of name) (is_called name) (same_name fits last passed history s name) kept gs h)
    (zip_by_names fits last passed history s names (filter (λ (k : KeptGroup R). not (is_so_named name_of name k)) kept) (filter (λ (g : Group). not (is_called name g)) gs)
    (zip_filtered (KeepsOne fits last passed history s) (λ (k : KeptGroup R). not (is_so_named name_of name k)) (λ (g : Group). not (is_called name g))
    (λ k g o. ap not (same_name fits last passed history s name k g o)) kept gs h))

pub kept_by_names : {R : Type 0} (fits : R → List Entry → Type 0) (last : R → LastAsks) (passed : R → Passed) (history : List Entry) (s : Settings) (names : List (List ℕ)) (kept : List (KeptGroup R)) (gs : List Group)
    → KeepsGroups fits last passed kept history s gs → KeepsGroups fits last passed (named_first name_of names kept) history s (by_names names gs)
kept_by_names fits last passed history s names kept gs h =
    unzipped fits last passed (named_first name_of names kept) history s (by_names names gs)
    (zip_by_names fits last passed history s names kept gs (zipped fits last passed kept history s gs h))
