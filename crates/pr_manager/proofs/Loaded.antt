-- Files that are read one after another.
use Rattle.std.proofs.Common.{◌≡◌, ℕ, arith, length, Bool, true, false, List, [], ◌∷◌, ◌++◌, append_assoc, append-nil, Result, Ok, Err, IfOk, refl, sym, ap, subst, ◌∙◌}
use Rattle.std.specs.Prelude.{not}
use Rattle.std.specs.List.{AllZip}
use Rattle.std.specs.declared.alloc.AllocError.{AllocError}
use Rattle.pr_ast.specs.pr_labels.declared.pair.Pair.{Pair}
use Rattle.spec_world.specs.spec_history.declared.entry.Entry.{Entry}
use Rattle.spec_world.specs.spec_meaning.Answers.{go_on}
use Rattle.pr_group.specs.pr_range.private.Asks.{LastAsks, Passed}
use Rattle.spec_world.specs.pr_rulefile.File.{groups_given, rule_file_of}
use Rattle.spec_world.specs.spec_rules.Definitions.{Group as Definition}
use Rattle.spec_world.specs.spec_rules.Groups.{Group, fresh}
use Rattle.spec_world.specs.spec_rules.Reloads.{LoadedFile, fresh_groups, waits_at_first}
use Rattle.spec_world.specs.spec_rules.Settings.{Settings}
use Rattle.pr_group.specs.private.Keeping.{KeepsGroup, KeptGroup, passed_by, settings_of, waits_of}
use Rattle.spec_world.specs.Rounds.{all_loaded, groups_by, with_groups}
use Rattle.spec_world.specs.declared.event.NamedFile.{NamedFile}
use Rattle.spec_world.specs.declared.report.Report.{Report}
use Rattle.pr_manager.specs.private.Keeping.{KeepEach, KeepsUnder}
use Rattle.pr_manager.specs.private.Loading.{HasPassedNothing, fresh_by, loaded_files}

-- what is made of the files that are left, where so many groups are kept already
pub record AreKeptSoFar {R : Type 0} (fits : R → List Entry → Type 0) (last : R → LastAsks) (passed : R → Passed) (s : Settings) (history : List Entry) (ks : List (KeptGroup R)) (left all : List Group) : Type 0 where
  pub groups : List Group
  pub each : KeepEach fits last passed s history ks groups
  pub parts : groups ++ left ≡ all

zip_push : {A B : Type 0} (R : A → B → Type 0) (xs : List A) (ys : List B) (x : A) (y : B) → AllZip R xs ys → R x y → AllZip R (xs ++ x ∷ []) (ys ++ y ∷ [])
zip_push R [] [] x y h k = (k, tt)
zip_push R [] (w ∷ ys) x y h k = absurd h
zip_push R (v ∷ xs) [] x y h k = absurd h
zip_push R (v ∷ xs) (w ∷ ys) x y h k = (h.0, zip_push R xs ys x y h.1 k)

pub kept_none : {R : Type 0} (fits : R → List Entry → Type 0) (last : R → LastAsks) (passed : R → Passed) (s : Settings) (history : List Entry) (ks : List (KeptGroup R)) (groups left : List Group)
    → KeepEach fits last passed s history ks groups → AreKeptSoFar fits last passed s history ks left (groups ++ left)
kept_none fits last passed s history ks groups left h = record { groups = groups; each = h; parts = refl }

pub kept_one : {R : Type 0} (fits : R → List Entry → Type 0) (last : R → LastAsks) (passed : R → Passed) (s : Settings) (history : List Entry) (ks more : List (KeptGroup R)) (k : KeptGroup R) (g : Group) (left all : List Group)
    → more ≡ ks ++ k ∷ [] → KeepsUnder fits last passed s history k g → AreKeptSoFar fits last passed s history ks (g ∷ left) all → AreKeptSoFar fits last passed s history more left all
kept_one fits last passed s history ks more k g left all pushed one h = record {
  groups = h.groups ++ g ∷ [];
  each = subst (λ l. KeepEach fits last passed s history l (h.groups ++ g ∷ [])) (sym pushed) (zip_push (KeepsUnder fits last passed s history) ks h.groups k g h.each one);
  parts = append_assoc h.groups (g ∷ []) left ∙ h.parts;
}

pub kept_all : {R : Type 0} (fits : R → List Entry → Type 0) (last : R → LastAsks) (passed : R → Passed) (s : Settings) (history : List Entry) (ks : List (KeptGroup R)) (all : List Group)
    → AreKeptSoFar fits last passed s history ks [] all → KeepEach fits last passed s history ks all
kept_all fits last passed s history ks all h = subst (λ l. KeepEach fits last passed s history ks l) (sym (append-nil h.groups) ∙ h.parts) h.each

-- the groups of one more file
pub kept_file : {R : Type 0} (fits : R → List Entry → Type 0) (last : R → LastAsks) (passed : R → Passed) (s : Settings) (history : List Entry) (ks more : List (KeptGroup R)) (these left all : List Group)
    → ((groups : List Group) → KeepEach fits last passed s history ks groups → KeepEach fits last passed s history more (groups ++ these))
    → AreKeptSoFar fits last passed s history ks (these ++ left) all → AreKeptSoFar fits last passed s history more left all
kept_file fits last passed s history ks more these left all by h = record { groups = h.groups ++ these; each = by h.groups h.each; parts = append_assoc h.groups these left ∙ h.parts }

-- files

pub loaded_then : (f : NamedFile) (files : List NamedFile) → groups_by f.name (rule_file_of f.bytes) ≡ Ok (groups_given (rule_file_of f.bytes)) → all_loaded files ≡ Ok (loaded_files files)
    → all_loaded (f ∷ files) ≡ Ok (loaded_files (f ∷ files))
loaded_then f files is rest = λ i. go_on (λ groups. go_on (λ more. Ok (with_groups f groups ∷ more)) (rest i)) (is i)

pub refused_then : (f : NamedFile) (files : List NamedFile) (e : Report) → groups_by f.name (rule_file_of f.bytes) ≡ Ok (groups_given (rule_file_of f.bytes)) → all_loaded files ≡ Err e → all_loaded (f ∷ files) ≡ Err e
refused_then f files e is rest = λ i. go_on (λ groups. go_on (λ more. Ok (with_groups f groups ∷ more)) (rest i)) (is i)

pub refused_here : (f : NamedFile) (files : List NamedFile) (e : Report) → groups_by f.name (rule_file_of f.bytes) ≡ Err e → all_loaded (f ∷ files) ≡ Err e
refused_here f files e is = ap (go_on (λ groups. go_on (λ more. Ok (with_groups f groups ∷ more)) (all_loaded files))) is

-- whether new groups wait
pub waits_at : (reloaded : Bool) → waits_of (not reloaded) ≡ waits_at_first reloaded
waits_at true = refl
waits_at false = refl

pub fresh_at : (reloaded : Bool) (files : List LoadedFile) → fresh_by (waits_of (not reloaded)) files ≡ fresh_groups reloaded files
fresh_at reloaded files = ap (λ n. fresh_by n files) (waits_at reloaded)

-- a new group, under the name and the texts that it was made with
pub new_under : {R : Type 0} (fits : R → List Entry → Type 0) (last : R → LastAsks) (passed : R → Passed) (history : List Entry) (result : Result (KeptGroup R) AllocError) (t s : Settings) (waits : ℕ) (file name : List ℕ) (d : Definition)
    → t ≡ s → file ≡ name → IfOk result (λ k. KeepsGroup fits last passed k history (fresh waits file d)) → IfOk result (λ k. settings_of k ≡ t) → IfOk result (λ k. KeepsUnder fits last passed s history k (fresh waits name d))
new_under fits last passed history (Err e) t s waits file name d p q keeps told = tt
new_under fits last passed history (Ok k) t s waits file name d p q keeps told = record { keeps = subst (λ f. KeepsGroup fits last passed k history (fresh waits f d)) q keeps; told = told ∙ p }

-- nothing was passed for it
pub new_unpassed : {R : Type 0} (passed : R → Passed) (result : Result (KeptGroup R) AllocError) → ((history : List Entry) (i n : ℕ) (labels : List Pair) → IfOk result (λ k. passed_by passed k history i n labels ≡ 0)) → IfOk result (HasPassedNothing passed)
new_unpassed passed (Err e) h = tt
new_unpassed passed (Ok k) h = h

pub kept_end : {R : Type 0} (fits : R → List Entry → Type 0) (last : R → LastAsks) (passed : R → Passed) (s : Settings) (history : List Entry) (ks : List (KeptGroup R)) (rest : List NamedFile) (waits : ℕ) (files : List NamedFile)
    → length rest ≡ 0 → AreKeptSoFar fits last passed s history ks (fresh_by waits (loaded_files rest)) (fresh_by waits (loaded_files files)) → KeepEach fits last passed s history ks (fresh_by waits (loaded_files files))
kept_end fits last passed s history ks [] waits files none h = kept_all fits last passed s history ks (fresh_by waits (loaded_files files)) h
kept_end fits last passed s history ks (f ∷ rest) waits files none h = absurd (omega (arith, none))

pub empty : {A : Type 0} (xs : List A) → length xs ≡ 0 → xs ≡ []
empty [] h = refl
empty (x ∷ xs) h = absurd (omega (arith, h))
