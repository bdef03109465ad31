-- Rule files that are kept, and those that are not.
use Rattle.std.proofs.Common.{◌≡◌, ℕ, false, List, [], ◌∷◌, ◌++◌, Result, Ok, Err, OnOk, length, map, refl, sym, ap, ◌∙◌, subst, append_assoc, arith}
use Rattle.std.specs.List.{AllByRecursion, IsDistinct}
use Rattle.std.specs.Str.{bytes_eq}
use Rattle.std.proofs.lemmas.List.{map-append}
use Rattle.pr_checks.specs.private.RulesTaken.{AreKept, IsRuleFile, with_wrong}
use Rattle.pr_checks.specs.declared.loaded.LoadedRules.{LoadedRules}
use Rattle.pr_checks.specs.declared.loaded.Rules.{Rules}

pub all_snoc : {X : Type 0} (P : X → Type 0) (xs : List X) (x : X) → AllByRecursion P xs → P x → AllByRecursion P (xs ++ x ∷ [])
all_snoc P [] x a p = (p, tt)
all_snoc P (y ∷ ys) x a p = (a.0, all_snoc P ys x a.1 p)

all_but : {X : Type 0} (P : X → Type 0) (xs : List X) (x : X) (ys : List X) → AllByRecursion P (xs ++ x ∷ ys) → AllByRecursion P (xs ++ ys)
all_but P [] x ys a = a.1
all_but P (z ∷ zs) x ys a = (a.0, all_but P zs x ys a.1)

apart_but : (xs : List (List ℕ)) (name : List ℕ) (ys : List (List ℕ)) → IsDistinct bytes_eq (xs ++ name ∷ ys) → IsDistinct bytes_eq (xs ++ ys)
unfolding IsDistinct
apart_but [] name ys d = d.1
apart_but (x ∷ xs) name ys d = (all_but (λ m. bytes_eq x m ≡ false) xs name ys d.0, apart_but xs name ys d.1)

abbrev name_of : LoadedRules → List ℕ
name_of f = f.name

-- none is kept yet
pub none_kept : (names : List (List ℕ)) (files : List LoadedRules) → files ≡ [] → AreKept names files names
none_kept names files none = subst (λ (l : List LoadedRules). AreKept names l names) (sym none) (record { rules = tt; apart = λ d. d })

-- the next file is kept, or is not
pub keeps_one : (old new : List LoadedRules) (f : LoadedRules) (name : List ℕ) → new ≡ old ++ f ∷ [] → f.name ≡ name → IsRuleFile f
    → (names rest : List (List ℕ)) → AreKept names old (name ∷ rest) → AreKept names new rest
keeps_one old new f name is named good names rest k =
    let same : map name_of old ++ name ∷ rest ≡ map name_of (old ++ f ∷ []) ++ rest =
    ap (λ (m : List ℕ). map name_of old ++ m ∷ rest) (sym named)
    ∙ sym (ap (λ (l : List (List ℕ)). l ++ rest) (map-append name_of old (f ∷ [])) ∙ append_assoc (map name_of old) (f.name ∷ []) rest) in
    subst (λ (l : List LoadedRules). AreKept names l rest) (sym is)
    (record {
      rules = all_snoc IsRuleFile old f k.rules good;
      apart = λ d. subst (IsDistinct bytes_eq) same (k.apart d);
    })

keeps_none : (names : List (List ℕ)) (files : List LoadedRules) (name : List ℕ) (rest : List (List ℕ)) → AreKept names files (name ∷ rest) → AreKept names files rest
keeps_none names files name rest k = record { rules = k.rules; apart = λ d. apart_but (map name_of files) name rest (k.apart d) }

-- what follows of a change follows also where it is not known whether memory sufficed
pub on_ok : (T E P Q : Type 0) (r : Result T E) → (P → Q) → OnOk r P → OnOk r Q
on_ok T E P Q (Ok x) f p = f p
on_ok T E P Q (Err e) f p = tt

-- what is wrong adds no file
pub wrong_kept : (old new : Rules) (lines name : List ℕ) → new ≡ with_wrong old lines
    → (names rest : List (List ℕ)) → AreKept names old.files (name ∷ rest) → AreKept names new.files rest
wrong_kept old new lines name is names rest k = subst (λ (now : Rules). AreKept names now.files rest) (sym is) (keeps_none names old.files name rest k)

pub none_left : {X : Type 0} (xs : List X) → length xs ≡ 0 → xs ≡ []
none_left [] h = refl
none_left (x ∷ xs) h = absurd (omega arith)
