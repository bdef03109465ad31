-- Groups that differ by their files and names.
use Rattle.std.proofs.Common.{◌≡◌, ℕ, zero, suc, ◌+◌, ◌≤◌, Bool, true, false, ◌&&◌, cond, List, [], ◌∷◌, map, slice_get, Some, refl, sym, ap, subst, ◌∙◌, arith}
use Rattle.std.specs.Prelude.{count_by, find, slice_set}
use Rattle.std.specs.Option.{option_map}
use Rattle.std.specs.Str.{bytes_eq}
use Rattle.std.proofs.lemmas.Slice.Eq.{bytes_eq-Decides}
use Rattle.std.proofs.lemmas.List.Recursion.{is_count_by}
use Rattle.std.proofs.lemmas.Option.{slice_get-map}
use Rattle.spec_world.specs.spec_rules.Groups.{Group, is_group_named}
use Rattle.spec_world.specs.Rounds.{with_group}
use Rattle.spec_tests.specs.private.Rounds.{AreApart, HaveSites, site}

-- Lists of which at most one element passes a test

abbrev pub how_many : {X : Type 0} → (X → Bool) → List X → ℕ
how_many p [] = 0
how_many p (x ∷ xs) = cond (p x) (1 + how_many p xs) (how_many p xs)

pub so_many : {X : Type 0} (p : X → Bool) (xs : List X) → how_many p xs ≡ count_by p xs
so_many p xs = is_count_by (how_many p) p refl (λ x ys. refl) xs

at_most_one : {X : Type 0} (p : X → Bool) (xs : List X) → count_by p xs ≤ 1 → how_many p xs ≤ 1
at_most_one p xs h = subst (λ (n : ℕ). n ≤ 1) (sym (so_many p xs)) h

counted : {X : Type 0} (p : X → Bool) (xs : List X) (j : ℕ) (x : X) → slice_get xs j ≡ Some x → p x ≡ true → 1 ≤ how_many p xs
counted p [] j x h t = absurd cc
counted p (y ∷ ys) zero x h t = by (p y) (let e : y ≡ x = cc in ap p e ∙ t) where
  by : (b : Bool) → b ≡ true → 1 ≤ cond b (1 + how_many p ys) (how_many p ys)
  by true e = omega arith
  by false e = absurd cc
counted p (y ∷ ys) (suc j) x h t = by (p y) (counted p ys j x h t) where
  by : (b : Bool) → 1 ≤ how_many p ys → 1 ≤ cond b (1 + how_many p ys) (how_many p ys)
  by true k = omega arith
  by false k = k

pub find_there : {X : Type 0} (p : X → Bool) (xs : List X) (j : ℕ) (x : X) → how_many p xs ≤ 1 → slice_get xs j ≡ Some x → p x ≡ true → find p xs ≡ Some x
find_there p [] j x few h t = absurd cc
find_there p (y ∷ ys) zero x few h t = let e : y ≡ x = cc in ap (λ (b : Bool). cond b (Some y) (find p ys)) (ap p e ∙ t) ∙ ap Some e
find_there p (y ∷ ys) (suc j) x few h t = by (p y) few (counted p ys j x h t) (find_there p ys j x) where
  by : (b : Bool) → cond b (1 + how_many p ys) (how_many p ys) ≤ 1 → 1 ≤ how_many p ys
      → (how_many p ys ≤ 1 → slice_get ys j ≡ Some x → p x ≡ true → find p ys ≡ Some x) → cond b (Some y) (find p ys) ≡ Some x
  by true k some again = absurd (omega arith)
  by false k some again = again k h t

-- Groups

is_itself : (g new : Group) → new.file ≡ g.file → new.name ≡ g.name → is_group_named new.file new.name g ≡ true
is_itself g new f n =
    ap (λ (b : Bool). b && bytes_eq g.name new.name) ((bytes_eq-Decides g.file new.file).1 (sym f)) ∙ (bytes_eq-Decides g.name new.name).1 (sym n)

pub found_itself : (gs : List Group) (j : ℕ) (g : Group) → AreApart gs → slice_get gs j ≡ Some g → find (is_group_named g.file g.name) gs ≡ Some g
found_itself gs j g apart h = find_there (is_group_named g.file g.name) gs j g (at_most_one (is_group_named g.file g.name) gs (apart g.file g.name)) h (is_itself g g refl refl)

-- a group takes the place of the one that it goes on from
pub set_there : (gs : List Group) (j : ℕ) (g new : Group) → how_many (is_group_named new.file new.name) gs ≤ 1 → slice_get gs j ≡ Some g → is_group_named new.file new.name g ≡ true
    → with_group gs new ≡ slice_set gs j new
set_there [] j g new few h t = refl
set_there (x ∷ gs) zero g new few h t = let e : x ≡ g = cc in ap (λ (b : Bool). cond b (new ∷ gs) (x ∷ with_group gs new)) (ap (is_group_named new.file new.name) e ∙ t)
set_there (x ∷ gs) (suc j) g new few h t = by (is_group_named new.file new.name x) few (counted (is_group_named new.file new.name) gs j g h t) (set_there gs j g new) where
  by : (b : Bool) → cond b (1 + how_many (is_group_named new.file new.name) gs) (how_many (is_group_named new.file new.name) gs) ≤ 1 → 1 ≤ how_many (is_group_named new.file new.name) gs
      → (how_many (is_group_named new.file new.name) gs ≤ 1 → slice_get gs j ≡ Some g → is_group_named new.file new.name g ≡ true → with_group gs new ≡ slice_set gs j new)
      → cond b (new ∷ gs) (x ∷ with_group gs new) ≡ x ∷ slice_set gs j new
  by true k some again = absurd (omega arith)
  by false k some again = ap (λ (l : List Group). x ∷ l) (again k h t)

pub set_itself : (gs : List Group) (j : ℕ) (g new : Group) → AreApart gs → slice_get gs j ≡ Some g → new.file ≡ g.file → new.name ≡ g.name → with_group gs new ≡ slice_set gs j new
set_itself gs j g new apart h f n = set_there gs j g new (at_most_one (is_group_named new.file new.name) gs (apart new.file new.name)) h (is_itself g new f n)

-- Sites

site_is : List ℕ → List ℕ → List ℕ × List ℕ → Bool
site_is file name s = bytes_eq s.0 file && bytes_eq s.1 name

count_sites : (file name : List ℕ) (gs : List Group) → how_many (is_group_named file name) gs ≡ how_many (site_is file name) (map site gs)
unfolding site_is
count_sites file name [] = refl
count_sites file name (g ∷ gs) =
    ap (λ (n : ℕ). cond (bytes_eq g.file file && bytes_eq g.name name) (1 + n) n) (count_sites file name gs)

pub apart_by_sites : (gs hs : List Group) → HaveSites gs hs → AreApart hs → AreApart gs
apart_by_sites gs hs e apart file name =
    subst (λ (n : ℕ). n ≤ 1)
    (sym (so_many (is_group_named file name) hs) ∙ count_sites file name hs ∙ ap (how_many (site_is file name)) (sym e) ∙ sym (count_sites file name gs)
    ∙ so_many (is_group_named file name) gs)
    (apart file name)

pub same_site : (gs hs : List Group) (j : ℕ) (a b : Group) → HaveSites gs hs → slice_get gs j ≡ Some a → slice_get hs j ≡ Some b → site a ≡ site b
same_site gs hs j a b e h k =
    let there : option_map site (slice_get gs j) ≡ option_map site (slice_get hs j) = sym (slice_get-map site gs j) ∙ ap (λ (l : List (List ℕ × List ℕ)). slice_get l j) e ∙ slice_get-map site hs j in
    let both : Some (site a) ≡ Some (site b) = ap (option_map site) (sym h) ∙ there ∙ ap (option_map site) k in
    cc

pub sites_set : (gs : List Group) (j : ℕ) (g new : Group) → slice_get gs j ≡ Some g → new.file ≡ g.file → new.name ≡ g.name → HaveSites (slice_set gs j new) gs
sites_set [] j g new h f n = refl
sites_set (x ∷ gs) zero g new h f n =
    let e : x ≡ g = cc in ap (λ (s : List ℕ × List ℕ). s ∷ map site gs) (ap (λ (a : List ℕ). (a, new.name)) f ∙ ap (λ (b : List ℕ). (g.file, b)) n ∙ ap site (sym e))
sites_set (x ∷ gs) (suc j) g new h f n = ap (λ (l : List (List ℕ × List ℕ)). site x ∷ l) (sites_set gs j g new h f n)
