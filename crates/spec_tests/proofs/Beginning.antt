-- The groups that a test begins with.
use Rattle.std.proofs.Common.{◌≡◌, ℕ, ◌+◌, ◌≤◌, Bool, true, false, not, ◌&&◌, cond, List, [], ◌∷◌, ◌++◌, map, filter, None, refl, sym, ap, subst, ◌∙◌, arith}
use Rattle.std.specs.Prelude.{count_by}
use Rattle.std.specs.List.{AllByRecursion, IsDistinct, flat_map}
use Rattle.std.specs.Str.{bytes_eq}
use Rattle.std.proofs.lemmas.Slice.Eq.{bytes_eq-Decides}
use Rattle.spec_world.specs.spec_rules.Definitions.{Group as Definition}
use Rattle.spec_world.specs.spec_rules.Groups.{Group, fresh, is_group_named}
use Rattle.spec_world.specs.spec_rules.Reloads.{LoadedFile}
use Rattle.spec_world.specs.spec_rules.Replays.{unwaiting_groups}
use Rattle.spec_tests.specs.Events.{by_names, is_called}
use Rattle.spec_tests.specs.private.Rounds.{AreApart, AreNew, AreToldApart}
use Rattle.spec_tests.proofs.Merging.{all_joined}
use Rattle.spec_tests.proofs.Named.{how_many, so_many}

-- How many pass a test

many_joined : {X : Type 0} (p : X → Bool) (xs ys : List X) → how_many p (xs ++ ys) ≡ how_many p xs + how_many p ys
many_joined p [] ys = omega arith
many_joined p (x ∷ xs) ys = by (p x) (many_joined p xs ys) where
  by : (b : Bool) → how_many p (xs ++ ys) ≡ how_many p xs + how_many p ys
      → cond b (1 + how_many p (xs ++ ys)) (how_many p (xs ++ ys)) ≡ cond b (1 + how_many p xs) (how_many p xs) + how_many p ys
  by true e = omega arith
  by false e = e

many_parted : {X : Type 0} (p q : X → Bool) (xs : List X) → how_many p (filter q xs) + how_many p (filter (λ x. not (q x)) xs) ≡ how_many p xs
many_parted p q [] = omega arith
many_parted {X} p q (x ∷ xs) = by (q x) (p x) refl (many_parted p q xs) where
  by : (b c : Bool) → p x ≡ c → how_many p (filter q xs) + how_many p (filter (λ (y : X). not (q y)) xs) ≡ how_many p xs
      → how_many p (cond b (x ∷ filter q xs) (filter q xs)) + how_many p (cond (not b) (x ∷ filter (λ (y : X). not (q y)) xs) (filter (λ (y : X). not (q y)) xs)) ≡ cond c (1 + how_many p xs) (how_many p xs)
  by true true t e = let k : how_many p (x ∷ filter q xs) ≡ 1 + how_many p (filter q xs) = ap (λ (d : Bool). cond d (1 + how_many p (filter q xs)) (how_many p (filter q xs))) t in omega arith
  by true false t e = let k : how_many p (x ∷ filter q xs) ≡ how_many p (filter q xs) = ap (λ (d : Bool). cond d (1 + how_many p (filter q xs)) (how_many p (filter q xs))) t in omega arith
  by false true t e =
      let others = filter (λ (y : X). not (q y)) xs in
      let k : how_many p (x ∷ others) ≡ 1 + how_many p others = ap (λ (d : Bool). cond d (1 + how_many p others) (how_many p others)) t in omega arith
  by false false t e =
      let others = filter (λ (y : X). not (q y)) xs in
      let k : how_many p (x ∷ others) ≡ how_many p others = ap (λ (d : Bool). cond d (1 + how_many p others) (how_many p others)) t in omega arith

many_by_names : (p : Group → Bool) (names : List (List ℕ)) (gs : List Group) → how_many p (by_names names gs) ≡ how_many p gs
many_by_names p [] gs = refl
many_by_names p (name ∷ names) gs =
    many_joined p (filter (is_called name) gs) (by_names names (filter (λ (g : Group). not (is_called name g)) gs))
    ∙ ap (λ (n : ℕ). how_many p (filter (is_called name) gs) + n) (many_by_names p names (filter (λ (g : Group). not (is_called name g)) gs))
    ∙ many_parted p (is_called name) gs

-- The groups of a file

abbrev of_name : List ℕ → Definition → Bool
of_name name d = bytes_eq d.name name

many_fresh : (file name from : List ℕ) (ds : List Definition) (b : Bool) → bytes_eq from file ≡ b → how_many (is_group_named file name) (map (fresh 0 from) ds) ≡ cond b (how_many (of_name name) ds) 0
many_fresh file name from [] true e = refl
many_fresh file name from [] false e = refl
many_fresh file name from (d ∷ ds) true e =
    ap (λ (c : Bool). cond (c && bytes_eq d.name name) (1 + how_many (is_group_named file name) (map (fresh 0 from) ds)) (how_many (is_group_named file name) (map (fresh 0 from) ds))) e
    ∙ ap (λ (n : ℕ). cond (bytes_eq d.name name) (1 + n) n) (many_fresh file name from ds true e)
many_fresh file name from (d ∷ ds) false e =
    ap (λ (c : Bool). cond (c && bytes_eq d.name name) (1 + how_many (is_group_named file name) (map (fresh 0 from) ds)) (how_many (is_group_named file name) (map (fresh 0 from) ds))) e
    ∙ many_fresh file name from ds false e

distinct_none : (x name : List ℕ) (xs : List (List ℕ)) → AllByRecursion (λ y. bytes_eq x y ≡ false) xs → bytes_eq x name ≡ true → how_many (λ y. bytes_eq y name) xs ≡ 0
distinct_none x name [] h t = refl
distinct_none x name (y ∷ xs) h t = by (bytes_eq y name) refl (distinct_none x name xs h.1 t) where
  by : (b : Bool) → bytes_eq y name ≡ b → how_many (λ z. bytes_eq z name) xs ≡ 0 → cond b (1 + how_many (λ z. bytes_eq z name) xs) (how_many (λ z. bytes_eq z name) xs) ≡ 0
  by true s none =
      let same : x ≡ y = (bytes_eq-Decides x name).0 t ∙ sym ((bytes_eq-Decides y name).0 s) in
      let yes : bytes_eq x y ≡ true = (bytes_eq-Decides x y).1 same in
      let no : bytes_eq x y ≡ false = h.0 in
      absurd cc
  by false s none = none

distinct_few : (name : List ℕ) (xs : List (List ℕ)) → IsDistinct bytes_eq xs → how_many (λ y. bytes_eq y name) xs ≤ 1
unfolding IsDistinct
distinct_few name [] h = omega arith
distinct_few name (x ∷ xs) h = by (bytes_eq x name) refl (distinct_few name xs h.1) where
  by : (b : Bool) → bytes_eq x name ≡ b → how_many (λ y. bytes_eq y name) xs ≤ 1 → cond b (1 + how_many (λ y. bytes_eq y name) xs) (how_many (λ y. bytes_eq y name) xs) ≤ 1
  by true t few = let none : how_many (λ y. bytes_eq y name) xs ≡ 0 = distinct_none x name xs h.0 t in omega arith
  by false t few = few

names_counted : (name : List ℕ) (ds : List Definition) → how_many (of_name name) ds ≡ how_many (λ y. bytes_eq y name) (map (λ d. d.name) ds)
names_counted name [] = refl
names_counted name (d ∷ ds) = ap (λ (n : ℕ). cond (bytes_eq d.name name) (1 + n) n) (names_counted name ds)

few_of_name : (name : List ℕ) (ds : List Definition) → IsDistinct bytes_eq (map (λ d. d.name) ds) → how_many (of_name name) ds ≤ 1
few_of_name name ds h = subst (λ (n : ℕ). n ≤ 1) (sym (names_counted name ds)) (distinct_few name (map (λ d. d.name) ds) h)

-- The groups of files

abbrev from_file : LoadedFile → List Group
from_file f = map (fresh 0 f.name) f.groups

many_in_files : (file name : List ℕ) (fs : List LoadedFile) → AllByRecursion (λ f. IsDistinct bytes_eq (map (λ d. d.name) f.groups)) fs
    → how_many (is_group_named file name) (flat_map from_file fs) ≤ how_many (λ (f : LoadedFile). bytes_eq f.name file) fs
many_in_files file name [] h = omega arith
many_in_files file name (f ∷ fs) h = by (bytes_eq f.name file) refl (many_in_files file name fs h.1) where
  by : (b : Bool) → bytes_eq f.name file ≡ b → how_many (is_group_named file name) (flat_map from_file fs) ≤ how_many (λ (g : LoadedFile). bytes_eq g.name file) fs
      → how_many (is_group_named file name) (from_file f ++ flat_map from_file fs) ≤ cond b (1 + how_many (λ (g : LoadedFile). bytes_eq g.name file) fs) (how_many (λ (g : LoadedFile). bytes_eq g.name file) fs)
  by true e rest =
      let all = many_joined (is_group_named file name) (from_file f) (flat_map from_file fs) in
      let own : how_many (is_group_named file name) (from_file f) ≡ how_many (of_name name) f.groups = many_fresh file name f.name f.groups true e in
      let few : how_many (of_name name) f.groups ≤ 1 = few_of_name name f.groups h.0 in omega arith
  by false e rest =
      let all = many_joined (is_group_named file name) (from_file f) (flat_map from_file fs) in
      let own : how_many (is_group_named file name) (from_file f) ≡ 0 = many_fresh file name f.name f.groups false e in omega arith

file_names : (file : List ℕ) (fs : List LoadedFile) → how_many (λ (f : LoadedFile). bytes_eq f.name file) fs ≡ how_many (λ y. bytes_eq y file) (map (λ (f : LoadedFile). f.name) fs)
file_names file [] = refl
file_names file (f ∷ fs) = ap (λ (n : ℕ). cond (bytes_eq f.name file) (1 + n) n) (file_names file fs)

pub apart_at_first : (names : List (List ℕ)) (fs : List LoadedFile) → AreToldApart fs → AreApart (by_names names (unwaiting_groups fs))
apart_at_first names fs h file name =
    let counted : how_many (is_group_named file name) (by_names names (unwaiting_groups fs)) ≡ count_by (is_group_named file name) (by_names names (unwaiting_groups fs)) = so_many (is_group_named file name) (by_names names (unwaiting_groups fs)) in
    let same : how_many (is_group_named file name) (by_names names (unwaiting_groups fs)) ≡ how_many (is_group_named file name) (unwaiting_groups fs) = many_by_names (is_group_named file name) names (unwaiting_groups fs) in
    let few : how_many (is_group_named file name) (unwaiting_groups fs) ≤ how_many (λ (f : LoadedFile). bytes_eq f.name file) fs = many_in_files file name fs h.1 in
    let files : how_many (λ (f : LoadedFile). bytes_eq f.name file) fs ≤ 1 = subst (λ (n : ℕ). n ≤ 1) (sym (file_names file fs)) (distinct_few file (map (λ (f : LoadedFile). f.name) fs) h.0) in
    omega arith

-- None was evaluated

new_parted : (q : Group → Bool) (gs : List Group) → AreNew gs → AreNew (filter q gs)
new_parted q [] h = tt
new_parted q (g ∷ gs) h = by (q g) (new_parted q gs h.1) where
  by : (b : Bool) → AreNew (filter q gs) → AreNew (cond b (g ∷ filter q gs) (filter q gs))
  by true more = (h.0, more)
  by false more = more

new_by_names : (names : List (List ℕ)) (gs : List Group) → AreNew gs → AreNew (by_names names gs)
new_by_names [] gs h = h
new_by_names (name ∷ names) gs h =
    all_joined (λ (g : Group). g.last ≡ None) (filter (is_called name) gs) (by_names names (filter (λ (g : Group). not (is_called name g)) gs))
    (new_parted (is_called name) gs h) (new_by_names names (filter (λ (g : Group). not (is_called name g)) gs) (new_parted (λ (g : Group). not (is_called name g)) gs h))

new_of_file : (from : List ℕ) (ds : List Definition) → AreNew (map (fresh 0 from) ds)
new_of_file from [] = tt
new_of_file from (d ∷ ds) = (refl, new_of_file from ds)

new_of_files : (fs : List LoadedFile) → AreNew (flat_map from_file fs)
new_of_files [] = tt
new_of_files (f ∷ fs) = all_joined (λ (g : Group). g.last ≡ None) (from_file f) (flat_map from_file fs) (new_of_file f.name f.groups) (new_of_files fs)

pub new_at_first : (names : List (List ℕ)) (fs : List LoadedFile) → AreNew (by_names names (unwaiting_groups fs))
new_at_first names fs = new_by_names names (unwaiting_groups fs) (new_of_files fs)
