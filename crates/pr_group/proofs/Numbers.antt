-- Which numbers are taken, where old and new ones are seen through something else; and what stands
-- under them.
use Rattle.std.proofs.Common.{◌≡◌, ℕ, zero, suc, ◌+◌, Bool, true, false, cond, List, [], ◌∷◌, ◌++◌, append_assoc, get_or, length, length-append, map, slice_get, Option, Some, None, refl, sym, ap, subst, ◌∙◌, arith}
use Rattle.std.specs.Prelude.{find}
use Rattle.std.specs.List.{zip}
use Rattle.std.specs.Option.{option_and_then, option_map}
use Rattle.pr_rule.specs.spec_rules.private.Laws.{Numbered, numbered, numbered_from, numbers_taken}
use Rattle.pr_rule.specs.spec_rules.Taking.{taken, without_first}

abbrev renamed : {B D : Type 0} → (B → D) → List (Numbered B) → List (Numbered D)
renamed g ns = map (λ n. record { index = n.index; item = g n.item }) ns

numbered_mapped : {B D : Type 0} (g : B → D) (i : ℕ) (bs : List B) → numbered_from i (map g bs) ≡ renamed g (numbered_from i bs)
numbered_mapped g i [] = refl
numbered_mapped g i (b ∷ bs) = ap (λ l. record { index = i; item = g b } ∷ l) (numbered_mapped g (i + 1) bs)

find_mapped : {B D : Type 0} (g : B → D) (p : D → Bool) (ns : List (Numbered B))
    → option_map (λ n. n.index) (find (λ n. p n.item) (renamed g ns)) ≡ option_map (λ n. n.index) (find (λ n. p (g n.item)) ns)
find_mapped g p [] = refl
find_mapped g p (n ∷ ns) = by (p (g n.item)) (find_mapped g p ns) where
  by : (b : Bool) → option_map (λ n. n.index) (find (λ n. p n.item) (renamed g ns)) ≡ option_map (λ n. n.index) (find (λ n. p (g n.item)) ns)
      → option_map (λ n. n.index) (cond b (Some (record { index = n.index; item = g n.item })) (find (λ n. p n.item) (renamed g ns))) ≡ option_map (λ n. n.index) (cond b (Some n) (find (λ n. p (g n.item)) ns))
  by true h = refl
  by false h = h

without_mapped : {B D : Type 0} (g : B → D) (p : D → Bool) (ns : List (Numbered B)) → without_first (λ n. p n.item) (renamed g ns) ≡ renamed g (without_first (λ n. p (g n.item)) ns)
without_mapped g p [] = refl
without_mapped g p (n ∷ ns) = by (p (g n.item)) (without_mapped g p ns) where
  by : (b : Bool) → without_first (λ n. p n.item) (renamed g ns) ≡ renamed g (without_first (λ n. p (g n.item)) ns)
      → cond b (renamed g ns) (record { index = n.index; item = g n.item } ∷ without_first (λ n. p n.item) (renamed g ns)) ≡ renamed g (cond b ns (n ∷ without_first (λ n. p (g n.item)) ns))
  by true h = refl
  by false h = ap (λ l. record { index = n.index; item = g n.item } ∷ l) h

taken_mapped : {A B C D : Type 0} (may : C → D → Bool) (f : A → C) (g : B → D) (xs : List A) (ns : List (Numbered B))
    → map (option_map (λ n. n.index)) (taken (λ c n. may c n.item) (map f xs) (renamed g ns)) ≡ map (option_map (λ n. n.index)) (taken (λ a n. may (f a) (g n.item)) xs ns)
taken_mapped may f g [] ns = refl
taken_mapped may f g (a ∷ xs) ns = λ i. find_mapped g (may (f a)) ns i
    ∷ (ap (λ l. map (option_map (λ n. n.index)) (taken (λ c n. may c n.item) (map f xs) l)) (without_mapped g (may (f a)) ns) ∙ taken_mapped may f g xs (without_first (λ n. may (f a) (g n.item)) ns)) i

pub numbers_mapped : {A B C D : Type 0} (may : C → D → Bool) (f : A → C) (g : B → D) (xs : List A) (bs : List B)
    → numbers_taken may (map f xs) (map g bs) ≡ numbers_taken (λ a b. may (f a) (g b)) xs bs
numbers_mapped may f g xs bs =
    ap (λ l. map (option_map (λ n. n.index)) (taken (λ c n. may c n.item) (map f xs) l)) (numbered_mapped g 0 bs) ∙ taken_mapped may f g xs (numbered bs)

-- What is taken, with its number

abbrev pub numbered_as : {B : Type 0} → ℕ → Option B → Option (Numbered B)
numbered_as n None = None
numbered_as n (Some b) = Some (record { index = n; item = b })

abbrev pub numbered_at : {B : Type 0} → List B → ℕ → Option (Numbered B)
numbered_at all n = numbered_as n (slice_get all n)

abbrev Stand : {B : Type 0} → List B → List (Numbered B) → Type 0
Stand all [] = Unit {0}
Stand all (n ∷ ns) = (slice_get all n.index ≡ Some n.item) × Stand all ns

at_end : {B : Type 0} (before : List B) (b : B) (bs : List B) → slice_get (before ++ b ∷ bs) (length before) ≡ Some b
at_end [] b bs = refl
at_end (first ∷ before) b bs = at_end before b bs

numbered_stand : {B : Type 0} (before bs : List B) → Stand (before ++ bs) (numbered_from (length before) bs)
numbered_stand before [] = tt
numbered_stand before (b ∷ bs) = (
  at_end before b bs,
  subst (λ n. Stand (before ++ b ∷ bs) (numbered_from n bs)) (length-append before (b ∷ []))
      (subst (λ l. Stand l (numbered_from (length (before ++ b ∷ [])) bs)) (append_assoc before (b ∷ []) bs) (numbered_stand (before ++ b ∷ []) bs)),
)

others_stand : {B : Type 0} (all : List B) (test : Numbered B → Bool) (ns : List (Numbered B)) → Stand all ns → Stand all (without_first test ns)
others_stand all test [] h = tt
others_stand all test (n ∷ ns) h = by (test n) (others_stand all test ns h.1) where
  by : (b : Bool) → Stand all (without_first test ns) → Stand all (cond b ns (n ∷ without_first test ns))
  by true k = h.1
  by false k = (h.0, k)

found_numbered : {B : Type 0} (all : List B) (test : Numbered B → Bool) (ns : List (Numbered B)) → Stand all ns
    → find test ns ≡ option_and_then (numbered_at all) (option_map (λ n. n.index) (find test ns))
found_numbered all test [] h = refl
found_numbered all test (n ∷ ns) h = by (test n) (found_numbered all test ns h.1) where
  by : (b : Bool) → find test ns ≡ option_and_then (numbered_at all) (option_map (λ n. n.index) (find test ns))
      → cond b (Some n) (find test ns) ≡ option_and_then (numbered_at all) (option_map (λ n. n.index) (cond b (Some n) (find test ns)))
  by true k = ap (numbered_as n.index) (sym h.0)
  by false k = k

stand_numbered : {A B : Type 0} (all : List B) (may : A → Numbered B → Bool) (news : List A) (ns : List (Numbered B)) → Stand all ns
    → taken may news ns ≡ map (option_and_then (numbered_at all)) (map (option_map (λ n. n.index)) (taken may news ns))
stand_numbered all may [] ns h = refl
stand_numbered all may (a ∷ news) ns h =
    λ i. found_numbered all (may a) ns h i ∷ stand_numbered all may news (without_first (may a) ns) (others_stand all (may a) ns h) i

pub taken_numbered : {A B : Type 0} (may : A → B → Bool) (news : List A) (olds : List B)
    → taken (λ a n. may a n.item) news (numbered olds) ≡ map (option_and_then (numbered_at olds)) (numbers_taken may news olds)
taken_numbered may news olds = stand_numbered olds (λ a n. may a n.item) news (numbered olds) (numbered_stand [] olds)

pub numbers_count : {A B : Type 0} (may : A → B → Bool) (news : List A) (olds : List B) → length (numbers_taken may news olds) ≡ length news
numbers_count {A} {B} may news olds = by news (numbered olds) where
  by : (news : List A) (ns : List (Numbered B)) → length (map (option_map (λ n. n.index)) (taken (λ a n. may a n.item) news ns)) ≡ length news
  by [] ns = refl
  by (a ∷ news) ns = ap suc (by news (without_first (λ n. may a n.item) ns))

-- Places

pub zip_at : {A B C : Type 0} (f : A × B → C) (xs : List A) (ys : List B) (i : ℕ) (x : A) (y : B) → slice_get xs i ≡ Some x → slice_get ys i ≡ Some y → slice_get (map f (zip xs ys)) i ≡ Some (f (x, y))
zip_at f [] ys zero x y h k = absurd (cc)
zip_at f [] ys (suc i) x y h k = absurd (cc)
zip_at f (a ∷ xs) [] zero x y h k = absurd (cc)
zip_at f (a ∷ xs) [] (suc i) x y h k = absurd (cc)
zip_at f (a ∷ xs) (b ∷ ys) zero x y h k = let first : a ≡ x = cc in let second : b ≡ y = cc in λ j. Some (f (first j, second j))
zip_at f (a ∷ xs) (b ∷ ys) (suc i) x y h k = zip_at f xs ys i x y h k

pub zip_none : {A B C : Type 0} (f : A × B → C) (xs : List A) (ys : List B) (i : ℕ) (d : C) → slice_get xs i ≡ None → get_or (map f (zip xs ys)) i d ≡ d
zip_none f [] ys zero d h = refl
zip_none f [] ys (suc i) d h = refl
zip_none f (x ∷ xs) [] zero d h = refl
zip_none f (x ∷ xs) [] (suc i) d h = refl
zip_none f (x ∷ xs) (y ∷ ys) zero d h = absurd (cc)
zip_none f (x ∷ xs) (y ∷ ys) (suc i) d h = zip_none f xs ys i d h

pub none_at : {A B : Type 0} (xs : List A) (ys : List B) (i : ℕ) → length xs ≡ length ys → slice_get xs i ≡ None → slice_get ys i ≡ None
none_at [] [] zero e h = refl
none_at [] [] (suc i) e h = refl
none_at [] (y ∷ ys) i e h = absurd (omega arith)
none_at (x ∷ xs) [] i e h = absurd (omega arith)
none_at (x ∷ xs) (y ∷ ys) zero e h = absurd (cc)
none_at (x ∷ xs) (y ∷ ys) (suc i) e h = none_at xs ys i (omega arith) h
