-- Nothing is taken twice.
use Rattle.std.proofs.Common.{◌≡◌, ℕ, zero, suc, ◌+◌, ◌<◌, ◌≤◌, Bool, true, false, cond, ◌||◌, nat_eq, List, [], ◌∷◌, ◌++◌, append_assoc, find, length, length-append, map, slice_get, Some, refl, sym, ap, subst, ◌∙◌, arith}
use Rattle.std.specs.List.{list_any}
use Rattle.std.specs.Option.{option_map}
use Rattle.std.proofs.lemmas.Grind.{common_steps}
use Rattle.std.proofs.Math.Seq.{get_or-append_seam}
use Rattle.std.proofs.lemmas.Option.{slice_get-get_or}
use borrow.Author.Tests.{eqb-true}
use Rattle.pr_rule.specs.spec_rules.private.Laws.{Numbered, numbered, numbered_from, numbers_taken}
use Rattle.pr_rule.specs.spec_rules.Taking.{taken, without_first}

-- Numbers that rise

abbrev Rise : {B : Type 0} → ℕ → List (Numbered B) → Type 0
Rise from [] = Unit {0}
Rise from (o ∷ olds) = (from ≤ o.index) × Rise (suc o.index) olds

rise_from : {B : Type 0} (n m : ℕ) (olds : List (Numbered B)) → n ≤ m → Rise m olds → Rise n olds
rise_from n m [] h r = tt
rise_from n m (o ∷ olds) h r = (omega arith, r.1)

numbered_rise : {B : Type 0} (n : ℕ) (bs : List B) → Rise n (numbered_from n bs)
numbered_rise n [] = tt
numbered_rise n (b ∷ bs) = (omega arith, let next : n + 1 ≡ suc n = omega arith in subst (λ k. Rise k (numbered_from (n + 1) bs)) next (numbered_rise (n + 1) bs))

rise_without : {B : Type 0} (p : Numbered B → Bool) (n : ℕ) (olds : List (Numbered B)) → Rise n olds → Rise n (without_first p olds)
rise_without p n [] r = tt
rise_without p n (o ∷ olds) r = by (p o) (rise_without p (suc o.index) olds r.1) where
  by : (b : Bool) → Rise (suc o.index) (without_first p olds) → Rise n (cond b olds (o ∷ without_first p olds))
  by true rest = rise_from n (suc o.index) olds (let h : n ≤ o.index = r.0 in omega arith) r.1
  by false rest = (r.0, rest)

-- Numbers that stand there

abbrev has : {B : Type 0} → ℕ → List (Numbered B) → Bool
has n olds = list_any (λ o. nat_eq o.index n) olds

none_below : {B : Type 0} (n m : ℕ) (olds : List (Numbered B)) → n < m → Rise m olds → has n olds ≡ false
none_below n m [] h r = refl
none_below n m (o ∷ olds) h r =
    let low : m ≤ o.index = r.0 in
    let other : nat_eq o.index n ≡ false = grind (arith, common_steps) in
    let rest : has n olds ≡ false = none_below n (suc o.index) olds (omega arith) r.1 in
    ap (λ b. b || has n olds) other ∙ rest

has_before : {B : Type 0} (p : Numbered B → Bool) (n : ℕ) (olds : List (Numbered B)) → has n (without_first p olds) ≡ true → has n olds ≡ true
has_before p n [] h = h
has_before p n (o ∷ olds) h = by (p o) (nat_eq o.index n) refl h (λ k. has_before p n olds k) where
  by : (b e : Bool) → nat_eq o.index n ≡ e → has n (cond b olds (o ∷ without_first p olds)) ≡ true → (has n (without_first p olds) ≡ true → has n olds ≡ true) → (e || has n olds) ≡ true
  by b true f k more = refl
  by true false f k more = k
  by false false f k more = more (ap (λ e. e || has n (without_first p olds)) (sym f) ∙ k)

found_has : {B : Type 0} (p : Numbered B → Bool) (n : ℕ) (olds : List (Numbered B)) → option_map (λ o. o.index) (find p olds) ≡ Some n → has n olds ≡ true
found_has p n [] h = absurd (cc)
found_has p n (o ∷ olds) h = by (p o) (nat_eq o.index n) refl h (λ k. found_has p n olds k) where
  by : (b e : Bool) → nat_eq o.index n ≡ e → option_map (λ o. o.index) (cond b (Some o) (find p olds)) ≡ Some n → (option_map (λ o. o.index) (find p olds) ≡ Some n → has n olds ≡ true) → (e || has n olds) ≡ true
  by b true f k rest = refl
  by true false f k rest = let same : o.index ≡ n = cc in let yes : nat_eq o.index n ≡ true = grind (arith, common_steps) in absurd (cc)
  by false false f k rest = rest k

-- the first that is found goes, and its number with it
gone : {B : Type 0} (p : Numbered B → Bool) (n m : ℕ) (olds : List (Numbered B)) → Rise m olds → option_map (λ o. o.index) (find p olds) ≡ Some n → has n (without_first p olds) ≡ false
gone p n m [] r h = refl
gone p n m (o ∷ olds) r h = by (p o) (nat_eq o.index n) refl h (λ k. gone p n (suc o.index) olds r.1 k) where
  by : (b e : Bool) → nat_eq o.index n ≡ e → option_map (λ o. o.index) (cond b (Some o) (find p olds)) ≡ Some n → (option_map (λ o. o.index) (find p olds) ≡ Some n → has n (without_first p olds) ≡ false)
      → has n (cond b olds (o ∷ without_first p olds)) ≡ false
  by true e f k rest = let same : o.index ≡ n = cc in none_below n (suc o.index) olds (omega arith) r.1
  by false true f k rest =
      let same : o.index ≡ n = eqb-true o.index n f in
      absurd (cc (found_has p n olds k, none_below n (suc o.index) olds (omega arith) r.1))
  by false false f k rest = ap (λ e. e || has n (without_first p olds)) f ∙ rest k

taken_has : {A B : Type 0} (may : A → Numbered B → Bool) (news : List A) (olds : List (Numbered B)) (i n : ℕ) → slice_get (map (option_map (λ o. o.index)) (taken may news olds)) i ≡ Some (Some n) → has n olds ≡ true
taken_has may [] olds zero n h = absurd (cc)
taken_has may [] olds (suc i) n h = absurd (cc)
taken_has may (a ∷ news) olds zero n h = found_has (may a) n olds (cc)
taken_has may (a ∷ news) olds (suc i) n h = has_before (may a) n olds (taken_has may news (without_first (may a) olds) i n h)

taken_once : {A B : Type 0} (may : A → Numbered B → Bool) (news : List A) (m : ℕ) (olds : List (Numbered B)) (i j n : ℕ) → Rise m olds
    → slice_get (map (option_map (λ o. o.index)) (taken may news olds)) i ≡ Some (Some n) → slice_get (map (option_map (λ o. o.index)) (taken may news olds)) j ≡ Some (Some n) → i ≡ j
taken_once may [] m olds zero j n r h k = absurd (cc)
taken_once may [] m olds (suc i) j n r h k = absurd (cc)
taken_once may (a ∷ news) m olds zero zero n r h k = refl
taken_once may (a ∷ news) m olds zero (suc j) n r h k = absurd (cc (gone (may a) n m olds r (cc), taken_has may news (without_first (may a) olds) j n k))
taken_once may (a ∷ news) m olds (suc i) zero n r h k = absurd (cc (gone (may a) n m olds r (cc), taken_has may news (without_first (may a) olds) i n h))
taken_once may (a ∷ news) m olds (suc i) (suc j) n r h k = ap suc (taken_once may news m (without_first (may a) olds) i j n (rise_without (may a) m olds r) h k)

pub numbers_once : {A B : Type 0} (may : A → B → Bool) (news : List A) (olds : List B) (i j n : ℕ) → slice_get (numbers_taken may news olds) i ≡ Some (Some n) → slice_get (numbers_taken may news olds) j ≡ Some (Some n) → i ≡ j
numbers_once may news olds i j n h k = taken_once (λ a o. may a o.item) news 0 (numbered olds) i j n (numbered_rise 0 olds) h k

-- What is taken may be taken, and stands where its number says.

-- a new one and the old one that it takes
pub record Takes {A B : Type 0} (may : A → B → Bool) (news : List A) (olds : List B) (i n : ℕ) : Type 0 where
  pub new : A
  pub old : B
  pub new_is : slice_get news i ≡ Some new
  pub old_is : slice_get olds n ≡ Some old
  pub alike : may new old ≡ true

abbrev Stand : {B : Type 0} → List B → List (Numbered B) → Type 0
Stand all [] = Unit {0}
Stand all (o ∷ olds) = (slice_get all o.index ≡ Some o.item) × Stand all olds

stand_without : {B : Type 0} (all : List B) (p : Numbered B → Bool) (olds : List (Numbered B)) → Stand all olds → Stand all (without_first p olds)
stand_without all p [] h = tt
stand_without all p (o ∷ olds) h = by (p o) (stand_without all p olds h.1) where
  by : (b : Bool) → Stand all (without_first p olds) → Stand all (cond b olds (o ∷ without_first p olds))
  by true rest = h.1
  by false rest = (h.0, rest)

found_stands : {B : Type 0} (all : List B) (p : Numbered B → Bool) (n : ℕ) (olds : List (Numbered B)) → Stand all olds → option_map (λ o. o.index) (find p olds) ≡ Some n → (o : Numbered B) × ((o.index ≡ n) × ((slice_get all n ≡ Some o.item) × (p o ≡ true)))
found_stands all p n [] h k = absurd (cc)
found_stands {B} all p n (o ∷ olds) h k = by (p o) refl k (λ k. found_stands all p n olds h.1 k) where
  by : (b : Bool) → p o ≡ b → option_map (λ o. o.index) (cond b (Some o) (find p olds)) ≡ Some n → (option_map (λ o. o.index) (find p olds) ≡ Some n → (o : Numbered B) × ((o.index ≡ n) × ((slice_get all n ≡ Some o.item) × (p o ≡ true))))
      → (o : Numbered B) × ((o.index ≡ n) × ((slice_get all n ≡ Some o.item) × (p o ≡ true)))
  by true e k rest = let same : o.index ≡ n = cc in (o, (same, (ap (slice_get all) (sym same) ∙ h.0, e)))
  by false e k rest = rest k

taken_stands : {A B : Type 0} (may : A → B → Bool) (all : List B) (news : List A) (olds : List (Numbered B)) (i n : ℕ) → Stand all olds
    → slice_get (map (option_map (λ o. o.index)) (taken (λ a o. may a o.item) news olds)) i ≡ Some (Some n) → Takes may news all i n
taken_stands may all [] olds zero n s h = absurd (cc)
taken_stands may all [] olds (suc i) n s h = absurd (cc)
taken_stands may all (a ∷ news) olds zero n s h =
    let there = found_stands all (λ o. may a o.item) n olds s (cc) in
    record { new = a; old = there.0.item; new_is = refl; old_is = there.1.1.0; alike = there.1.1.1 }
taken_stands may all (a ∷ news) olds (suc i) n s h =
    let rest = taken_stands may all news (without_first (λ o. may a o.item) olds) i n (stand_without all (λ o. may a o.item) olds s) h in
    record { new = rest.new; old = rest.old; new_is = rest.new_is; old_is = rest.old_is; alike = rest.alike }

stands_behind : {B : Type 0} (before : List B) (bs : List B) (n : ℕ) → n ≡ length before → Stand (before ++ bs) (numbered_from n bs)
stands_behind before [] n h = tt
stands_behind before (b ∷ bs) n h =
    let here : slice_get (before ++ b ∷ bs) n ≡ Some b =
    ap (slice_get (before ++ b ∷ bs)) h ∙ slice_get-get_or (before ++ b ∷ bs) (length before) b (omega (arith, length-append before (b ∷ bs))) ∙ ap Some (get_or-append_seam before b bs b) in
    let size : n + 1 ≡ length (before ++ b ∷ []) = omega (arith, length-append before (b ∷ []), h) in
    (here, subst (λ l. Stand l (numbered_from (n + 1) bs)) (append_assoc before (b ∷ []) bs) (stands_behind (before ++ b ∷ []) bs (n + 1) size))

pub takes : {A B : Type 0} (may : A → B → Bool) (news : List A) (olds : List B) (i n : ℕ) → slice_get (numbers_taken may news olds) i ≡ Some (Some n) → Takes may news olds i n
takes may news olds i n h = taken_stands may olds news (numbered olds) i n (stands_behind [] olds 0 refl) h
