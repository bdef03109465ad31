-- Lists, element by element.
use Rattle.std.proofs.Common.{◌≡◌, ℕ, zero, suc, ◌+◌, ◌<◌, ◌≤◌, Bool, true, false, cond, List, [], ◌∷◌, ◌++◌, filter, take, length, slice_get, Some, refl, sym, ap, subst, ◌∙◌, arith, append_assoc, append-nil}
use Rattle.std.specs.Prelude.{slice_set}
use Rattle.std.specs.List.{AllZip, flat_map}

take_next : {X : Type 0} (xs : List X) (k : ℕ) (x : X) → slice_get xs k ≡ Some x → take (suc k) xs ≡ take k xs ++ x ∷ []
take_next [] k x h = absurd cc
take_next (y ∷ xs) zero x h = let e : y ≡ x = cc in ap (λ z. z ∷ []) e
take_next (y ∷ xs) (suc k) x h = ap (λ l. y ∷ l) (take_next xs k x h)

one_on : (k : ℕ) → k + 1 ≡ suc k
one_on k = omega arith

pub take_there : {X : Type 0} (xs : List X) (k : ℕ) (x : X) → slice_get xs k ≡ Some x → take (k + 1) xs ≡ take k xs ++ x ∷ []
take_there xs k x h = ap (λ n. take n xs) (one_on k) ∙ take_next xs k x h

pub take_whole : {X : Type 0} (xs : List X) (n : ℕ) → length xs ≤ n → take n xs ≡ xs
take_whole [] zero h = refl
take_whole [] (suc n) h = refl
take_whole (x ∷ xs) zero h = absurd (omega arith)
take_whole (x ∷ xs) (suc n) h = ap (λ l. x ∷ l) (take_whole xs n (omega arith))

pub within_list : {X : Type 0} (xs : List X) (k : ℕ) (x : X) → slice_get xs k ≡ Some x → k < length xs
within_list [] k x h = absurd cc
within_list (y ∷ xs) zero x h = omega arith
within_list (y ∷ xs) (suc k) x h = let m : k < length xs = within_list xs k x h in omega arith

-- an element that is there
pub record IsThere {X : Type 0} (xs : List X) (k : ℕ) : Type 0 where
  pub element : X
  pub there : slice_get xs k ≡ Some element

pub there_within : {X : Type 0} (xs : List X) (k : ℕ) → k < length xs → IsThere xs k
there_within [] k h = absurd (omega arith)
there_within (x ∷ xs) zero h = record { element = x; there = refl }
there_within (x ∷ xs) (suc k) h = let t = there_within xs k (omega arith) in record { element = t.element; there = t.there }

pub same_there : {X : Type 0} (xs : List X) (k : ℕ) (x y : X) → slice_get xs k ≡ Some x → slice_get xs k ≡ Some y → x ≡ y
same_there xs k x y h g = let e : Some x ≡ Some y = sym h ∙ g in cc

-- writes
pub set_here : {X : Type 0} (xs : List X) (i : ℕ) (x y : X) → slice_get (slice_set xs i y) i ≡ Some x → x ≡ y
set_here [] i x y h = absurd cc
set_here (z ∷ xs) zero x y h = cc
set_here (z ∷ xs) (suc i) x y h = set_here xs i x y h

pub set_length : {X : Type 0} (xs : List X) (i : ℕ) (y : X) → length (slice_set xs i y) ≡ length xs
set_length [] i y = refl
set_length (z ∷ xs) zero y = refl
set_length (z ∷ xs) (suc i) y = ap suc (set_length xs i y)

-- place by place
pub zip_there : {X Y : Type 0} (P : X → Y → Type 0) (xs : List X) (ys : List Y) → AllZip P xs ys → (i : ℕ) (x : X) (y : Y) → slice_get xs i ≡ Some x → slice_get ys i ≡ Some y → P x y
zip_there P [] ys h i x y a b = absurd cc
zip_there P (u ∷ xs) [] h i x y a b = absurd h
zip_there P (u ∷ xs) (v ∷ ys) h zero x y a b =
    let e : u ≡ x = cc in let f : v ≡ y = cc in subst (λ z. P z y) e (subst (P u) f h.0)
zip_there P (u ∷ xs) (v ∷ ys) h (suc i) x y a b = zip_there P xs ys h.1 i x y a b

pub zip_each : {X Y : Type 0} (P : X → Y → Type 0) (xs : List X) (ys : List Y) → length xs ≡ length ys
    → ((i : ℕ) (x : X) (y : Y) → slice_get xs i ≡ Some x → slice_get ys i ≡ Some y → P x y) → AllZip P xs ys
zip_each P [] [] e h = tt
zip_each P [] (y ∷ ys) e h = absurd (omega arith)
zip_each P (x ∷ xs) [] e h = absurd (omega arith)
zip_each P (x ∷ xs) (y ∷ ys) e h = (h 0 x y refl refl, zip_each P xs ys (omega arith) (λ i u v a b. h (suc i) u v a b))

pub zip_long : {X Y : Type 0} (P : X → Y → Type 0) (xs : List X) (ys : List Y) → AllZip P xs ys → length xs ≡ length ys
zip_long P [] [] h = refl
zip_long P [] (y ∷ ys) h = absurd h
zip_long P (x ∷ xs) [] h = absurd h
zip_long P (x ∷ xs) (y ∷ ys) h = ap suc (zip_long P xs ys h.1)

pub zip_joined : {X Y : Type 0} (P : X → Y → Type 0) (xs us : List X) (ys vs : List Y) → AllZip P xs ys → AllZip P us vs → AllZip P (xs ++ us) (ys ++ vs)
zip_joined P [] us [] vs h k = k
zip_joined P [] us (y ∷ ys) vs h k = absurd h
zip_joined P (x ∷ xs) us [] vs h k = absurd h
zip_joined P (x ∷ xs) us (y ∷ ys) vs h k = (h.0, zip_joined P xs us ys vs h.1 k)

-- those that pass a test stay side by side, where both sides pass alike
pub zip_filtered : {X Y : Type 0} (P : X → Y → Type 0) (p : X → Bool) (q : Y → Bool) → ((x : X) (y : Y) → P x y → p x ≡ q y) → (xs : List X) (ys : List Y) → AllZip P xs ys
    → AllZip P (filter p xs) (filter q ys)
zip_filtered P p q alike [] [] h = tt
zip_filtered P p q alike [] (y ∷ ys) h = absurd h
zip_filtered P p q alike (x ∷ xs) [] h = absurd h
zip_filtered {X} {Y} P p q alike (x ∷ xs) (y ∷ ys) h = by (p x) (q y) (alike x y h.0) (zip_filtered P p q alike xs ys h.1) where
  by : (b c : Bool) → b ≡ c → AllZip P (filter p xs) (filter q ys) → AllZip P (cond b (x ∷ filter p xs) (filter p xs)) (cond c (y ∷ filter q ys) (filter q ys))
  by true true e rest = (h.0, rest)
  by true false e rest = absurd cc
  by false true e rest = absurd cc
  by false false e rest = rest

pub flat_joined : {X Y : Type 0} (f : X → List Y) (xs ys : List X) → flat_map f (xs ++ ys) ≡ flat_map f xs ++ flat_map f ys
flat_joined f [] ys = refl
flat_joined f (x ∷ xs) ys = ap (λ l. f x ++ l) (flat_joined f xs ys) ∙ sym (append_assoc (f x) (flat_map f xs) (flat_map f ys))

pub none_of : {X : Type 0} (xs : List X) → length xs ≡ 0 → xs ≡ []
none_of [] h = refl
none_of (x ∷ xs) h = absurd (omega arith)

-- nothing is left to be put behind
pub all_joined : {X Y : Type 0} (f : List X → List Y) (before all : List Y) (rest : List X) → f [] ≡ [] → rest ≡ [] → before ++ f rest ≡ all → before ≡ all
all_joined f before all rest empty none h =
    sym (append-nil before) ∙ ap (λ l. before ++ l) (sym empty) ∙ ap (λ l. before ++ f l) (sym none) ∙ h
