-- An expression at some times, one after another.
use Rattle.std.proofs.Common.{◌≡◌, ℕ, zero, suc, ◌+◌, ◌≤◌, ℤ, pos, ◌<ℤ◌, List, [], ◌∷◌, ◌++◌, take, drop, map, sum_by, slice_get, Some, Result, Ok, Err, refl, ap, ◌∙◌, arith}
use Rattle.std.proofs.lemmas.Int.{ints}
use Rattle.std.proofs.lemmas.List.Sums.{sum_by-append, sum_by-cons}
use Rattle.spec_meaning.specs.declared.fault.Fault.{Fault}
use Rattle.spec_meaning.specs.declared.value.Value.{Value}
use Rattle.spec_meaning.specs.Given.{elements_in}
use Rattle.spec_meaning.specs.Subqueries.{Taken, at_each, taken_before}
use Rattle.pr_eval.specs.private.Taken.{taken}
use Rattle.pr_eval.specs.private.Times.{AreTimesWithin}

-- a list at one of its elements
some_is : {A : Type 0} (a b : A) → Some a ≡ Some b → a ≡ b
some_is a b e = cc

next_taken : {A : Type 0} (xs : List A) (i : ℕ) (x : A) → slice_get xs i ≡ Some x → take (suc i) xs ≡ take i xs ++ x ∷ []
next_taken [] i x h = absurd cc
next_taken (y ∷ xs) zero x h = ap (λ z. z ∷ []) (some_is y x h)
next_taken (y ∷ xs) (suc i) x h = ap (λ zs. y ∷ zs) (next_taken xs i x h)

split_here : {A : Type 0} (xs : List A) (i : ℕ) (x : A) → slice_get xs i ≡ Some x → xs ≡ take i xs ++ x ∷ drop (suc i) xs
split_here [] i x h = absurd cc
split_here (y ∷ xs) zero x h = ap (λ z. z ∷ xs) (some_is y x h)
split_here (y ∷ xs) (suc i) x h = ap (λ zs. y ∷ zs) (split_here xs i x h)

-- sums up to an element
pub sum_next : {A : Type 0} (f : A → ℕ) (xs : List A) (i j : ℕ) (x : A) → j ≡ suc i → slice_get xs i ≡ Some x → sum_by f (take j xs) ≡ sum_by f (take i xs) + f x
sum_next f xs i j x next h =
    let both : sum_by f (take i xs ++ x ∷ []) ≡ sum_by f (take i xs) + (0 + f x) = sum_by-append f (take i xs) (x ∷ []) in
    let same : sum_by f (take j xs) ≡ sum_by f (take i xs ++ x ∷ []) = ap (λ k. sum_by f (take k xs)) next ∙ ap (sum_by f) (next_taken xs i x h) in
    omega (arith, both, same)

pub sum_within : {A : Type 0} (f : A → ℕ) (xs : List A) (i : ℕ) (x : A) → slice_get xs i ≡ Some x → sum_by f (take i xs) + f x ≤ sum_by f xs
sum_within f xs i x h =
    let both : sum_by f (take i xs ++ x ∷ drop (suc i) xs) ≡ sum_by f (take i xs) + sum_by f (x ∷ drop (suc i) xs) = sum_by-append f (take i xs) (x ∷ drop (suc i) xs) in
    let here : sum_by f (x ∷ drop (suc i) xs) ≡ f x + sum_by f (drop (suc i) xs) = sum_by-cons f x (drop (suc i) xs) in
    let all : sum_by f xs ≡ sum_by f (take i xs ++ x ∷ drop (suc i) xs) = ap (sum_by f) (split_here xs i x h) in
    omega (arith, both, here, all)

abbrev listed : List Taken → Result (List Taken) Fault
listed ts = Ok ts

listed_is : (ts us : List Taken) → listed ts ≡ listed us → ts ≡ us
listed_is ts us e = cc

module _ (expr : ℕ → Result Value Fault) (y : ℕ) where
  -- one time more
  at_more : (v : Value) → expr y ≡ Ok v → (xs : List ℕ) (ts : List Taken) → at_each expr xs ≡ Ok ts → at_each expr (xs ++ y ∷ []) ≡ Ok (ts ++ taken y (elements_in v) ∷ [])
  at_more v is [] ts h = ap (λ r. taken_before y r (Ok [])) is ∙ ended ts h where
    ended : (ts : List Taken) → listed [] ≡ listed ts → listed (taken y (elements_in v) ∷ []) ≡ listed (ts ++ taken y (elements_in v) ∷ [])
    ended [] h = refl
    ended (t ∷ ts) h = absurd cc
  at_more v is (x ∷ xs) ts h = by (expr x) (at_each expr xs) h (λ ms e. at_more v is xs ms e) where
    by : (r : Result Value Fault) (m : Result (List Taken) Fault) → taken_before x r m ≡ Ok ts → ((ms : List Taken) → m ≡ Ok ms → at_each expr (xs ++ y ∷ []) ≡ Ok (ms ++ taken y (elements_in v) ∷ []))
        → taken_before x r (at_each expr (xs ++ y ∷ [])) ≡ Ok (ts ++ taken y (elements_in v) ∷ [])
    by (Ok w) (Ok ms) e more = ap (taken_before x (Ok w)) (more ms refl) ∙ ap (λ us. Ok (us ++ taken y (elements_in v) ∷ [])) (listed_is (taken x (elements_in w) ∷ ms) ts e)
    by (Ok w) (Err f) e more = absurd cc
    by (Err f) m e more = absurd cc

  -- the fault of one time ends, whatever comes after it
  at_end : (f : Fault) → expr y ≡ Err f → (xs rest : List ℕ) (ts : List Taken) → at_each expr xs ≡ Ok ts → at_each expr (xs ++ y ∷ rest) ≡ Err f
  at_end f is [] rest ts h = ap (λ r. taken_before y r (at_each expr rest)) is
  at_end f is (x ∷ xs) rest ts h = by (expr x) (at_each expr xs) h (λ ms e. at_end f is xs rest ms e) where
    by : (r : Result Value Fault) (m : Result (List Taken) Fault) → taken_before x r m ≡ Ok ts → ((ms : List Taken) → m ≡ Ok ms → at_each expr (xs ++ y ∷ rest) ≡ Err f) → taken_before x r (at_each expr (xs ++ y ∷ rest)) ≡ Err f
    by (Ok w) (Ok ms) e more = ap (taken_before x (Ok w)) (more ms refl)
    by (Ok w) (Err g) e more = absurd cc
    by (Err g) m e more = absurd cc

pub each_more : (expr : ℕ → Result Value Fault) (times : List ℕ) (i j time : ℕ) (v : Value) (ts : List Taken) → j ≡ suc i → slice_get times i ≡ Some time → at_each expr (take i times) ≡ Ok ts → expr time ≡ Ok v
    → at_each expr (take j times) ≡ Ok (ts ++ taken time (elements_in v) ∷ [])
each_more expr times i j time v ts next at h is = ap (λ k. at_each expr (take k times)) next ∙ ap (at_each expr) (next_taken times i time at) ∙ at_more expr time v is (take i times) ts h

pub each_ends : (expr : ℕ → Result Value Fault) (times : List ℕ) (i time : ℕ) (f : Fault) (ts : List Taken) → slice_get times i ≡ Some time → at_each expr (take i times) ≡ Ok ts → expr time ≡ Err f
    → at_each expr times ≡ Err f
each_ends expr times i time f ts at h is = ap (at_each expr) (split_here times i time at) ∙ at_end expr time f is (take i times) (drop (suc i) times) ts h

-- each has the time at which it was taken
pub times_taken : (expr : ℕ → Result Value Fault) (times : List ℕ) (ts : List Taken) → at_each expr times ≡ Ok ts → times ≡ map (λ t. t.time) ts
times_taken expr [] ts h = none ts h where
  none : (ts : List Taken) → listed [] ≡ listed ts → [] ≡ map (λ t. t.time) ts
  none [] h = refl
  none (t ∷ ts) h = absurd cc
times_taken expr (x ∷ xs) ts h = by (expr x) (at_each expr xs) h (λ ms e. times_taken expr xs ms e) where
  by : (r : Result Value Fault) (m : Result (List Taken) Fault) → taken_before x r m ≡ Ok ts → ((ms : List Taken) → m ≡ Ok ms → xs ≡ map (λ t. t.time) ms) → x ∷ xs ≡ map (λ t. t.time) ts
  by (Ok w) (Ok ms) e more = ap (λ us. x ∷ us) (more ms refl) ∙ ap (map (λ t. t.time)) (listed_is (taken x (elements_in w) ∷ ms) ts e)
  by (Ok w) (Err f) e more = absurd cc
  by (Err f) m e more = absurd cc

-- a time in a range is after its start
pub time_after : (from to : ℤ) (times : List ℕ) (i time : ℕ) → AreTimesWithin from to times → slice_get times i ≡ Some time → from <ℤ pos time
time_after from to [] i time h at = absurd cc
time_after from to (t ∷ times) zero time h at = first t at h.0 where
  first : (t : ℕ) → Some t ≡ Some time → from <ℤ pos t → from <ℤ pos time
  first t e k = let same : t ≡ time = cc in omega (arith, ints, same, k)
time_after from to (t ∷ times) (suc i) time h at =
    let later : pos t <ℤ pos time = time_after (pos t) to times i time h.2 at in
    let before : from <ℤ pos t = h.0 in
    omega (arith, ints, later, before)
