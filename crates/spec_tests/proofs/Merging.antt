-- What is in order of time, batch by batch.
use Rattle.std.proofs.Common.{◌≡◌, ℕ, ◌<◌, ◌≤◌, Bool, true, false, cond, nat_lt, nat_le, List, [], ◌∷◌, ◌++◌, filter, refl, ap, ◌∙◌, arith}
use Rattle.std.specs.List.{AllByRecursion}
use Rattle.std.proofs.lemmas.Bool.Decides.{nat_tests}
use Rattle.pr_testfile.specs.pr_rulefile.Order.{inserted, ordered}
use Rattle.spec_tests.specs.private.Sooner.{sooner, AllAt, AllFrom, AllAbove, AllUntil}

not_sooner : (a b : ℕ) → b ≤ a → nat_lt a b ≡ false
not_sooner a b h = grind (arith, nat_tests)

is_sooner : (a b : ℕ) → a < b → nat_lt a b ≡ true
is_sooner a b h = grind (arith, nat_tests)

is_until : (a b : ℕ) → a ≤ b → nat_le a b ≡ true
is_until a b h = grind (arith, nat_tests)

not_until : (a b : ℕ) → b < a → nat_le a b ≡ false
not_until a b h = grind (arith, nat_tests)

-- all of a list stay so in order
all_inserted : {X : Type 0} (P : X → Type 0) (before : X → X → Bool) (x : X) (ys : List X) → P x → AllByRecursion P ys → AllByRecursion P (inserted before x ys)
all_inserted P before x [] h hs = (h, tt)
all_inserted {X} P before x (y ∷ ys) h hs = by (before y x) (all_inserted P before x ys h hs.1) where
  by : (b : Bool) → AllByRecursion P (inserted before x ys) → AllByRecursion P (cond b (y ∷ inserted before x ys) (x ∷ y ∷ ys))
  by true more = (hs.0, more)
  by false more = (h, hs)

pub all_ordered : {X : Type 0} (P : X → Type 0) (before : X → X → Bool) (xs : List X) → AllByRecursion P xs → AllByRecursion P (ordered before xs)
all_ordered P before [] h = tt
all_ordered P before (x ∷ xs) h = all_inserted P before x (ordered before xs) h.0 (all_ordered P before xs h.1)

pub all_joined : {X : Type 0} (P : X → Type 0) (xs ys : List X) → AllByRecursion P xs → AllByRecursion P ys → AllByRecursion P (xs ++ ys)
all_joined P [] ys h k = k
all_joined P (x ∷ xs) ys h k = (h.0, all_joined P xs ys h.1 k)

pub all_weaker : {X : Type 0} (P Q : X → Type 0) → ((x : X) → P x → Q x) → (xs : List X) → AllByRecursion P xs → AllByRecursion Q xs
all_weaker P Q imp [] h = tt
all_weaker P Q imp (x ∷ xs) h = (imp x h.0, all_weaker P Q imp xs h.1)

-- an element before which none comes stands first
inserted_first : {X : Type 0} (time : X → ℕ) (x : X) (ys : List X) → AllFrom time (time x) ys → inserted (sooner time) x ys ≡ x ∷ ys
inserted_first time x [] h = refl
inserted_first time x (y ∷ ys) h = ap (λ (b : Bool). cond b (y ∷ inserted (sooner time) x ys) (x ∷ y ∷ ys)) (not_sooner (time y) (time x) h.0)

first_stays : {X : Type 0} (time : X → ℕ) (x : X) (rest : List X) → AllFrom time (time x) rest → ordered (sooner time) (x ∷ rest) ≡ x ∷ ordered (sooner time) rest
first_stays {X} time x rest h = inserted_first time x (ordered (sooner time) rest) (all_ordered (λ (y : X). time x ≤ time y) (sooner time) rest h)

same_from : {X : Type 0} (time : X → ℕ) (s t : ℕ) (xs : List X) → s ≡ t → AllFrom time t xs → AllFrom time s xs
same_from {X} time s t xs e h = all_weaker (λ (x : X). t ≤ time x) (λ (x : X). s ≤ time x) (λ (x : X) (k : t ≤ time x). omega arith) xs h

at_from : {X : Type 0} (time : X → ℕ) (t : ℕ) (xs : List X) → AllAt time t xs → AllFrom time t xs
at_from {X} time t xs h = all_weaker (λ (x : X). time x ≡ t) (λ (x : X). t ≤ time x) (λ (x : X) (k : time x ≡ t). omega arith) xs h

-- What is at the first time comes first.
pub samples_first : {X : Type 0} (time : X → ℕ) (t : ℕ) (bs rest : List X) → AllAt time t bs → AllFrom time t rest → ordered (sooner time) (bs ++ rest) ≡ bs ++ ordered (sooner time) rest
samples_first time t [] rest h k = refl
samples_first {X} time t (b ∷ bs) rest h k =
    first_stays time b (bs ++ rest) (same_from time (time b) t (bs ++ rest) h.0 (all_joined (λ (x : X). t ≤ time x) bs rest (at_from time t bs h.1) k))
    ∙ ap (λ (xs : List X). b ∷ xs) (samples_first time t bs rest h.1 k)

-- also where it stands behind what is later
one_next : {X : Type 0} (time : X → ℕ) (c : X) (xs ys : List X) → AllAbove time (time c) xs → AllFrom time (time c) ys → ordered (sooner time) (xs ++ (c ∷ ys)) ≡ c ∷ ordered (sooner time) (xs ++ ys)
one_next time c [] ys h k = first_stays time c ys k
one_next {X} time c (x ∷ xs) ys h k =
    ap (inserted (sooner time) x) (one_next time c xs ys h.1 k)
    ∙ ap (λ (b : Bool). cond b (c ∷ inserted (sooner time) x (ordered (sooner time) (xs ++ ys))) (x ∷ c ∷ ordered (sooner time) (xs ++ ys))) (is_sooner (time c) (time x) h.0)

same_above : {X : Type 0} (time : X → ℕ) (s t : ℕ) (xs : List X) → s ≡ t → AllAbove time t xs → AllAbove time s xs
same_above {X} time s t xs e h = all_weaker (λ (x : X). t < time x) (λ (x : X). s < time x) (λ (x : X) (k : t < time x). omega arith) xs h

pub rounds_next : {X : Type 0} (time : X → ℕ) (t : ℕ) (xs cs ys : List X) → AllAbove time t xs → AllAt time t cs → AllFrom time t ys
    → ordered (sooner time) (xs ++ (cs ++ ys)) ≡ cs ++ ordered (sooner time) (xs ++ ys)
rounds_next time t xs [] ys h k m = refl
rounds_next {X} time t xs (c ∷ cs) ys h k m =
    one_next time c xs (cs ++ ys) (same_above time (time c) t xs k.0 h) (same_from time (time c) t (cs ++ ys) k.0 (all_joined (λ (x : X). t ≤ time x) cs ys (at_from time t cs k.1) m))
    ∙ ap (λ (zs : List X). c ∷ zs) (rounds_next time t xs cs ys h k.1 m)

-- What happens up to a time is what is done, where all that is left is later.
none_kept : {X : Type 0} (time : X → ℕ) (t : ℕ) (xs : List X) → AllAbove time t xs → filter (λ (x : X). nat_le (time x) t) xs ≡ []
none_kept time t [] h = refl
none_kept {X} time t (x ∷ xs) h = ap (λ (b : Bool). cond b (x ∷ filter (λ (y : X). nat_le (time y) t) xs) (filter (λ (y : X). nat_le (time y) t) xs)) (not_until (time x) t h.0) ∙ none_kept time t xs h.1

all_kept : {X : Type 0} (time : X → ℕ) (t : ℕ) (done left : List X) → AllUntil time t done → AllAbove time t left → filter (λ (x : X). nat_le (time x) t) (done ++ left) ≡ done
all_kept time t [] left h k = none_kept time t left k
all_kept {X} time t (x ∷ done) left h k =
    ap (λ (b : Bool). cond b (x ∷ filter (λ (y : X). nat_le (time y) t) (done ++ left)) (filter (λ (y : X). nat_le (time y) t) (done ++ left))) (is_until (time x) t h.0)
    ∙ ap (λ (xs : List X). x ∷ xs) (all_kept time t done left h.1 k)

pub until_is : {X : Type 0} (time : X → ℕ) (t : ℕ) (done left : List X) → AllUntil time t done → AllAbove time t left
    → filter (λ (x : X). nat_le (time x) t) (done ++ ordered (sooner time) left) ≡ done
until_is {X} time t done left h k = all_kept time t done (ordered (sooner time) left) h (all_ordered (λ (x : X). t < time x) (sooner time) left k)
