-- Those that none takes are those whose numbers nothing takes.
use Rattle.std.proofs.Common.{◌≡◌, ℕ, suc, ◌+◌, ◌<◌, ◌≤◌, nat_eq, Bool, true, false, not, cond, ◌||◌, List, [], ◌∷◌, filter, map, Option, Some, None, refl, sym, ap, subst, ◌∙◌, arith}
use Rattle.std.specs.Prelude.{find}
use Rattle.std.specs.Option.{option_map}
use Rattle.pr_rule.specs.spec_rules.private.Laws.{Numbered, numbered, numbered_from, numbers_taken}
use Rattle.pr_rule.specs.spec_rules.Taking.{taken, untaken, without_first}
use Rattle.pr_group.proofs.Spared.{alike, apart, apart_too}
use Rattle.pr_group.specs.private.Matching.{is_named, kept_if, names, spared, spared_from}

abbrev items : {B : Type 0} → List (Numbered B) → List B
items ns = map (λ n. n.item) ns

-- numbers that rise
abbrev Rise : {B : Type 0} → ℕ → List (Numbered B) → Type 0
Rise from [] = Unit {0}
Rise from (o ∷ olds) = (from ≤ o.index) × Rise (suc o.index) olds

rise_from : {B : Type 0} (n m : ℕ) (olds : List (Numbered B)) → n ≤ m → Rise m olds → Rise n olds
rise_from n m [] h r = tt
rise_from n m (o ∷ olds) h r = let low : m ≤ o.index = r.0 in (omega arith, r.1)

numbered_rise : {B : Type 0} (n : ℕ) (bs : List B) → Rise n (numbered_from n bs)
numbered_rise n [] = tt
numbered_rise n (b ∷ bs) = (omega arith, let next : n + 1 ≡ suc n = omega arith in subst (λ k. Rise k (numbered_from (n + 1) bs)) next (numbered_rise (n + 1) bs))

rise_without : {B : Type 0} (p : Numbered B → Bool) (n : ℕ) (olds : List (Numbered B)) → Rise n olds → Rise n (without_first p olds)
rise_without p n [] r = tt
rise_without p n (o ∷ olds) r = by (p o) (rise_without p (suc o.index) olds r.1) where
  by : (b : Bool) → Rise (suc o.index) (without_first p olds) → Rise n (cond b olds (o ∷ without_first p olds))
  by true rest = rise_from n (suc o.index) olds (let h : n ≤ o.index = r.0 in omega arith) r.1
  by false rest = (r.0, rest)

-- The numbered ones that are not named

abbrev unnamed : {B : Type 0} → List (Option ℕ) → List (Numbered B) → List (Numbered B)
unnamed from ns = filter (λ n. not (is_named n.index from)) ns

all_unnamed : {B : Type 0} (ns : List (Numbered B)) → unnamed [] ns ≡ ns
all_unnamed [] = refl
all_unnamed (n ∷ ns) = ap (λ l. n ∷ l) (all_unnamed ns)

-- a lower number names none of them
lower : {B : Type 0} (k m : ℕ) (from : List (Option ℕ)) (ns : List (Numbered B)) → k < m → Rise m ns → unnamed (Some k ∷ from) ns ≡ unnamed from ns
lower k m from [] h r = refl
lower k m from (n ∷ ns) h r =
    let low : m ≤ n.index = r.0 in
    let other : nat_eq k n.index ≡ false = apart k n.index (omega arith) in
    let rest : unnamed (Some k ∷ from) ns ≡ unnamed from ns = lower k (suc n.index) from ns (omega arith) r.1 in
    λ i. cond (not (other i || is_named n.index from)) (n ∷ rest i) (rest i)

-- what is found is no lower
found_past : {B : Type 0} (p : Numbered B → Bool) (k m : ℕ) (ns : List (Numbered B)) → k < m → Rise m ns → names k (option_map (λ n. n.index) (find p ns)) ≡ false
found_past p k m [] h r = refl
found_past p k m (n ∷ ns) h r = by (p n) (found_past p k (suc n.index) ns (let low : m ≤ n.index = r.0 in omega arith) r.1) where
  by : (b : Bool) → names k (option_map (λ n. n.index) (find p ns)) ≡ false → names k (option_map (λ n. n.index) (cond b (Some n) (find p ns))) ≡ false
  by true rest = let low : m ≤ n.index = r.0 in apart_too n.index k (omega arith)
  by false rest = rest

-- the first that is found is named, and no other one
first_named : {B : Type 0} (p : Numbered B → Bool) (m : ℕ) (from : List (Option ℕ)) (ns : List (Numbered B)) → Rise m ns
    → unnamed from (without_first p ns) ≡ unnamed (option_map (λ n. n.index) (find p ns) ∷ from) ns
first_named p m from [] r = refl
first_named p m from (n ∷ ns) r = by (p n) (first_named p (suc n.index) from ns r.1) where
  by : (b : Bool) → unnamed from (without_first p ns) ≡ unnamed (option_map (λ n. n.index) (find p ns) ∷ from) ns
      → unnamed from (cond b ns (n ∷ without_first p ns)) ≡ unnamed (option_map (λ n. n.index) (cond b (Some n) (find p ns)) ∷ from) (n ∷ ns)
  by true rest =
      let past : unnamed (Some n.index ∷ from) ns ≡ unnamed from ns = lower n.index (suc n.index) from ns (omega arith) r.1 in
      sym past ∙ ap (λ t. cond (not (t || is_named n.index from)) (n ∷ unnamed (Some n.index ∷ from) ns) (unnamed (Some n.index ∷ from) ns)) (sym (alike n.index))
  by false rest =
      let other : names n.index (option_map (λ n. n.index) (find p ns)) ≡ false = found_past p n.index (suc n.index) ns (omega arith) r.1 in
      λ i. cond (not (sym other i || is_named n.index from)) (n ∷ rest i) (rest i)

untaken_unnamed : {A B : Type 0} (may : A → Numbered B → Bool) (news : List A) (m : ℕ) (ns : List (Numbered B)) → Rise m ns → untaken may news ns ≡ unnamed (map (option_map (λ n. n.index)) (taken may news ns)) ns
untaken_unnamed may [] m ns r = sym (all_unnamed ns)
untaken_unnamed may (a ∷ news) m ns r =
    untaken_unnamed may news m (without_first (may a) ns) (rise_without (may a) m ns r)
    ∙ first_named (may a) m (map (option_map (λ n. n.index)) (taken may news (without_first (may a) ns))) ns r

-- without numbers

others_items : {B : Type 0} (test : B → Bool) (ns : List (Numbered B)) → items (without_first (λ n. test n.item) ns) ≡ without_first test (items ns)
others_items test [] = refl
others_items test (n ∷ ns) = by (test n.item) (others_items test ns) where
  by : (b : Bool) → items (without_first (λ n. test n.item) ns) ≡ without_first test (items ns)
      → items (cond b ns (n ∷ without_first (λ n. test n.item) ns)) ≡ cond b (items ns) (n.item ∷ without_first test (items ns))
  by true h = refl
  by false h = ap (λ l. n.item ∷ l) h

untaken_items : {A B : Type 0} (may : A → B → Bool) (news : List A) (ns : List (Numbered B)) → items (untaken (λ a n. may a n.item) news ns) ≡ untaken may news (items ns)
untaken_items may [] ns = refl
untaken_items may (a ∷ news) ns = untaken_items may news (without_first (λ n. may a n.item) ns) ∙ ap (untaken may news) (others_items (may a) ns)

items_are : {B : Type 0} (i : ℕ) (bs : List B) → items (numbered_from i bs) ≡ bs
items_are i [] = refl
items_are i (b ∷ bs) = ap (λ l. b ∷ l) (items_are (i + 1) bs)

-- those that are there
abbrev pub somes : {A : Type 0} → List (Option A) → List A
somes [] = []
somes (None ∷ xs) = somes xs
somes (Some x ∷ xs) = x ∷ somes xs

spared_items : {B : Type 0} (i : ℕ) (from : List (Option ℕ)) (bs : List B) → items (unnamed from (numbered_from i bs)) ≡ somes (spared_from i from bs)
spared_items i from [] = refl
spared_items i from (b ∷ bs) = by (is_named i from) (spared_items (i + 1) from bs) where
  by : (t : Bool) → items (unnamed from (numbered_from (i + 1) bs)) ≡ somes (spared_from (i + 1) from bs)
      → items (cond (not t) (record { index = i; item = b } ∷ unnamed from (numbered_from (i + 1) bs)) (unnamed from (numbered_from (i + 1) bs))) ≡ somes (kept_if t b ∷ spared_from (i + 1) from bs)
  by true rest = rest
  by false rest = ap (λ l. b ∷ l) rest

pub unused : {A B : Type 0} (may : A → B → Bool) (news : List A) (olds : List B) → untaken may news olds ≡ somes (spared (numbers_taken may news olds) olds)
unused may news olds =
    sym (untaken_items may news (numbered olds) ∙ ap (untaken may news) (items_are 0 olds))
    ∙ ap items (untaken_unnamed (λ a n. may a n.item) news 0 (numbered olds) (numbered_rise 0 olds))
    ∙ spared_items 0 (numbers_taken may news olds) olds
