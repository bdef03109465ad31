-- What waits, and what is taken, one more at a time.
use Rattle.std.proofs.Common.{◌≡◌, ℕ, ◌+◌, ◌<◌, Bool, true, false, cond, List, [], ◌∷◌, ◌++◌, filter, map, find, length, get_or, take, drop, Option, Some, refl, sym, ap, subst, ◌∙◌, arith}
use Rattle.std.specs.Option.{option_map}
use Rattle.std.specs.Str.{bytes_eq}
use Rattle.std.proofs.lemmas.List.{append-nil, length-take-le, map-append, take_more}
use Rattle.std.proofs.lemmas.List.Elements.{filter-append}
use Rattle.std.proofs.lemmas.Slice.Eq.{bytes_eq-Decides}
use Rattle.pr_rule.specs.spec_rules.private.Laws.{Numbered, numbered, numbered_from, numbers_taken}
use Rattle.pr_rule.specs.spec_rules.Taking.{taken, untaken, without_first}
use Rattle.pr_group.specs.private.Waiting.{AreWaiting, first_of_queue, numbers_with, waiting_for}

-- Equal bytes

pub same_bytes : (a b : List ℕ) → bytes_eq a b ≡ true → a ≡ b
same_bytes a b h = (bytes_eq-Decides a b).0 h

pub equal_bytes : (a b : List ℕ) → a ≡ b → bytes_eq a b ≡ true
equal_bytes a b h = (bytes_eq-Decides a b).1 h

other_bytes : (b : Bool) (p q r : List ℕ) → p ≡ q → bytes_eq p r ≡ false → bytes_eq q r ≡ b → b ≡ false
other_bytes true p q r e f g = absurd (cc (ap (λ x. bytes_eq x r) e))
other_bytes false p q r e f g = refl

pub bytes_other_way : (a b : List ℕ) → bytes_eq a b ≡ bytes_eq b a
bytes_other_way a b = by (bytes_eq a b) (bytes_eq b a) refl refl where
  by : (s t : Bool) → bytes_eq a b ≡ s → bytes_eq b a ≡ t → s ≡ t
  by true t h k = sym (equal_bytes b a (sym (same_bytes a b h))) ∙ k
  by false true h k = sym h ∙ equal_bytes a b (sym (same_bytes b a k))
  by false false h k = refl

-- One more

pub taken_more : {A B : Type 0} (may : A → B → Bool) (news : List A) (a : A) (olds : List B) → taken may (news ++ a ∷ []) olds ≡ taken may news olds ++ find (may a) (untaken may news olds) ∷ []
taken_more may [] a olds = refl
taken_more may (n ∷ news) a olds = ap (λ l. find (may n) olds ∷ l) (taken_more may news a (without_first (may n) olds))

pub untaken_more : {A B : Type 0} (may : A → B → Bool) (news : List A) (a : A) (olds : List B) → untaken may (news ++ a ∷ []) olds ≡ without_first (may a) (untaken may news olds)
untaken_more may [] a olds = refl
untaken_more may (n ∷ news) a olds = untaken_more may news a (without_first (may n) olds)

pub numbered_more : {B : Type 0} (n : ℕ) (bs : List B) (b : B) → numbered_from n (bs ++ b ∷ []) ≡ numbered_from n bs ++ record { index = n + length bs; item = b } ∷ []
numbered_more n [] b = let same : n ≡ n + 0 = omega arith in ap (λ k. record { index = k; item = b } ∷ []) same
numbered_more n (c ∷ bs) b =
    let same : n + 1 + length bs ≡ n + length (c ∷ bs) = omega arith in
    ap (λ l. record { index = n; item = c } ∷ l) (numbered_more (n + 1) bs b) ∙ ap (λ k. record { index = n; item = c } ∷ (numbered_from (n + 1) bs ++ record { index = k; item = b } ∷ [])) same

-- What waits under a key

first_waits : {U : Type 0} (may : U → U → Bool) (key_of : U → List ℕ) → ((a b : U) → may a b ≡ bytes_eq (key_of a) (key_of b)) → (a : U) (olds : List (Numbered U))
    → first_of_queue (numbers_with key_of (key_of a) olds) ≡ option_map (λ n. n.index) (find (λ n. may a n.item) olds)
first_waits may key_of same a [] = refl
first_waits {U} may key_of same a (o ∷ olds) =
    subst (λ t. first_of_queue (map (λ n. n.index) (cond t (o ∷ others) others)) ≡ option_map (λ n. n.index) (cond (may a o.item) (Some o) (find (λ n. may a n.item) olds))) (same a o.item)
    (by (may a o.item) (first_waits may key_of same a olds)) where
      others : List (Numbered U)
      others = filter (λ n. bytes_eq (key_of a) (key_of n.item)) olds

      by : (b : Bool) → first_of_queue (map (λ n. n.index) others) ≡ option_map (λ n. n.index) (find (λ n. may a n.item) olds)
          → first_of_queue (map (λ n. n.index) (cond b (o ∷ others) others)) ≡ option_map (λ n. n.index) (cond b (Some o) (find (λ n. may a n.item) olds))
      by true rest = refl
      by false rest = rest

kind_of_first : {U : Type 0} (p : Numbered U → Bool) (m : Bool) (xs ys : List (Numbered U)) → filter p (cond m xs ys) ≡ cond m (filter p xs) (filter p ys)
kind_of_first p true xs ys = refl
kind_of_first p false xs ys = refl

first_goes : {U : Type 0} (o : Numbered U) (fs ws : List (Numbered U)) (m t k : Bool) → (m ≡ true → t ≡ k) → (m ≡ false → k ≡ true → t ≡ false)
    → map (λ n. n.index) ws ≡ cond k (drop 1 (map (λ n. n.index) fs)) (map (λ n. n.index) fs)
    → map (λ n. n.index) (cond m fs (cond t (o ∷ ws) ws)) ≡ cond k (drop 1 (map (λ n. n.index) (cond t (o ∷ fs) fs))) (map (λ n. n.index) (cond t (o ∷ fs) fs))
first_goes o fs ws true true true e f rest = refl
first_goes o fs ws true true false e f rest = absurd (cc (e refl))
first_goes o fs ws true false true e f rest = absurd (cc (e refl))
first_goes o fs ws true false false e f rest = refl
first_goes o fs ws false true true e f rest = absurd (cc (f refl refl))
first_goes o fs ws false true false e f rest = ap (λ l. o.index ∷ l) rest
first_goes o fs ws false false k e f rest = rest

-- the first of a kind waits no more
rest_waits : {U : Type 0} (may : U → U → Bool) (key_of : U → List ℕ) → ((a b : U) → may a b ≡ bytes_eq (key_of a) (key_of b)) → (a : U) (olds : List (Numbered U)) (q : List ℕ)
    → numbers_with key_of q (without_first (λ n. may a n.item) olds) ≡ cond (bytes_eq (key_of a) q) (drop 1 (numbers_with key_of q olds)) (numbers_with key_of q olds)
rest_waits may key_of same a [] q = by (bytes_eq (key_of a) q) where
  nothing : List ℕ
  nothing = []

  by : (b : Bool) → nothing ≡ cond b (drop 1 nothing) nothing
  by true = refl
  by false = refl
rest_waits may key_of same a (o ∷ olds) q =
    ap (λ l. map (λ n. n.index) l) (kind_of_first (λ n. bytes_eq q (key_of n.item)) (may a o.item) olds (o ∷ without_first (λ n. may a n.item) olds))
    ∙ first_goes o (filter (λ n. bytes_eq q (key_of n.item)) olds) (filter (λ n. bytes_eq q (key_of n.item)) (without_first (λ n. may a n.item) olds)) (may a o.item) (bytes_eq q (key_of o.item)) (bytes_eq (key_of a) q)
    (λ yes. let one : key_of a ≡ key_of o.item = same_bytes (key_of a) (key_of o.item) (sym (same a o.item) ∙ yes) in bytes_other_way q (key_of o.item) ∙ ap (λ x. bytes_eq x q) (sym one))
    (λ no one. ap (λ x. bytes_eq x (key_of o.item)) (sym (same_bytes (key_of a) q one)) ∙ sym (same a o.item) ∙ no)
    (rest_waits may key_of same a olds q)

-- The waiting numbers of those that are left

pub wait_less : {U : Type 0} (may : U → U → Bool) (key_of : U → List ℕ) → ((a b : U) → may a b ≡ bytes_eq (key_of a) (key_of b)) → (a : U) (olds : List (Numbered U)) (before after : List (List ℕ × List ℕ)) (key : List ℕ)
    → key ≡ key_of a → AreWaiting key_of before olds → ((q : List ℕ) → waiting_for after q ≡ cond (bytes_eq key q) (drop 1 (waiting_for before q)) (waiting_for before q)) → AreWaiting key_of after (without_first (λ n. may a n.item) olds)
wait_less may key_of same a olds before after key is wait goes = λ q. goes q ∙ ap (λ x. cond (bytes_eq x q) (drop 1 (waiting_for before q)) (waiting_for before q)) is
    ∙ ap (λ (l : List ℕ). cond (bytes_eq (key_of a) q) (drop 1 l) l) (wait q) ∙ sym (rest_waits may key_of same a olds q)

pub wait_more : {U : Type 0} (key_of : U → List ℕ) (olds : List (Numbered U)) (o : Numbered U) (before after : List (List ℕ × List ℕ)) (key : List ℕ)
    → key ≡ key_of o.item → AreWaiting key_of before olds → ((q : List ℕ) → waiting_for after q ≡ cond (bytes_eq key q) (waiting_for before q ++ o.index ∷ []) (waiting_for before q)) → AreWaiting key_of after (olds ++ o ∷ [])
wait_more {U} key_of olds o before after key is wait goes = λ q. goes q ∙ ap (λ x. cond (bytes_eq x q) (waiting_for before q ++ o.index ∷ []) (waiting_for before q)) is
    ∙ ap (λ (l : List ℕ). cond (bytes_eq (key_of o.item) q) (l ++ o.index ∷ []) l) (wait q) ∙ ap (λ b. cond b (numbers_with key_of q olds ++ o.index ∷ []) (numbers_with key_of q olds)) (bytes_other_way (key_of o.item) q)
    ∙ by q (bytes_eq q (key_of o.item)) ∙ sym (ap (λ l. map (λ n. n.index) l) (filter-append (λ n. bytes_eq q (key_of n.item)) olds (o ∷ []))) where
      by : (q : List ℕ) (b : Bool) → cond b (numbers_with key_of q olds ++ o.index ∷ []) (numbers_with key_of q olds) ≡ map (λ n. n.index) (filter (λ n. bytes_eq q (key_of n.item)) olds ++ cond b (o ∷ []) [])
      by q true = sym (map-append (λ (n : Numbered U). n.index) (filter (λ n. bytes_eq q (key_of n.item)) olds) (o ∷ []))
      by q false = ap (λ l. map (λ n. n.index) l) (sym (append-nil (filter (λ n. bytes_eq q (key_of n.item)) olds)))

-- the next of a list
pub next_of : {A : Type 0} (i : ℕ) (xs : List A) (x : A) → i < length xs → x ≡ get_or xs i x → take (i + 1) xs ≡ take i xs ++ x ∷ []
next_of i xs x h is = take_more xs i x h ∙ ap (λ y. take i xs ++ y ∷ []) (sym is)

pub one_waits : {U : Type 0} (key_of : U → List ℕ) (old : List U) (i : ℕ) (o : U) (before after : List (List ℕ × List ℕ)) (key : List ℕ) → i < length old → o ≡ get_or old i o → key ≡ key_of o
    → AreWaiting key_of before (numbered (take i old)) → ((q : List ℕ) → waiting_for after q ≡ cond (bytes_eq key q) (waiting_for before q ++ i ∷ []) (waiting_for before q)) → AreWaiting key_of after (numbered (take (i + 1) old))
one_waits key_of old i o before after key h is k wait goes =
    let all : numbered (take (i + 1) old) ≡ numbered (take i old) ++ record { index = i; item = o } ∷ [] =
    ap numbered (next_of i old o h is) ∙ numbered_more 0 (take i old) o ∙ ap (λ m. numbered (take i old) ++ record { index = m; item = o } ∷ []) (let size : length (take i old) ≡ i = length-take-le i old (omega arith) in omega arith) in
    subst (AreWaiting key_of after) (sym all) (wait_more key_of (numbered (take i old)) (record { index = i; item = o }) before after key k wait goes)

-- what is taken so far
pub one_taken : {U : Type 0} (may : U → U → Bool) (key_of : U → List ℕ) → ((a b : U) → may a b ≡ bytes_eq (key_of a) (key_of b)) → (new old : List U) (i : ℕ) (a : U) (done done' : List (Option ℕ)) (choice : Option ℕ) (queues : List (List ℕ × List ℕ)) (key : List ℕ)
    → i < length new → a ≡ get_or new i a → key ≡ key_of a → done ≡ numbers_taken may (take i new) old → AreWaiting key_of queues (untaken (λ a n. may a n.item) (take i new) (numbered old))
    → choice ≡ first_of_queue (waiting_for queues key) → done' ≡ done ++ choice ∷ [] → done' ≡ numbers_taken may (take (i + 1) new) old
one_taken {U} may key_of same new old i a done done' choice queues key h is k before wait chosen grown =
    let left : List (Numbered U) = untaken (λ a n. may a n.item) (take i new) (numbered old) in
    let choice_is : choice ≡ option_map (λ n. n.index) (find (λ n. may a n.item) left) =
    chosen ∙ ap first_of_queue (ap (waiting_for queues) k ∙ wait (key_of a)) ∙ first_waits may key_of same a left in
    grown ∙ ap (λ l. l ++ choice ∷ []) before ∙ ap (λ c. numbers_taken may (take i new) old ++ c ∷ []) choice_is
    ∙ sym (map-append (option_map (λ (n : Numbered U). n.index)) (taken (λ a n. may a n.item) (take i new) (numbered old)) (find (λ n. may a n.item) left ∷ []))
    ∙ sym (ap (λ l. map (option_map (λ n. n.index)) l) (ap (λ l. taken (λ a n. may a n.item) l (numbered old)) (next_of i new a h is) ∙ taken_more (λ a n. may a n.item) (take i new) a (numbered old)))

-- and who waits still
pub others_wait : {U : Type 0} (may : U → U → Bool) (key_of : U → List ℕ) → ((a b : U) → may a b ≡ bytes_eq (key_of a) (key_of b)) → (new old : List U) (i : ℕ) (a : U) (before after : List (List ℕ × List ℕ)) (key : List ℕ)
    → i < length new → a ≡ get_or new i a → key ≡ key_of a → AreWaiting key_of before (untaken (λ a n. may a n.item) (take i new) (numbered old))
    → ((q : List ℕ) → waiting_for after q ≡ cond (bytes_eq key q) (drop 1 (waiting_for before q)) (waiting_for before q)) → AreWaiting key_of after (untaken (λ a n. may a n.item) (take (i + 1) new) (numbered old))
others_wait may key_of same new old i a before after key h is k wait goes =
    subst (AreWaiting key_of after) (sym (ap (λ l. untaken (λ a n. may a n.item) l (numbered old)) (next_of i new a h is) ∙ untaken_more (λ a n. may a n.item) (take i new) a (numbered old)))
    (wait_less may key_of same a (untaken (λ a n. may a n.item) (take i new) (numbered old)) before after key k wait goes)
