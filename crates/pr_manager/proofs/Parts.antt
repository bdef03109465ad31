-- Old groups, by whether new ones have their names.
use Rattle.std.proofs.Common.{◌≡◌, Bool, true, false, cond, not, ◌||◌, List, [], ◌∷◌, ◌++◌, append_assoc, append-nil, length, Option, Some, None, refl, sym, ap, ◌∙◌, arith}
use Rattle.std.specs.Prelude.{filter, is_some}
use Rattle.pr_group.specs.private.Keeping.{KeptGroup}
use Rattle.pr_manager.specs.declared.naming.GroupName.{GroupName}
use Rattle.pr_manager.specs.private.Naming.{comes_again, first_of, is_among, kept_under, name_of, names_of, same_name, value_of}
use Rattle.pr_manager.proofs.Names.{is_same, same_is}

-- Names

pub named_then : {V : Type 0} (old : Option V) (v : V) (b more : Bool) → (is_some (cond b (Some v) old) || more) ≡ (is_some old || (b || more))
named_then None v true more = refl
named_then None v false more = refl
named_then (Some u) v true more = refl
named_then (Some u) v false more = refl

pub names_then : {V : Type 0} (old new : List (GroupName × V)) (v : V) (name q : GroupName) (names : List GroupName) → value_of new q ≡ cond (same_name name q) (Some v) (value_of old q)
    → (is_some (value_of new q) || is_among q names) ≡ (is_some (value_of old q) || is_among q (name ∷ names))
names_then old new v name q names h = ap (λ o. is_some o || is_among q names) h ∙ named_then (value_of old q) v (same_name name q) (is_among q names)

or_none : (b : Bool) → (b || false) ≡ b
or_none true = refl
or_none false = refl

pub names_end : {R V : Type 0} (entries : List (GroupName × V)) (q : GroupName) (rest : List (KeptGroup R)) (all : List GroupName) → length rest ≡ 0
    → (is_some (value_of entries q) || is_among q (names_of rest)) ≡ is_among q all → is_some (value_of entries q) ≡ is_among q all
names_end entries q [] all none h = sym (or_none (is_some (value_of entries q))) ∙ h
names_end entries q (k ∷ rest) all none h = absurd (omega (arith, none))

-- The parts

abbrev put_first : {V : Type 0} → Option V → Bool → V → Option V
put_first v b x = first_of v (cond b (Some x) None)

not_there : {V : Type 0} (v : Option V) (x : V) → put_first v false x ≡ v
not_there None x = refl
not_there (Some u) x = refl

-- one that is gone waits nowhere
pub gone_waits : {U V : Type 0} (names : List (GroupName × U)) (v : Option V) (name q : GroupName) (x : V) → is_some (value_of names name) ≡ false → is_some (value_of names q) ≡ true
    → v ≡ put_first v (same_name name q) x
gone_waits names v name q x lacks there = by (same_name name q) refl where
  by : (b : Bool) → same_name name q ≡ b → v ≡ put_first v b x
  by true e =
      let same : is_some (value_of names q) ≡ is_some (value_of names name) = ap (λ n. is_some (value_of names n)) (sym (same_is name q e)) in
      absurd (let clash = sym there ∙ same ∙ lacks in cc)
  by false e = sym (not_there v x)

-- one that comes first under its name waits
pub first_waits : {V : Type 0} (old new : List (GroupName × V)) (name q : GroupName) (x : V) → is_some (value_of old name) ≡ false → value_of new q ≡ cond (same_name name q) (Some x) (value_of old q)
    → value_of new q ≡ put_first (value_of old q) (same_name name q) x
first_waits {V} old new name q x lacks put = put ∙ by (same_name name q) refl where
  none_of : (o : Option V) → is_some o ≡ false → o ≡ None
  none_of None h = refl
  none_of (Some v) h = absurd cc

  by : (b : Bool) → same_name name q ≡ b → cond b (Some x) (value_of old q) ≡ put_first (value_of old q) b x
  by true e =
      let none : value_of old q ≡ None = ap (value_of old) (sym (same_is name q e)) ∙ none_of (value_of old name) lacks in
      sym (ap (λ v. put_first v true x) none)
  by false e = sym (not_there (value_of old q) x)

-- one that comes later under its name is let go
pub later_waits : {V : Type 0} (old : List (GroupName × V)) (name q : GroupName) (x : V) → is_some (value_of old name) ≡ true → value_of old q ≡ put_first (value_of old q) (same_name name q) x
later_waits {V} old name q x there = by (same_name name q) refl where
  kept : (o : Option V) → is_some o ≡ true → o ≡ put_first o true x
  kept None h = absurd cc
  kept (Some v) h = refl

  by : (b : Bool) → same_name name q ≡ b → value_of old q ≡ put_first (value_of old q) b x
  by true e = kept (value_of old q) (ap (λ n. is_some (value_of old n)) (sym (same_is name q e)) ∙ there)
  by false e = sym (not_there (value_of old q) x)

joined : {V : Type 0} (v : Option V) (b : Bool) (x : V) (o : Option V) → first_of (put_first v b x) o ≡ first_of v (cond b (Some x) o)
joined None true x o = refl
joined None false x o = refl
joined (Some u) true x o = refl
joined (Some u) false x o = refl

-- the first of those that wait and those that are still to come
pub waits_then : {R : Type 0} (old new : List (GroupName × KeptGroup R)) (name q : GroupName) (k : KeptGroup R) (ks : List (KeptGroup R)) (all : Option (KeptGroup R)) → name ≡ name_of k
    → value_of new q ≡ first_of (value_of old q) (cond (same_name name q) (Some k) None) → first_of (value_of old q) (kept_under q (k ∷ ks)) ≡ all → first_of (value_of new q) (kept_under q ks) ≡ all
waits_then old new name q k ks all is put h =
    ap (λ v. first_of v (kept_under q ks)) put
    ∙ joined (value_of old q) (same_name name q) k (kept_under q ks)
    ∙ ap (λ n. first_of (value_of old q) (cond (same_name n q) (Some k) (kept_under q ks))) is
    ∙ h

pub first_alone : {V : Type 0} (o : Option V) → first_of o None ≡ o
first_alone None = refl
first_alone (Some v) = refl

pub waits_end : {R : Type 0} (entries : List (GroupName × KeptGroup R)) (q : GroupName) (rest : List (KeptGroup R)) (all : Option (KeptGroup R)) → rest ≡ [] → first_of (value_of entries q) (kept_under q rest) ≡ all → value_of entries q ≡ all
waits_end entries q rest all none h = sym (first_alone (value_of entries q)) ∙ ap (λ l. first_of (value_of entries q) (kept_under q l)) (sym none) ∙ h

-- those that are gone
taken_out : {A : Type 0} (b : Bool) (x : A) (xs : List A) → cond b [] (x ∷ []) ++ xs ≡ cond (not b) (x ∷ xs) xs
taken_out true x xs = refl
taken_out false x xs = refl

pub gone_then : {A : Type 0} (p : A → Bool) (so_far more : List A) (b : Bool) (x : A) (xs all : List A) → b ≡ p x → more ≡ so_far ++ cond b [] (x ∷ []) → so_far ++ filter (λ y. not (p y)) (x ∷ xs) ≡ all
    → more ++ filter (λ y. not (p y)) xs ≡ all
gone_then p so_far more b x xs all is push h =
    ap (λ l. l ++ filter (λ y. not (p y)) xs) push
    ∙ append_assoc so_far (cond b [] (x ∷ [])) (filter (λ y. not (p y)) xs)
    ∙ ap (λ l. so_far ++ l) (taken_out b x (filter (λ y. not (p y)) xs) ∙ ap (λ c. cond (not c) (x ∷ filter (λ y. not (p y)) xs) (filter (λ y. not (p y)) xs)) is)
    ∙ h

pub gone_end : {A : Type 0} (p : A → Bool) (so_far rest all : List A) → rest ≡ [] → so_far ++ filter p rest ≡ all → so_far ≡ all
gone_end p so_far rest all none h = sym (append-nil so_far) ∙ ap (λ l. so_far ++ filter p l) (sym none) ∙ h

-- Names that differ

pub differs : (name q : GroupName) (names : List GroupName) → comes_again name names ≡ false → is_among q names ≡ true → same_name name q ≡ false
differs name q [] h k = absurd cc
differs name q (n ∷ names) h k = by (same_name n q) (same_name name n) refl refl h k (differs name q names) where
  by : (b a : Bool) → same_name n q ≡ b → same_name name n ≡ a → (a || comes_again name names) ≡ false → (b || is_among q names) ≡ true
      → (comes_again name names ≡ false → is_among q names ≡ true → same_name name q ≡ false) → same_name name q ≡ false
  by true true e f x y again = absurd cc
  by true false e f x y again = ap (same_name name) (sym (same_is n q e)) ∙ f
  by false true e f x y again = absurd cc
  by false false e f x y again = again x y

pub is_first : {R : Type 0} (k : KeptGroup R) (ks : List (KeptGroup R)) → is_among (name_of k) (names_of (k ∷ ks)) ≡ true
is_first k ks = ap (λ b. b || is_among (name_of k) (names_of ks)) (is_same (name_of k))

or_true : (b : Bool) → (b || true) ≡ true
or_true true = refl
or_true false = refl

pub is_later_one : (name q : GroupName) (names : List GroupName) → is_among q names ≡ true → is_among q (name ∷ names) ≡ true
is_later_one name q names h = ap (λ b. same_name name q || b) h ∙ or_true (same_name name q)

pub none_gone : {A : Type 0} (so_far : List A) (b : Bool) (x : A) → b ≡ true → so_far ≡ so_far ++ cond b [] (x ∷ [])
none_gone so_far b x e = sym (ap (λ c. so_far ++ cond c [] (x ∷ [])) e ∙ append-nil so_far)
