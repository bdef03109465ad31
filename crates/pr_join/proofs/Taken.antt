-- One more pair among those kept.
use Rattle.std.proofs.Common.{◌≡◌, ℕ, zero, suc, ◌<◌, Bool, true, false, cond, ◌||◌, List, [], ◌∷◌, ◌++◌, length, set, slice_get, Option, Some, None, Result, Ok, Err, MatchResult, ◌≢◌, refl, sym, ap, ◌∙◌, subst, arith}
use Rattle.std.proofs.lemmas.Bool.{eqb-true, eq-eqb}
use Rattle.std.proofs.lemmas.List.Sums.{fold-append}
use Rattle.std.proofs.lemmas.List.Folds.{list_any-append}
use Rattle.std.proofs.lemmas.List.{map-append}
use Rattle.std.specs.Bool.{nat_eq}
use Rattle.std.specs.List.{list_any}
use Rattle.std.specs.Option.{option_or}
use Rattle.spec_vectors.specs.pr_num.declared.value.Num.{Num}
use Rattle.spec_vectors.specs.pr_labels.declared.pair.Pair.{Pair}
use Rattle.spec_vectors.specs.pr_labels.declared.item.Item.{Item}
use Rattle.spec_vectors.specs.pr_labels.declared.matching.Card.{Card}
use Rattle.spec_vectors.specs.pr_labels.declared.matching.Card.TheVariants.{OneToOne, ManyToOne, OneToMany}
use Rattle.spec_vectors.specs.pr_labels.declared.matching.Matching.{Matching}
use Rattle.spec_vectors.specs.pr_labels.Order.{labels_eq}
use Rattle.spec_vectors.proofs.LabelsLabelOrder.{labels_decide}
use Rattle.spec_vectors.specs.declared.match_fault.MatchFault.{MatchFault}
use Rattle.spec_vectors.specs.declared.match_fault.MatchFault.TheVariants as fault
use Rattle.spec_vectors.specs.Vectors.{element, in_order, with_element}
use Rattle.spec_vectors.specs.Matching.{KeptPair, items_kept, key_fault, key_of, labels_fault, outcome_fault}
use Rattle.spec_vectors.specs.pr_labels.private.Entries.{IsPut, is_known, items_of}
use Rattle.spec_vectors.proofs.Placed.{element_put}
use Rattle.pr_join.specs.declared.join_fault.JoinFault.{JoinFault}
use Rattle.pr_join.specs.declared.join_fault.JoinFault.TheVariants.{Memory}
use Rattle.pr_join.specs.declared.rows.JoinedElements.{JoinedElements}
use Rattle.pr_join.specs.private.Faults.{match_told}
use Rattle.pr_join.specs.private.Places.{IsOnlyAt}
use Rattle.pr_join.specs.private.Rows.{HasItems, HasTakenKeys, HasKept, is_one_to_one, keyed, labels_in}
use Rattle.pr_join.proofs.Keys.{keys_more}
use Rattle.pr_join.proofs.Placing.{some_within}

-- where a key may come once, the keys are all those before
keyed_all : (card : Card) (before : List KeptPair) → is_one_to_one card ≡ true → keyed card before ≡ before
keyed_all OneToOne before e = refl
keyed_all ManyToOne before e = cc
keyed_all OneToMany before e = cc

fault_once : (card : Card) (before : List KeptPair) (k : KeptPair) → is_one_to_one card ≡ true → key_fault card before k ≡ cond (list_any (λ (b : KeptPair). labels_eq b.key k.key) before) (Some (fault.ManyToMany k.key)) None
fault_once OneToOne before k e = refl
fault_once ManyToOne before k e = cc
fault_once OneToMany before k e = cc

labels_turned : (a b : List Pair) → labels_eq a b ≡ labels_eq b a
labels_turned a b = by_test (labels_eq a b) (labels_eq b a) refl refl where
  by_test : (s t : Bool) → labels_eq a b ≡ s → labels_eq b a ≡ t → s ≡ t
  by_test true true e f = refl
  by_test false false e f = refl
  by_test true false e f = let other : labels_eq b a ≡ true = (labels_decide b a).1 (sym ((labels_decide a b).0 e)) in cc
  by_test false true e f = let other : labels_eq a b ≡ true = (labels_decide a b).1 (sym ((labels_decide b a).0 f)) in cc

set_here : (marks : List Bool) (i : ℕ) (b : Bool) → i < length marks → slice_get (set marks i b) i ≡ Some b
set_here [] i b h = absurd (omega arith)
set_here (x ∷ xs) zero b h = refl
set_here (x ∷ xs) (suc i) b h = set_here xs i b (omega arith)

set_apart : (marks : List Bool) (i j : ℕ) (b : Bool) → (i ≡ j → ⊥) → slice_get (set marks i b) j ≡ slice_get marks j
set_apart [] i j b h = refl
set_apart (x ∷ xs) zero zero b h = absurd (h refl)
set_apart (x ∷ xs) zero (suc j) b h = refl
set_apart (x ∷ xs) (suc i) zero b h = refl
set_apart (x ∷ xs) (suc i) (suc j) b h = set_apart xs i j b (λ e. h (ap (λ (k : ℕ). suc k) e))

or_right : (a b : Bool) → b ≡ true → (a || (b || false)) ≡ true
or_right true b h = refl
or_right false b h = ap (λ (c : Bool). c || false) h

or_left : (a b : Bool) → b ≡ false → (a || (b || false)) ≡ a
or_left true b h = refl
or_left false b h = ap (λ (c : Bool). c || false) h

module _ (how : Matching) (ones : List (Item Num)) (before : List KeptPair) (k : KeptPair) (taken : List Bool) (told : HasTakenKeys how ones before taken) where
  module _ (key : List Pair) (place : ℕ) (e : is_one_to_one how.card ≡ true) (is : k.key ≡ key) (only : IsOnlyAt how ones key place) where
    -- the mark at the place tells whether the key came before
    marked : (b : Bool) → slice_get taken place ≡ Some b → key_fault how.card before k ≡ cond b (Some (fault.ManyToMany k.key)) None
    marked b at = by_item (slice_get ones place) refl where
      by_item : (o : Option (Item Num)) → slice_get ones place ≡ o → key_fault how.card before k ≡ cond b (Some (fault.ManyToMany k.key)) None
      by_item None s = absurd (some_within ones place only.within s)
      by_item (Some x) s =
          let own : key_of how x ≡ k.key = (labels_decide (key_of how x) key).0 (only.only place x s ∙ eq-eqb place place refl) ∙ sym is in
          let came : Some b ≡ Some (list_any (λ (y : KeptPair). labels_eq y.key k.key) before) = sym at ∙ told.told place x s
          ∙ ap (λ (ks : List KeptPair). Some (list_any (λ (y : KeptPair). labels_eq y.key (key_of how x)) ks)) (keyed_all how.card before e)
          ∙ ap (λ (q : List Pair). Some (list_any (λ (y : KeptPair). labels_eq y.key q) before)) own in
          fault_once how.card before k e ∙ ap (λ (c : Bool). cond c (Some (fault.ManyToMany k.key)) None) (sym (one_answer came))
        where
          one_answer : {a c : Bool} → Some a ≡ Some c → a ≡ c
          one_answer h = cc

    pub taken_twice : slice_get taken place ≡ Some true → key_fault how.card before k ≡ Some (fault.ManyToMany key)
    taken_twice at = marked true at ∙ ap (λ (q : List Pair). Some (fault.ManyToMany q)) is

    pub taken_more : slice_get taken place ≡ Some false → place < length taken → (key_fault how.card before k ≡ None) × HasTakenKeys how ones (before ++ k ∷ []) (set taken place true)
    taken_more at within = (marked false at, record { told = λ i x s. by_place i x s (nat_eq i place) refl ∙ ap (λ (b : Bool). Some b) (sym (whole x)) }) where
      whole : (x : Item Num) → list_any (λ (y : KeptPair). labels_eq y.key (key_of how x)) (keyed how.card (before ++ k ∷ []))
          ≡ (list_any (λ (y : KeptPair). labels_eq y.key (key_of how x)) (keyed how.card before) || (labels_eq k.key (key_of how x) || false))
      whole x =
          ap (λ (ks : List KeptPair). list_any (λ (y : KeptPair). labels_eq y.key (key_of how x)) ks) (keyed_all how.card (before ++ k ∷ []) e)
          ∙ list_any-append (λ (y : KeptPair). labels_eq y.key (key_of how x)) before (k ∷ [])
          ∙ ap (λ (ks : List KeptPair). list_any (λ (y : KeptPair). labels_eq y.key (key_of how x)) ks || (labels_eq k.key (key_of how x) || false)) (sym (keyed_all how.card before e))

      own : (i : ℕ) (x : Item Num) → slice_get ones i ≡ Some x → labels_eq k.key (key_of how x) ≡ nat_eq i place
      own i x s = ap (λ (q : List Pair). labels_eq q (key_of how x)) is ∙ labels_turned key (key_of how x) ∙ only.only i x s

      by_place : (i : ℕ) (x : Item Num) → slice_get ones i ≡ Some x → (b : Bool) → nat_eq i place ≡ b
          → slice_get (set taken place true) i ≡ Some (list_any (λ (y : KeptPair). labels_eq y.key (key_of how x)) (keyed how.card before) || (labels_eq k.key (key_of how x) || false))
      by_place i x s true here =
          ap (λ (j : ℕ). slice_get (set taken place true) j) (eqb-true i place here) ∙ set_here taken place true within
          ∙ ap (λ (b : Bool). Some b) (sym (or_right (list_any (λ (y : KeptPair). labels_eq y.key (key_of how x)) (keyed how.card before)) (labels_eq k.key (key_of how x)) (own i x s ∙ here)))
      by_place i x s false apart =
          set_apart taken place i true (λ q. let same : nat_eq i place ≡ true = eq-eqb i place (sym q) in cc) ∙ told.told i x s
          ∙ ap (λ (b : Bool). Some b) (sym (or_left (list_any (λ (y : KeptPair). labels_eq y.key (key_of how x)) (keyed how.card before)) (labels_eq k.key (key_of how x)) (own i x s ∙ apart)))

in_order_more : (before : List KeptPair) (k : KeptPair) → in_order (items_kept (before ++ k ∷ [])) ≡ with_element (in_order (items_kept before)) k.item
in_order_more before k =
    ap (λ (xs : List (Item Num)). in_order xs) (map-append (λ (b : KeptPair). b.item) before (k ∷ []))
    ∙ fold-append with_element [] (items_kept before) (k.item ∷ [])

pub items_more : (before : List KeptPair) (k : KeptPair) (labels : List Pair) (value : Num) (es more : List (List Pair × Num)) → k.item ≡ element labels value → IsPut None labels value es more
    → HasItems before es → (labels_fault before k ≡ None) × HasItems (before ++ k ∷ []) more
items_more before k labels value es more is put h =
    let own : IsPut None k.item.labels k.item.value es more = subst (λ (e : Item Num). IsPut None e.labels e.value es more) (sym is) put in (
      ap (λ (b : Bool). cond b (Some (fault.NotUnique k.item.labels)) None) (sym (h.labels k.item.labels) ∙ own.0),
      record {
        listed = ap (λ (xs : List (List Pair × Num)). items_of xs) own.1 ∙ element_put es k.item.labels k.item.value
            ∙ ap (λ (xs : List (Item Num)). with_element xs k.item) h.listed ∙ sym (in_order_more before k);
        labels = keys_more labels_in before k es more k.item.value own.1 h.labels;
      },
    )

pub items_twice : (before : List KeptPair) (k : KeptPair) (labels : List Pair) (value : Num) (came : List Pair) (es more : List (List Pair × Num)) → k.item ≡ element labels value → IsPut (Some came) labels value es more
    → HasItems before es → labels_fault before k ≡ Some (fault.NotUnique came)
items_twice before k labels value came es more is put h =
    let own : k.item.labels ≡ labels = ap (λ (e : Item Num). e.labels) is in
    ap (λ (b : Bool). cond b (Some (fault.NotUnique k.item.labels)) None) (sym (h.labels k.item.labels) ∙ ap (λ (q : List Pair). is_known q es) own ∙ put.1.0)
    ∙ ap (λ (q : List Pair). Some (fault.NotUnique q)) (own ∙ sym put.0)

-- both
pub take_both : (card : Card) (how : Matching) (ones : List (Item Num)) (before : List KeptPair) (k : KeptPair) (r : Result (Unit {0}) JoinFault) (rows : JoinedElements)
    → (key_fault card before k ≡ None) × HasTakenKeys how ones (before ++ k ∷ []) rows.taken.items
    → MatchResult r (λ _. (labels_fault before k ≡ None) × HasItems (before ++ k ∷ []) rows.items) (λ e. e ≢ Memory → labels_fault before k ≡ match_told e)
    → MatchResult r (λ _. (outcome_fault card before (Ok (Some k)) ≡ None) × HasKept how ones (before ++ k ∷ []) rows) (λ e. e ≢ Memory → outcome_fault card before (Ok (Some k)) ≡ match_told e)
take_both card how ones before k (Ok u) rows h i = (
  ap (λ (x : Option MatchFault). option_or x (labels_fault before k)) h.0 ∙ i.0,
  record { items = i.1; taken = h.1 },
)
take_both card how ones before k (Err e) rows h i =
    λ m. ap (λ (x : Option MatchFault). option_or x (labels_fault before k)) h.0 ∙ i m
