-- What pairs give, one after the other.
use Rattle.std.proofs.Common.{◌≡◌, ◌==◌, Bool, false, length, List, [], ◌∷◌, ◌++◌, map, filter, Option, Some, None, Result, Ok, Err, MatchResult, ◌≢◌, refl, sym, ap, ◌∙◌, subst, append_assoc, append-nil, ◌⊎◌, inl, inr}
use Rattle.std.proofs.lemmas.List.{map-append}
use Rattle.std.proofs.lemmas.List.Elements.{filter_map-append}
use Rattle.std.proofs.lemmas.Grind.{flat_map-append}
use Rattle.std.specs.List.{cons_option}
use Rattle.std.specs.Option.{IfSome, option_or, option_map, option_to_list}
use Rattle.spec_vectors.specs.pr_num.declared.value.Num.{Num}
use Rattle.spec_vectors.specs.pr_num.declared.value.TooWide.{TooWide}
use Rattle.spec_vectors.specs.pr_labels.declared.pair.Pair.{Pair}
use Rattle.spec_vectors.specs.pr_labels.declared.item.Item.{Item}
use Rattle.spec_vectors.specs.pr_labels.declared.matching.Card.{Card}
use Rattle.spec_vectors.specs.pr_labels.declared.matching.Card.TheVariants.{OneToOne, ManyToOne, OneToMany}
use Rattle.spec_vectors.specs.pr_labels.declared.matching.Matching.{Matching}
use Rattle.spec_vectors.specs.declared.match_fault.MatchFault.{MatchFault}
use Rattle.spec_vectors.specs.declared.match_fault.MatchFault.TheVariants as fault
use Rattle.pr_join.specs.declared.join_fault.JoinFault.{JoinFault}
use Rattle.pr_join.specs.declared.join_fault.JoinFault.TheVariants.{Memory}
use Rattle.pr_join.specs.declared.join_fault.JoinFault.TheVariants as cause
use Rattle.pr_join.specs.private.Faults.{match_told}
use Rattle.spec_vectors.specs.Vectors.{in_order}
use Rattle.spec_vectors.specs.Matching.{KeptPair, Operator, Paired, has_key, items_kept, joined, joined_sides, many_side, one_side, kept_pairs, kept_of, kept_if, key_of, least_shared, pair_outcome, outcomes_of, paired, pairs, pairs_with, outcome_fault, fault_of_outcomes, joined_result, side_fault, unless_fault}
use Rattle.spec_vectors.specs.pr_labels.private.Entries.{items_of}
use Rattle.pr_join.specs.declared.rows.JoinedElements.{JoinedElements}
use Rattle.pr_join.specs.private.Rows.{HasKept, AreRowsTaken, outcomes_with}

pub or_none : (x : Option MatchFault) → option_or x None ≡ x
or_none None = refl
or_none (Some f) = refl

or_assoc : (x y z : Option MatchFault) → option_or x (option_or y z) ≡ option_or (option_or x y) z
or_assoc None y z = refl
or_assoc (Some f) y z = refl

cons_is : (o : Option KeptPair) (ks : List KeptPair) → cons_option o ks ≡ option_to_list o ++ ks
cons_is None ks = refl
cons_is (Some k) ks = refl

-- what a call tells is the first fault
told_first : (e : JoinFault) (z : Option MatchFault) → e ≢ Memory → option_or (match_told e) z ≡ match_told e
told_first (cause.ManyToMany key) z m = refl
told_first (cause.NotUnique labels) z m = refl
told_first cause.TooWide z m = refl
told_first Memory z m = absurd (m refl)

-- pairs after pairs
pub fault_append : (card : Card) (before : List KeptPair) (xs ys : List (Result (Option KeptPair) TooWide))
    → fault_of_outcomes card before (xs ++ ys) ≡ option_or (fault_of_outcomes card before xs) (fault_of_outcomes card (before ++ kept_pairs xs) ys)
fault_append card before [] ys = ap (λ (b : List KeptPair). fault_of_outcomes card b ys) (sym (append-nil before))
fault_append card before (o ∷ xs) ys =
    ap (λ (x : Option MatchFault). option_or (outcome_fault card before o) x)
    (fault_append card (before ++ option_to_list (kept_of o)) xs ys
    ∙ ap (λ (b : List KeptPair). option_or (fault_of_outcomes card (before ++ option_to_list (kept_of o)) xs) (fault_of_outcomes card b ys)) (append_assoc before (option_to_list (kept_of o)) (kept_pairs xs) ∙ ap (λ (ks : List KeptPair). before ++ ks) (sym (cons_is (kept_of o) (kept_pairs xs)))))
    ∙ or_assoc (outcome_fault card before o) (fault_of_outcomes card (before ++ option_to_list (kept_of o)) xs) (fault_of_outcomes card (before ++ cons_option (kept_of o) (kept_pairs xs)) ys)

-- one pair
module _ (how : Matching) (keep_name : Bool) (p : Paired) (ones : List (Item Num)) (before : List KeptPair) where
  pub pair_wide : (r : Result (Option Num) TooWide) (e : TooWide) → r ≡ Err e → fault_of_outcomes how.card before (kept_if how keep_name p r ∷ []) ≡ Some fault.TooWide
  pair_wide r e h = ap (λ (x : Result (Option Num) TooWide). fault_of_outcomes how.card before (kept_if how keep_name p x ∷ [])) h

  pub pair_dropped : (r : Result (Option Num) TooWide) (rows : JoinedElements) → r ≡ Ok None → HasKept how ones before rows → AreRowsTaken how ones before (kept_if how keep_name p r ∷ []) rows
  pair_dropped r rows h k = record {
    faultless = ap (λ (x : Result (Option Num) TooWide). fault_of_outcomes how.card before (kept_if how keep_name p x ∷ [])) h;
    holds = subst (λ (b : List KeptPair). HasKept how ones b rows) (sym (ap (λ (x : Result (Option Num) TooWide). before ++ kept_pairs (kept_if how keep_name p x ∷ [])) h ∙ append-nil before)) k;
  }

pub fault_one : (card : Card) (before : List KeptPair) (o : Result (Option KeptPair) TooWide) → fault_of_outcomes card before (o ∷ []) ≡ outcome_fault card before o
fault_one card before o = or_none (outcome_fault card before o)

pub taken_one : (how : Matching) (ones : List (Item Num)) (before : List KeptPair) (o : Result (Option KeptPair) TooWide) (k : KeptPair) (rows : JoinedElements) → o ≡ Ok (Some k) → outcome_fault how.card before (Ok (Some k)) ≡ None
    → HasKept how ones (before ++ k ∷ []) rows → AreRowsTaken how ones before (o ∷ []) rows
taken_one how ones before o k rows e h holds = record {
  faultless = fault_one how.card before o ∙ ap (outcome_fault how.card before) e ∙ h;
  holds = subst (λ (x : Result (Option KeptPair) TooWide). HasKept how ones (before ++ kept_pairs (x ∷ [])) rows) (sym e) holds;
}

-- the pairs of an element by what is found on the one side
pub outcomes_found : (how : Matching) (keep_name : Bool) (f : Operator) (ones : List (Item Num)) (m : Item Num) (o : Option (Item Num)) → filter (has_key how (key_of how m)) ones ≡ option_to_list o
    → outcomes_with how keep_name f ones m ≡ map (λ x. pair_outcome how keep_name f (paired m x)) (option_to_list o)
outcomes_found how keep_name f ones m None e =
    ap (λ (xs : List (Item Num)). map (pair_outcome how keep_name f) (map (paired m) xs)) e
outcomes_found how keep_name f ones m (Some x) e =
    ap (λ (xs : List (Item Num)). map (pair_outcome how keep_name f) (map (paired m) xs)) e

pub taken_none : (how : Matching) (ones : List (Item Num)) (before : List KeptPair) (os : List (Result (Option KeptPair) TooWide)) (rows : JoinedElements) → os ≡ [] → HasKept how ones before rows → AreRowsTaken how ones before os rows
taken_none how ones before os rows e h = record {
  faultless = ap (fault_of_outcomes how.card before) e;
  holds = subst (λ (b : List KeptPair). HasKept how ones b rows) (sym (ap (λ (x : List (Result (Option KeptPair) TooWide)). before ++ kept_pairs x) e ∙ append-nil before)) h;
}

-- one element more
module _ (how : Matching) (keep_name : Bool) (f : Operator) (ones : List (Item Num)) where
  pub outcomes_more : (front : List (Item Num)) (m : Item Num) (rest : List (Item Num)) → outcomes_of how keep_name f (front ++ m ∷ rest) ones
      ≡ outcomes_of how keep_name f front ones ++ (outcomes_with how keep_name f ones m ++ outcomes_of how keep_name f rest ones)
  outcomes_more front m rest =
      ap (map (pair_outcome how keep_name f)) (flat_map-append (pairs_with how ones) front (m ∷ rest))
      ∙ map-append (pair_outcome how keep_name f) (pairs how front ones) (pairs how (m ∷ rest) ones)
      ∙ ap (λ (x : List (Result (Option KeptPair) TooWide)). outcomes_of how keep_name f front ones ++ x) (map-append (pair_outcome how keep_name f) (pairs_with how ones m) (pairs how rest ones))

  pub fault_at : (front : List (Item Num)) (m : Item Num) (rest : List (Item Num)) (e : JoinFault) → e ≢ Memory → fault_of_outcomes how.card [] (outcomes_of how keep_name f front ones) ≡ None
      → fault_of_outcomes how.card (kept_pairs (outcomes_of how keep_name f front ones)) (outcomes_with how keep_name f ones m) ≡ match_told e
      → fault_of_outcomes how.card [] (outcomes_of how keep_name f (front ++ m ∷ rest) ones) ≡ match_told e
  fault_at front m rest e lacks clear at =
      ap (fault_of_outcomes how.card []) (outcomes_more front m rest)
      ∙ fault_append how.card [] (outcomes_of how keep_name f front ones) (outcomes_with how keep_name f ones m ++ outcomes_of how keep_name f rest ones)
      ∙ ap (λ (x : Option MatchFault). option_or x (fault_of_outcomes how.card (kept_pairs (outcomes_of how keep_name f front ones)) (outcomes_with how keep_name f ones m ++ outcomes_of how keep_name f rest ones))) clear
      ∙ fault_append how.card (kept_pairs (outcomes_of how keep_name f front ones)) (outcomes_with how keep_name f ones m) (outcomes_of how keep_name f rest ones)
      ∙ ap (λ (x : Option MatchFault). option_or x (fault_of_outcomes how.card (kept_pairs (outcomes_of how keep_name f front ones) ++ kept_pairs (outcomes_with how keep_name f ones m)) (outcomes_of how keep_name f rest ones))) at
      ∙ told_first e (fault_of_outcomes how.card (kept_pairs (outcomes_of how keep_name f front ones) ++ kept_pairs (outcomes_with how keep_name f ones m)) (outcomes_of how keep_name f rest ones)) lacks

  pub taken_more : (front : List (Item Num)) (m : Item Num) (rows : JoinedElements) → fault_of_outcomes how.card [] (outcomes_of how keep_name f front ones) ≡ None
      → AreRowsTaken how ones (kept_pairs (outcomes_of how keep_name f front ones)) (outcomes_with how keep_name f ones m) rows
      → AreRowsTaken how ones [] (outcomes_of how keep_name f (front ++ m ∷ []) ones) rows
  taken_more front m rows clear h = record {
    faultless = ap (fault_of_outcomes how.card []) whole ∙ fault_append how.card [] (outcomes_of how keep_name f front ones) (outcomes_with how keep_name f ones m)
        ∙ ap (λ (x : Option MatchFault). option_or x (fault_of_outcomes how.card (kept_pairs (outcomes_of how keep_name f front ones)) (outcomes_with how keep_name f ones m))) clear ∙ h.faultless;
    holds = subst (λ (b : List KeptPair). HasKept how ones b rows) (sym (ap kept_pairs whole ∙ filter_map-append kept_of (outcomes_of how keep_name f front ones) (outcomes_with how keep_name f ones m))) h.holds;
  } where
    whole : outcomes_of how keep_name f (front ++ m ∷ []) ones ≡ outcomes_of how keep_name f front ones ++ outcomes_with how keep_name f ones m
    whole = outcomes_more front m [] ∙ ap (λ (x : List (Result (Option KeptPair) TooWide)). outcomes_of how keep_name f front ones ++ x) (append-nil (outcomes_with how keep_name f ones m))

pub taken_result : (how : Matching) (ones : List (Item Num)) (before : List KeptPair) (o : Result (Option KeptPair) TooWide) (k : KeptPair) (r : Result (Unit {0}) JoinFault) (rows : JoinedElements) → o ≡ Ok (Some k)
    → MatchResult r (λ _. (outcome_fault how.card before (Ok (Some k)) ≡ None) × HasKept how ones (before ++ k ∷ []) rows) (λ e. e ≢ Memory → outcome_fault how.card before (Ok (Some k)) ≡ match_told e)
    → MatchResult r (λ _. AreRowsTaken how ones before (o ∷ []) rows) (λ e. e ≢ Memory → fault_of_outcomes how.card before (o ∷ []) ≡ match_told e)
taken_result how ones before o k (Ok u) rows e h = taken_one how ones before o k rows e h.0 h.1
taken_result how ones before o k (Err x) rows e h =
    λ m. fault_one how.card before o ∙ ap (outcome_fault how.card before) e ∙ h m

-- what an element gives by what is found for it
pub result_found : (how : Matching) (ones : List (Item Num)) (before : List KeptPair) (os ps : List (Result (Option KeptPair) TooWide)) (r : Result (Unit {0}) JoinFault) (rows : JoinedElements) → os ≡ ps
    → MatchResult r (λ _. AreRowsTaken how ones before ps rows) (λ e. e ≢ Memory → fault_of_outcomes how.card before ps ≡ match_told e)
    → MatchResult r (λ _. AreRowsTaken how ones before os rows) (λ e. e ≢ Memory → fault_of_outcomes how.card before os ≡ match_told e)
result_found how ones before os ps (Ok u) rows e h = subst (λ (x : List (Result (Option KeptPair) TooWide)). AreRowsTaken how ones before x rows) (sym e) h
result_found how ones before os ps (Err x) rows e h = λ m. ap (fault_of_outcomes how.card before) e ∙ h m

-- the sides whole
pub side_fault_some : (how : Matching) (manys ones : List (Item Num)) → false ≡ (length manys == 0) → side_fault how manys ones ≡ option_map fault.ManyToMany (least_shared how ones)
side_fault_some how [] ones h = cc
side_fault_some how (m ∷ manys) ones h = refl

module _ (how : Matching) (keep_name : Bool) (f : Operator) (manys ones : List (Item Num)) where
  pub sides_shared : (key : List Pair) → false ≡ (length manys == 0) → Some key ≡ least_shared how ones
      → joined_sides how keep_name f manys ones ≡ Err (fault.ManyToMany key)
  sides_shared key some h =
      ap (λ (x : Option MatchFault). joined_result how.card (outcomes_of how keep_name f manys ones) x)
      (side_fault_some how manys ones some ∙ ap (λ (x : Option (List Pair)). option_map fault.ManyToMany x) (sym h))

  no_side_fault : false ≡ (length manys == 0) → None ≡ least_shared how ones → side_fault how manys ones ≡ None
  no_side_fault some h =
      side_fault_some how manys ones some ∙ ap (λ (x : Option (List Pair)). option_map fault.ManyToMany x) (sym h)

  fault_case : (e : MatchFault) → false ≡ (length manys == 0) → None ≡ least_shared how ones
      → fault_of_outcomes how.card [] (outcomes_of how keep_name f manys ones) ≡ Some e → joined_sides how keep_name f manys ones ≡ Err e
  fault_case e some h at =
      ap (λ (x : Option MatchFault). joined_result how.card (outcomes_of how keep_name f manys ones) x) (no_side_fault some h)
      ∙ ap (λ (x : Option MatchFault). unless_fault x (in_order (items_kept (kept_pairs (outcomes_of how keep_name f manys ones))))) at

  pub sides_fault : (e : JoinFault) → false ≡ (length manys == 0) → None ≡ least_shared how ones
      → (e ≢ Memory → fault_of_outcomes how.card [] (outcomes_of how keep_name f manys ones) ≡ match_told e)
      → IfSome (match_told e) (λ fault. joined_sides how keep_name f manys ones ≡ Err fault)
  sides_fault (cause.ManyToMany key) some h at = fault_case (fault.ManyToMany key) some h (at (λ m. cc))
  sides_fault (cause.NotUnique labels) some h at = fault_case (fault.NotUnique labels) some h (at (λ m. cc))
  sides_fault cause.TooWide some h at = fault_case fault.TooWide some h (at (λ m. cc))
  sides_fault Memory some h at = tt

  pub sides_kept : (rows : JoinedElements) (items : List (Item Num)) → false ≡ (length manys == 0) → None ≡ least_shared how ones
      → AreRowsTaken how ones [] (outcomes_of how keep_name f manys ones) rows → items ≡ items_of rows.items → joined_sides how keep_name f manys ones ≡ Ok items
  sides_kept rows items some h t is =
      ap (λ (x : Option MatchFault). joined_result how.card (outcomes_of how keep_name f manys ones) x) (no_side_fault some h)
      ∙ ap (λ (x : Option MatchFault). unless_fault x (in_order (items_kept (kept_pairs (outcomes_of how keep_name f manys ones))))) t.faultless
      ∙ ap (λ (x : List (Item Num)). Ok x) (sym (is ∙ t.holds.items.listed))

-- the left side is the many side but for `group_right`
pub left_many : (how : Matching) (keep_name : Bool) (f : Operator) (left right : List (Item Num)) → (how.card ≡ OneToOne) ⊎ (how.card ≡ ManyToOne)
    → joined_sides how keep_name f left right ≡ joined how keep_name f left right
left_many how keep_name f left right (inl e) = ap (λ (card : Card). joined_sides how keep_name f (many_side card left right) (one_side card left right)) (sym e)
left_many how keep_name f left right (inr e) = ap (λ (card : Card). joined_sides how keep_name f (many_side card left right) (one_side card left right)) (sym e)

pub right_many : (how : Matching) (keep_name : Bool) (f : Operator) (left right : List (Item Num)) → how.card ≡ OneToMany
    → joined_sides how keep_name f right left ≡ joined how keep_name f left right
right_many how keep_name f left right e = ap (λ (card : Card). joined_sides how keep_name f (many_side card left right) (one_side card left right)) (sym e)
