-- Rules go on one by one.
use Rattle.std.proofs.Common.{◌≡◌, ℕ, zero, suc, ◌+◌, ◌<◌, nat_eq, Bool, true, false, List, [], ◌∷◌, ◌++◌, length, map, set, take, slice_get, Option, Some, None, refl, sym, ap, subst, ◌∙◌, arith}
use Rattle.std.proofs.lemmas.Grind.{common_steps}
use Rattle.std.proofs.lemmas.List.{length-set}
use Rattle.std.proofs.lemmas.Option.{same_Some}
use borrow.Author.Tests.{eqb-true}
use Rattle.pr_rule.specs.spec_history.declared.entry.Entry.{Entry}
use Rattle.pr_rule.specs.spec_rules.declared.definitions.RuleDef.{RuleDef}
use Rattle.pr_rule.specs.pr_range.private.Asks.{LastAsks, Passed}
use Rattle.pr_rule.specs.pr_range.private.Carried.{IsOnce}
use Rattle.pr_group.specs.private.Named.{AreBelow}
use Rattle.pr_rule.specs.declared.remembered.Remembered.{Remembered}
use Rattle.pr_group.specs.private.Carrying.{GoesOnBy, GoneSoFar, MayGoOn, without_named}
use Rattle.pr_group.specs.private.Matching.{spared}
use Rattle.pr_group.proofs.Places.{place_there, set_here, set_there}
use Rattle.pr_group.proofs.Spared.{alike, front_get, new_number, spared_all, spared_at, spared_more, spared_none}

front_at : {A : Type 0} (i j : ℕ) (xs : List A) → j < i → slice_get (take i xs) j ≡ slice_get xs j
front_at zero j xs h = absurd (omega arith)
front_at (suc i) j [] h = refl
front_at (suc i) zero (x ∷ xs) h = refl
front_at (suc i) (suc j) (x ∷ xs) h = front_at i j xs (omega arith)

front_more : {A : Type 0} (i : ℕ) (xs : List A) (x : A) → slice_get xs i ≡ Some x → take (i + 1) xs ≡ take i xs ++ x ∷ []
front_more zero [] x h = absurd (cc)
front_more (suc i) [] x h = absurd (cc)
front_more zero (y ∷ xs) x h = ap (λ z. z ∷ []) (same_Some y x h)
front_more (suc i) (y ∷ xs) x h = let next : suc i + 1 ≡ suc (i + 1) = omega arith in ap (λ k. take k (y ∷ xs)) next ∙ ap (λ l. y ∷ l) (front_more i xs x h)

other : (m n : ℕ) → nat_eq m n ≡ false → m ≡ n → ⊥
other m n h e = let same : nat_eq m n ≡ true = ap (λ k. nat_eq k n) e ∙ alike n in absurd (cc)

before_it : (j i : ℕ) → j < i + 1 → nat_eq j i ≡ false → j < i
before_it j i h e = grind (arith, common_steps)

pub within_all : (i m n k : ℕ) → i < m → n ≡ m → k ≡ n → i < k
within_all i m n k h e f = omega arith

pub still_many : {A : Type 0} (choice : Option ℕ) (olds : List (Option A)) → length (without_named choice olds) ≡ length olds
still_many None olds = refl
still_many (Some n) olds = length-set olds n None

module _ {R : Type 0} (fits : R → List Entry → Type 0) (last : R → LastAsks) (passed : R → Passed) (definitions older : List RuleDef) (befores olds : List (Remembered R)) (from : List (Option ℕ)) where
  -- at first none has
  pub none_gone : (stored : List (Option (Remembered R))) → stored ≡ map Some olds → GoneSoFar fits last passed definitions older befores olds from 0 befores stored
  none_gone stored e = record {
    gone = λ j definition c b a h at k m. absurd (nothing j c at);
    rest = λ j h. refl;
    left = e ∙ sym (spared_all 0 olds);
  } where
    nothing : (j : ℕ) (c : Option ℕ) → slice_get (take 0 from) j ≡ Some c → ⊥
    nothing zero c h = cc
    nothing (suc j) c h = cc

  module _ (i : ℕ) (own own' : List (Remembered R)) (stored stored' : List (Option (Remembered R))) (definition : RuleDef) (before after : Remembered R) (choice : Option ℕ) (so_far : GoneSoFar fits last passed definitions older befores olds from i own stored) (once : IsOnce from) (within : AreBelow (length older) from)
      (sizes : length olds ≡ length older) (low : i < length own) (code_there : slice_get definitions i ≡ Some definition) (chosen : slice_get from i ≡ Some choice) (before_there : slice_get own i ≡ Some before)
      (goes : MayGoOn fits last passed definition older stored choice before after) (set_so : own' ≡ set own i after) (taken : stored' ≡ without_named choice stored) where
    by_choice : (c : Option ℕ) → slice_get from i ≡ Some c → MayGoOn fits last passed definition older stored c before after → GoesOnBy fits last passed definition older olds c before after
    by_choice None at may = may
    by_choice (Some n) at may =
        let small : n < length older = within i n at in
        let from_code = place_there older n small in
        let old = place_there olds n (omega arith) in
        let still : slice_get stored n ≡ Some (Some old.0) = ap (λ l. slice_get l n) so_far.left ∙ spared_at n (take i from) olds old.0 (new_number from i n once at) old.1 in
        record { from_code = from_code.0; from = old.0; code_there = from_code.1; from_there = old.1; goes_on = may from_code.0 old.0 from_code.1 still }

    here : (c : Option ℕ) (definition' : RuleDef) (b a : Remembered R) → slice_get definitions i ≡ Some definition' → slice_get from i ≡ Some c → slice_get befores i ≡ Some b → slice_get own' i ≡ Some a → GoesOnBy fits last passed definition' older olds c b a
    here c definition' b a h at k m =
        let one : definition ≡ definition' = same_Some definition definition' (sym code_there ∙ h) in
        let two : choice ≡ c = same_Some choice c (sym chosen ∙ at) in
        let three : before ≡ b = same_Some before b (sym before_there ∙ so_far.rest i (omega arith) ∙ k) in
        let four : after ≡ a = same_Some after a (sym (ap (λ l. slice_get l i) set_so ∙ set_here own i after low) ∙ m) in
        subst (λ x. GoesOnBy fits last passed x older olds c b a) one (subst (λ x. GoesOnBy fits last passed definition older olds x b a) two
        (subst (λ x. GoesOnBy fits last passed definition older olds choice x a) three (subst (λ x. GoesOnBy fits last passed definition older olds choice before x) four (by_choice choice chosen goes))))

    elsewhere : (j : ℕ) → (j ≡ i → ⊥) → slice_get own' j ≡ slice_get own j
    elsewhere j h = ap (λ l. slice_get l j) set_so ∙ set_there own i j after (λ e. h (sym e))

    left_by : (c : Option ℕ) → slice_get from i ≡ Some c → without_named c (spared (take i from) olds) ≡ spared (take (i + 1) from) olds
    left_by None at = sym (ap (λ l. spared l olds) (front_more i from None at) ∙ spared_none 0 (take i from) olds)
    left_by (Some n) at = sym (ap (λ l. spared l olds) (front_more i from (Some n) at) ∙ spared_more n (take i from) olds)

    pub gone_next : GoneSoFar fits last passed definitions older befores olds from (i + 1) own' stored'
    gone_next = record {
      gone = λ j definition' c b a h at k m.
          let front = front_get (i + 1) j from c at in
          let early : j < i + 1 = front.0 in
          by j definition' c b a h front.1 k m early (nat_eq j i) refl;
      rest = λ j h. elsewhere j (λ e. omega arith) ∙ so_far.rest j (omega arith);
      left = taken ∙ ap (without_named choice) so_far.left ∙ left_by choice chosen;
    } where
      by : (j : ℕ) (definition' : RuleDef) (c : Option ℕ) (b a : Remembered R) → slice_get definitions j ≡ Some definition' → slice_get from j ≡ Some c → slice_get befores j ≡ Some b → slice_get own' j ≡ Some a → j < i + 1
          → (t : Bool) → nat_eq j i ≡ t → GoesOnBy fits last passed definition' older olds c b a
      by j definition' c b a h at k m early true e =
          let same : j ≡ i = eqb-true j i e in
          here c definition' b a (ap (slice_get definitions) (sym same) ∙ h) (ap (slice_get from) (sym same) ∙ at) (ap (slice_get befores) (sym same) ∙ k) (ap (slice_get own') (sym same) ∙ m)
      by j definition' c b a h at k m early false e =
          let apart : j ≡ i → ⊥ = other j i e in
          let low : j < i = before_it j i early e in
          so_far.gone j definition' c b a h (front_at i j from low ∙ at) k (sym (elsewhere j apart) ∙ m)
