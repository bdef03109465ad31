-- Windows that go on under other numbers are found under them.
use Rattle.std.proofs.Common.{◌≡◌, ℕ, Bool, true, false, cond, nat_eq, List, [], ◌∷◌, slice_get, Option, Some, None, is_some, unwrap_or, option_and_then, refl, sym, ap, subst, ◌∙◌, arith}
use Rattle.std.specs.Map.{lookup}
use Rattle.std.specs.List.Retain.{RetainsInTurn}
use Rattle.std.specs.Option.{option_map, option_map_or}
use Rattle.std.proofs.lemmas.Grind.{common_steps}
use borrow.Author.Tests.{eqb-true}
use Rattle.pr_head.specs.spec_history.declared.entry.Entry.{Entry}
use Rattle.pr_slide.specs.declared.window.SeriesWindow.{SeriesWindow}
use Rattle.pr_slide.specs.private.Windows.{AreWindowsOf, HasWindow, Nodes, found, last_in, last_asks, passed_in, passed_of}
use Rattle.pr_range.specs.private.Carried.{IsCarried, IsOnce, named_in, older_of}
use Rattle.pr_slide.specs.private.Carried.{carried, number_from, renumbered}
use Rattle.pr_slide.specs.private.Places.{AreApart, IsAbsent, numbers_of}
use Rattle.pr_slide.proofs.Nodes.{Row}
use Rattle.pr_slide.proofs.Numbers.{number_is, number_none}

older_named : (from : List (Option ℕ)) (k j : ℕ) → older_of from k ≡ Some j → slice_get from k ≡ Some (Some j)
older_named from k j h = by (slice_get from k) h where
  by : (o : Option (Option ℕ)) → named_in o ≡ Some j → o ≡ Some (Some j)
  by None g = absurd (cc)
  by (Some c) g = ap Some g

abbrev nothing : Nodes
nothing = []

pub found_carried : (from : List (Option ℕ)) (nodes : Nodes) (k : ℕ) → IsOnce from → lookup (nat_eq k) (carried from nodes) ≡ option_and_then (λ j. lookup (nat_eq j) nodes) (older_of from k)
found_carried from [] k once = by (older_of from k) where
  by : (o : Option ℕ) → lookup (nat_eq k) nothing ≡ option_and_then (λ j. lookup (nat_eq j) nothing) o
  by None = refl
  by (Some j) = refl
found_carried from (n ∷ nodes) k once = by (number_from n.0 from) refl (found_carried from nodes k once) where
  -- another older one is found behind the first
  behind : (o : Option ℕ) → older_of from k ≡ o → ((j : ℕ) → o ≡ Some j → nat_eq j n.0 ≡ false) → option_and_then (λ j. lookup (nat_eq j) nodes) o ≡ option_and_then (λ j. lookup (nat_eq j) (n ∷ nodes)) o
  behind None e other = refl
  behind (Some j) e other = ap (λ b. cond b (Some n.1) (lookup (nat_eq j) nodes)) (sym (other j refl))

  apart : (k' : ℕ) → number_from n.0 from ≡ Some k' → nat_eq k k' ≡ false → (j : ℕ) → older_of from k ≡ Some j → nat_eq j n.0 ≡ false
  apart k' e f j g = test (nat_eq j n.0) refl where
    test : (b : Bool) → nat_eq j n.0 ≡ b → b ≡ false
    test false h = refl
    test true h =
        let same : j ≡ n.0 = eqb-true j n.0 h in
        let first : slice_get from k ≡ Some (Some n.0) = older_named from k j g ∙ ap (λ m. Some (Some m)) same in
        let second : slice_get from k' ≡ Some (Some n.0) = number_is n.0 from k' e in
        let equal : k ≡ k' = once k k' n.0 first second in
        let yes : nat_eq k k' ≡ true = grind (arith, common_steps) in
        absurd (cc (yes, f))

  by : (o : Option ℕ) → number_from n.0 from ≡ o → lookup (nat_eq k) (carried from nodes) ≡ option_and_then (λ j. lookup (nat_eq j) nodes) (older_of from k)
      → lookup (nat_eq k) (renumbered o n.1 (carried from nodes)) ≡ option_and_then (λ j. lookup (nat_eq j) (n ∷ nodes)) (older_of from k)
  by None e rest = rest ∙ behind (older_of from k) refl (λ j g. test j g (nat_eq j n.0) refl) where
    test : (j : ℕ) → older_of from k ≡ Some j → (b : Bool) → nat_eq j n.0 ≡ b → b ≡ false
    test j g false h = refl
    test j g true h = number_none n.0 from k e (older_named from k j g ∙ ap (λ m. Some (Some m)) (eqb-true j n.0 h))
  by (Some k') e rest = test (nat_eq k k') refl where
    test : (b : Bool) → nat_eq k k' ≡ b → cond b (Some n.1) (lookup (nat_eq k) (carried from nodes)) ≡ option_and_then (λ j. lookup (nat_eq j) (n ∷ nodes)) (older_of from k)
    test false f = rest ∙ behind (older_of from k) refl (apart k' e f)
    test true f =
        let same : k ≡ k' = eqb-true k k' f in
        let named : slice_get from k ≡ Some (Some n.0) = ap (slice_get from) same ∙ number_is n.0 from k' e in
        let yes : nat_eq n.0 n.0 ≡ true = grind (arith, common_steps) in
        sym (ap (λ o. option_and_then (λ j. lookup (nat_eq j) (n ∷ nodes)) (named_in o)) named ∙ ap (λ b. cond b (Some n.1) (lookup (nat_eq n.0) nodes)) yes)

windows_carried : (from : List (Option ℕ)) (nodes : Nodes) (k q : ℕ) → IsOnce from → found (carried from nodes) k q ≡ option_and_then (λ j. found nodes j q) (older_of from k)
windows_carried from nodes k q once = ap (option_and_then (lookup (nat_eq q))) (found_carried from nodes k once) ∙ by (older_of from k) where
  by : (o : Option ℕ) → option_and_then (lookup (nat_eq q)) (option_and_then (λ j. lookup (nat_eq j) nodes) o) ≡ option_and_then (λ j. found nodes j q) o
  by None = refl
  by (Some j) = refl

pub is_carried : (from : List (Option ℕ)) (nodes : Nodes) → IsOnce from → IsCarried from (last_asks nodes) (last_asks (carried from nodes)) (passed_of nodes) (passed_of (carried from nodes))
is_carried from nodes once = record {
  asks = λ k q. ap (option_map last_in) (windows_carried from nodes k q once) ∙ asked q (older_of from k);
  passing = λ k q. ap passed_in (windows_carried from nodes k q once) ∙ passed q (older_of from k);
} where
  asked : (q : ℕ) (o : Option ℕ) → option_map last_in (option_and_then (λ j. found nodes j q) o) ≡ option_and_then (λ j. last_asks nodes j q) o
  asked q None = refl
  asked q (Some j) = refl

  passed : (q : ℕ) (o : Option ℕ) → passed_in (option_and_then (λ j. found nodes j q) o) ≡ option_map_or (λ j. passed_of nodes j q) o 0
  passed q None = refl
  passed q (Some j) = refl

pub fits_carried : (from : List (Option ℕ)) (nodes : Nodes) (history : List Entry) → IsOnce from → AreWindowsOf nodes history → AreWindowsOf (carried from nodes) history
fits_carried from nodes history once fits = λ k q w at. by q w (older_of from k) (sym (windows_carried from nodes k q once) ∙ at) where
  by : (q : ℕ) (w : SeriesWindow) (o : Option ℕ) → option_and_then (λ j. found nodes j q) o ≡ Some w → HasWindow history q w
  by q w None e = absurd (cc)
  by q w (Some j) e = fits j q w e

-- windows that get their numbers one after another, or go, as a closure says that holds choices
pub carried_retained : {S : Type 0} (R : S → Row → Bool → S → Row → Type 0) (choices : S → List (Option ℕ)) (from : List (Option ℕ)) → IsOnce from
    → ((s : S) (n : Row) (there : Bool) (t : S) (m : Row) → R s n there t m
    → (IsOnce (choices s) → there ≡ is_some (number_from n.0 (choices s))) × (IsOnce (choices s) → m ≡ (unwrap_or (number_from n.0 (choices s)) n.0, n.1)) × (choices t ≡ choices s))
    → (s : S) (nodes left : Nodes) → choices s ≡ from → RetainsInTurn R s nodes left → left ≡ carried from nodes
carried_retained R choices from once said s [] left same h = h
carried_retained R choices from once said s (n ∷ nodes) left same h =
    let is = said s n h.0 h.1 h.2 h.3 in
    let all = subst IsOnce (sym same) once in
    by (number_from n.0 from) (is.0 all ∙ ap (λ l. is_some (number_from n.0 l)) same) (is.1 all ∙ ap (λ l. (unwrap_or (number_from n.0 l) n.0, n.1)) same)
    (carried_retained R choices from once said h.1 nodes h.4 (is.2 ∙ same) h.5) where
      by : (o : Option ℕ) → h.0 ≡ is_some o → h.2 ≡ (unwrap_or o n.0, n.1) → h.4 ≡ carried from nodes → left ≡ renumbered o n.1 (carried from nodes)
      by None there under rest = h.6 ∙ (λ i. cond (there i) (h.2 ∷ h.4) h.4) ∙ rest
      by (Some k) there under rest = h.6 ∙ (λ i. cond (there i) (under i ∷ rest i) (rest i))

-- numbers that are apart go on under numbers that are
absent_carried : (from : List (Option ℕ)) (nodes : Nodes) (j k : ℕ) → number_from j from ≡ Some k → IsAbsent (numbers_of nodes) j → IsAbsent (numbers_of (carried from nodes)) k
absent_carried from [] j k e h = tt
absent_carried from (n ∷ nodes) j k e h = by (number_from n.0 from) refl (absent_carried from nodes j k e h.1) where
  by : (o : Option ℕ) → number_from n.0 from ≡ o → IsAbsent (numbers_of (carried from nodes)) k → IsAbsent (numbers_of (renumbered o n.1 (carried from nodes))) k
  by None g rest = rest
  by (Some k') g rest = (test (nat_eq k k') refl, rest) where
    test : (b : Bool) → nat_eq k k' ≡ b → b ≡ false
    test false f = refl
    test true f =
        let same : k ≡ k' = eqb-true k k' f in
        let first = number_is j from k e in
        let second = number_is n.0 from k' g in
        let equal : Some (Some j) ≡ Some (Some n.0) = sym first ∙ ap (slice_get from) same ∙ second in
        let older : j ≡ n.0 = cc in
        let yes : nat_eq j n.0 ≡ true = grind (arith, common_steps) in
        absurd (cc (yes, h.0))

pub apart_carried : (from : List (Option ℕ)) (nodes : Nodes) → AreApart (numbers_of nodes) → AreApart (numbers_of (carried from nodes))
apart_carried from [] h = tt
apart_carried from (n ∷ nodes) h = by (number_from n.0 from) refl (apart_carried from nodes h.1) where
  by : (o : Option ℕ) → number_from n.0 from ≡ o → AreApart (numbers_of (carried from nodes)) → AreApart (numbers_of (renumbered o n.1 (carried from nodes)))
  by None g rest = rest
  by (Some k) g rest = (absent_carried from nodes n.0 k g h.0, rest)
