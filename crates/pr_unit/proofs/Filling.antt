-- Slots are filled, one after another and time by time.
use Rattle.std.proofs.Common.{◌≡◌, ◌≢◌, ℕ, zero, suc, ◌+◌, ◌<◌, ◌≤◌, List, [], ◌∷◌, ◌++◌, map, take, length, slice_get, Some, ◌⊎◌, inl, inr, refl, sym, ap, subst, ◌∙◌, arith, append_assoc, append-nil}
use Rattle.std.specs.Prelude.{◌==◌, not, false, slice_set}
use Rattle.std.proofs.lemmas.Bool.Decides.{nat_tests}
use Rattle.std.specs.List.{AllByRecursion, enumerate_from, flat_map}
use Rattle.spec_tests.specs.declared.failure.Failure.{Failure}
use Rattle.pr_group.specs.spec_rules.Groups.{Group}
use Rattle.spec_tests.specs.pr_testfile.Tests.{PlainTest}
use Rattle.spec_tests.specs.Verdict.{alert_check, expr_check, test_verdict}
use Rattle.spec_tests.proofs.Evaluating.{same_or_not, set_other}
use Rattle.pr_unit.specs.private.Run.{IsOutside}
use Rattle.pr_unit.specs.private.Slots.{AreAllFilled, AreFilled, AreFilling, empty_slots}
use Rattle.pr_unit.proofs.Lists.{same_there, set_here, set_length, within_list}

all_there : {X : Type 0} (P : X → Type 0) (xs : List X) → AllByRecursion P xs → (k : ℕ) (x : X) → slice_get xs k ≡ Some x → P x
all_there P [] h k x at = absurd cc
all_there P (y ∷ ys) h zero x at = let e : y ≡ x = cc in subst P e h.0
all_there P (y ∷ ys) h (suc k) x at = all_there P ys h.1 k x at

empty_length : (n : ℕ) → length (empty_slots n) ≡ n
empty_length zero = refl
empty_length (suc n) = ap suc (empty_length n)

pub none_filled : {C : Type 0} (found : ℕ × C → List Failure) (time : C → ℕ) (checks : List C) → AreFilled found time checks 0 (empty_slots (length checks))
none_filled found time checks = record { many = empty_length (length checks); each = λ k c fs a b low. absurd (omega arith) }

-- no check stands between two times
pub filled_until : {C : Type 0} (found : ℕ × C → List Failure) (time : C → ℕ) (checks : List C) (from until : ℕ) (slots : List (List Failure)) → AllByRecursion (λ c. IsOutside from until (time c)) checks
    → AreFilled found time checks from slots → AreFilled found time checks until slots
filled_until {C} found time checks from until slots outside h = record {
  many = h.many;
  each = λ k c fs a b low. h.each k c fs a b (by (time c) low (all_there (λ x. IsOutside from until (time x)) checks outside k c a));
}
  where
    by : (t : ℕ) → t < until → IsOutside from until t → t < from
    by t low (inl lt) = lt
    by t low (inr le) = absurd (omega arith)

pub begins_filling : {C : Type 0} (found : ℕ × C → List Failure) (time : C → ℕ) (checks : List C) (now : ℕ) (slots : List (List Failure)) → AreFilled found time checks now slots → AreFilling found time checks now 0 slots
begins_filling found time checks now slots h = record { many = h.many; done = λ k c fs low a b early. absurd (omega arith); rest = λ k c fs low a b early. h.each k c fs a b early }

pub ends_filling : {C : Type 0} (found : ℕ × C → List Failure) (time : C → ℕ) (checks : List C) (now n : ℕ) (slots : List (List Failure)) → length checks ≤ n
    → AreFilling found time checks now n slots → AreFilled found time checks (now + 1) slots
ends_filling found time checks now n slots all h = record {
  many = h.many;
  each = λ k c fs a b early. let low : k < length checks = within_list checks k c a in h.done k c fs (omega arith) a b early;
}

-- the check with the next number is of another time
pub one_passed : {C : Type 0} (found : ℕ × C → List Failure) (time : C → ℕ) (checks : List C) (now n : ℕ) (slots : List (List Failure)) (c : C) → slice_get checks n ≡ Some c → time c ≢ now
    → AreFilling found time checks now n slots → AreFilling found time checks now (n + 1) slots
one_passed {C} found time checks now n slots c there other h = record {
  many = h.many;
  done = λ k x fs low a b early. by k x fs low a b early (same_or_not k n);
  rest = λ k x fs high a b early. h.rest k x fs (omega arith) a b early;
}
  where
    by : (k : ℕ) (x : C) (fs : List Failure) → k < n + 1 → slice_get checks k ≡ Some x → slice_get slots k ≡ Some fs → time x < now + 1 → (k ≡ n) ⊎ (k ≢ n) → fs ≡ found (k + 1, x)
    by k x fs low a b early (inl e) =
        let mine : x ≡ c = same_there checks n x c (ap (slice_get checks) (sym e) ∙ a) there in
        let times : time x ≡ time c = ap time mine in
        let apart : time x ≢ now = λ same. other (sym times ∙ same) in
        h.rest k x fs (omega arith) a b (omega arith)
    by k x fs low a b early (inr d) = h.done k x fs (omega arith) a b early

-- it is of that time
pub one_filled : {C : Type 0} (found : ℕ × C → List Failure) (time : C → ℕ) (checks : List C) (now n : ℕ) (slots : List (List Failure)) (c : C) (new : List Failure) → slice_get checks n ≡ Some c → new ≡ found (n + 1, c)
    → AreFilling found time checks now n slots → AreFilling found time checks now (n + 1) (slice_set slots n new)
one_filled {C} found time checks now n slots c new there is h = record {
  many = set_length slots n new ∙ h.many;
  done = λ k x fs low a b early. by k x fs low a b early (same_or_not k n);
  rest = λ k x fs high a b early. h.rest k x fs (omega arith) a (sym (set_other slots n k new (λ e. absurd (omega arith))) ∙ b) early;
}
  where
    by : (k : ℕ) (x : C) (fs : List Failure) → k < n + 1 → slice_get checks k ≡ Some x → slice_get (slice_set slots n new) k ≡ Some fs → time x < now + 1 → (k ≡ n) ⊎ (k ≢ n) → fs ≡ found (k + 1, x)
    by k x fs low a b early (inl e) =
        let mine : x ≡ c = same_there checks n x c (ap (slice_get checks) (sym e) ∙ a) there in
        let now_there : fs ≡ new = set_here slots n fs new (ap (slice_get (slice_set slots n new)) (sym e) ∙ b) in
        now_there ∙ is ∙ ap (λ (y : C). found (n + 1, y)) (sym mine) ∙ ap (λ (m : ℕ). found (m + 1, x)) (sym e)
    by k x fs low a b early (inr d) = h.done k x fs (omega arith) a (sym (set_other slots n k new d) ∙ b) early

-- All are filled.

from_none : (m : ℕ) → 0 + m ≡ m
from_none m = omega arith

one_further : (k m : ℕ) → suc k + m ≡ k + (m + 1)
one_further k m = omega arith

each_is : {C : Type 0} (found : ℕ × C → List Failure) (m : ℕ) (checks : List C) (slots : List (List Failure)) → length slots ≡ length checks
    → ((k : ℕ) (c : C) (fs : List Failure) → slice_get checks k ≡ Some c → slice_get slots k ≡ Some fs → fs ≡ found (k + m, c)) → slots ≡ map found (enumerate_from m checks)
each_is found m [] [] e h = refl
each_is found m [] (fs ∷ slots) e h = absurd (omega arith)
each_is found m (c ∷ checks) [] e h = absurd (omega arith)
each_is {C} found m (c ∷ checks) (fs ∷ slots) e h =
    let here : fs ≡ found (m, c) = h 0 c fs refl refl ∙ ap (λ (n : ℕ). found (n, c)) (from_none m) in
    let rest : slots ≡ map found (enumerate_from (m + 1) checks) =
    each_is found (m + 1) checks slots (omega arith) (λ k x gs a b. h (suc k) x gs a b ∙ ap (λ (n : ℕ). found (n, x)) (one_further k m)) in
    ap (λ (x : List Failure). x ∷ slots) here ∙ ap (λ (l : List (List Failure)). found (m, c) ∷ l) rest

pub all_filled : {C : Type 0} (found : ℕ × C → List Failure) (time : C → ℕ) (checks : List C) (from : ℕ) (slots : List (List Failure)) → AllByRecursion (λ c. time c < from) checks
    → AreFilled found time checks from slots → slots ≡ map found (enumerate_from 1 checks)
all_filled found time checks from slots early h =
    each_is found 1 checks slots h.many (λ k c fs a b. h.each k c fs a b (all_there (λ x. time x < from) checks early k c a))

pub flat_found : {C : Type 0} (found : ℕ × C → List Failure) (xs : List (ℕ × C)) → flat_map (λ (list : List Failure). list) (map found xs) ≡ flat_map found xs
flat_found found [] = refl
flat_found found (x ∷ xs) = ap (λ (l : List Failure). found x ++ l) (flat_found found xs)

-- One test after another

pub verdict_is : (every : ℕ) (groups : List Group) (number : ℕ) (t : PlainTest) (old middle new : List Failure) (alerts exprs : List (List Failure)) → AreAllFilled every groups number t alerts exprs
    → middle ≡ old ++ flat_map (λ (list : List Failure). list) alerts → new ≡ middle ++ flat_map (λ (list : List Failure). list) exprs → new ≡ old ++ test_verdict every groups (number, t)
unfolding test_verdict
verdict_is every groups number t old middle new alerts exprs h first second =
    second
    ∙ ap (λ (l : List Failure). l ++ flat_map (λ (list : List Failure). list) exprs) first
    ∙ append_assoc old (flat_map (λ (list : List Failure). list) alerts) (flat_map (λ (list : List Failure). list) exprs)
    ∙ ap (λ (l : List (List Failure)). old ++ (flat_map (λ (list : List Failure). list) l ++ flat_map (λ (list : List Failure). list) exprs)) h.alerts_found
    ∙ ap (λ (l : List Failure). old ++ (l ++ flat_map (λ (list : List Failure). list) exprs)) (flat_found (alert_check every groups number t) (enumerate_from 1 t.alerts))
    ∙ ap (λ (l : List (List Failure)). old ++ (flat_map (alert_check every groups number t) (enumerate_from 1 t.alerts) ++ flat_map (λ (list : List Failure). list) l)) h.exprs_found
    ∙ ap (λ (l : List Failure). old ++ (flat_map (alert_check every groups number t) (enumerate_from 1 t.alerts) ++ l)) (flat_found (expr_check every groups number t) (enumerate_from 1 t.exprs))

next_counted : {X Y : Type 0} (f : ℕ × Y → List Failure) (p : X → Y) (m n : ℕ) (xs : List X) (x : X) → slice_get xs n ≡ Some x
    → flat_map f (enumerate_from m (map p (take (suc n) xs))) ≡ flat_map f (enumerate_from m (map p (take n xs))) ++ f (n + m, p x)
next_counted f p m n [] x there = absurd cc
next_counted {X} {Y} f p m zero (y ∷ xs) x there =
    let e : y ≡ x = cc in append-nil (f (m, p y)) ∙ ap (λ (z : X). f (m, p z)) e ∙ ap (λ (k : ℕ). f (k, p x)) (sym (from_none m))
next_counted {X} {Y} f p m (suc n) (y ∷ xs) x there =
    ap (λ (l : List Failure). f (m, p y) ++ l) (next_counted f p (m + 1) n xs x there)
    ∙ sym (append_assoc (f (m, p y)) (flat_map f (enumerate_from (m + 1) (map p (take n xs)))) (f (n + (m + 1), p x)))
    ∙ ap (λ (k : ℕ). (f (m, p y) ++ flat_map f (enumerate_from (m + 1) (map p (take n xs)))) ++ f (k, p x)) (sym (one_further n m))

one_more_on : (n : ℕ) → suc n ≡ n + 1
one_more_on n = omega arith

pub next_test : {X Y : Type 0} (f : ℕ × Y → List Failure) (p : X → Y) (n : ℕ) (xs : List X) (x : X) (old new : List Failure) → slice_get xs n ≡ Some x
    → old ≡ flat_map f (enumerate_from 1 (map p (take n xs))) → new ≡ old ++ f (n + 1, p x) → new ≡ flat_map f (enumerate_from 1 (map p (take (n + 1) xs)))
next_test {X} f p n xs x old new there is more =
    more ∙ ap (λ (l : List Failure). l ++ f (n + 1, p x)) is ∙ sym (next_counted f p 1 n xs x there) ∙ ap (λ (k : ℕ). flat_map f (enumerate_from 1 (map p (take k xs)))) (one_more_on n)

pub same_time : (a b : ℕ) → not (a == b) ≡ false → a ≡ b
same_time a b h = grind (arith, nat_tests)
