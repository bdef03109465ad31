-- The next of the checks of a test.
use Rattle.std.proofs.Common.{◌≡◌, ℕ, zero, suc, ◌<◌, ◌≤◌, Bool, true, false, cond, nat_lt, nat_le, max, List, [], ◌∷◌, ◌++◌, map, fold, slice_get, Option, Some, None, ◌⊎◌, inl, inr, refl, sym, ap, subst, arith}
use Rattle.std.specs.List.{AllByRecursion}
use Rattle.std.proofs.lemmas.Bool.Decides.{nat_tests}
use Rattle.spec_tests.specs.pr_testfile.declared.tests.AlertCheck.{AlertCheck}
use Rattle.spec_tests.specs.pr_testfile.declared.tests.ExprCheck.{ExprCheck}
use Rattle.spec_tests.specs.pr_testfile.declared.tests.Test.{Test}
use Rattle.spec_tests.specs.pr_testfile.Checks.{PlainCheck, plain_check}
use Rattle.spec_tests.specs.pr_testfile.Tests.{plain_test}
use Rattle.spec_tests.specs.Events.{last_check, later_of}
use Rattle.pr_unit.specs.private.Run.{IsNextCheck, IsOutside}
use Rattle.pr_unit.specs.private.Times.{earlier_of, next_time, sooner_of}

-- No time is from one on

is_below : (a b : ℕ) → nat_lt a b ≡ true → a < b
is_below a b h = grind (arith, nat_tests)

is_from : (a b : ℕ) → nat_lt a b ≡ false → b ≤ a
is_from a b h = grind (arith, nat_tests)

is_up_to : (a b : ℕ) → nat_le a b ≡ true → a ≤ b
is_up_to a b h = grind (arith, nat_tests)

is_above : (a b : ℕ) → nat_le a b ≡ false → b ≤ a
is_above a b h = grind (arith, nat_tests)

never_none : (o : Option ℕ) (x : ℕ) → sooner_of o x ≡ None → ⊥
never_none None x h = absurd cc
never_none (Some u) x h = by (nat_le u x) h where
  by : (b : Bool) → cond b (Some u) (Some x) ≡ None → ⊥
  by true e = absurd cc
  by false e = absurd cc

none_from : (from : ℕ) (o : Option ℕ) (times : List ℕ) → fold (earlier_of from) o times ≡ None → (o ≡ None) × AllByRecursion (λ x. x < from) times
none_from from o [] h = (h, tt)
none_from from o (x ∷ xs) h = by (nat_lt x from) refl (none_from from (earlier_of from o x) xs h) where
  by : (b : Bool) → nat_lt x from ≡ b → (cond b o (sooner_of o x) ≡ None) × AllByRecursion (λ y. y < from) xs → (o ≡ None) × AllByRecursion (λ y. y < from) (x ∷ xs)
  by true e r = (r.0, (is_below x from e, r.1))
  by false e r = absurd (never_none o x r.0)

pub no_time_left : (from : ℕ) (times : List ℕ) → next_time from times ≡ None → AllByRecursion (λ x. x < from) times
no_time_left from times h = (none_from from None times h).1

-- The next one

abbrev IsLater : ℕ → Option ℕ → Type 0
IsLater from None = Unit {0}
IsLater from (Some u) = from ≤ u

abbrev IsMost : ℕ → Option ℕ → Type 0
IsMost t None = Unit {0}
IsMost t (Some u) = t ≤ u

pub record IsAmong (t : ℕ) (times : List ℕ) : Type 0 where
  pub index : ℕ
  pub there : slice_get times index ≡ Some t

record IsNext (from : ℕ) (o : Option ℕ) (times : List ℕ) (t : ℕ) : Type 0 where
  later : from ≤ t
  most : IsMost t o
  outside : AllByRecursion (IsOutside from t) times
  among : (o ≡ Some t) ⊎ IsAmong t times

further : (t x : ℕ) (xs : List ℕ) (o : Option ℕ) → (o ≡ Some t) ⊎ IsAmong t xs → (o ≡ Some t) ⊎ IsAmong t (x ∷ xs)
further t x xs o (inl e) = inl e
further t x xs o (inr a) = inr (record { index = suc a.index; there = a.there })

first : (t x : ℕ) (xs : List ℕ) (o : Option ℕ) → (Some x ≡ Some t) ⊎ IsAmong t xs → (o ≡ Some t) ⊎ IsAmong t (x ∷ xs)
first t x xs o (inl e) = inr (record { index = 0; there = e })
first t x xs o (inr a) = inr (record { index = suc a.index; there = a.there })

abbrev Follows : ℕ → List ℕ → ℕ → Type 0
Follows from xs t = (o : Option ℕ) → IsLater from o → fold (earlier_of from) o xs ≡ Some t → IsNext from o xs t

taken_first : (from x : ℕ) (xs : List ℕ) (t : ℕ) (o : Option ℕ) → Follows from xs t → from ≤ x → IsMost x o → fold (earlier_of from) (Some x) xs ≡ Some t → IsNext from o (x ∷ xs) t
taken_first from x xs t o follows at most h = by o most (follows (Some x) at h) where
  by : (o : Option ℕ) → IsMost x o → IsNext from (Some x) xs t → IsNext from o (x ∷ xs) t
  by None m n = record { later = n.later; most = tt; outside = (inr n.most, n.outside); among = first t x xs None n.among }
  by (Some u) m n = let l : t ≤ x = n.most in record { later = n.later; most = omega arith; outside = (inr n.most, n.outside); among = first t x xs (Some u) n.among }

kept_first : (from x : ℕ) (xs : List ℕ) (t u : ℕ) → Follows from xs t → from ≤ u → u ≤ x → fold (earlier_of from) (Some u) xs ≡ Some t → IsNext from (Some u) (x ∷ xs) t
kept_first from x xs t u follows late le h = by (follows (Some u) late h) where
  by : IsNext from (Some u) xs t → IsNext from (Some u) (x ∷ xs) t
  by n = let m : t ≤ u = n.most in record { later = n.later; most = n.most; outside = (inr (omega arith), n.outside); among = further t x xs (Some u) n.among }

by_sooner : (from x : ℕ) (xs : List ℕ) (t : ℕ) (o : Option ℕ) → Follows from xs t → from ≤ x → IsLater from o → fold (earlier_of from) (sooner_of o x) xs ≡ Some t → IsNext from o (x ∷ xs) t
by_sooner from x xs t None follows at late h = taken_first from x xs t None follows at tt h
by_sooner from x xs t (Some u) follows at late h = by (nat_le u x) refl h where
  by : (b : Bool) → nat_le u x ≡ b → fold (earlier_of from) (cond b (Some u) (Some x)) xs ≡ Some t → IsNext from (Some u) (x ∷ xs) t
  by true e k = kept_first from x xs t u follows late (is_up_to u x e) k
  by false e k = taken_first from x xs t (Some u) follows at (is_above u x e) k

passed_over : (from x : ℕ) (xs : List ℕ) (t : ℕ) (o : Option ℕ) → x < from → IsNext from o xs t → IsNext from o (x ∷ xs) t
passed_over from x xs t o low n = record { later = n.later; most = n.most; outside = (inl low, n.outside); among = further t x xs o n.among }

next_step : (from x : ℕ) (xs : List ℕ) (t : ℕ) → Follows from xs t → Follows from (x ∷ xs) t
next_step from x xs t follows o late h = by (nat_lt x from) refl h where
  by : (b : Bool) → nat_lt x from ≡ b → fold (earlier_of from) (cond b o (sooner_of o x)) xs ≡ Some t → IsNext from o (x ∷ xs) t
  by true e k = passed_over from x xs t o (is_below x from e) (follows o late k)
  by false e k = by_sooner from x xs t o follows (is_from x from e) late k

next_is : (from : ℕ) (times : List ℕ) (t : ℕ) → Follows from times t
next_is from [] t o late h = record { later = subst (IsLater from) h late; most = subst (IsMost t) (sym h) (omega arith); outside = tt; among = inl h }
next_is from (x ∷ xs) t o late h = next_step from x xs t (next_is from xs t) o late h

-- The last one

pub record IsLatest (o : Option ℕ) (x : ℕ) : Type 0 where
  pub latest : ℕ
  pub is : o ≡ Some latest
  pub until : x ≤ latest

latest_from : (a : ℕ) (times : List ℕ) → IsLatest (fold later_of (Some a) times) a
latest_from a [] = record { latest = a; is = refl; until = omega arith }
latest_from a (x ∷ xs) = let l = latest_from (max a x) xs in let m : max a x ≤ l.latest = l.until in record { latest = l.latest; is = l.is; until = omega arith }

latest_of : (o : Option ℕ) (times : List ℕ) (k x : ℕ) → slice_get times k ≡ Some x → IsLatest (fold later_of o times) x
latest_of o [] k x h = absurd cc
latest_of None (y ∷ ys) zero x h = let e : y ≡ x = cc in subst (IsLatest (fold later_of (Some y) ys)) e (latest_from y ys)
latest_of (Some a) (y ∷ ys) zero x h =
    let e : y ≡ x = cc in let l = latest_from (max a y) ys in let m : max a y ≤ l.latest = l.until in record { latest = l.latest; is = l.is; until = omega arith }
latest_of o (y ∷ ys) (suc k) x h = latest_of (later_of o y) ys k x h

-- Of a test

abbrev pub test_times : Test → List ℕ
test_times test = map (λ (c : AlertCheck). c.time) test.alerts ++ map (λ (c : ExprCheck). c.time) test.exprs

plain_times : (checks : List ExprCheck) → map (λ (c : PlainCheck). c.time) (map plain_check checks) ≡ map (λ (c : ExprCheck). c.time) checks
plain_times [] = refl
plain_times (c ∷ cs) = ap (λ (l : List ℕ). c.time ∷ l) (plain_times cs)

same_times : (test : Test) → map (λ (c : AlertCheck). c.time) (plain_test test).alerts ++ map (λ (c : PlainCheck). c.time) (plain_test test).exprs ≡ test_times test
same_times test = ap (λ (l : List ℕ). map (λ (c : AlertCheck). c.time) test.alerts ++ l) (plain_times test.exprs)

all_left : {X : Type 0} (P : X → Type 0) (xs ys : List X) → AllByRecursion P (xs ++ ys) → AllByRecursion P xs
all_left P [] ys h = tt
all_left P (x ∷ xs) ys h = (h.0, all_left P xs ys h.1)

all_right : {X : Type 0} (P : X → Type 0) (xs ys : List X) → AllByRecursion P (xs ++ ys) → AllByRecursion P ys
all_right P [] ys h = h
all_right P (x ∷ xs) ys h = all_right P xs ys h.1

all_before : {X Y : Type 0} (P : Y → Type 0) (f : X → Y) (xs : List X) → AllByRecursion P (map f xs) → AllByRecursion (λ x. P (f x)) xs
all_before P f [] h = tt
all_before P f (x ∷ xs) h = (h.0, all_before P f xs h.1)

-- what holds of the times of all checks holds of those of alerts, and of those of expressions
pub of_alerts : (P : ℕ → Type 0) (test : Test) → AllByRecursion P (test_times test) → AllByRecursion (λ (c : AlertCheck). P c.time) (plain_test test).alerts
of_alerts P test h = all_before P (λ (c : AlertCheck). c.time) test.alerts (all_left P (map (λ (c : AlertCheck). c.time) test.alerts) (map (λ (c : ExprCheck). c.time) test.exprs) h)

pub of_exprs : (P : ℕ → Type 0) (test : Test) → AllByRecursion P (test_times test) → AllByRecursion (λ (c : PlainCheck). P c.time) (plain_test test).exprs
of_exprs P test h =
    all_before P (λ (c : PlainCheck). c.time) (map plain_check test.exprs)
    (subst (AllByRecursion P) (sym (plain_times test.exprs)) (all_right P (map (λ (c : AlertCheck). c.time) test.alerts) (map (λ (c : ExprCheck). c.time) test.exprs) h))

pub next_check : (test : Test) (from time : ℕ) → next_time from (test_times test) ≡ Some time → IsNextCheck (plain_test test) from time
next_check test from time h = by n.among
  where
    n : IsNext from None (test_times test) time
    n = next_is from (test_times test) time None tt h

    with_latest : IsLatest (last_check (plain_test test)) time → IsNextCheck (plain_test test) from time
    with_latest l = record {
      later = n.later;
      latest = l.latest;
      last = l.is;
      until = l.until;
      alerts = of_alerts (IsOutside from time) test n.outside;
      exprs = of_exprs (IsOutside from time) test n.outside;
    }

    by : (None ≡ Some time) ⊎ IsAmong time (test_times test) → IsNextCheck (plain_test test) from time
    by (inl e) = absurd cc
    by (inr a) = with_latest (subst (λ (l : List ℕ). IsLatest (fold later_of None l) time) (sym (same_times test)) (latest_of None (test_times test) a.index time a.there))
