-- Entries that are put in parts.
use Rattle.std.proofs.Common.{◌≡◌, ℕ, ◌+◌, ◌-◌, ◌<◌, ℤ, Bool, true, false, Result, OnOk, OnErr, length, get_or, take, drop, arith, List, [], ◌∷◌, ◌++◌, refl, sym, ap, ◌∙◌, subst, append_assoc, append-nil}
use Rattle.std.specs.declared.result.Result.TheVariants.{Ok, Err}
use Rattle.spec_history.specs.declared.entry.Entry.{Entry}
use Rattle.spec_history.specs.Admission.{put_all}
use Rattle.pr_head.specs.private.Holds.{Holds, IsWhole}
use Rattle.std.proofs.lemmas.List.{length-append, take_more, take-append-drop}
use Rattle.spec_history.specs.Puts.{added_count, admitted}
use Rattle.spec_history.proofs.Putting.{admitted_counted, admitted_parts, puts_parts}
use Rattle.pr_head.specs.private.Intake.{HasTaken, HasTakenFront, Puts, PutsIf, Series}

pub puts_none : (a : Series) (rows history : List Entry) → Holds a history → Puts a a rows rows history []
puts_none a rows history h = record { taken = record { holds = h; whole = λ x w. w }; added = sym (append-nil rows) }

pub taken_then : (a b c : Series) (history es more : List Entry) → HasTaken a b history es → HasTaken b c (put_all history es) more → HasTaken a c history (es ++ more)
taken_then a b c history es more p q = record {
  holds = subst (λ (l : List Entry). Holds c l) (sym (puts_parts history es more)) q.holds;
  whole = λ x w. subst (λ (l : List Entry). IsWhole c l x) (sym (puts_parts history es more)) (q.whole x (p.whole x w));
}

pub puts_then : (a b c : Series) (r s t history es more : List Entry) → Puts a b r s history es → Puts b c s t (put_all history es) more → Puts a c r t history (es ++ more)
puts_then a b c r s t history es more p q = record {
  taken = taken_then a b c history es more p.taken q.taken;
  added = q.added ∙ ap (λ (l : List Entry). l ++ admitted (put_all history es) more) p.added
      ∙ append_assoc r (admitted history es) (admitted (put_all history es) more)
      ∙ ap (λ (l : List Entry). r ++ l) (sym (admitted_parts history es more));
}

-- where rows are told, and where they are not
pub puts_if_none : (tells : Bool) (a : Series) (rows history : List Entry) → Holds a history → PutsIf tells a a rows rows history []
puts_if_none tells a rows history h = record { taken = record { holds = h; whole = λ x w. w }; added = λ t. sym (append-nil rows) }

pub puts_if_then : (tells : Bool) (a b c : Series) (r s t history es more : List Entry) → PutsIf tells a b r s history es → PutsIf tells b c s t (put_all history es) more → PutsIf tells a c r t history (es ++ more)
puts_if_then tells a b c r s t history es more p q = record {
  taken = taken_then a b c history es more p.taken q.taken;
  added = λ told. (puts_then a b c r s t history es more (record { taken = p.taken; added = p.added told }) (record { taken = q.taken; added = q.added told })).added;
}

pub puts_told : {T E : Type 0} (o : Result T E) (tells : Bool) (a b : Series) (r s history es : List Entry) → OnOk o (Puts a b r s history es) → OnOk o (PutsIf tells a b r s history es)
puts_told (Ok v) tells a b r s history es p = record { taken = p.taken; added = λ told. p.added }
puts_told (Err e) tells a b r s history es p = tt

pub puts_untold : (tells : Bool) (a b : Series) (r s history es : List Entry) → tells ≡ false → HasTaken a b history es → PutsIf tells a b r s history es
puts_untold tells a b r s history es untold p = record { taken = p; added = λ told. absurd (let z : true ≡ false = sym told ∙ untold in cc) }

pub puts_untold_if : {T E : Type 0} (o : Result T E) (tells : Bool) (a b : Series) (r s history es : List Entry) → tells ≡ false → OnOk o (HasTaken a b history es) → OnOk o (PutsIf tells a b r s history es)
puts_untold_if (Ok v) tells a b r s history es untold p = puts_untold tells a b r s history es untold p
puts_untold_if (Err e) tells a b r s history es untold p = tt

pub taken_none : (a : Series) (history : List Entry) → Holds a history → HasTaken a a history []
taken_none a history h = record { holds = h; whole = λ x w. w }

pub front_none : (a : Series) (history es : List Entry) → Holds a history → HasTakenFront a a history es
front_none a history es h = record { front = []; rest = es; parts = refl; taken = record { holds = h; whole = λ x w. w } }

pub front_all : (a b : Series) (history es : List Entry) → HasTaken a b history es → HasTakenFront a b history es
front_all a b history es p = record { front = es; rest = []; parts = sym (append-nil es); taken = p }

pub front_then : (a b c : Series) (history es more : List Entry) → HasTaken a b history es → HasTakenFront b c (put_all history es) more → HasTakenFront a c history (es ++ more)
front_then a b c history es more p q = record {
  front = es ++ q.front;
  rest = q.rest;
  parts = ap (λ (l : List Entry). es ++ l) q.parts ∙ sym (append_assoc es q.front q.rest);
  taken = taken_then a b c history es q.front p q.taken;
}

pub front_more : (a b : Series) (history es more : List Entry) → HasTakenFront a b history es → HasTakenFront a b history (es ++ more)
front_more a b history es more p = record {
  front = p.front;
  rest = p.rest ++ more;
  parts = ap (λ (l : List Entry). l ++ more) p.parts ∙ append_assoc p.front p.rest more;
  taken = p.taken;
}

-- where a call answers Ok
pub taken_if : {T E : Type 0} (r : Result T E) (a b : Series) (history es : List Entry)
    → OnOk r (Holds b (put_all history es)) → ((x : ℤ) → IsWhole a history x → OnOk r (IsWhole b (put_all history es) x)) → OnOk r (HasTaken a b history es)
taken_if (Ok v) a b history es holds whole = record { holds = holds; whole = whole }
taken_if (Err e) a b history es holds whole = tt

pub front_if : {T E : Type 0} (r : Result T E) (a b : Series) (history es : List Entry) → HasTakenFront a b history es → OnErr r (HasTakenFront a b history es)
front_if (Ok v) a b history es p = tt
front_if (Err e) a b history es p = p

-- the first items and the next one
pub next_of : {X : Type 0} (items : List X) (i : ℕ) (x : X) → i < length items → x ≡ get_or items i x → take (i + 1) items ≡ take i items ++ x ∷ []
next_of {X} items i x h is = take_more items i x h ∙ ap (λ (y : X). take i items ++ y ∷ []) (sym is)

-- A loop over items, of which each has its entries: one more item is put, or memory is wanting at
-- it.
pub next_puts : {X : Type 0} (g : List X → List Entry) → ((xs ys : List X) → g (xs ++ ys) ≡ g xs ++ g ys)
    → (items : List X) (i : ℕ) (x : X) → i < length items → x ≡ get_or items i x
    → (a m b : Series) (r s t history : List Entry) → Puts a m r s history (g (take i items)) → Puts m b s t (put_all history (g (take i items))) (g (x ∷ []))
    → Puts a b r t history (g (take (i + 1) items))
next_puts g parts items i x h is a m b r s t history p q =
    subst (λ (l : List Entry). Puts a b r t history l) (sym (ap g (next_of items i x h is) ∙ parts (take i items) (x ∷ [])))
    (puts_then a m b r s t history (g (take i items)) (g (x ∷ [])) p q)

pub next_taken : {X : Type 0} (g : List X → List Entry) → ((xs ys : List X) → g (xs ++ ys) ≡ g xs ++ g ys)
    → (items : List X) (i : ℕ) (x : X) → i < length items → x ≡ get_or items i x
    → (a m b : Series) (history : List Entry) → HasTaken a m history (g (take i items)) → HasTaken m b (put_all history (g (take i items))) (g (x ∷ []))
    → HasTaken a b history (g (take (i + 1) items))
next_taken g parts items i x h is a m b history p q =
    subst (λ (l : List Entry). HasTaken a b history l) (sym (ap g (next_of items i x h is) ∙ parts (take i items) (x ∷ [])))
    (taken_then a m b history (g (take i items)) (g (x ∷ [])) p q)

pub next_front : {X : Type 0} (g : List X → List Entry) → ((xs ys : List X) → g (xs ++ ys) ≡ g xs ++ g ys)
    → (items : List X) (i : ℕ) (x : X) → i < length items → x ≡ get_or items i x
    → (a m b : Series) (history : List Entry) → HasTaken a m history (g (take i items)) → HasTakenFront m b (put_all history (g (take i items))) (g (x ∷ []))
    → HasTakenFront a b history (g items)
next_front g parts items i x h is a m b history p q =
    let whole = sym (parts (take (i + 1) items) (drop (i + 1) items)) ∙ ap g (take-append-drop (i + 1) items) in
    let first = ap g (next_of items i x h is) ∙ parts (take i items) (x ∷ []) in
    subst (λ (l : List Entry). HasTakenFront a b history l) whole
    (front_more a b history (g (take (i + 1) items)) (g (drop (i + 1) items))
    (subst (λ (l : List Entry). HasTakenFront a b history l) (sym first) (front_then a m b history (g (take i items)) (g (x ∷ [])) p q)))

-- the rows of entries, and how many they are
pub rows_are : (a b : Series) (r s history es : List Entry) → Puts a b r s history es → r ≡ [] → s ≡ admitted history es
rows_are a b r s history es p none = p.added ∙ ap (λ (l : List Entry). l ++ admitted history es) none

pub rows_counted : (a b : Series) (r s history es : List Entry) → Puts a b r s history es → r ≡ [] → length s ≡ added_count history es
rows_counted a b r s history es p none = ap length (rows_are a b r s history es p none) ∙ admitted_counted history es

less_of : (m n k : ℕ) → k ≡ m + n → k - m ≡ n
less_of m n k h = omega arith

pub rows_between : (a b : Series) (r s history es : List Entry) → Puts a b r s history es → length s - length r ≡ added_count history es
rows_between a b r s history es p =
    less_of (length r) (added_count history es) (length s)
    (ap length p.added ∙ length-append r (admitted history es) ∙ ap (λ (n : ℕ). length r + n) (admitted_counted history es))
