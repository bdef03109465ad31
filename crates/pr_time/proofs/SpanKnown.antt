-- What the grammar of spans reads is a zero alone, or parts.
use Rattle.std.proofs.Common.{◌≡◌, ℕ, zero, suc, ◌+◌, ◌*◌, ◌≤◌, List, [], ◌∷◌, ◌++◌, Some, length, length-append, refl, ap, sym, ◌∙◌, subst, arith}
use Rattle.std.proofs.lemmas.List.{append_assoc, append-nil}
use Rattle.pr_forms.specs.Form.{token, turns, fold, Reads, is_token, is_nothing, is_pair, is_left, is_right, is_stop, is_turn, is_fold, is_rule}
use Rattle.pr_time.specs.declared.text.Letter.{Letter}
use Rattle.pr_time.specs.declared.text.Letter.TheVariants.{Digit, Y, W, D, H, M, S, Other}
use Rattle.pr_time.specs.declared.text.Unit.{Unit as TimeUnit}
use Rattle.pr_time.specs.declared.text.Unit.TheVariants.{Year, Week, Day, Hour, Minute, Second, Millisecond}
use Rattle.pr_time.specs.SpanText.{production, Text, After, From, NoUnit, SpanValue, count, scaled, span, digit, digit_at, zero_at, other_digit_at, m_at, unit_at, ms_of, rank, shifted, times, followed, below}
use Rattle.pr_time.specs.private.SpanParts.{letters_of, IsNumber, one_digit, digit_more, AreParts, no_part, a_part, IsSpanText, zero_alone, some_parts}
use Rattle.pr_time.proofs.SpanParts.{RuleReads}

-- what the values of single letters tell
digit_known : (t : Letter) (w : SpanValue) → digit_at t ≡ Some w → (d : ℕ) × (t ≡ Digit d) × (w ≡ count d)
digit_known (Digit d) w e = (d, refl, cc)
digit_known Y w e = cc
digit_known W w e = cc
digit_known D w e = cc
digit_known H w e = cc
digit_known M w e = cc
digit_known S w e = cc
digit_known Other w e = cc

other_digit : (t : Letter) (w : SpanValue) → other_digit_at t ≡ Some w → digit_at t ≡ Some w
other_digit (Digit zero) w e = cc
other_digit (Digit (suc n)) w e = e
other_digit Y w e = cc
other_digit t w e = cc

zero_known : (t : Letter) (w : SpanValue) → zero_at t ≡ Some w → t ≡ Digit zero
zero_known (Digit zero) w e = refl
zero_known (Digit (suc n)) w e = cc
zero_known Y w e = cc
zero_known t w e = cc

m_known : (t : Letter) (w : SpanValue) → m_at t ≡ Some w → t ≡ M
m_known M w e = refl
m_known t w e = cc

-- a unit of one letter
record Named (u : TimeUnit) (t : Letter) (l : Letter) (w : SpanValue) : Type 0 where
  letter : t ≡ l
  value : w ≡ scaled (ms_of u) 0

y_known : (t : Letter) (w : SpanValue) → unit_at Year t ≡ Some w → Named Year t Y w
y_known Y w e = record { letter = refl; value = cc }
y_known t w e = absurd (cc)

w_known : (t : Letter) (w : SpanValue) → unit_at Week t ≡ Some w → Named Week t W w
w_known W w e = record { letter = refl; value = cc }
w_known t w e = absurd (cc)

d_known : (t : Letter) (w : SpanValue) → unit_at Day t ≡ Some w → Named Day t D w
d_known D w e = record { letter = refl; value = cc }
d_known t w e = absurd (cc)

h_known : (t : Letter) (w : SpanValue) → unit_at Hour t ≡ Some w → Named Hour t H w
h_known H w e = record { letter = refl; value = cc }
h_known t w e = absurd (cc)

s_known : (t : Letter) (w : SpanValue) → unit_at Second t ≡ Some w → Named Second t S w
s_known S w e = record { letter = refl; value = cc }
s_known t w e = absurd (cc)

ms_known : (t : Letter) (w : SpanValue) → unit_at Millisecond t ≡ Some w → Named Millisecond t S w
ms_known S w e = record { letter = refl; value = cc }
ms_known t w e = absurd (cc)

-- digits after others
record Numbered (before ts mid : List Letter) (w : SpanValue) : Type 0 where
  digits : List Letter
  number : ℕ
  is : ts ≡ digits ++ mid
  value : w ≡ count number
  all : IsNumber (before ++ digits) number

one_on : (before ts mid : List Letter) (t : Letter) (d : ℕ) (w : SpanValue) → t ≡ Digit d → Numbered (before ++ Digit d ∷ []) ts mid w → Numbered before (t ∷ ts) mid w
one_on before ts mid t d w e x = record {
  digits = Digit d ∷ x.digits;
  number = x.number;
  is = ap (λ y. y ∷ ts) e ∙ ap (λ y. Digit d ∷ y) x.is;
  value = x.value;
  all = subst (λ y. IsNumber y x.number) (append_assoc before (Digit d ∷ []) x.digits) x.all;
}

turns_number : {ts mid : List Letter} {w : SpanValue} (v : SpanValue) (before : List Letter) (m : ℕ) → v ≡ count m → IsNumber before m → Reads production (turns shifted v digit) ts w mid → Numbered before ts mid w
turns_number v before m e h is_stop = record { digits = []; number = m; is = refl; value = e; all = subst (λ y. IsNumber y m) (sym (append-nil before)) h }
turns_number {mid = mid} {w = w} v before m e h (is_turn {mid = rest} (is_token {t = t} {v = x} k) r) =
    let known = digit_known t x k in
    one_on before rest mid t known.0 w known.1 (turns_number (shifted v x) (before ++ Digit known.0 ∷ []) (m * 10 + known.0) (ap (λ y. shifted y x) e ∙ ap (λ y. shifted (count m) y) known.2) (digit_more before m known.0 h) r)

first_number : {ts mid : List Letter} {w : SpanValue} (t : Letter) (v : SpanValue) → digit_at t ≡ Some v → Reads production (turns shifted v digit) ts w mid → Numbered [] (t ∷ ts) mid w
first_number {ts} {mid} {w} t v k r = let known = digit_known t v k in
    one_on [] ts mid t known.0 w known.1 (turns_number v (Digit known.0 ∷ []) known.0 known.2 (one_digit known.0) r)

fold_number : {ts mid : List Letter} {w : SpanValue} → Reads production (fold shifted digit digit) ts w mid → Numbered [] ts mid w
fold_number (is_fold (is_token {t = t} {v = v} k) r) = first_number t v k r

other_number : {ts mid : List Letter} {w : SpanValue} → Reads production (fold shifted (token other_digit_at) digit) ts w mid → Numbered [] ts mid w
other_number (is_fold (is_token {t = t} {v = v} k) r) = first_number t v (other_digit t v k) r

-- a unit of this rank on, and the parts after it
record UnitKnown (k : ℕ) (ts : List Letter) (x : SpanValue) : Type 0 where
  unit : TimeUnit
  rest : List Letter
  parts : SpanValue
  least : k ≤ rank unit
  is : ts ≡ letters_of unit ++ rest
  value : x ≡ followed (scaled (ms_of unit) 0) parts
  reads : RuleReads (After unit) rest parts

later : (j k : ℕ) (ts : List Letter) (x : SpanValue) → j ≤ k → UnitKnown k ts x → UnitKnown j ts x
later j k ts x h u = record { unit = u.unit; rest = u.rest; parts = u.parts; least = omega (arith, h, u.least); is = u.is; value = u.value; reads = u.reads }

own : (u : TimeUnit) (k : ℕ) (t l : Letter) (rest : List Letter) (v w : SpanValue) → k ≤ rank u → letters_of u ≡ l ∷ [] → Named u t l v → RuleReads (After u) rest w → UnitKnown k (t ∷ rest) (followed v w)
own u k t l rest v w h e n d = record {
  unit = u;
  rest = rest;
  parts = w;
  least = h;
  is = ap (λ y. y ∷ rest) n.letter ∙ ap (λ y. y ++ rest) (sym e);
  value = ap (λ y. followed y w) n.value;
  reads = d;
}

both : (t s : Letter) (rest : List Letter) (v w : SpanValue) (k : ℕ) → k ≤ 6 → t ≡ M → Named Millisecond s S v → RuleReads (After Millisecond) rest w → UnitKnown k (t ∷ s ∷ rest) (followed v w)
both t s rest v w k h e n d = record {
  unit = Millisecond;
  rest = rest;
  parts = w;
  least = h;
  is = ap (λ y. y ∷ s ∷ rest) e ∙ ap (λ y. M ∷ y ∷ rest) n.letter;
  value = ap (λ y. followed y w) n.value;
  reads = d;
}

minute : (t : Letter) (rest : List Letter) (w : SpanValue) (k : ℕ) → k ≤ 4 → t ≡ M → RuleReads (After Minute) rest w → UnitKnown k (t ∷ rest) (followed (scaled (ms_of Minute) 0) w)
minute t rest w k h e d = record { unit = Minute; rest = rest; parts = w; least = h; is = ap (λ y. y ∷ rest) e; value = refl; reads = d }

from_ms : {ts : List Letter} {x : SpanValue} → RuleReads (From Millisecond) ts x → UnitKnown 6 ts x
from_ms (is_rule (is_pair (is_token {t = t} {v = a} k) (is_pair {w = w} (is_token {t = s} {v = v} {rest = rest} l) d))) = both t s rest v w 6 (omega arith) (m_known t a k) (ms_known s v l) d

from_s : {ts : List Letter} {x : SpanValue} → RuleReads (From Second) ts x → UnitKnown 5 ts x
from_s (is_rule (is_left (is_pair {w = w} (is_token {t = t} {v = v} {rest = rest} k) d))) = own Second 5 t S rest v w (omega arith) refl (s_known t v k) d
from_s {ts} {x} (is_rule (is_right d)) = later 5 6 ts x (omega arith) (from_ms d)

from_m : {ts : List Letter} {x : SpanValue} → RuleReads (From Minute) ts x → UnitKnown 4 ts x
from_m (is_rule (is_left (is_pair (is_token {t = t} {v = a} k) (is_rule (is_left (is_pair {w = w} (is_token {t = s} {v = v} {rest = rest} l) d)))))) = both t s rest v w 4 (omega arith) (m_known t a k) (ms_known s v l) d
from_m (is_rule (is_left (is_pair (is_token {t = t} {v = a} {rest = rest} k) (is_rule (is_right (is_pair {w = w} is_nothing d)))))) = minute t rest w 4 (omega arith) (m_known t a k) d
from_m (is_rule (is_right (is_pair {w = w} (is_token {t = t} {v = v} {rest = rest} k) d))) = own Second 4 t S rest v w (omega arith) refl (s_known t v k) d

from_h : {ts : List Letter} {x : SpanValue} → RuleReads (From Hour) ts x → UnitKnown 3 ts x
from_h (is_rule (is_left (is_pair {w = w} (is_token {t = t} {v = v} {rest = rest} k) d))) = own Hour 3 t H rest v w (omega arith) refl (h_known t v k) d
from_h {ts} {x} (is_rule (is_right d)) = later 3 4 ts x (omega arith) (from_m d)

from_d : {ts : List Letter} {x : SpanValue} → RuleReads (From Day) ts x → UnitKnown 2 ts x
from_d (is_rule (is_left (is_pair {w = w} (is_token {t = t} {v = v} {rest = rest} k) d))) = own Day 2 t D rest v w (omega arith) refl (d_known t v k) d
from_d {ts} {x} (is_rule (is_right d)) = later 2 3 ts x (omega arith) (from_h d)

from_w : {ts : List Letter} {x : SpanValue} → RuleReads (From Week) ts x → UnitKnown 1 ts x
from_w (is_rule (is_left (is_pair {w = w} (is_token {t = t} {v = v} {rest = rest} k) d))) = own Week 1 t W rest v w (omega arith) refl (w_known t v k) d
from_w {ts} {x} (is_rule (is_right d)) = later 1 2 ts x (omega arith) (from_d d)

from_y : {ts : List Letter} {x : SpanValue} → RuleReads (From Year) ts x → UnitKnown 0 ts x
from_y (is_rule (is_left (is_pair {w = w} (is_token {t = t} {v = v} {rest = rest} k) d))) = own Year 0 t Y rest v w (omega arith) refl (y_known t v k) d
from_y {ts} {x} (is_rule (is_right d)) = later 0 1 ts x (omega arith) (from_w d)

no_unit : {ts : List Letter} {x : SpanValue} → RuleReads NoUnit ts x → ⊥
no_unit (is_rule (is_token k)) = cc

below_known : (u : TimeUnit) {ts : List Letter} {x : SpanValue} → RuleReads (below u) ts x → UnitKnown (rank u + 1) ts x
below_known Year d = from_w d
below_known Week d = from_d d
below_known Day d = from_h d
below_known Hour d = from_m d
below_known Minute d = from_s d
below_known Second d = from_ms d
below_known Millisecond d = absurd (no_unit d)

record Known (k : ℕ) (ts : List Letter) (x : SpanValue) : Type 0 where
  ms : ℕ
  value : x ≡ span ms
  parts : AreParts k ts ms

long : (u : TimeUnit) → 1 ≤ length (letters_of u)
long Year = omega arith
long Millisecond = omega arith
long u = omega arith

-- one part, and those after it
sum_of : (v w p : SpanValue) (n s ms : ℕ) → v ≡ count n → w ≡ followed (scaled s 0) p → p ≡ span ms → times v w ≡ span (n * s + ms)
sum_of v w p n s ms e h k = ap (λ y. times y w) e ∙ ap (λ y. times (count n) y) (h ∙ ap (λ y. followed (scaled s 0) y) k)

split : (ts mid ds : List Letter) (u : TimeUnit) (rest : List Letter) → ts ≡ ds ++ mid → mid ≡ letters_of u ++ rest → ts ≡ ds ++ (letters_of u ++ rest)
split ts mid ds u rest e h = e ∙ ap (λ y. ds ++ y) h

shorter : (ts ds rest : List Letter) (u : TimeUnit) (fuel : ℕ) → ts ≡ ds ++ (letters_of u ++ rest) → length ts ≤ fuel → length rest + 1 ≤ fuel
shorter ts ds rest u fuel e h = omega (arith, h, ap length e, length-append ds (letters_of u ++ rest), length-append (letters_of u) rest, long u)

after_known : (fuel : ℕ) (u : TimeUnit) {ts : List Letter} {x : SpanValue} → length ts ≤ fuel → RuleReads (After u) ts x → Known (rank u + 1) ts x
after_known zero u h (is_rule (is_right is_nothing)) = record { ms = 0; value = refl; parts = no_part }
after_known zero u {ts} h (is_rule (is_left (is_pair {v = v} {w = w} f d))) =
    let x = fold_number f in let y = below_known u d in
    absurd (none _ (shorter ts x.digits y.rest y.unit 0 (split ts _ x.digits y.unit y.rest x.is y.is) h))
  where
    none : (n : ℕ) → n + 1 ≤ 0 → ⊥
    none n le = omega (arith, le)
after_known (suc fuel) u h (is_rule (is_right is_nothing)) = record { ms = 0; value = refl; parts = no_part }
after_known (suc fuel) u {ts} h (is_rule (is_left (is_pair {v = v} {w = w} f d))) =
    let x = fold_number f in let y = below_known u d in
    let e = split ts _ x.digits y.unit y.rest x.is y.is in
    let after : Known (rank y.unit + 1) y.rest y.parts = after_known fuel y.unit (omega (arith, shorter ts x.digits y.rest y.unit (suc fuel) e h)) y.reads in
    record {
      ms = x.number * ms_of y.unit + after.ms;
      value = sum_of v w y.parts x.number (ms_of y.unit) after.ms x.value y.value after.value;
      parts = subst (λ us. AreParts (rank u + 1) us (x.number * ms_of y.unit + after.ms)) (sym e) (a_part y.unit x.digits y.rest x.number after.ms y.least x.all after.parts);
    }

record TextKnown (ts : List Letter) (x : SpanValue) : Type 0 where
  ms : ℕ
  value : x ≡ span ms
  is : IsSpanText ts ms

some_known : {ts mid : List Letter} {v w : SpanValue} → Numbered [] ts mid v → UnitKnown 0 mid w → TextKnown ts (times v w)
some_known {ts} {mid} {v} {w} x y =
    let e = split ts mid x.digits y.unit y.rest x.is y.is in
    let after = after_known (length y.rest) y.unit (omega arith) y.reads in
    record {
      ms = x.number * ms_of y.unit + after.ms;
      value = sum_of v w y.parts x.number (ms_of y.unit) after.ms x.value y.value after.value;
      is = subst (λ us. IsSpanText us (x.number * ms_of y.unit + after.ms)) (sym e) (some_parts y.unit x.digits y.rest x.number after.ms x.all after.parts);
    }

text_known : {ts : List Letter} {x : SpanValue} → RuleReads Text ts x → TextKnown ts x
text_known (is_rule (is_left (is_pair (is_token {t = t} {v = a} k) (is_rule (is_right is_nothing))))) =
    record { ms = 0; value = refl; is = subst (λ y. IsSpanText (y ∷ []) 0) (sym (zero_known t a k)) zero_alone }
text_known (is_rule (is_left (is_pair (is_token {t = t} {v = a} {rest = rest} k) (is_rule (is_left (is_pair {mid = mid} {v = v} r d)))))) =
    some_known (one_on [] rest mid t 0 v (zero_known t a k) (turns_number (count 0) (Digit 0 ∷ []) 0 refl (one_digit 0) r)) (from_y d)
text_known (is_rule (is_right (is_pair f d))) = some_known (other_number f) (from_y d)

same_span : (m n : ℕ) → span m ≡ span n → n ≡ m
same_span m n e = cc

pub is_text : (ts : List Letter) (ms : ℕ) → RuleReads Text ts (span ms) → IsSpanText ts ms
is_text ts ms d = let x = text_known d in subst (λ n. IsSpanText ts n) (same_span ms x.ms x.value) x.is
