-- A span that is printed is read as that span.
use Rattle.std.proofs.Common.{◌≡◌, ℕ, zero, suc, ◌+◌, ◌*◌, ◌/◌, ◌%◌, ◌<◌, ◌≤◌, ◌^◌, List, [], ◌∷◌, ◌++◌, false, refl, ap, sym, ◌∙◌, subst, arith, inl, inr}
use Rattle.std.specs.Prelude.{decimal, codes, ◌==◌, if◌then◌else◌}
use Rattle.std.proofs.lemmas.List.{map-append, append_assoc, append-nil}
use Rattle.std.proofs.lemmas.Bool.{cases_lt}
use Rattle.std.proofs.lemmas.Bool.Decides.{nat_tests}
use Rattle.std.proofs.lemmas.Fmt.{decimal_by_steps}
use Rattle.pr_forms.specs.Form.{token, fold, rule, Reads, is_token, is_nothing, is_pair, is_left, is_right, is_stop, is_fold, is_rule}
use Rattle.pr_forms.proofs.Longer.{fold_longer}
use Rattle.pr_time.specs.declared.text.Letter.{Letter}
use Rattle.pr_time.specs.declared.text.Letter.TheVariants.{Digit, D, H, M, S}
use Rattle.pr_time.specs.declared.text.Unit.{Unit as TimeUnit}
use Rattle.pr_time.specs.declared.text.Unit.TheVariants.{Year, Day, Hour, Minute, Second, Millisecond}
use Rattle.pr_time.specs.SpanText.{production, Text, After, From, SpanValue, count, scaled, span, digit, other_digit_at, shifted, letter_of, seen, ReadsSpan}
use Rattle.pr_time.specs.SpanShown.{part_text, parts_text, shown_span}

digit_letter : (n : ℕ) → n < 10 → letter_of (48 + n) ≡ Digit n
digit_letter n h = grind (arith, nat_tests)

abbrev DigitsRead : ℕ → List ℕ → Type 0
DigitsRead n ds = 0 < n → (rest : List Letter) → Reads production (fold shifted (token other_digit_at) digit) (seen ds ++ rest) (count n) rest × Reads production (fold shifted digit digit) (seen ds ++ rest) (count n) rest

one_digit : (n : ℕ) → n < 10 → DigitsRead n ((48 + n) ∷ [])
one_digit zero h pos rest = absurd (omega arith)
one_digit (suc n) h pos rest = rw (digit_letter (suc n) h) (is_fold (is_token refl) is_stop, is_fold (is_token refl) is_stop)

last_letter : (ds : List ℕ) (x : ℕ) (rest : List Letter) → seen (ds ++ x ∷ []) ++ rest ≡ seen ds ++ (letter_of x ∷ rest)
last_letter ds x rest = ap (λ ts. ts ++ rest) (map-append letter_of ds (x ∷ [])) ∙ append_assoc (seen ds) (letter_of x ∷ []) rest

more_digits : (n : ℕ) (ds : List ℕ) → 10 ≤ n → DigitsRead (n / 10) ds → DigitsRead n (ds ++ ((48 + n % 10) ∷ []))
more_digits n ds h before pos rest =
    let d : n % 10 < 10 = omega arith in
    let letter = digit_letter (n % 10) d in
    let first = before (omega arith) (Digit (n % 10) ∷ rest) in
    let is : n / 10 * 10 + n % 10 ≡ n = omega arith in
    let last : seen (ds ++ (48 + n % 10) ∷ []) ++ rest ≡ seen ds ++ (Digit (n % 10) ∷ rest) = last_letter ds (48 + n % 10) rest ∙ ap (λ t. seen ds ++ (t ∷ rest)) letter in
    rw last (
      subst (λ k. Reads production (fold shifted (token other_digit_at) digit) (seen ds ++ (Digit (n % 10) ∷ rest)) (count k) rest) is (fold_longer first.0 (is_token refl)),
      subst (λ k. Reads production (fold shifted digit digit) (seen ds ++ (Digit (n % 10) ∷ rest)) (count k) rest) is (fold_longer first.1 (is_token refl)),
    )

pub digits_read : (n : ℕ) → n < 2 ^ 64 → DigitsRead n (decimal n)
digits_read n h = decimal_by_steps DigitsRead one_digit more_digits n h

-- the units, from a greatest one on
abbrev FromReads : TimeUnit → List Letter → ℕ → ℕ → Type 0
FromReads greatest ts s ms = Reads production (rule (From greatest)) ts (scaled s ms) []

abbrev AfterReads : TimeUnit → List Letter → ℕ → Type 0
AfterReads u ts ms = Reads production (rule (After u)) ts (span ms) []

hour_year : {ts : List Letter} {v : SpanValue} → Reads production (rule (From Hour)) ts v [] → Reads production (rule (From Year)) ts v []
hour_year d = is_rule (is_right (is_rule (is_right (is_rule (is_right d)))))

minute_hour : {ts : List Letter} {v : SpanValue} → Reads production (rule (From Minute)) ts v [] → Reads production (rule (From Hour)) ts v []
minute_hour d = is_rule (is_right d)

d_year : (ts : List Letter) (ms : ℕ) → AfterReads Day ts ms → FromReads Year (D ∷ ts) 86400000 ms
d_year ts ms d = is_rule (is_right (is_rule (is_right (is_rule (is_left (is_pair (is_token refl) d))))))

h_hour : (ts : List Letter) (ms : ℕ) → AfterReads Hour ts ms → FromReads Hour (H ∷ ts) 3600000 ms
h_hour ts ms d = is_rule (is_left (is_pair (is_token refl) d))

m_minute : (ts : List Letter) (ms : ℕ) → AfterReads Minute ts ms → FromReads Minute (M ∷ ts) 60000 ms
m_minute ts ms d = is_rule (is_left (is_pair (is_token refl) (is_rule (is_right (is_pair is_nothing d)))))

s_minute : (ts : List Letter) (ms : ℕ) → AfterReads Second ts ms → FromReads Minute (S ∷ ts) 1000 ms
s_minute ts ms d = is_rule (is_right (is_pair (is_token refl) d))

s_second : (ts : List Letter) (ms : ℕ) → AfterReads Second ts ms → FromReads Second (S ∷ ts) 1000 ms
s_second ts ms d = is_rule (is_left (is_pair (is_token refl) d))

ms_minute : FromReads Minute (M ∷ S ∷ []) 1 0
ms_minute = is_rule (is_left (is_pair (is_token refl) (is_rule (is_left (is_pair (is_token refl) (is_rule (is_right is_nothing)))))))

ms_millisecond : FromReads Millisecond (M ∷ S ∷ []) 1 0
ms_millisecond = is_rule (is_pair (is_token refl) (is_pair (is_token refl) (is_rule (is_right is_nothing))))

ms_second : FromReads Second (M ∷ S ∷ []) 1 0
ms_second = is_rule (is_right ms_millisecond)

-- A place where parts may stand, or none: what is read from it, with the units from a greatest one
-- on.
record Position (greatest : TimeUnit) (R : List Letter → ℕ → Type 0) : Type 0 where
  base : R [] 0
  step : (n s v : ℕ) (ts : List Letter) → 0 < n → n < 2 ^ 64 → FromReads greatest ts s v → R (seen (decimal n) ++ ts) (n * s + v)

abbrev TextReads : List Letter → ℕ → Type 0
TextReads ts ms = 0 < ms → Reads production (rule Text) ts (span ms) []

first : Position Year TextReads
first = record {
  base = λ h. absurd (omega arith);
  step = λ n s v ts pos small d h. is_rule (is_right (is_pair (digits_read n small pos ts).0 d));
}

after_day : Position Hour (AfterReads Day)
after_day = record { base = is_rule (is_right is_nothing); step = λ n s v ts pos small d. is_rule (is_left (is_pair (digits_read n small pos ts).1 d)) }

after_hour : Position Minute (AfterReads Hour)
after_hour = record { base = is_rule (is_right is_nothing); step = λ n s v ts pos small d. is_rule (is_left (is_pair (digits_read n small pos ts).1 d)) }

after_minute : Position Second (AfterReads Minute)
after_minute = record { base = is_rule (is_right is_nothing); step = λ n s v ts pos small d. is_rule (is_left (is_pair (digits_read n small pos ts).1 d)) }

after_second : Position Millisecond (AfterReads Second)
after_second = record { base = is_rule (is_right is_nothing); step = λ n s v ts pos small d. is_rule (is_left (is_pair (digits_read n small pos ts).1 d)) }

-- the texts from a unit on
abbrev ms_text : ℕ → List ℕ
ms_text k = part_text k (codes "ms")

abbrev s_text : ℕ → ℕ → List ℕ
s_text n k = part_text n (codes "s") ++ ms_text k

abbrev m_text : ℕ → ℕ → ℕ → List ℕ
m_text m n k = part_text m (codes "m") ++ s_text n k

abbrev h_text : ℕ → ℕ → ℕ → ℕ → List ℕ
h_text h m n k = part_text h (codes "h") ++ m_text m n k

nonzero : (n : ℕ) → 0 < n → (n == 0) ≡ false
nonzero n h = grind (arith, nat_tests)

part_some : (n : ℕ) (u : List ℕ) → 0 < n → part_text n u ≡ decimal n ++ u
part_some n u h = ap (λ b. if b then [] else decimal n ++ u) (nonzero n h)

part_none : (n : ℕ) (u : List ℕ) → n ≡ 0 → part_text n u ≡ []
part_none n u e = ap (λ k. part_text k u) e

-- one part and what follows it: nothing where its number is 0
joined : {greatest : TimeUnit} {R : List Letter → ℕ → Type 0} → Position greatest R → (n s v : ℕ) (u text : List ℕ) → n < 2 ^ 64 → FromReads greatest (seen (u ++ text)) s v → R (seen text) v →
    R (seen (part_text n u ++ text)) (n * s + v)
joined {R = R} p n s v u text small d r = elim (cases_lt 0 n) [ inl pos ↦ some pos | inr none ↦ zero_part (omega arith) ]
  where
    flat : seen (decimal n ++ u ++ text) ≡ seen (decimal n) ++ seen (u ++ text)
    flat = ap seen (append_assoc (decimal n) u text) ∙ map-append letter_of (decimal n) (u ++ text)

    some : 0 < n → R (seen (part_text n u ++ text)) (n * s + v)
    some pos = subst (λ ts. R ts (n * s + v)) (sym (ap (λ x. seen (x ++ text)) (part_some n u pos) ∙ flat)) (p.step n s v (seen (u ++ text)) pos small d)

    value : n ≡ 0 → v ≡ n * s + v
    value e = let h : n * s ≡ 0 * s = ap (λ x. x * s) e in omega (arith, h)

    zero_part : n ≡ 0 → R (seen (part_text n u ++ text)) (n * s + v)
    zero_part e = subst (λ x. R (seen (part_text n u ++ text)) x) (value e) (subst (λ x. R (seen (x ++ text)) v) (sym (part_none n u e)) r)

read_ms : {greatest : TimeUnit} {R : List Letter → ℕ → Type 0} → Position greatest R → FromReads greatest (M ∷ S ∷ []) 1 0 → (k : ℕ) → k < 2 ^ 64 → R (seen (ms_text k)) k
read_ms {R = R} p d k small = subst (λ x. R (seen (ms_text k)) x) (omega arith) (subst (λ x. R (seen x) (k * 1 + 0)) (append-nil (ms_text k)) (joined p k 1 0 (codes "ms") [] small d p.base))

read_s : {greatest : TimeUnit} {R : List Letter → ℕ → Type 0} → Position greatest R → FromReads greatest (M ∷ S ∷ []) 1 0 → ((ts : List Letter) (ms : ℕ) → AfterReads Second ts ms → FromReads greatest (S ∷ ts) 1000 ms) →
    (n k : ℕ) → n < 2 ^ 64 → k < 2 ^ 64 → R (seen (s_text n k)) (n * 1000 + k)
read_s p ms s n k small_n small = joined p n 1000 k (codes "s") (ms_text k) small_n (s _ k (read_ms after_second ms_millisecond k small)) (read_ms p ms k small)

read_m : {greatest : TimeUnit} {R : List Letter → ℕ → Type 0} → Position greatest R → FromReads greatest (M ∷ S ∷ []) 1 0 → ((ts : List Letter) (ms : ℕ) → AfterReads Second ts ms → FromReads greatest (S ∷ ts) 1000 ms) →
    ((ts : List Letter) (ms : ℕ) → AfterReads Minute ts ms → FromReads greatest (M ∷ ts) 60000 ms) →
    (m n k : ℕ) → m < 2 ^ 64 → n < 2 ^ 64 → k < 2 ^ 64 → R (seen (m_text m n k)) (m * 60000 + (n * 1000 + k))
read_m p ms s mi m n k small_m small_n small = joined p m 60000 (n * 1000 + k) (codes "m") (s_text n k) small_m (mi _ _ (read_s after_minute ms_second s_second n k small_n small)) (read_s p ms s n k small_n small)

read_h : {greatest : TimeUnit} {R : List Letter → ℕ → Type 0} → Position greatest R → FromReads greatest (M ∷ S ∷ []) 1 0 → ((ts : List Letter) (ms : ℕ) → AfterReads Second ts ms → FromReads greatest (S ∷ ts) 1000 ms) →
    ((ts : List Letter) (ms : ℕ) → AfterReads Minute ts ms → FromReads greatest (M ∷ ts) 60000 ms) → ((ts : List Letter) (ms : ℕ) → AfterReads Hour ts ms → FromReads greatest (H ∷ ts) 3600000 ms) →
    (h m n k : ℕ) → h < 2 ^ 64 → m < 2 ^ 64 → n < 2 ^ 64 → k < 2 ^ 64 → R (seen (h_text h m n k)) (h * 3600000 + (m * 60000 + (n * 1000 + k)))
read_h p ms s mi hr h m n k small_h small_m small_n small = joined p h 3600000 (m * 60000 + (n * 1000 + k)) (codes "h") (m_text m n k) small_h
    (hr _ _ (read_m after_hour ms_minute s_minute m_minute m n k small_m small_n small)) (read_m p ms s mi m n k small_m small_n small)

read_d : (d h m n k : ℕ) → d < 2 ^ 64 → h < 2 ^ 64 → m < 2 ^ 64 → n < 2 ^ 64 → k < 2 ^ 64 →
    TextReads (seen (part_text d (codes "d") ++ h_text h m n k)) (d * 86400000 + (h * 3600000 + (m * 60000 + (n * 1000 + k))))
read_d d h m n k small_d small_h small_m small_n small = joined first d 86400000 (h * 3600000 + (m * 60000 + (n * 1000 + k))) (codes "d") (h_text h m n k) small_d
    (d_year _ _ (read_h after_day (minute_hour ms_minute) (λ ts ms x. minute_hour (s_minute ts ms x)) (λ ts ms x. minute_hour (m_minute ts ms x)) h_hour h m n k small_h small_m small_n small))
    (read_h first (hour_year (minute_hour ms_minute)) (λ ts ms x. hour_year (minute_hour (s_minute ts ms x))) (λ ts ms x. hour_year (minute_hour (m_minute ts ms x))) (λ ts ms x. hour_year (h_hour ts ms x)) h m n k small_h small_m small_n small)

-- the parts make the whole
minutes_of : (ms : ℕ) → ms % 60000 / 1000 * 1000 + ms % 1000 ≡ ms % 60000
minutes_of ms = omega arith

hours_of : (ms : ℕ) → ms % 3600000 / 60000 * 60000 + ms % 60000 ≡ ms % 3600000
hours_of ms = omega arith

days_of : (ms : ℕ) → ms % 86400000 / 3600000 * 3600000 + ms % 3600000 ≡ ms % 86400000
days_of ms = omega arith

whole_of : (ms : ℕ) → ms / 86400000 * 86400000 + (ms % 86400000 / 3600000 * 3600000 + (ms % 3600000 / 60000 * 60000 + (ms % 60000 / 1000 * 1000 + ms % 1000))) ≡ ms
whole_of ms = omega (arith, minutes_of ms, hours_of ms, days_of ms)

nested : (a b c d e : List ℕ) → a ++ b ++ c ++ d ++ e ≡ a ++ (b ++ (c ++ (d ++ e)))
nested a b c d e = simp append_assoc

pub shown_reads : (ms : ℕ) → ms ≤ 2 ^ 40 → ReadsSpan (shown_span ms) ms
shown_reads ms limit = elim (cases_lt 0 ms) [ inl pos ↦ some pos | inr none ↦ subst (λ n. ReadsSpan (shown_span n) n) (omega arith) zero_reads ]
  where
    zero_reads : ReadsSpan (shown_span 0) 0
    zero_reads = is_rule (is_left (is_pair (is_token refl) (is_rule (is_left (is_pair is_stop (hour_year (minute_hour (s_minute [] 0 (is_rule (is_right is_nothing))))))))))

    parts_read : 0 < ms → ReadsSpan (parts_text ms) ms
    parts_read pos = subst (λ n. ReadsSpan (parts_text ms) n) (whole_of ms)
        (subst (λ text. ReadsSpan text (ms / 86400000 * 86400000 + (ms % 86400000 / 3600000 * 3600000 + (ms % 3600000 / 60000 * 60000 + (ms % 60000 / 1000 * 1000 + ms % 1000)))))
        (sym (nested (part_text (ms / 86400000) (codes "d")) (part_text (ms % 86400000 / 3600000) (codes "h")) (part_text (ms % 3600000 / 60000) (codes "m")) (part_text (ms % 60000 / 1000) (codes "s")) (part_text (ms % 1000) (codes "ms"))))
        (read_d (ms / 86400000) (ms % 86400000 / 3600000) (ms % 3600000 / 60000) (ms % 60000 / 1000) (ms % 1000) (omega arith) (omega arith) (omega arith) (omega arith) (omega arith) (omega (arith, whole_of ms))))

    some : 0 < ms → ReadsSpan (shown_span ms) ms
    some pos = subst (λ b. ReadsSpan (if b then codes "0s" else parts_text ms) ms) (sym (nonzero ms pos)) (parts_read pos)
