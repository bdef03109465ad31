-- The byte after digits is a unit letter where spans go on over it.
use Rattle.std.proofs.Common.{◌≡◌, ℕ, zero, suc, ◌+◌, ◌-◌, ◌*◌, ◌<◌, Option, Some, Bool, true, false, List, [], ◌∷◌, ◌++◌, length, refl, ap, sym, subst, arith, inl, inr, eqb-true}
use Rattle.std.specs.Prelude.{◌⊎◌, ◌==◌, ◌||◌}
use Rattle.std.specs.List.{list_all}
use Rattle.std.specs.Char.{is_ascii_digit}
use Rattle.pr_time.specs.pr_forms.Form.{Form, token, pair, either, turns, rule, Reads, Begins, is_token, is_nothing, is_pair, is_left, is_right, is_stop, is_turn, is_fold, is_rule}
use Rattle.pr_time.specs.pr_forms.Table.{Table}
use Rattle.pr_time.specs.pr_forms.Run.{Runs, ReaderOutcome, good, bad, left_of, run_rule, run_left, run_right, run_pair, run_first, run_second, run_token, run_other, run_nothing, run_stop, run_turn, run_fold}
use Rattle.pr_time.proofs.FormsPlaces.{no_beginning_passes}
use Rattle.pr_num.proofs.RoundTrip.{and_first, and_second}
use Rattle.pr_time.specs.SpanText.{production, letter_of, seen, Text, AfterZero, count, scaled, span, mark, digit, digit_at, zero_at, other_digit_at, shifted, ReadsSpan}
use Rattle.pr_time.proofs.SpanTable.{known}
use Rattle.pr_time.specs.SpanTable.{table}
use Rattle.pr_ast.specs.Bytes.{is_unit_letter}

-- What follows the digits in a choice of forms: the unit in a text.
abbrev after_digits : {T N V : Type 0} → Form T N V → Form T N V
after_digits (either f (pair c g h)) = h
after_digits f = f

-- digits
abbrev AreDigits : List ℕ → Type 0
AreDigits ds = list_all is_ascii_digit ds ≡ true

first : (d : ℕ) (ds : List ℕ) → AreDigits (d ∷ ds) → is_ascii_digit d ≡ true
first d ds h = and_first (is_ascii_digit d) (list_all is_ascii_digit ds) h

others : (d : ℕ) (ds : List ℕ) → AreDigits (d ∷ ds) → AreDigits ds
others d ds h = and_second (is_ascii_digit d) (list_all is_ascii_digit ds) h

any_digit : (d : ℕ) → is_ascii_digit d ≡ true → digit_at (letter_of d) ≡ Some (count (d - 48))
any_digit d h = rw h refl

a_zero : (d : ℕ) → is_ascii_digit d ≡ true → d - 48 ≡ 0 → zero_at (letter_of d) ≡ Some mark
a_zero d h e = rw (h, e) refl

no_zero : (d n : ℕ) → is_ascii_digit d ≡ true → d - 48 ≡ suc n → other_digit_at (letter_of d) ≡ Some (count (suc n))
no_zero d n h e = rw (h, e) refl

digits_read : (n : ℕ) (ds : List ℕ) (b : ℕ) → AreDigits ds → (m : ℕ) × Reads production (turns shifted (count n) digit) (seen (ds ++ b ∷ [])) (count m) (seen (b ∷ []))
digits_read n [] b h = (n, is_stop)
digits_read n (d ∷ ds) b h = let x = digits_read (n * 10 + (d - 48)) ds b (others d ds h) in (x.0, is_turn (is_token (any_digit d (first d ds h))) x.1)

-- a unit letter is a unit
abbrev IsUnit : ℕ → Type 0
IsUnit b = (s : ℕ) × Reads production (after_digits (production Text)) (seen (b ∷ [])) (scaled s 0) []

year : IsUnit 121
year = (_, is_rule (is_left (is_pair (is_token refl) (is_rule (is_right is_nothing)))))

week : IsUnit 119
week = (_, is_rule (is_right (is_rule (is_left (is_pair (is_token refl) (is_rule (is_right is_nothing)))))))

day : IsUnit 100
day = (_, is_rule (is_right (is_rule (is_right (is_rule (is_left (is_pair (is_token refl) (is_rule (is_right is_nothing)))))))))

hour : IsUnit 104
hour = (_, is_rule (is_right (is_rule (is_right (is_rule (is_right (is_rule (is_left (is_pair (is_token refl) (is_rule (is_right is_nothing)))))))))))

minute : IsUnit 109
minute = (_, is_rule (is_right (is_rule (is_right (is_rule (is_right (is_rule (is_right (is_rule (is_left (is_pair (is_token refl) (is_rule (is_right (is_pair is_nothing (is_rule (is_right is_nothing))))))))))))))))

second : IsUnit 115
second = (_, is_rule (is_right (is_rule (is_right (is_rule (is_right (is_rule (is_right (is_rule (is_right (is_pair (is_token refl) (is_rule (is_right is_nothing)))))))))))))

either_true : (x y : Bool) → (x || y) ≡ true → (x ≡ true) ⊎ (y ≡ true)
either_true true y h = inl refl
either_true false y h = inr h

named : (b k : ℕ) → IsUnit k → (b == k) ≡ true → IsUnit b
named b k u h = subst IsUnit (sym (eqb-true b k h)) u

unit_of : (b : ℕ) → is_unit_letter b ≡ true → IsUnit b
unit_of b h = elim (either_true _ _ h) [
  | inr x ↦ named b 115 second x
  | inl h1 ↦ elim (either_true _ _ h1) [
    | inr x ↦ named b 109 minute x
    | inl h2 ↦ elim (either_true _ _ h2) [
      | inr x ↦ named b 104 hour x
      | inl h3 ↦ elim (either_true _ _ h3) [ inr x ↦ named b 100 day x | inl h4 ↦ elim (either_true _ _ h4) [ inr x ↦ named b 119 week x | inl x ↦ named b 121 year x ] ]
    ]
  ]
]

span_read : (d : ℕ) (ds : List ℕ) (b k : ℕ) → is_ascii_digit d ≡ true → AreDigits ds → IsUnit b → d - 48 ≡ k → (ms : ℕ) × ReadsSpan (d ∷ (ds ++ b ∷ [])) ms
span_read d ds b zero i h u e = let x = digits_read 0 ds b h in (x.0 * u.0 + 0, is_rule (is_left (is_pair (is_token (a_zero d i e)) (is_rule (is_left (is_pair x.1 u.1))))))
span_read d ds b (suc n) i h u e = let x = digits_read (suc n) ds b h in (x.0 * u.0 + 0, is_rule (is_right (is_pair (is_fold (is_token (no_zero d n i e)) x.1) u.1)))

pub with_unit : (ds : List ℕ) (b : ℕ) → 0 < length ds → list_all is_ascii_digit ds ≡ true → is_unit_letter b ≡ true → (ms : ℕ) × ReadsSpan (ds ++ b ∷ []) ms
with_unit [] b some h k = absurd (omega arith)
with_unit (d ∷ ds) b some h k = span_read d ds b (d - 48) (first d ds h) (others d ds h) (unit_of b k) refl

-- After digits and before another letter a reader stops.
record Stops {T N V : Type 0} (G : N → Form T N V) (S : Table T N) (f : Form T N V) (ts rest : List T) : Type 0 where
  outcome : ReaderOutcome T V
  runs : Runs G S f ts outcome
  left : left_of outcome ≡ rest

no_unit : Runs production table (after_digits (production Text)) (seen (0 ∷ [])) (bad (seen (0 ∷ [])))
no_unit = run_rule (run_right refl (run_rule (run_right refl (run_rule (run_right refl (run_rule (run_right refl (run_rule (run_right refl (run_first (run_other refl)))))))))))

digits_run : (n : ℕ) (ds : List ℕ) → AreDigits ds → (m : ℕ) × Runs production table (turns shifted (count n) digit) (seen (ds ++ 0 ∷ [])) (good (count m) (seen (0 ∷ [])))
digits_run n [] h = (n, run_stop refl)
digits_run n (d ∷ ds) h =
    let i = first d ds h in
    let x = digits_run (n * 10 + (d - 48)) ds (others d ds h) in
    (x.0, run_turn (rw i refl) (run_token (any_digit d i)) x.1)

zero_stops : (ds : List ℕ) → AreDigits ds → Stops production table (rule AfterZero) (seen (ds ++ 0 ∷ [])) (seen (0 ∷ []))
zero_stops [] h = record { outcome = good (span 0) (seen (0 ∷ [])); runs = run_rule (run_right refl run_nothing); left = refl }
zero_stops (d ∷ ds) h = let i = first d ds h in record { outcome = bad (seen (0 ∷ [])); runs = run_rule (run_left (rw i refl) (run_second (digits_run 0 (d ∷ ds) h).1 no_unit)); left = refl }

-- a first token that has a value leaves it to what follows
module _ {T N V : Type 0} {G : N → Form T N V} {S : Table T N} where
  past_token : (c : V → V → V) (p : T → Option V) (f g : Form T N V) (t : T) (v : V) (ts rest : List T) → p t ≡ Some v → (o : ReaderOutcome T V) → Runs G S f ts o → left_of o ≡ rest →
      Stops G S (either (pair c (token p) f) g) (t ∷ ts) rest
  past_token c p f g t v ts rest e (good w r) q l = record { outcome = good (c v w) r; runs = run_left (rw e refl) (run_pair (run_token e) q); left = l }
  past_token c p f g t v ts rest e (bad r) q l = record { outcome = bad r; runs = run_left (rw e refl) (run_second (run_token e) q); left = l }

  by_rule : {n : N} {ts rest : List T} → Stops G S (G n) ts rest → Stops G S (rule n) ts rest
  by_rule x = record { outcome = x.outcome; runs = run_rule x.runs; left = x.left }

text_stops : (d : ℕ) (ds : List ℕ) (k : ℕ) → is_ascii_digit d ≡ true → AreDigits ds → d - 48 ≡ k → Stops production table (rule Text) (seen (d ∷ (ds ++ 0 ∷ []))) (seen (0 ∷ []))
text_stops d ds zero i h e = let z = zero_stops ds h in by_rule (past_token _ zero_at _ _ (letter_of d) mark _ _ (a_zero d i e) z.outcome z.runs z.left)
text_stops d ds (suc n) i h e =
    record { outcome = bad (seen (0 ∷ [])); runs = run_rule (run_right (rw (i, e) refl) (run_second (run_fold (run_token (no_zero d n i e)) (digits_run (suc n) ds h).1) no_unit)); left = refl }

-- a byte that is neither a digit nor a unit letter
other_letter : (b : ℕ) → is_ascii_digit b ≡ false → is_unit_letter b ≡ false → letter_of b ≡ letter_of 0
other_letter b h k = grind arith

seen_last : (ds : List ℕ) (b k : ℕ) → letter_of b ≡ letter_of k → seen (ds ++ b ∷ []) ≡ seen (ds ++ k ∷ [])
seen_last [] b k e = ap (λ t. t ∷ []) e
seen_last (d ∷ ds) b k e = ap (λ ts. letter_of d ∷ ts) (seen_last ds b k e)

no_more : (ds : List ℕ) (b : ℕ) → 0 < length ds → AreDigits ds → is_ascii_digit b ≡ false → is_unit_letter b ≡ false → Begins production (rule Text) (seen (ds ++ b ∷ [])) [] → ⊥
no_more [] b some h i j x = absurd (omega arith)
no_more (d ∷ ds) b some h i j x =
    let z = text_stops d ds (d - 48) (first d ds h) (others d ds h) refl in
    let y = no_beginning_passes production table known Text (seen (d ∷ (ds ++ 0 ∷ []))) [] z.outcome z.runs
    (subst (λ ts. Begins production (rule Text) ts []) (seen_last (d ∷ ds) b 0 (other_letter b i j)) x) in
    let l : length (left_of z.outcome) ≡ 1 = ap length z.left in
    omega (arith, y, l)

pub goes_on : (ds : List ℕ) (b : ℕ) → 0 < length ds → list_all is_ascii_digit ds ≡ true → is_ascii_digit b ≡ false → Begins production (rule Text) (seen (ds ++ b ∷ [])) [] → is_unit_letter b ≡ true
goes_on ds b some h i x = by (is_unit_letter b) refl
  where
    by : (k : Bool) → is_unit_letter b ≡ k → is_unit_letter b ≡ true
    by true e = e
    by false e = absurd (no_more ds b some h i e x)
