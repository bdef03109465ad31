-- The ways of the functions that read a span text.
use Rattle.std.proofs.Common.{◌≡◌, ℕ, zero, suc, ◌+◌, ◌*◌, ◌-◌, ◌<◌, ◌≤◌, ◌^◌, min, List, [], ◌∷◌, Some, None, Bool, true, false, refl, ap, sym, ◌∙◌, subst, arith, Result, Ok, Err, inl, inr, lit<}
use Rattle.std.proofs.lemmas.Bool.{cases_lt}
use Rattle.std.proofs.Math.Nat.{mul-le-mul_right, mul-le-mul_left}
use Rattle.std.specs.Result.{MatchResult, IsErrAnd}
use Rattle.std.specs.Prelude.{is_some}
use Rattle.pr_forms.specs.Form.{Form, token, pair, turns, fold, rule}
use Rattle.pr_forms.specs.Table.{is_next}
use Rattle.pr_forms.specs.Run.{Runs, good, bad, run_rule, run_left, run_right, run_pair, run_first, run_second, run_token, run_other, run_end, run_nothing, run_base}
use Rattle.pr_forms.specs.Language.{Gives, Takes, Lacks}
use Rattle.pr_forms.proofs.Carrying.{carry_start, carry_base, turn_taken, tokens_over}
use Rattle.pr_forms.proofs.Steps.{next_pair, next_fold}
use Rattle.pr_time.specs.declared.text.Letter.{Letter}
use Rattle.pr_time.specs.declared.text.Letter.TheVariants.{Digit, Y, W, D, H, M, S, Other}
use Rattle.pr_time.specs.declared.text.Unit.{Unit as TimeUnit}
use Rattle.pr_time.specs.declared.text.Unit.TheVariants.{Year, Millisecond}
use Rattle.pr_time.specs.SpanText.{production, seen, Rule, Text, AfterZero, After, From, SpanValue, count, span, digit, digit_at, zero_at, other_digit_at, ms_of, shifted, times, second_of, amount, smaller, below, NoUnit}
use Rattle.pr_time.specs.private.SpanReader.{spans, Digits, ReadsCount, MeasuresSpan, Enters, Going, kept, starts_amount}
use Rattle.pr_time.specs.SpanTable.{table}

-- one more digit
more_kept : (m number d next : ℕ) → number ≡ kept m → next ≡ min (number * 10 + d) (2 ^ 40 + 1) → next ≡ kept (m * 10 + d)
more_kept m number d next e h = omega (arith, e, h)

pub one_more : (f : Form Letter Rule SpanValue) (text rest after : List ℕ) (number d next : ℕ) → Going f text number rest → Takes spans digit rest (count d) after →
    next ≡ min (number * 10 + d) (2 ^ 40 + 1) → Going f text next after
one_more f text rest after number d next g x e = record { exact = g.exact * 10 + d; leads = turn_taken g.leads x; is_kept = more_kept g.exact number d next g.is_kept e }

pub no_more : (f : Form Letter Rule SpanValue) (text rest : List ℕ) (number : ℕ) → Going f text number rest → Lacks spans digit rest → ReadsCount f text number rest
no_more f text rest number g l = record { exact = g.exact; gives = tokens_over g.leads l; is_kept = g.is_kept }

pub kept_small : (n : ℕ) → n < 256 → n ≡ kept n
kept_small n h = omega arith

unit_above : (u : TimeUnit) → 0 < ms_of u
unit_above Year = lit< tt
unit_above u = lit< tt

-- the milliseconds of a part and those after it
part_kept : (a b s number more ms : ℕ) → 0 < s → number ≡ kept a → more ≡ kept b → ms ≡ min (min (min (number * s) (2 ^ 64 - 1) + more) (2 ^ 64 - 1)) (2 ^ 40 + 1) → ms ≡ kept (a * s + b)
part_kept a b s number more ms pos e h k = elim (cases_lt a (2 ^ 40 + 2)) [
  | inl small ↦ (let same : number ≡ a = omega (arith, e) in let is : number * s ≡ a * s = ap (λ x. x * s) same in omega (arith, h, k, is))
  | inr large ↦ (let top : number ≡ 2 ^ 40 + 1 = omega (arith, e) in
      let is : number * s ≡ (2 ^ 40 + 1) * s = ap (λ x. x * s) top in
      let one : (2 ^ 40 + 1) * 1 ≤ (2 ^ 40 + 1) * s = mul-le-mul_left (2 ^ 40 + 1) pos in
      let two : (2 ^ 40 + 1) * s ≤ a * s = mul-le-mul_right s (omega arith) in omega (arith, h, k, is, one, two))
]

pub amount_reads : (f : Form Letter Rule SpanValue) (text mid after rest : List ℕ) (greatest u : TimeUnit) (number more ms : ℕ) → ReadsCount f text number mid → Enters greatest mid u after →
    MeasuresSpan (rule (After u)) after more rest → ms ≡ min (min (min (number * ms_of u) (2 ^ 64 - 1) + more) (2 ^ 64 - 1)) (2 ^ 40 + 1) → MeasuresSpan (amount f (From greatest)) text ms rest
amount_reads f text mid after rest greatest u number more ms x y z e = record {
  exact = x.exact * ms_of u + z.exact;
  gives = run_pair x.gives (y.reads z.exact (seen rest) z.gives);
  is_kept = part_kept x.exact z.exact (ms_of u) number more ms (unit_above u) x.is_kept z.is_kept e;
}

pub amount_no_unit : (f : Form Letter Rule SpanValue) (text mid rest : List ℕ) (greatest : TimeUnit) (number : ℕ) → ReadsCount f text number mid → Gives spans (rule (From greatest)) mid (bad (seen rest)) →
    Gives spans (amount f (From greatest)) text (bad (seen rest))
amount_no_unit f text mid rest greatest number x h = run_second x.gives h

pub amount_bad_part : (f : Form Letter Rule SpanValue) (text mid after rest : List ℕ) (greatest u : TimeUnit) (number : ℕ) → ReadsCount f text number mid → Enters greatest mid u after →
    Gives spans (rule (After u)) after (bad (seen rest)) → Gives spans (amount f (From greatest)) text (bad (seen rest))
amount_bad_part f text mid after rest greatest u number x y h = run_second x.gives (y.fails (seen rest) h)

pub exit : {X E : Type 0} (P : X → Type 0) (Q : E → Type 0) (r : Result X E) (e : E) → IsErrAnd r (λ y. y ≡ e) → Q e → MatchResult r P Q
exit P Q (Ok x) e h k = absurd h
exit P Q (Err y) e h k = subst Q (sym h) k

-- the parts after a unit
below_is : (u : TimeUnit) → (u ≡ Millisecond → ⊥) → below u ≡ From (smaller u)
below_is Millisecond other = absurd (other refl)
below_is Year other = refl
below_is u other = refl

starts_part : (n : Rule) (ts : List Letter) (b : Bool) → is_next table digit ts ≡ b → is_next table (amount (fold shifted digit digit) n) ts ≡ b
starts_part n ts b h = next_pair table times (fold shifted digit digit) (rule n) ts b refl (next_fold table shifted digit digit ts b refl h)

pub first_digit : (text rest : List ℕ) (n : ℕ) → Takes spans digit text (count n) rest → Digits (fold shifted digit digit) text n rest
first_digit text rest n x = carry_base x.gives

pub no_part : (u : TimeUnit) (text : List ℕ) → Lacks spans digit text → MeasuresSpan (rule (After u)) text 0 text
no_part u text l = record { exact = 0; gives = run_rule (run_right (starts_part (below u) (seen text) false l.next) run_nothing); is_kept = refl }

pub one_part : (u v : TimeUnit) (text mid rest : List ℕ) (n ms : ℕ) → (u ≡ Millisecond → ⊥) → v ≡ smaller u → Takes spans digit text (count n) mid →
    MeasuresSpan (amount (fold shifted digit digit) (From v)) text ms rest → MeasuresSpan (rule (After u)) text ms rest
one_part u v text mid rest n ms other e x m = record {
  exact = m.exact;
  gives = run_rule (run_left (starts_part (below u) (seen text) true x.next)
      (subst (λ w. Gives spans (amount (fold shifted digit digit) w) text (good (span m.exact) (seen rest))) (ap From e ∙ sym (below_is u other)) m.gives));
  is_kept = m.is_kept;
}

pub bad_part : (u v : TimeUnit) (text mid rest : List ℕ) (n : ℕ) → (u ≡ Millisecond → ⊥) → v ≡ smaller u → Takes spans digit text (count n) mid →
    Gives spans (amount (fold shifted digit digit) (From v)) text (bad (seen rest)) → Gives spans (rule (After u)) text (bad (seen rest))
bad_part u v text mid rest n other e x m = run_rule (run_left (starts_part (below u) (seen text) true x.next)
    (subst (λ w. Gives spans (amount (fold shifted digit digit) w) text (bad (seen rest))) (ap From e ∙ sym (below_is u other)) m))

no_unit : (ts : List Letter) → Runs production table (rule NoUnit) ts (bad ts)
no_unit [] = run_rule run_end
no_unit (t ∷ ts) = run_rule (run_other refl)

-- a number after milliseconds
pub past_part : (u : TimeUnit) (text mid rest : List ℕ) (n number : ℕ) → u ≡ Millisecond → Takes spans digit text (count n) mid → ReadsCount (fold shifted digit digit) text number rest → Gives spans (rule (After u)) text (bad (seen rest))
past_part u text mid rest n number e x k = rw e (run_rule (run_left (starts_part NoUnit (seen text) true x.next) (run_second k.gives (no_unit (seen rest)))))

-- the front of a text: a zero, or another digit
digit_is : (n : ℕ) (t : Letter) → digit_at t ≡ Some (count n) → t ≡ Digit n
digit_is n (Digit m) e = let k : m ≡ n = cc in ap Digit k
digit_is n Y e = cc
digit_is n W e = cc
digit_is n D e = cc
digit_is n H e = cc
digit_is n M e = cc
digit_is n S e = cc
digit_is n Other e = cc

taken_digit : {n : ℕ} {ts rest : List Letter} → Runs production table digit ts (good (count n) rest) → ts ≡ Digit n ∷ rest
taken_digit {n} (run_token {t = t} {rest = rest} e) = ap (λ x. x ∷ rest) (digit_is n t e)

is_zero : (n : ℕ) (ts mid : List Letter) → n ≡ 0 → ts ≡ Digit n ∷ mid → ts ≡ Digit 0 ∷ mid
is_zero n ts mid e h = h ∙ ap (λ k. Digit k ∷ mid) e

pub zero_text : (text mid rest : List ℕ) (n ms : ℕ) → n ≡ 0 → Takes spans digit text (count n) mid → MeasuresSpan (rule AfterZero) mid ms rest → MeasuresSpan (rule Text) text ms rest
zero_text text mid rest n ms e x m = record { exact = m.exact; gives = rw (is_zero n (seen text) (seen mid) e (taken_digit x.gives)) (run_rule (run_left refl (run_pair (run_token refl) m.gives))); is_kept = m.is_kept }

pub zero_text_bad : (text mid rest : List ℕ) (n : ℕ) → n ≡ 0 → Takes spans digit text (count n) mid → Gives spans (rule AfterZero) mid (bad (seen rest)) → Gives spans (rule Text) text (bad (seen rest))
zero_text_bad text mid rest n e x m = rw (is_zero n (seen text) (seen mid) e (taken_digit x.gives)) (run_rule (run_left refl (run_second (run_token refl) m)))

pub other_front : (text mid : List ℕ) (n : ℕ) → (n ≡ 0 → ⊥) → Takes spans digit text (count n) mid → Digits (fold shifted (token other_digit_at) digit) text n mid
other_front text mid zero other x = absurd (other refl)
other_front text mid (suc n) other x = rw (taken_digit x.gives) (carry_base (run_token refl))

pub other_text : (text mid rest : List ℕ) (n ms : ℕ) → (n ≡ 0 → ⊥) → Takes spans digit text (count n) mid →
    MeasuresSpan (amount (fold shifted (token other_digit_at) digit) (From Year)) text ms rest → MeasuresSpan (rule Text) text ms rest
other_text text mid rest zero ms other x m = absurd (other refl)
other_text text mid rest (suc n) ms other x m = record { exact = m.exact; gives = run_rule (run_right (no_zero (taken_digit x.gives)) m.gives); is_kept = m.is_kept }
  where
    no_zero : seen text ≡ Digit (suc n) ∷ seen mid → is_next table (pair second_of (token zero_at) (rule AfterZero)) (seen text) ≡ false
    no_zero e = rw e refl

pub other_text_bad : (text mid rest : List ℕ) (n : ℕ) → (n ≡ 0 → ⊥) → Takes spans digit text (count n) mid →
    Gives spans (amount (fold shifted (token other_digit_at) digit) (From Year)) text (bad (seen rest)) → Gives spans (rule Text) text (bad (seen rest))
other_text_bad text mid rest zero other x m = absurd (other refl)
other_text_bad text mid rest (suc n) other x m = run_rule (run_right (no_zero (taken_digit x.gives)) m)
  where
    no_zero : seen text ≡ Digit (suc n) ∷ seen mid → is_next table (pair second_of (token zero_at) (rule AfterZero)) (seen text) ≡ false
    no_zero e = rw e refl

no_zero_at : (t : Letter) → digit_at t ≡ None → zero_at t ≡ None
no_zero_at (Digit n) e = cc
no_zero_at t e = refl

no_other_at : (t : Letter) → digit_at t ≡ None → other_digit_at t ≡ None
no_other_at (Digit n) e = cc
no_other_at t e = refl

pub no_text : (text : List ℕ) → Lacks spans digit text → Gives spans (rule Text) text (bad (seen text))
no_text text l = without l.gives
  where
    without : {ts us : List Letter} → Runs production table digit ts (bad us) → Runs production table (rule Text) ts (bad ts)
    without (run_other {t = t} {rest = rest} e) = run_rule (run_right (next_pair table second_of (token zero_at) (rule AfterZero) (t ∷ rest) false refl (ap is_some (no_zero_at t e))) (run_first (run_base (run_other (no_other_at t e)))))
    without run_end = run_rule (run_right refl (run_first (run_base run_end)))

starts_zero : (ts : List Letter) → is_next table (amount (turns shifted (count 0) digit) (From Year)) ts ≡ is_next {V = SpanValue} table (rule AfterZero) ts
starts_zero [] = refl
starts_zero (Y ∷ ts) = refl
starts_zero (t ∷ ts) = refl

pub after_zero : (text rest : List ℕ) (ms : ℕ) → true ≡ starts_amount text → MeasuresSpan (amount (turns shifted (count 0) digit) (From Year)) text ms rest → MeasuresSpan (rule AfterZero) text ms rest
after_zero text rest ms e m = record { exact = m.exact; gives = run_rule (run_left (starts_zero (seen text) ∙ sym e) m.gives); is_kept = m.is_kept }

pub after_zero_bad : (text rest : List ℕ) → true ≡ starts_amount text → Gives spans (amount (turns shifted (count 0) digit) (From Year)) text (bad (seen rest)) → Gives spans (rule AfterZero) text (bad (seen rest))
after_zero_bad text rest e m = run_rule (run_left (starts_zero (seen text) ∙ sym e) m)

pub zero_alone : (text : List ℕ) → false ≡ starts_amount text → MeasuresSpan (rule AfterZero) text 0 text
zero_alone text e = record { exact = 0; gives = run_rule (run_right (starts_zero (seen text) ∙ sym e) run_nothing); is_kept = refl }

pub zero_digits : (text : List ℕ) → Digits (turns shifted (count 0) digit) text 0 text
zero_digits text = carry_start
