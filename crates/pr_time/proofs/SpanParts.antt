-- What the grammar of spans reads are the parts, and each list of parts is read.
use Rattle.std.proofs.Common.{◌≡◌, ℕ, zero, suc, ◌+◌, ◌*◌, ◌≤◌, List, [], ◌∷◌, ◌++◌, refl, ap, sym, ◌∙◌, subst, arith}
use Rattle.std.proofs.lemmas.List.{append_assoc}
use Rattle.pr_forms.specs.Form.{Form, token, either, turns, fold, rule, Reads, is_token, is_nothing, is_pair, is_left, is_right, is_stop, is_fold, is_rule}
use Rattle.pr_forms.proofs.Longer.{fold_longer, turns_longer}
use Rattle.pr_time.specs.declared.text.Letter.{Letter}
use Rattle.pr_time.specs.declared.text.Letter.TheVariants.{Digit}
use Rattle.pr_time.specs.declared.text.Unit.{Unit as TimeUnit}
use Rattle.pr_time.specs.declared.text.Unit.TheVariants.{Year, Week, Day, Hour, Minute, Second, Millisecond}
use Rattle.pr_time.specs.SpanText.{production, Rule, Text, After, From, SpanValue, count, scaled, span, digit, other_digit_at, ms_of, rank, shifted, below}
use Rattle.pr_time.specs.private.SpanParts.{letters_of, IsNumber, one_digit, digit_more, AreParts, no_part, a_part, IsSpanText, zero_alone, some_parts}

abbrev pub RuleReads : Rule → List Letter → SpanValue → Type 0
RuleReads n ts v = Reads production (rule n) ts v []

-- a number is read, as one after a zero or as one with another digit first
data FirstRead (ds : List Letter) (n : ℕ) (rest : List Letter) : Type 0 where
  after_zero : (more : List Letter) → ds ++ rest ≡ Digit zero ∷ (more ++ rest) → Reads production (turns shifted (count 0) digit) (more ++ rest) (count n) rest → FirstRead ds n rest
  after_other : Reads production (fold shifted (token other_digit_at) digit) (ds ++ rest) (count n) rest → FirstRead ds n rest

snoc : (ds rest : List Letter) (d : ℕ) → (ds ++ Digit d ∷ []) ++ rest ≡ ds ++ (Digit d ∷ rest)
snoc ds rest d = append_assoc ds (Digit d ∷ []) rest

first_one : (d : ℕ) (rest : List Letter) → FirstRead (Digit d ∷ []) d rest
first_one zero rest = after_zero [] refl is_stop
first_one (suc d) rest = after_other (is_fold (is_token refl) is_stop)

first_more : (ds : List Letter) (n d : ℕ) (rest : List Letter) → FirstRead ds n (Digit d ∷ rest) → FirstRead (ds ++ Digit d ∷ []) (n * 10 + d) rest
first_more ds n d rest (after_zero more e r) = after_zero (more ++ Digit d ∷ []) (snoc ds rest d ∙ e ∙ ap (λ x. Digit zero ∷ x) (sym (snoc more rest d)))
    (subst (λ ts. Reads production (turns shifted (count 0) digit) ts (count (n * 10 + d)) rest) (sym (snoc more rest d)) (turns_longer r (is_token refl)))
first_more ds n d rest (after_other r) = after_other (subst (λ ts. Reads production (fold shifted (token other_digit_at) digit) ts (count (n * 10 + d)) rest) (sym (snoc ds rest d)) (fold_longer r (is_token refl)))

first_read : {ds : List Letter} {n : ℕ} → IsNumber ds n → (rest : List Letter) → FirstRead ds n rest
first_read (one_digit d) rest = first_one d rest
first_read (digit_more ts n d h) rest = first_more ts n d rest (first_read h (Digit d ∷ rest))

number_read : {ds : List Letter} {n : ℕ} → IsNumber ds n → (rest : List Letter) → Reads production (fold shifted digit digit) (ds ++ rest) (count n) rest
number_read (one_digit d) rest = is_fold (is_token refl) is_stop
number_read (digit_more ts n d h) rest = subst (λ us. Reads production (fold shifted digit digit) us (count (n * 10 + d)) rest) (sym (snoc ts rest d)) (fold_longer (number_read h (Digit d ∷ rest)) (is_token refl))

-- a unit is read where it may stand
abbrev UnitRead : TimeUnit → TimeUnit → Type 0
UnitRead u v = (rest : List Letter) (ms : ℕ) → RuleReads (After v) rest (span ms) → RuleReads (From u) (letters_of v ++ rest) (scaled (ms_of v) ms)

up : {u v : TimeUnit} {f : Form Letter Rule SpanValue} {ts : List Letter} {x : SpanValue} → production (From u) ≡ either f (rule (From v)) → RuleReads (From v) ts x → RuleReads (From u) ts x
up {ts = ts} {x = x} e d = is_rule (subst (λ y. Reads production y ts x []) (sym e) (is_right d))

unit_ms : (v : TimeUnit) → 6 ≤ rank v → UnitRead Millisecond v
unit_ms Millisecond h rest ms d = is_rule (is_pair (is_token refl) (is_pair (is_token refl) d))
unit_ms Year h rest ms d = absurd (omega arith)
unit_ms v h rest ms d = absurd (omega arith)

unit_s : (v : TimeUnit) → 5 ≤ rank v → UnitRead Second v
unit_s Second h rest ms d = is_rule (is_left (is_pair (is_token refl) d))
unit_s Millisecond h rest ms d = is_rule (is_right (unit_ms Millisecond (omega arith) rest ms d))
unit_s v h rest ms d = absurd (omega arith)

unit_m : (v : TimeUnit) → 4 ≤ rank v → UnitRead Minute v
unit_m Minute h rest ms d = is_rule (is_left (is_pair (is_token refl) (is_rule (is_right (is_pair is_nothing d)))))
unit_m Second h rest ms d = is_rule (is_right (is_pair (is_token refl) d))
unit_m Millisecond h rest ms d = is_rule (is_left (is_pair (is_token refl) (is_rule (is_left (is_pair (is_token refl) d)))))
unit_m v h rest ms d = absurd (omega arith)

unit_h : (v : TimeUnit) → 3 ≤ rank v → UnitRead Hour v
unit_h Hour h rest ms d = is_rule (is_left (is_pair (is_token refl) d))
unit_h Year h rest ms d = absurd (omega arith)
unit_h Week h rest ms d = absurd (omega arith)
unit_h Day h rest ms d = absurd (omega arith)
unit_h v h rest ms d = is_rule (is_right (unit_m v (omega arith) rest ms d))

unit_d : (v : TimeUnit) → 2 ≤ rank v → UnitRead Day v
unit_d Day h rest ms d = is_rule (is_left (is_pair (is_token refl) d))
unit_d Year h rest ms d = absurd (omega arith)
unit_d Week h rest ms d = absurd (omega arith)
unit_d v h rest ms d = is_rule (is_right (unit_h v (omega arith) rest ms d))

unit_w : (v : TimeUnit) → 1 ≤ rank v → UnitRead Week v
unit_w Week h rest ms d = is_rule (is_left (is_pair (is_token refl) d))
unit_w Year h rest ms d = absurd (omega arith)
unit_w v h rest ms d = is_rule (is_right (unit_d v (omega arith) rest ms d))

unit_y : (v : TimeUnit) → UnitRead Year v
unit_y Year rest ms d = is_rule (is_left (is_pair (is_token refl) d))
unit_y v rest ms d = is_rule (is_right (unit_w v (omega arith) rest ms d))

unit_read : (u v : TimeUnit) → rank u ≤ rank v → UnitRead u v
unit_read Year v h = unit_y v
unit_read Week v h = unit_w v h
unit_read Day v h = unit_d v h
unit_read Hour v h = unit_h v h
unit_read Minute v h = unit_m v h
unit_read Second v h = unit_s v h
unit_read Millisecond v h = unit_ms v h

-- the units below one
below_read : (u v : TimeUnit) → rank u + 1 ≤ rank v → (rest : List Letter) (ms : ℕ) → RuleReads (After v) rest (span ms) → RuleReads (below u) (letters_of v ++ rest) (scaled (ms_of v) ms)
below_read Year v h rest ms d = unit_w v h rest ms d
below_read Week v h rest ms d = unit_d v h rest ms d
below_read Day v h rest ms d = unit_h v h rest ms d
below_read Hour v h rest ms d = unit_m v h rest ms d
below_read Minute v h rest ms d = unit_s v h rest ms d
below_read Second v h rest ms d = unit_ms v h rest ms d
below_read Millisecond Year h rest ms d = absurd (omega arith)
below_read Millisecond v h rest ms d = absurd (omega arith)

parts_read : {k : ℕ} {ts : List Letter} {ms : ℕ} → AreParts k ts ms → (u : TimeUnit) → rank u + 1 ≤ k → RuleReads (After u) ts (span ms)
parts_read no_part u h = is_rule (is_right is_nothing)
parts_read (a_part v ds ts n ms le num ps) u h =
    is_rule (is_left (is_pair (number_read num (letters_of v ++ ts)) (below_read u v (omega (arith, h, le)) ts ms (parts_read ps v (omega arith)))))

text_read : {ds ts : List Letter} {n s ms : ℕ} → FirstRead ds n ts → RuleReads (From Year) ts (scaled s ms) → RuleReads Text (ds ++ ts) (span (n * s + ms))
text_read {ts = ts} {n = n} {s = s} {ms = ms} (after_zero more e r) d = subst (λ us. RuleReads Text us (span (n * s + ms))) (sym e) (is_rule (is_left (is_pair (is_token refl) (is_rule (is_left (is_pair r d))))))
text_read (after_other r) d = is_rule (is_right (is_pair r d))

pub is_read : {ts : List Letter} {ms : ℕ} → IsSpanText ts ms → RuleReads Text ts (span ms)
is_read zero_alone = is_rule (is_left (is_pair (is_token refl) (is_rule (is_right is_nothing))))
is_read (some_parts u ds ts n ms num ps) = text_read (first_read num (letters_of u ++ ts)) (unit_y u ts ms (parts_read ps u (omega arith)))
