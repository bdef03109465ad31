-- The digits of an escape write its character.
use Rattle.std.proofs.Common.{◌≡◌, ℕ, zero, suc, ◌+◌, ◌*◌, ◌^◌, ◌<◌, ◌≤◌, List, [], ◌∷◌, ◌++◌, Option, Some, None, Bool, true, false, length, refl, ap, sym, ◌∙◌, subst, arith, inl, inr}
use Rattle.std.proofs.Math.Nat.{pow-suc, mul-le-mul_left}
use Rattle.std.proofs.lemmas.Bool.{cases_lt, agree_below_at}
use Rattle.std.proofs.lemmas.Bool.Decides.{nat_tests}
use Rattle.std.specs.Prelude.{◌==◌, nat_lt, encode_utf8, if◌then◌else◌}
use Rattle.std.specs.Char.{digit_value}
use Rattle.std.specs.Str.Parse.{AllDigits, digits_value, digits_value_after}
use Rattle.pr_forms.specs.Form.{Form, token, nothing, pair, either, chosen, rule, Reads, is_token, is_nothing, is_pair, is_left, is_right, is_chosen, is_rule}
use Rattle.pr_words.specs.declared.strings.kind.Mark.{Mark}
use Rattle.pr_words.specs.declared.strings.kind.StringByte.{StringByte}
use Rattle.pr_words.specs.declared.strings.kind.StringByte.TheVariants.{X, Short, Long, Other}
use Rattle.pr_words.specs.Strings.{production, kind_of, Letter, letter, letter_of, seen, StringValue, content, mark, Rule, Escape, Digits, Then, digit_of, fits, reached, any_at, second_of, numbered, numbered_by, nothing_follows, named_at, named_byte, as_content}
use Rattle.pr_words.specs.private.Escapes.{IsLimit, IsCharacter, CanBecomeCharacter, IsEscape, WritesCharacter}
use Rattle.pr_words.proofs.Characters.{fits_is}
use Rattle.pr_words.proofs.StringUtf8.{seen_same}
use Rattle.pr_forms.proofs.Suffixes.{suffix_length, reads_suffix}

-- the value of a digit of base 16, as the grammar and the number readers have it
abbrev digit : ℕ → Option ℕ
digit b = if nat_lt (digit_value b) 16 then Some (digit_value b) else None

abbrev same : Option ℕ → Option ℕ → Bool
same (Some x) (Some y) = x == y
same None None = true
same _ _ = false

same_is : (a b : Option ℕ) → same a b ≡ true → a ≡ b
same_is (Some x) (Some y) h = let e : x ≡ y = grind (arith, nat_tests) in ap Some e
same_is (Some x) None h = cc
same_is None (Some y) h = cc
same_is None None h = refl

high_kind : (b : ℕ) → 128 ≤ b → kind_of b ≡ Other
high_kind b h = grind (arith, nat_tests)

high_digit : (b : ℕ) → 128 ≤ b → digit b ≡ None
high_digit b h = grind (arith, nat_tests)

digit_is : (b : ℕ) → digit_of (letter_of b) ≡ digit b
digit_is b = elim (cases_lt b 128) [
  | inl lt ↦ same_is _ _ (agree_below_at (λ n. same (digit_of (letter_of n)) (digit n)) (λ n. true) 128 b refl lt)
  | inr ge ↦ ap (λ k. digit_of (letter k b)) (high_kind b ge) ∙ sym (high_digit b ge)
]

-- a digit is one of base 16, with its value
digit_told : (b d : ℕ) → digit_of (letter_of b) ≡ Some d → (digit_value b < 16) × (digit_value b ≡ d)
digit_told b d h = by_test (nat_lt (digit_value b) 16) refl (sym (digit_is b) ∙ h)
  where
    by_test : (test : Bool) → nat_lt (digit_value b) 16 ≡ test → (if test then Some (digit_value b) else None) ≡ Some d → (digit_value b < 16) × (digit_value b ≡ d)
    by_test true t e = (grind (arith, nat_tests), cc)
    by_test false t e = cc

digit_found : (b : ℕ) → digit_value b < 16 → digit_of (letter_of b) ≡ Some (digit_value b)
digit_found b lt = let t : nat_lt (digit_value b) 16 ≡ true = grind (arith, nat_tests) in digit_is b ∙ ap (λ x. if x then Some (digit_value b) else None) t

-- what a chosen byte is followed by
pair_rest : {g : Form Letter Rule StringValue} {t : Letter} {ts rest : List Letter} {v : StringValue} → Reads production (pair second_of (token any_at) g) (t ∷ ts) v rest → Reads production g ts v rest
pair_rest (is_pair (is_token e) d) = d

then_rest : {k : Rule} {t : Letter} {ts rest : List Letter} {v : StringValue} (limit left n : ℕ) → k ≡ Then limit left n → Reads production (production k) (t ∷ ts) v rest → Reads production (rule (Digits limit left n)) ts v rest
then_rest {k} {t} {ts} {rest} {v} limit left n e d = pair_rest (subst (λ r. Reads production (production r) (t ∷ ts) v rest) e d)

then_read : {t : Letter} {ts rest : List Letter} {v : StringValue} (limit left n : ℕ) → Reads production (rule (Digits limit left n)) ts v rest → Reads production (production (Then limit left n)) (t ∷ ts) v rest
then_read limit left n d = is_pair {v = mark} (is_token refl) d

record Chosen (q : Letter → Option Rule) (ts rest : List Letter) (v : StringValue) : Type 0 where
  first : Letter
  behind : List Letter
  chosen_rule : Rule
  is : ts ≡ first ∷ behind
  has : q first ≡ Some chosen_rule
  reads : Reads production (production chosen_rule) ts v rest

chosen_parts : {q : Letter → Option Rule} {m : Letter → Bool} {ts rest : List Letter} {v : StringValue} → Reads production (chosen q m) ts v rest → Chosen q ts rest v
chosen_parts (is_chosen {t = t} {n = n} {ts = us} e l d) = record { first = t; behind = us; chosen_rule = n; is = refl; has = e; reads = d }

rule_parts : {n : Rule} {ts rest : List Letter} {v : StringValue} → Reads production (rule n) ts v rest → Reads production (production n) ts v rest
rule_parts (is_rule d) = d

-- The digits before the rest, after those that have written n.
record Told (limit left n : ℕ) (text : List ℕ) (rest : List Letter) (v : StringValue) : Type 0 where
  digits : List ℕ
  after : List ℕ
  is : text ≡ digits ++ after
  rest_is : rest ≡ seen after
  counted : length digits ≡ left
  based : AllDigits 16 digits
  value : v ≡ content (encode_utf8 (digits_value_after 16 n digits))
  last : fits limit 0 (digits_value_after 16 n digits) ≡ true

no_digits : (limit n : ℕ) (text : List ℕ) (rest : List Letter) (v : StringValue) → fits limit 0 n ≡ true → Reads production (nothing (content (encode_utf8 n))) (seen text) v rest → Told limit 0 n text rest v
no_digits limit n text rest v f is_nothing = record { digits = []; after = text; is = refl; rest_is = refl; counted = refl; based = tt; value = refl; last = f }

module _ (limit left n b : ℕ) (text : List ℕ) (rest : List Letter) (v : StringValue)
    (more : (m : ℕ) → fits limit left m ≡ true → Reads production (rule (Digits limit left m)) (seen text) v rest → Told limit left m text rest v) where
  one_digit : digit_value b < 16 → Told limit left (n * 16 + digit_value b) text rest v → Told limit (suc left) n (b ∷ text) rest v
  one_digit lt t = record {
    digits = b ∷ t.digits;
    after = t.after;
    is = ap (λ x. b ∷ x) t.is;
    rest_is = t.rest_is;
    counted = ap suc t.counted;
    based = (lt, t.based);
    value = t.value;
    last = t.last;
  }

  able : (d : ℕ) (k : Rule) (test : Bool) → digit_of (letter_of b) ≡ Some d → fits limit left (n * 16 + d) ≡ test → (if test then Some (Then limit left (n * 16 + d)) else None) ≡ Some k →
      Reads production (production k) (letter_of b ∷ seen text) v rest → Told limit (suc left) n (b ∷ text) rest v
  able d k true h f e r =
      let same_rule : k ≡ Then limit left (n * 16 + d) = cc in
      let told = digit_told b d h in
      one_digit told.0 (subst (λ x. Told limit left (n * 16 + x) text rest v) (sym told.1) (more (n * 16 + d) f (then_rest limit left (n * 16 + d) same_rule r)))
  able d k false h f e r = cc

  by_digit : (o : Option ℕ) (k : Rule) → digit_of (letter_of b) ≡ o → reached limit left n o ≡ Some k → Reads production (production k) (letter_of b ∷ seen text) v rest → Told limit (suc left) n (b ∷ text) rest v
  by_digit None k h e r = cc
  by_digit (Some d) k h e r = able d k (fits limit left (n * 16 + d)) h refl e r

  by_choice : Chosen (λ t. reached limit left n (digit_of t)) (letter_of b ∷ seen text) rest v → Told limit (suc left) n (b ∷ text) rest v
  by_choice c =
      let first : c.first ≡ letter_of b = cc (c.is) in
      by_digit (digit_of (letter_of b)) c.chosen_rule refl (sym (ap (λ t. reached limit left n (digit_of t)) first) ∙ c.has) c.reads

digits_told : (limit left n : ℕ) (text : List ℕ) (rest : List Letter) (v : StringValue) → fits limit left n ≡ true → Reads production (rule (Digits limit left n)) (seen text) v rest → Told limit left n text rest v
digits_told limit zero n text rest v f d = no_digits limit n text rest v f (rule_parts d)
digits_told limit (suc left) n [] rest v f d = let c = chosen_parts (rule_parts d) in let e : [] ≡ c.first ∷ c.behind = c.is in cc
digits_told limit (suc left) n (b ∷ text) rest v f d = by_choice limit left n b text rest v (λ m g r. digits_told limit left m text rest v g r) (chosen_parts (rule_parts d))

-- the number that digits write lies among those that the digits before them can become
spread : (n d w : ℕ) → (n * 16 + d) * w ≡ n * (w * 16) + d * w
spread n d w = grind arith

wider : (n d w wide v : ℕ) → wide ≡ w * 16 → d < 16 → (n * 16 + d) * w ≤ v → v < (n * 16 + d) * w + w → (n * wide ≤ v) × (v < n * wide + wide)
wider n d w wide v e lt from below =
    let split : (n * 16 + d) * w ≡ n * wide + d * w = spread n d w ∙ ap (λ x. n * x + d * w) (sym e) in
    let most : w * (d + 1) ≤ w * 16 = mul-le-mul_left w (omega (arith, lt)) in
    let more : w * (d + 1) ≡ d * w + w = grind arith in
    (omega (arith, split, from), omega (arith, split, below, most, more, e))

written_bounds : (n : ℕ) (ds : List ℕ) → AllDigits 16 ds → (n * 16 ^ length ds ≤ digits_value_after 16 n ds) × (digits_value_after 16 n ds < n * 16 ^ length ds + 16 ^ length ds)
written_bounds n [] h = (omega arith, omega arith)
written_bounds n (c ∷ cs) h =
    let b = written_bounds (n * 16 + digit_value c) cs h.1 in
    wider n (digit_value c) (16 ^ length cs) (16 ^ length (c ∷ cs)) (digits_value_after 16 (n * 16 + digit_value c) cs) (pow-suc 16 (length cs)) h.0 b.0 b.1

shorter : {f : Form Letter Rule StringValue} {ts rest : List Letter} {v : StringValue} → Reads production f ts v rest → length rest ≤ length ts
shorter d = suffix_length (reads_suffix d)

digits_read : (limit left n : ℕ) (ds rest : List ℕ) → IsLimit limit → length ds ≡ left → AllDigits 16 ds → digits_value_after 16 n ds ≤ limit → IsCharacter (digits_value_after 16 n ds) →
    Reads production (rule (Digits limit left n)) (seen (ds ++ rest)) (content (encode_utf8 (digits_value_after 16 n ds))) (seen rest)
digits_read limit zero n [] rest l e h k x = is_rule is_nothing
digits_read limit zero n (c ∷ cs) rest l e h k x = absurd (omega arith)
digits_read limit (suc left) n [] rest l e h k x = absurd (omega arith)
digits_read limit (suc left) n (c ∷ cs) rest l e h k x =
    let next = n * 16 + digit_value c in
    let size : length cs ≡ left = omega arith in
    let d = digits_read limit left next cs rest l size h.1 k x in
    let b = written_bounds next cs h.1 in
    let from : next * 16 ^ left ≤ digits_value_after 16 next cs = subst (λ m. next * 16 ^ m ≤ digits_value_after 16 next cs) size b.0 in
    let below : digits_value_after 16 next cs < next * 16 ^ left + 16 ^ left = subst (λ m. digits_value_after 16 next cs < next * 16 ^ m + 16 ^ m) size b.1 in
    let comes : CanBecomeCharacter limit left next = record { value = digits_value_after 16 next cs; from = from; below = below; limited = k; character = x } in
    let able : fits limit left next ≡ true = (fits_is limit left next l).1 comes in
    let chooses : reached limit left n (digit_of (letter_of c)) ≡ Some (Then limit left next) = ap (reached limit left n) (digit_found c h.0) ∙ ap (λ t. if t then Some (Then limit left next) else None) able in
    is_rule (is_chosen chooses (shorter d) (then_read limit left next d))

-- what stands after the letter of an escape by digits
escape_rest : (quote : Mark) (kind : StringByte) (b limit count : ℕ) {ts rest : List Letter} {v : StringValue} → named_byte quote kind ≡ None → numbered_by kind ≡ Some (Then limit count 0) →
    Reads production (either (token (named_at quote)) (chosen numbered nothing_follows)) (letter kind b ∷ ts) v rest → Reads production (rule (Digits limit count 0)) ts v rest
escape_rest quote kind b limit count none counts (is_left (is_token {v = v} e)) = let x : None ≡ Some v = sym (ap as_content none) ∙ e in cc
escape_rest quote kind b limit count none counts (is_right (is_chosen {n = k} e l d)) =
    let same_rule : k ≡ Then limit count 0 = cc in then_rest limit count 0 same_rule d

escape_read : (quote : Mark) (kind : StringByte) (b limit count : ℕ) {ts rest : List Letter} {v : StringValue} → numbered_by kind ≡ Some (Then limit count 0) →
    Reads production (rule (Digits limit count 0)) ts v rest → Reads production (rule (Escape quote)) (letter kind b ∷ ts) v rest
escape_read quote kind b limit count counts d = is_rule (is_right (is_chosen counts (shorter d) (then_read limit count 0 d)))

written_from : (limit count : ℕ) (text bytes rest : List ℕ) → IsLimit limit → Told limit count 0 text (seen rest) (content bytes) → WritesCharacter limit count text bytes rest
written_from limit count text bytes rest l t =
    let c = (fits_is limit 0 (digits_value 16 t.digits) l).0 t.last in
    let one : c.value ≡ digits_value 16 t.digits = let a = c.from in let b = c.below in omega (arith, a, b) in
    let last : rest ≡ t.after = seen_same rest t.after t.rest_is in
    record {
      digits = t.digits;
      parts = t.is ∙ ap (λ x. t.digits ++ x) (sym last);
      counted = t.counted;
      based = t.based;
      limited = subst (λ x. x ≤ limit) one c.limited;
      character = subst IsCharacter one c.character;
      means = let e = t.value in cc (e);
    }

written_read : (limit count : ℕ) (text bytes rest : List ℕ) → IsLimit limit → WritesCharacter limit count text bytes rest → Reads production (rule (Digits limit count 0)) (seen text) (content bytes) (seen rest)
written_read limit count text bytes rest l w =
    subst (λ x. Reads production (rule (Digits limit count 0)) (seen x) (content bytes) (seen rest)) (sym w.parts)
    (subst (λ x. Reads production (rule (Digits limit count 0)) (seen (w.digits ++ rest)) (content x) (seen rest)) (sym w.means)
    (digits_read limit count 0 w.digits rest l w.counted w.based w.limited w.character))

module _ (quote : Mark) (text bytes rest : List ℕ) where
  pub small_escape : (IsEscape quote (120 ∷ text) bytes rest → WritesCharacter 0x7F 2 text bytes rest) × (WritesCharacter 0x7F 2 text bytes rest → IsEscape quote (120 ∷ text) bytes rest)
  small_escape = (
    λ d. written_from 0x7F 2 text bytes rest (inl refl) (digits_told 0x7F 2 0 text (seen rest) (content bytes) refl (escape_rest quote X 120 0x7F 2 refl refl (rule_parts d))),
    λ w. escape_read quote X 120 0x7F 2 refl (written_read 0x7F 2 text bytes rest (inl refl) w),
  )

  pub short_escape : (IsEscape quote (117 ∷ text) bytes rest → WritesCharacter 0x10FFFF 4 text bytes rest) × (WritesCharacter 0x10FFFF 4 text bytes rest → IsEscape quote (117 ∷ text) bytes rest)
  short_escape = (
    λ d. written_from 0x10FFFF 4 text bytes rest (inr refl) (digits_told 0x10FFFF 4 0 text (seen rest) (content bytes) refl (escape_rest quote Short 117 0x10FFFF 4 refl refl (rule_parts d))),
    λ w. escape_read quote Short 117 0x10FFFF 4 refl (written_read 0x10FFFF 4 text bytes rest (inr refl) w),
  )

  pub long_escape : (IsEscape quote (85 ∷ text) bytes rest → WritesCharacter 0x10FFFF 8 text bytes rest) × (WritesCharacter 0x10FFFF 8 text bytes rest → IsEscape quote (85 ∷ text) bytes rest)
  long_escape = (
    λ d. written_from 0x10FFFF 8 text bytes rest (inr refl) (digits_told 0x10FFFF 8 0 text (seen rest) (content bytes) refl (escape_rest quote Long 85 0x10FFFF 8 refl refl (rule_parts d))),
    λ w. escape_read quote Long 85 0x10FFFF 8 refl (written_read 0x10FFFF 8 text bytes rest (inr refl) w),
  )
