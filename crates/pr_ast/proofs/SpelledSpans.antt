-- The spelling of durations: a printed span before anything that does not go on it.
use Rattle.std.proofs.Common.{◌≡◌, ℕ, ◌-◌, ◌/◌, ◌%◌, ◌<◌, ◌≤◌, ◌^◌, Bool, true, false, List, [], ◌∷◌, ◌++◌, length, refl, ap, sym, subst, arith, append_assoc}
use Rattle.std.specs.Prelude.{not, ◌==◌, ◌||◌, if◌then◌else◌, decimal, codes}
use Rattle.std.specs.List.{list_all}
use Rattle.std.proofs.lemmas.List.{length-map, map-append, append-nil}
use Rattle.std.proofs.lemmas.Bool.Decides.{nat_tests}
use Rattle.std.specs.Char.{is_ascii_digit}
use Rattle.pr_time.specs.pr_forms.Form.{rule, Reads}
use Rattle.pr_time.specs.pr_forms.Table.{is_more}
use Rattle.pr_time.proofs.FormsEnding.{rule_answered}
use Rattle.pr_time.proofs.FormsParts.{other_rest}
use Rattle.pr_time.specs.SpanText.{production, letter_of, seen, SpanValue, span, Text, ReadsSpan, IsBadPlace}
use Rattle.pr_time.specs.SpanShown.{part_text, parts_text, shown_span}
use Rattle.pr_time.proofs.SpanTable.{known}
use Rattle.pr_time.proofs.SpanTotal.{ends}
use Rattle.pr_time.proofs.SpanRead.{shown_reads}
use Rattle.pr_time.specs.SpanTable.{table, step_rank, steps}
use Rattle.pr_ast.specs.declared.lex.token.TokenKind.{TokenKind}
use Rattle.pr_ast.specs.declared.lex.token.TokenKind.TheVariants.{Duration as DurationKind}
use Rattle.pr_ast.specs.declared.lex.part.Lexeme.TheVariants.{Duration}
use Rattle.pr_ast.specs.declared.lex.part.Part.TheVariants.{Token as TokenPart}
use Rattle.pr_ast.specs.Bytes.{part_at, is_unit_letter, digits_lexeme}
use Rattle.pr_ast.specs.private.Spelled.{Spells, a_token, ends_span}
use Rattle.pr_ast.proofs.Spelling.{both_left, both_right, not_true, take_front, drop_front}
use Rattle.pr_ast.proofs.SpelledTexts.{longest, front_length}
use Rattle.pr_ast.proofs.SpelledNumbers.{past_digits, digit_part, decimal_digits, decimal_some}

-- a byte that goes on no duration is seen as any other one
other_of : {X : Type 0} (g y w d h m s : Bool) (t y' w' d' h' m' s' o : X) → g ≡ false → (y || w || d || h || m || s) ≡ false →
    (if g then t else (if y then y' else (if w then w' else (if d then d' else (if h then h' else (if m then m' else (if s then s' else o))))))) ≡ o
other_of true y w d h m s t y' w' d' h' m' s' o e k = cc
other_of false true w d h m s t y' w' d' h' m' s' o e k = cc
other_of false false true d h m s t y' w' d' h' m' s' o e k = cc
other_of false false false true h m s t y' w' d' h' m' s' o e k = cc
other_of false false false false true m s t y' w' d' h' m' s' o e k = cc
other_of false false false false false true s t y' w' d' h' m' s' o e k = cc
other_of false false false false false false true t y' w' d' h' m' s' o e k = cc
other_of false false false false false false false t y' w' d' h' m' s' o e k = refl

other_letter : (b : ℕ) → is_ascii_digit b ≡ false → is_unit_letter b ≡ false → letter_of b ≡ letter_of 0
other_letter b d u = other_of (is_ascii_digit b) (b == 121) (b == 119) (b == 100) (b == 104) (b == 109) (b == 115) _ _ _ _ _ _ _ _ d u

no_more : (rest : List ℕ) → ends_span rest ≡ true → is_more {V = SpanValue} table (rule Text) (seen rest) ≡ false
no_more [] h = refl
no_more (b ∷ rest) h =
    let d = not_true (is_ascii_digit b) (both_left (not (is_ascii_digit b)) (not (is_unit_letter b)) h) in
    let u = not_true (is_unit_letter b) (both_right (not (is_ascii_digit b)) (not (is_unit_letter b)) h) in
    ap (λ t. is_more {V = SpanValue} table (rule Text) (t ∷ seen rest)) (other_letter b d u)

before_rest : (text rest : List ℕ) (ms : ℕ) → ReadsSpan text ms → Reads production (rule Text) (seen (text ++ rest)) (span ms) (seen rest)
before_rest text rest ms d =
    let e : Reads production (rule Text) (seen text ++ []) (span ms) [] = subst (λ ts. Reads production (rule Text) ts (span ms) []) (sym (append-nil (seen text))) d in
    subst (λ ts. Reads production (rule Text) ts (span ms) (seen rest)) (sym (map-append letter_of text rest)) (other_rest production (rule Text) (seen text) [] (seen rest) (span ms) e)

span_end : (text rest : List ℕ) (ms : ℕ) → ReadsSpan text ms → ends_span rest ≡ true → IsBadPlace (text ++ rest) (length text)
span_end text rest ms d h =
    let a = rule_answered production table known step_rank steps ends Text (seen (text ++ rest)) in
    let p = longest production table known Text (seen (text ++ rest)) (seen rest) a.outcome (span ms) a.runs (before_rest text rest ms d) (no_more rest h) in
    let l = length-map (text ++ rest) letter_of in let m = length-map rest letter_of in let f = front_length text rest in
    let e : length (seen (text ++ rest)) - length (seen rest) ≡ length text = omega (arith, l, m, f) in
    subst (λ k. IsBadPlace (text ++ rest) k) e p

-- digits and a unit letter begin a duration
no_digit : (u : ℕ) → is_unit_letter u ≡ true → not (is_ascii_digit u) ≡ true
no_digit u h = grind (arith, nat_tests)

digits_part : (inside : Bool) (ds : List ℕ) (u : ℕ) (more : List ℕ) → 0 < length ds → list_all is_ascii_digit ds ≡ true → is_unit_letter u ≡ true → part_at inside (ds ++ u ∷ more) ≡ TokenPart Duration
digits_part inside [] u more some d h = absurd (omega arith)
digits_part inside (c ∷ ds) u more some d h =
    let l : digits_lexeme ((c ∷ ds) ++ u ∷ more) ≡ Duration = rw (past_digits (c ∷ ds) (u ∷ more) d (no_digit u h)) (rw h refl) in
    digit_part inside c (ds ++ u ∷ more) Duration (both_left (is_ascii_digit c) (list_all is_ascii_digit ds) d) l

-- the first part of a printed span that is not left out
lead : (inside : Bool) (n u : ℕ) (us more : List ℕ) → n < 10 ^ 64 → is_unit_letter u ≡ true → (n ≡ 0 → part_at inside more ≡ TokenPart Duration) → (b : Bool) → n == 0 ≡ b →
    part_at inside (part_text n (u ∷ us) ++ more) ≡ TokenPart Duration
lead inside n u us more small h again true e = rw e (again (grind (arith, nat_tests)))
lead inside n u us more small h again false e =
    let q : decimal n ++ (u ∷ (us ++ more)) ≡ (decimal n ++ (u ∷ us)) ++ more = sym (append_assoc (decimal n) (u ∷ us) more) in
    rw e (subst (λ t. part_at inside t ≡ TokenPart Duration) q (digits_part inside (decimal n) u (us ++ more) (decimal_some n small) (decimal_digits n small) h))

pub in_a_row : (a b c d e r : List ℕ) → a ++ b ++ c ++ d ++ e ++ r ≡ a ++ (b ++ (c ++ (d ++ (e ++ r))))
in_a_row a b c d e r = simp append_assoc refl

parts_begin : (inside : Bool) (ms : ℕ) (rest : List ℕ) → ms ≤ 2 ^ 40 → 0 < ms → part_at inside (parts_text ms ++ rest) ≡ TokenPart Duration
parts_begin inside ms rest small some =
    let days = ms / 86400000 in let hours = ms % 86400000 / 3600000 in let minutes = ms % 3600000 / 60000 in let seconds = ms % 60000 / 1000 in let left = ms % 1000 in
    subst (λ t. part_at inside t ≡ TokenPart Duration)
    (sym (in_a_row (part_text days (codes "d")) (part_text hours (codes "h")) (part_text minutes (codes "m")) (part_text seconds (codes "s")) (part_text left (codes "ms")) rest))
    (lead inside days 100 [] _ (omega arith) refl (λ d.
    lead inside hours 104 [] _ (omega arith) refl (λ h.
    lead inside minutes 109 [] _ (omega arith) refl (λ m.
    lead inside seconds 115 [] _ (omega arith) refl (λ s.
    lead inside left 109 (115 ∷ []) rest (omega arith) refl (λ z. absurd (omega (arith, d, h, m, s, z))) (left == 0) refl)
    (seconds == 0) refl)
    (minutes == 0) refl)
    (hours == 0) refl)
    (days == 0) refl)

by_zero : (inside : Bool) (ms : ℕ) (rest : List ℕ) → ms ≤ 2 ^ 40 → (b : Bool) → ms == 0 ≡ b → part_at inside (shown_span ms ++ rest) ≡ TokenPart Duration
by_zero true ms rest small true e = rw e refl
by_zero false ms rest small true e = rw e refl
by_zero inside ms rest small false e = rw e (parts_begin inside ms rest small (grind (arith, nat_tests)))

pub span_spelled : (inside : Bool) (ms : ℕ) (rest : List ℕ) (ks : List TokenKind) → ms ≤ 2 ^ 40 → ends_span rest ≡ true → Spells inside rest ks → Spells inside (shown_span ms ++ rest) (DurationKind ms ∷ ks)
span_spelled inside ms rest ks small h s =
    let text = shown_span ms in
    let d = shown_reads ms small in
    a_token (length text) (DurationKind ms) Duration (by_zero inside ms rest small (ms == 0) refl)
    (record { longest = span_end text rest ms d h; ms = ms; whole = subst (λ t. ReadsSpan t ms) (sym (take_front text rest)) d; fits = small; is = refl })
    (subst (λ t. Spells inside t ks) (sym (drop_front text rest)) s)
