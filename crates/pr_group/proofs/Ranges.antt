-- What the printed text of a range selector tells of its span and its offset.
use Rattle.std.proofs.Common.{◌≡◌, ℕ, ◌+◌, ◌^◌, ◌<◌, ◌≤◌, ◌/◌, ◌%◌, ◌==◌, nat_eq, Bool, true, false, not, cond, ◌&&◌, List, [], ◌∷◌, ◌++◌, drop, Option, Some, None, refl, sym, ap, subst, ◌∙◌, arith}
use Rattle.std.specs.Prelude.{codes, decimal}
use Rattle.std.specs.List.{list_all}
use Rattle.std.proofs.lemmas.Grind.{common_steps}
use Rattle.std.proofs.lemmas.List.Folds.{list_all-append}
use Rattle.std.proofs.lemmas.Fmt.{decimal_by_steps}
use borrow.Author.Tests.{eqb-true}
use Rattle.pr_ast.proofs.FormsReadings.{one_reading}
use Rattle.pr_ast.specs.pr_time.SpanShown.{part_text, parts_text, shown_span}
use Rattle.pr_ast.specs.pr_time.SpanTable.{table}
use Rattle.pr_ast.specs.pr_time.SpanText.{ReadsSpan, Text, production, seen, span}
use Rattle.pr_ast.proofs.TimeSpanRead.{shown_reads}
use Rattle.pr_ast.proofs.TimeSpanTable.{known}
use Rattle.pr_ast.specs.declared.selector.Selector.{Selector}
use Rattle.pr_ast.specs.private.Print.{offset_text, range_text, selected_text}

-- what stands behind the last of a byte, and before its first
abbrev first_some : Option (List ℕ) → Option (List ℕ) → Option (List ℕ)
first_some (Some t) o = Some t
first_some None o = o

abbrev after_last : ℕ → List ℕ → Option (List ℕ)
after_last c [] = None
after_last c (x ∷ xs) = first_some (after_last c xs) (cond (nat_eq x c) (Some xs) None)

abbrev pub before_first : ℕ → List ℕ → List ℕ
before_first c [] = []
before_first c (x ∷ xs) = cond (nat_eq x c) [] (x ∷ before_first c xs)

abbrev pub Lacks : ℕ → List ℕ → Type 0
Lacks c xs = list_all (λ x. not (nat_eq x c)) xs ≡ true

eq_same : (n : ℕ) → nat_eq n n ≡ true
eq_same n = grind (arith, common_steps)

none_after : (c : ℕ) (xs : List ℕ) → Lacks c xs → after_last c xs ≡ None
none_after c [] h = refl
none_after c (x ∷ xs) h = by (nat_eq x c) h (λ k. none_after c xs k) where
  by : (b : Bool) → (not b && list_all (λ y. not (nat_eq y c)) xs) ≡ true → (Lacks c xs → after_last c xs ≡ None) → first_some (after_last c xs) (cond b (Some xs) None) ≡ None
  by true k more = absurd (cc)
  by false k more = ap (λ o. first_some o None) (more k)

after_is : (c : ℕ) (xs ys : List ℕ) → Lacks c ys → after_last c (xs ++ c ∷ ys) ≡ Some ys
after_is c [] ys h = ap (λ o. first_some o (cond (nat_eq c c) (Some ys) None)) (none_after c ys h) ∙ ap (λ b. cond b (Some ys) None) (eq_same c)
after_is c (x ∷ xs) ys h = ap (λ o. first_some o (cond (nat_eq x c) (Some (xs ++ c ∷ ys)) None)) (after_is c xs ys h)

pub before_is : (c : ℕ) (xs ys : List ℕ) → Lacks c xs → before_first c (xs ++ c ∷ ys) ≡ xs
before_is c [] ys h = ap (λ b. cond b [] (c ∷ before_first c ys)) (eq_same c)
before_is c (x ∷ xs) ys h = by (nat_eq x c) h (λ k. before_is c xs ys k) where
  by : (b : Bool) → (not b && list_all (λ y. not (nat_eq y c)) xs) ≡ true → (Lacks c xs → before_first c (xs ++ c ∷ ys) ≡ xs) → cond b [] (x ∷ before_first c (xs ++ c ∷ ys)) ≡ x ∷ xs
  by true k more = absurd (cc)
  by false k more = ap (λ l. x ∷ l) (more k)

both : (c : ℕ) (xs ys : List ℕ) → Lacks c xs → Lacks c ys → Lacks c (xs ++ ys)
both c xs ys h k = list_all-append (λ x. not (nat_eq x c)) xs ys ∙ ap (λ b. b && list_all (λ x. not (nat_eq x c)) ys) h ∙ k

-- digits are no brackets
digit_lacks : (c n : ℕ) → 58 ≤ c → n < 10 → Lacks c ((48 + n) ∷ [])
digit_lacks c n h k = let other : nat_eq (48 + n) c ≡ false = grind (arith, common_steps) in ap (λ b. not b && true) other

decimal_lacks : (c n : ℕ) → 58 ≤ c → n < 2 ^ 64 → Lacks c (decimal n)
decimal_lacks c n h small = decimal_by_steps (λ m ds. Lacks c ds) (λ m k. digit_lacks c m h k)
    (λ m ds k more. both c ds ((48 + m % 10) ∷ []) more (digit_lacks c (m % 10) h (omega arith))) n small

part_lacks : (c n : ℕ) (unit : List ℕ) → 58 ≤ c → n < 2 ^ 64 → Lacks c unit → Lacks c (part_text n unit)
part_lacks c n unit h small k = by (n == 0) where
  by : (b : Bool) → Lacks c (cond b [] (decimal n ++ unit))
  by true = refl
  by false = both c (decimal n) unit (decimal_lacks c n h small) k

pub span_lacks : (c ms : ℕ) → 58 ≤ c → ms ≤ 2 ^ 40 → Lacks c (codes "d") → Lacks c (codes "h") → Lacks c (codes "m") → Lacks c (codes "s") → Lacks c (codes "ms") → Lacks c (codes "0s") → Lacks c (shown_span ms)
span_lacks c ms h small d hr m s ml zero = by (ms == 0) where
  by : (b : Bool) → Lacks c (cond b (codes "0s") (parts_text ms))
  by true = zero
  by false =
      both c (((part_text (ms / 86400000) (codes "d") ++ part_text (ms % 86400000 / 3600000) (codes "h")) ++ part_text (ms % 3600000 / 60000) (codes "m")) ++ part_text (ms % 60000 / 1000) (codes "s")) (part_text (ms % 1000) (codes "ms"))
      (both c ((part_text (ms / 86400000) (codes "d") ++ part_text (ms % 86400000 / 3600000) (codes "h")) ++ part_text (ms % 3600000 / 60000) (codes "m")) (part_text (ms % 60000 / 1000) (codes "s"))
      (both c (part_text (ms / 86400000) (codes "d") ++ part_text (ms % 86400000 / 3600000) (codes "h")) (part_text (ms % 3600000 / 60000) (codes "m"))
      (both c (part_text (ms / 86400000) (codes "d")) (part_text (ms % 86400000 / 3600000) (codes "h")) (part_lacks c (ms / 86400000) (codes "d") h (omega arith) d) (part_lacks c (ms % 86400000 / 3600000) (codes "h") h (omega arith) hr))
      (part_lacks c (ms % 3600000 / 60000) (codes "m") h (omega arith) m))
      (part_lacks c (ms % 60000 / 1000) (codes "s") h (omega arith) s))
      (part_lacks c (ms % 1000) (codes "ms") h (omega arith) ml)

span_open : (ms : ℕ) → ms ≤ 2 ^ 40 → Lacks 91 (shown_span ms)
span_open ms small = span_lacks 91 ms (omega arith) small refl refl refl refl refl refl

span_close : (ms : ℕ) → ms ≤ 2 ^ 40 → Lacks 93 (shown_span ms)
span_close ms small = span_lacks 93 ms (omega arith) small refl refl refl refl refl refl

offset_open : (ms : ℕ) → ms ≤ 2 ^ 40 → Lacks 91 (offset_text ms)
offset_open ms small = by (ms == 0) where
  by : (b : Bool) → Lacks 91 (cond b [] (codes " offset " ++ shown_span ms))
  by true = refl
  by false = both 91 (codes " offset ") (shown_span ms) refl (span_open ms small)

offset_close : (ms : ℕ) → ms ≤ 2 ^ 40 → Lacks 93 (offset_text ms)
offset_close ms small = by (ms == 0) where
  by : (b : Bool) → Lacks 93 (cond b [] (codes " offset " ++ shown_span ms))
  by true = refl
  by false = both 93 (codes " offset ") (shown_span ms) refl (span_close ms small)

-- a printed span tells the span
span_value : (m n : ℕ) → span m ≡ span n → m ≡ n
span_value m n e = cc

span_same : (m n : ℕ) → m ≤ 2 ^ 40 → n ≤ 2 ^ 40 → shown_span m ≡ shown_span n → m ≡ n
span_same m n h k e =
    span_value m n (one_reading production table known Text (seen (shown_span m)) (span m) (span n) (shown_reads m h) (subst (λ t. ReadsSpan t n) (sym e) (shown_reads n k)))

offset_same : (m n : ℕ) → m ≤ 2 ^ 40 → n ≤ 2 ^ 40 → offset_text m ≡ offset_text n → m ≡ n
offset_same m n h k e = by (m == 0) (n == 0) refl refl e where
  by : (b d : Bool) → (m == 0) ≡ b → (n == 0) ≡ d → cond b [] (codes " offset " ++ shown_span m) ≡ cond d [] (codes " offset " ++ shown_span n) → m ≡ n
  by true true f g same = eqb-true m 0 f ∙ sym (eqb-true n 0 g)
  by true false f g same = absurd (cc)
  by false true f g same = absurd (cc)
  by false false f g same = span_same m n h k (ap (drop 8) same)

some_same : (xs ys : List ℕ) → Some xs ≡ Some ys → xs ≡ ys
some_same xs ys e = cc

pub ranges_same : (s t : Selector) (d e : ℕ) → d ≤ 2 ^ 40 → e ≤ 2 ^ 40 → s.offset ≤ 2 ^ 40 → t.offset ≤ 2 ^ 40 → range_text s d ≡ range_text t e → (d ≡ e) × (s.offset ≡ t.offset)
ranges_same s t d e hd he hs ht same =
    let tail_open_s : Lacks 91 (shown_span d ++ 93 ∷ offset_text s.offset) = both 91 (shown_span d) (93 ∷ offset_text s.offset) (span_open d hd) (offset_open s.offset hs) in
    let tail_open_t : Lacks 91 (shown_span e ++ 93 ∷ offset_text t.offset) = both 91 (shown_span e) (93 ∷ offset_text t.offset) (span_open e he) (offset_open t.offset ht) in
    let tails : shown_span d ++ 93 ∷ offset_text s.offset ≡ shown_span e ++ 93 ∷ offset_text t.offset =
    some_same (shown_span d ++ 93 ∷ offset_text s.offset) (shown_span e ++ 93 ∷ offset_text t.offset)
    (sym (after_is 91 (selected_text s.name s.matchers) (shown_span d ++ 93 ∷ offset_text s.offset) tail_open_s) ∙ ap (after_last 91) same
    ∙ after_is 91 (selected_text t.name t.matchers) (shown_span e ++ 93 ∷ offset_text t.offset) tail_open_t) in
    let spans : shown_span d ≡ shown_span e =
    sym (before_is 93 (shown_span d) (offset_text s.offset) (span_close d hd)) ∙ ap (before_first 93) tails ∙ before_is 93 (shown_span e) (offset_text t.offset) (span_close e he) in
    let offsets : offset_text s.offset ≡ offset_text t.offset =
    some_same (offset_text s.offset) (offset_text t.offset)
    (sym (after_is 93 (shown_span d) (offset_text s.offset) (offset_close s.offset hs)) ∙ ap (after_last 93) tails ∙ after_is 93 (shown_span e) (offset_text t.offset) (offset_close t.offset ht)) in
    (span_same d e hd he spans, offset_same s.offset t.offset hs ht offsets)
