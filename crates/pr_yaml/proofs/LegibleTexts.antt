-- The texts that are cut from lines are UTF-8, and a line is cut where it may be.
use Rattle.std.proofs.Common.{◌≡◌, ℕ, zero, suc, ◌+◌, ◌-◌, ◌*◌, ◌<◌, ◌≤◌, ◌==◌, min, ◌&&◌, ◌||◌, not, Bool, true, false, cond, if◌then◌else◌, Option, Some, None, List, [], ◌∷◌, ◌++◌, length, take, drop, reverse, refl, sym, subst, ap, arith, append_assoc, append-nil, length-take, drop-drop, take-take, lit<, ◌⊎◌, inl, inr}
use Rattle.std.specs.Prelude.{encode_utf8}
use Rattle.std.specs.List.{prefix_len, position_or_len}
use Rattle.std.specs.Str.{IsUtf8}
use Rattle.std.specs.Char.{IsScalar, InScalarRange}
use Rattle.std.proofs.lemmas.Bool.{cases_lt}
use Rattle.std.proofs.lemmas.Bool.Decides.{nat_tests}
use Rattle.std.proofs.lemmas.List.{length-reverse, reverse-append, reverse-reverse, take-append-le, take_all}
use Rattle.std.proofs.lemmas.Str.{IsUtf8-append, IsUtf8-encode, IsUtf8-nil}
use Rattle.pr_words.specs.Strings.{fits}
use Rattle.pr_words.proofs.StringUtf8.{before_byte, byte_text}
use Rattle.pr_words.specs.Fields.{is_field_byte, without_trailing}
use Rattle.pr_words.specs.Bytes.{is_blank}
use Rattle.pr_yaml.specs.Bytes.{no_text, has_no_text, is_bare, is_space, spaces_len, blanks_len, ends_word, is_flow_sign}
use Rattle.pr_yaml.specs.Lines.{Cursor, line_start, feeds, folded_break}
use Rattle.pr_yaml.specs.private.Legible.{legible_part, IsLegible, AreLegible, IsLegiblePlace, HasUtf8}
use Rattle.pr_yaml.specs.Plain.{stops, plain_len, plain_part, plain_ending, ending_of, goes_on, indented, after_part, by_ending, plain_below}
use Rattle.pr_yaml.specs.Quoted.{quote_byte, is_backslash, named_byte, digits_after, hex_digit, letter_step, number_step, digit_step, doubles, byte_step, on_step, after_bytes, quoted_line, quoted_break, cut_fault, by_line, quoted_below}
use Rattle.pr_yaml.specs.Block.{belongs, row_of, row_break, begins_with_blank, earlier_of, chomped, last_feeds, by_row, block_lines}
use Rattle.pr_yaml.specs.declared.yaml_scan.scalar.Scalar.{Scalar}
use Rattle.pr_yaml.specs.declared.yaml_scan.scalar.Scalar.TheVariants.{Found, Broken}
use Rattle.pr_yaml.specs.declared.yaml_scan.plain.Ending.{Ending}
use Rattle.pr_yaml.specs.declared.yaml_scan.plain.Ending.TheVariants.{LineEnd, AtColon, AtNoText, AtOther}
use Rattle.pr_yaml.specs.declared.yaml_scan.quoted.Quote.{Quote}
use Rattle.pr_yaml.specs.declared.yaml_scan.quoted.Quote.TheVariants.{Single, Double}
use Rattle.pr_yaml.specs.declared.yaml_scan.quoted.Within.{Within}
use Rattle.pr_yaml.specs.declared.yaml_scan.quoted.Within.TheVariants.{InText, AtQuote, InEscape, InDigits}
use Rattle.pr_yaml.specs.declared.yaml_scan.quoted.ByteStep.{ByteStep}
use Rattle.pr_yaml.specs.declared.yaml_scan.quoted.ByteStep.TheVariants.{Byte, Character, Mark, LineOver, QuoteOver, Bad}
use Rattle.pr_yaml.specs.declared.yaml_scan.quoted.QuotedLine.{QuotedLine}
use Rattle.pr_yaml.specs.declared.yaml_scan.quoted.QuotedLine.TheVariants.{Closed, OpenEnd, JoinedEnd, CutEnd, BadByte}
use Rattle.pr_yaml.specs.declared.yaml_scan.block.Style.{Style}
use Rattle.pr_yaml.specs.declared.yaml_scan.block.Style.TheVariants.{Kept, Folded}
use Rattle.pr_yaml.specs.declared.yaml_scan.block.Chomp.{Chomp}
use Rattle.pr_yaml.specs.declared.yaml_scan.block.Chomp.TheVariants.{Clip, Strip, All}
use Rattle.pr_yaml.specs.declared.yaml_scan.block.Earlier.{Earlier}
use Rattle.pr_yaml.specs.declared.yaml_scan.block.Earlier.TheVariants.{Nothing, Blank, Text}
use Rattle.pr_yaml.specs.declared.yaml_scan.fault.YamlKind.TheVariants.{NotText, Escape}
use Rattle.pr_yaml.proofs.BlockLines.{is_zero}
use Rattle.pr_yaml.proofs.Shorter.{one_more}
use Rattle.pr_yaml.proofs.QuotedLines.{able_scalar}
use Rattle.pr_yaml.proofs.LegibleLines.{clean_byte, before, onward, blanks_legible, bare_front, blank_small, cut_after}

-- A scalar that is found has a text that is UTF-8, and so is what stands after it.
abbrev pub IsSound : Scalar → Type 0
IsSound (Found text after) = IsUtf8 text × IsLegiblePlace after
IsSound (Broken line kind) = Unit {0}

pub sound_text : (s : Scalar) → IsSound s → HasUtf8 s
sound_text (Found text after) h = h.0
sound_text (Broken line kind) h = tt

one_of : (b : Bool) (x y : Scalar) → (b ≡ true → IsSound x) → (b ≡ false → IsSound y) → IsSound (if b then x else y)
one_of true x y h k = h refl
one_of false x y h k = k refl

pub start_legible : (line : ℕ) (lines : List (List ℕ)) → AreLegible lines → IsLegiblePlace (line_start line lines)
start_legible line [] h = record { here = IsUtf8-nil; below = tt }
start_legible line (l ∷ more) h = record { here = h.0; below = h.1 }

-- line feeds, and what folds make of breaks
feeds_text : (k : ℕ) → IsUtf8 (feeds k)
feeds_text zero = IsUtf8-nil
feeds_text (suc k) = IsUtf8-append (10 ∷ []) (feeds k) (byte_text 10 (lit< tt)) (feeds_text k)

break_text : (k : ℕ) → IsUtf8 (folded_break k)
unfolding folded_break
break_text k = by_test (k == 0) where
  by_test : (b : Bool) → IsUtf8 (if b then 32 ∷ [] else feeds k)
  by_test true = byte_text 32 (lit< tt)
  by_test false = feeds_text k

quoted_break_text : (joined : Bool) (k : ℕ) → IsUtf8 (quoted_break joined k)
unfolding quoted_break
quoted_break_text true k = feeds_text k
quoted_break_text false k = break_text k

-- Quoted texts, byte by byte: `t` is the text so far, and a mark after it was dropped.
abbrev pub Pending : Within → List ℕ → List ℕ → Type 0
Pending InText t l = IsUtf8 (t ++ legible_part l)
Pending _ t l = IsUtf8 t × IsLegible l

pending : (w : Within) (t l : List ℕ) → IsUtf8 t → IsLegible l → Pending w t l
pending InText t l u v = IsUtf8-append t (legible_part l) u v
pending AtQuote t l u v = (u, v)
pending InEscape t l u v = (u, v)
pending (InDigits left n) t l u v = (u, v)

abbrev Advances : List ℕ → ℕ → List ℕ → ByteStep → Type 0
Advances t b rest (Byte c) = IsUtf8 ((t ++ c ∷ []) ++ legible_part rest)
Advances t b rest (Character n) = IsUtf8 ((t ++ encode_utf8 n) ++ legible_part rest)
Advances t b rest (Mark w) = Pending w t rest
Advances t b rest LineOver = IsUtf8 t
Advances t b rest QuoteOver = IsUtf8 t × IsLegible (b ∷ rest)
Advances t b rest (Bad kind) = Unit {0}

step_of : (t : List ℕ) (b : ℕ) (rest : List ℕ) (x : Bool) (r s : ByteStep) → (x ≡ true → Advances t b rest r) → (x ≡ false → Advances t b rest s) → Advances t b rest (if x then r else s)
step_of t b rest true r s h k = h refl
step_of t b rest false r s h k = k refl

-- bytes that stand for something else are ASCII
quote_small : (q : Quote) (b : ℕ) → (b == quote_byte q) ≡ true → b < 128
unfolding quote_byte
quote_small Single b e = grind (arith, nat_tests)
quote_small Double b e = grind (arith, nat_tests)

backslash_small : (q : Quote) (b : ℕ) → is_backslash q b ≡ true → b < 128
unfolding is_backslash
backslash_small Single b e = absurd cc
backslash_small Double b e = grind (arith, nat_tests)

doubles_small : (q : Quote) (b : ℕ) → doubles q b ≡ true → b < 128
doubles_small Single b e = grind (arith, nat_tests)
doubles_small Double b e = absurd cc

abbrev IsSmall : ℕ → Option ℕ → Type 0
IsSmall b None = Unit {0}
IsSmall b (Some c) = (b < 128) × (c < 128)

named_of : (b : ℕ) (x : Bool) (o p : Option ℕ) → (x ≡ true → IsSmall b o) → IsSmall b p → IsSmall b (if x then o else p)
named_of b true o p h k = h refl
named_of b false o p h k = k

equal_small : (b c : ℕ) → c < 128 → (b == c) ≡ true → b < 128
equal_small b c h e = grind (arith, nat_tests)

named_small : (b : ℕ) → IsSmall b (named_byte b)
unfolding named_byte
named_small b =
    named_of b (b == 92 || (b == 34 || b == 47)) (Some b) _ (λ e. let s : b < 128 = grind (arith, nat_tests) in (s, s)) (
    named_of b (b == 97) (Some 7) _ (λ e. (equal_small b 97 (lit< tt) e, lit< tt)) (
    named_of b (b == 98) (Some 8) _ (λ e. (equal_small b 98 (lit< tt) e, lit< tt)) (
    named_of b (b == 101) (Some 27) _ (λ e. (equal_small b 101 (lit< tt) e, lit< tt)) (
    named_of b (b == 102) (Some 12) _ (λ e. (equal_small b 102 (lit< tt) e, lit< tt)) (
    named_of b (b == 110) (Some 10) _ (λ e. (equal_small b 110 (lit< tt) e, lit< tt)) (
    named_of b (b == 114) (Some 13) _ (λ e. (equal_small b 114 (lit< tt) e, lit< tt)) (
    named_of b (b == 116) (Some 9) _ (λ e. (equal_small b 116 (lit< tt) e, lit< tt)) (
    named_of b (b == 118) (Some 11) _ (λ e. (equal_small b 118 (lit< tt) e, lit< tt)) (
    named_of b (b == 48) (Some 0) None (λ e. (equal_small b 48 (lit< tt) e, lit< tt)) tt)))))))))

digits_small : (b n : ℕ) → digits_after b ≡ Some n → b < 128
unfolding digits_after
digits_small b n e = chain (b == 120) (b == 117) (b == 85) 2 4 8 (λ h. equal_small b 120 (lit< tt) h) (λ h. equal_small b 117 (lit< tt) h) (λ h. equal_small b 85 (lit< tt) h) e where
  chain : (x y z : Bool) (p q r : ℕ) → (x ≡ true → b < 128) → (y ≡ true → b < 128) → (z ≡ true → b < 128) → (if x then Some p else (if y then Some q else (if z then Some r else None))) ≡ Some n → b < 128
  chain true y z p q r f g h e = f refl
  chain false true z p q r f g h e = g refl
  chain false false true p q r f g h e = h refl
  chain false false false p q r f g h e = absurd cc

digit_small : (b d : ℕ) → hex_digit b ≡ Some d → b < 128
unfolding hex_digit
digit_small b d e = grind (arith, nat_tests)

scalar_of : (n : ℕ) → InScalarRange n → IsScalar n
scalar_of n h = grind (arith, nat_tests)

-- what one byte does
module _ (t rest : List ℕ) (b : ℕ) where
  kept : IsUtf8 t → b < 128 → IsLegible rest → IsUtf8 ((t ++ b ∷ []) ++ legible_part rest)
  kept u h v = IsUtf8-append (t ++ b ∷ []) (legible_part rest) (IsUtf8-append t (b ∷ []) u (byte_text b h)) v

  text_advances : (q : Quote) → IsUtf8 (t ++ legible_part (b ∷ rest)) → Advances t b rest (byte_step q InText (is_bare (b ∷ rest)) b)
  unfolding byte_step
  text_advances q u =
      let marked = if is_backslash q b then Mark InEscape else (if no_text b then Bad NotText else Byte b) in
      let clean = if no_text b then Bad NotText else Byte b in
      step_of t b rest (is_bare (b ∷ rest)) LineOver (if b == quote_byte q then Mark AtQuote else marked) (λ e. bare_front t (b ∷ rest) e u) (λ _.
      step_of t b rest (b == quote_byte q) (Mark AtQuote) marked (λ e. (before t rest b (quote_small q b e) u, onward t rest b (quote_small q b e) u)) (λ _.
      step_of t b rest (is_backslash q b) (Mark InEscape) clean (λ e. (before t rest b (backslash_small q b e) u, onward t rest b (backslash_small q b e) u)) (λ _.
      step_of t b rest (no_text b) (Bad NotText) (Byte b) (λ _. tt) (λ e. subst IsUtf8 (sym (append_assoc t (b ∷ []) (legible_part rest))) (subst (λ l. IsUtf8 (t ++ l)) (clean_byte b rest e) u)))))

  letter_advances : (named digits : Option ℕ) → named_byte b ≡ named → digits_after b ≡ digits → IsUtf8 t → IsLegible (b ∷ rest) → Advances t b rest (letter_step b named digits)
  letter_advances (Some c) digits e f u v =
      let small = subst (λ o. IsSmall b o) e (named_small b) in
      IsUtf8-append (t ++ c ∷ []) (legible_part rest) (IsUtf8-append t (c ∷ []) u (byte_text c small.1)) (onward [] rest b small.0 v)
  letter_advances None (Some n) e f u v = (u, onward [] rest b (digits_small b n f) v)
  letter_advances None None e f u v = tt

  digit_advances : (digit : Option ℕ) (left n : ℕ) → hex_digit b ≡ digit → IsUtf8 t → IsLegible (b ∷ rest) → Advances t b rest (digit_step b digit left n)
  unfolding number_step
  digit_advances None left n e u v = tt
  digit_advances (Some d) left n e u v =
      let further = onward [] rest b (digit_small b d e) v in
      let m = n * 16 + d in
      by_left (left - 1) m (fits 0x10FFFF (left - 1) m) refl further where
        by_left : (k m : ℕ) (x : Bool) → fits 0x10FFFF k m ≡ x → IsLegible rest → Advances t b rest (if x then (if k == 0 then Character m else Mark (InDigits k m)) else Bad Escape)
        by_left k m false f w = tt
        by_left k m true f w = step_of t b rest (k == 0) (Character m) (Mark (InDigits k m))
            (λ z. IsUtf8-append (t ++ encode_utf8 m) (legible_part rest) (IsUtf8-append t (encode_utf8 m) u (IsUtf8-encode m (scalar_of m (able_scalar m (subst (λ n. fits 0x10FFFF n m ≡ true) (is_zero k z) f))))) w)
            (λ _. (u, w))

  step_advances : (q : Quote) (w : Within) → Pending w t (b ∷ rest) → Advances t b rest (byte_step q w (is_bare (b ∷ rest)) b)
  unfolding byte_step
  step_advances q InText u = text_advances q u
  step_advances q AtQuote u = step_of t b rest (doubles q b) (Byte b) QuoteOver (λ e. kept u.0 (doubles_small q b e) (onward [] rest b (doubles_small q b e) u.1)) (λ _. u)
  step_advances q InEscape u = letter_advances (named_byte b) (digits_after b) refl refl u.0 u.1
  step_advances q (InDigits left n) u = digit_advances (hex_digit b) left n refl u.0 u.1

-- what a line has
abbrev pub IsSoundLine : List ℕ → List ℕ → QuotedLine → Type 0
IsSoundLine t l (Closed text taken) = IsUtf8 (t ++ text) × IsLegible (drop taken l)
IsSoundLine t l (OpenEnd text) = IsUtf8 (t ++ text)
IsSoundLine t l (JoinedEnd text) = IsUtf8 (t ++ text)
IsSoundLine t l CutEnd = Unit {0}
IsSoundLine t l (BadByte kind) = Unit {0}

pub with_byte : (t bytes : List ℕ) (b : ℕ) (rest : List ℕ) (r : QuotedLine) → IsSoundLine (t ++ bytes) rest r → IsSoundLine t (b ∷ rest) (after_bytes bytes 1 r)
with_byte t bytes b rest (Closed text taken) h = (subst IsUtf8 (append_assoc t bytes text) h.0, subst IsLegible (sym (one_more taken b rest)) h.1)
with_byte t bytes b rest (OpenEnd text) h = subst IsUtf8 (append_assoc t bytes text) h
with_byte t bytes b rest (JoinedEnd text) h = subst IsUtf8 (append_assoc t bytes text) h
with_byte t bytes b rest CutEnd h = tt
with_byte t bytes b rest (BadByte kind) h = tt

pub line_sound : (q : Quote) (w : Within) (t l : List ℕ) → Pending w t l → IsSoundLine t l (quoted_line q w l)
unfolding quoted_line
line_sound q InText t [] u = u
line_sound q AtQuote t [] u = (subst IsUtf8 (sym (append-nil t)) u.0, IsUtf8-nil)
line_sound q InEscape t [] u = subst IsUtf8 (sym (append-nil t)) u.0
line_sound q (InDigits left n) t [] u = tt
line_sound q w t (b ∷ rest) u = by_step (byte_step q w (is_bare (b ∷ rest)) b) (step_advances t rest b q w u) (λ v s h. line_sound q v s rest h) where
  by_step : (x : ByteStep) → Advances t b rest x → ((v : Within) (s : List ℕ) → Pending v s rest → IsSoundLine s rest (quoted_line q v rest)) → IsSoundLine t (b ∷ rest) (on_step x (λ v. quoted_line q v rest))
  by_step (Byte c) h again = with_byte t (c ∷ []) b rest (quoted_line q InText rest) (again InText (t ++ c ∷ []) h)
  by_step (Character n) h again = with_byte t (encode_utf8 n) b rest (quoted_line q InText rest) (again InText (t ++ encode_utf8 n) h)
  by_step (Mark v) h again = with_byte t [] b rest (quoted_line q v rest) (subst (λ s. IsSoundLine s rest (quoted_line q v rest)) (sym (append-nil t)) (again v t h))
  by_step LineOver h again = subst IsUtf8 (sym (append-nil t)) h
  by_step QuoteOver h again = (subst IsUtf8 (sym (append-nil t)) h.0, h.1)
  by_step (Bad kind) h again = tt

-- after `text`, with so many bytes of the line before it
quoted_on : (q : Quote) (text l : List ℕ) → IsUtf8 text → IsLegible l → IsSoundLine text l (quoted_line q InText l)
quoted_on q text l u v = line_sound q InText text l (IsUtf8-append text (legible_part l) u v)

by_line_sound : (text : List ℕ) (n : ℕ) (r : QuotedLine) (final line : ℕ) (l : List ℕ) (more : List (List ℕ)) (again : List ℕ → Bool → Scalar) → AreLegible more → IsSoundLine text (drop n l) r →
    ((s : List ℕ) (j : Bool) → IsUtf8 s → IsSound (again s j)) → IsSound (by_line (after_bytes text n r) final line l more again)
unfolding cut_fault
by_line_sound text n (Closed t taken) final line l more again b h further = (h.0, record { here = subst IsLegible (drop-drop taken n l) h.1; below = b })
by_line_sound text n (OpenEnd t) final line l more again b h further = further (text ++ t) false h
by_line_sound text n (JoinedEnd t) final line l more again b h further = further (text ++ t) true h
by_line_sound text n CutEnd final line l [] again b h further = tt
by_line_sound text n CutEnd final line l (m ∷ more) again b h further = tt
by_line_sound text n (BadByte kind) final line l more again b h further = tt

pub quoted_sound : (q : Quote) (text : List ℕ) (joined : Bool) (k final line : ℕ) (lines : List (List ℕ)) → IsUtf8 text → AreLegible lines → IsSound (quoted_below q text joined k final line lines)
unfolding quoted_below
quoted_sound q text joined k final line [] u h = tt
quoted_sound q text joined k final line (l ∷ more) u h =
    let t = text ++ quoted_break joined k in
    let r = quoted_line q InText (drop (blanks_len l) l) in
    one_of (is_bare l) (quoted_below q text joined (k + 1) final (line + 1) more) (by_line (after_bytes t (blanks_len l) r) final line l more (λ s j. quoted_below q s j 0 final (line + 1) more))
    (λ _. quoted_sound q text joined (k + 1) final (line + 1) more u h.1)
    (λ _. by_line_sound t (blanks_len l) r final line l more (λ s j. quoted_below q s j 0 final (line + 1) more) h.1
    (quoted_on q t (drop (blanks_len l) l) (IsUtf8-append text (quoted_break joined k) u (quoted_break_text joined k)) (blanks_legible l h.0))
    (λ s j v. quoted_sound q s j 0 final (line + 1) more v h.1))

-- Plain texts: they end before a byte that is no text, or an ASCII byte.
stop_small : (inside after : Bool) (b : ℕ) (rest : List ℕ) → stops inside after b rest ≡ true → no_text b ≡ false → b < 128
unfolding stops is_flow_sign
stop_small inside after b rest e n = by_order (cases_lt b 128) where
  low : (x y : Bool) → (false && x || (false && y || (inside && false))) ≡ false
  low x y = by_inside inside where
    by_inside : (z : Bool) → (z && false) ≡ false
    by_inside true = refl
    by_inside false = refl

  by_order : (b < 128) ⊎ (128 ≤ b) → b < 128
  by_order (inl lt) = lt
  by_order (inr ge) =
      let hash : (b == 35) ≡ false = grind (arith, nat_tests) in
      let colon : (b == 58) ≡ false = grind (arith, nat_tests) in
      let sign : (b == 44 || (b == 91 || (b == 93 || (b == 123 || b == 125)))) ≡ false = grind (arith, nat_tests) in
      let none : (no_text b || ((b == 35) && after || ((b == 58) && ends_word rest || (inside && (b == 44 || (b == 91 || (b == 93 || (b == 123 || b == 125)))))))) ≡ false = rw (n, hash, colon, sign) (low after (ends_word rest)) in
      absurd cc

not_stopped : (inside after : Bool) (b : ℕ) (rest : List ℕ) → stops inside after b rest ≡ false → no_text b ≡ false
unfolding stops
not_stopped inside after b rest e = first (no_text b) ((b == 35) && after || ((b == 58) && ends_word rest || (inside && is_flow_sign b))) e where
  first : (x y : Bool) → (x || y) ≡ false → x ≡ false
  first true y h = cc
  first false y h = refl

take_one_more : (n x : ℕ) (xs : List ℕ) → take (1 + n) (x ∷ xs) ≡ x ∷ take n xs
take_one_more n x xs = let e : 1 + n ≡ suc n = omega arith in rw e refl

plain_front : (inside after : Bool) (t l : List ℕ) → IsUtf8 (t ++ legible_part l) → IsUtf8 (t ++ take (plain_len inside after l) l)
unfolding plain_len
plain_front inside after t [] u = u
plain_front inside after t (b ∷ rest) u = by_test (stops inside after b rest) refl (λ v. plain_front inside (is_blank b) (t ++ b ∷ []) rest v) where
  n : ℕ
  n = plain_len inside (is_blank b) rest

  over : (x : Bool) → no_text b ≡ x → stops inside after b rest ≡ true → IsUtf8 t
  over true e s = subst IsUtf8 (append-nil t) (subst (λ y. IsUtf8 (t ++ (if y then [] else b ∷ legible_part rest))) e u)
  over false e s = before t rest b (stop_small inside after b rest s e) u

  by_test : (x : Bool) → stops inside after b rest ≡ x → (IsUtf8 ((t ++ b ∷ []) ++ legible_part rest) → IsUtf8 ((t ++ b ∷ []) ++ take n rest)) → IsUtf8 (t ++ take (if x then 0 else 1 + n) (b ∷ rest))
  by_test true s again = subst IsUtf8 (sym (append-nil t)) (over (no_text b) refl s)
  by_test false s again =
      let clean = subst (λ l. IsUtf8 (t ++ l)) (clean_byte b rest (not_stopped inside after b rest s)) u in
      subst (λ l. IsUtf8 (t ++ l)) (sym (take_one_more n b rest)) (subst IsUtf8 (append_assoc t (b ∷ []) (take n rest)) (again (subst IsUtf8 (sym (append_assoc t (b ∷ []) (legible_part rest))) clean)))

plain_len_legible : (inside after : Bool) (l : List ℕ) → plain_len inside after l ≤ length (legible_part l)
unfolding plain_len
plain_len_legible inside after [] = omega arith
plain_len_legible inside after (b ∷ rest) = by_test (stops inside after b rest) refl (plain_len_legible inside (is_blank b) rest) where
  n : ℕ
  n = plain_len inside (is_blank b) rest

  by_test : (x : Bool) → stops inside after b rest ≡ x → n ≤ length (legible_part rest) → (if x then 0 else 1 + n) ≤ length (legible_part (b ∷ rest))
  by_test true s h = omega arith
  by_test false s h = rw (clean_byte b rest (not_stopped inside after b rest s)) (omega (arith, h))

-- without the blanks at its end, which stand first where it is turned round
back_text : (back : List ℕ) → IsUtf8 (reverse back) → IsUtf8 (take (length back - position_or_len is_field_byte back) (reverse back))
back_text [] u = u
back_text (b ∷ back) u = by_test (is_blank b) refl (λ v. back_text back v) where
  n : ℕ
  n = position_or_len is_field_byte back

  turned : reverse (b ∷ back) ≡ reverse back ++ b ∷ []
  turned = reverse-append (b ∷ []) back

  by_test : (x : Bool) → is_blank b ≡ x → (IsUtf8 (reverse back) → IsUtf8 (take (length back - n) (reverse back))) → IsUtf8 (take (suc (length back) - cond (not (not x)) (1 + n) 0) (reverse (b ∷ back)))
  by_test true e again =
      let less : suc (length back) - (1 + n) ≡ length back - n = omega arith in
      let within : length back - n ≤ length (reverse back) = omega (arith, length-reverse back) in
      rw (less, turned, take-append-le (length back - n) (reverse back) (b ∷ []) within) (again (before_byte (reverse back) [] b (blank_small b e) (subst IsUtf8 turned u)))
  by_test false e again =
      let all : length (reverse (b ∷ back)) ≤ suc (length back) - 0 = omega (arith, length-reverse (b ∷ back)) in
      subst IsUtf8 (sym (take_all (suc (length back) - 0) (reverse (b ∷ back)) all)) u

trailing_text : (l : List ℕ) → IsUtf8 l → IsUtf8 (without_trailing l)
trailing_text l u =
    let n = position_or_len is_field_byte (reverse l) in
    let h = back_text (reverse l) (subst IsUtf8 (sym (reverse-reverse l)) u) in
    subst (λ k. IsUtf8 (take (k - n) l)) (length-reverse l) (subst (λ m. IsUtf8 (take (length (reverse l) - n) m)) (reverse-reverse l) h)

module _ (inside : Bool) (here : List ℕ) (u : IsLegible here) where
  whole : IsUtf8 (take (plain_len inside false here) here)
  whole = plain_front inside false [] here u

  pub part_text : IsUtf8 (plain_part inside here)
  unfolding plain_part
  part_text = trailing_text (take (plain_len inside false here) here) whole

  -- what follows it is legible
  pub after_part_legible : IsLegible (drop (length (plain_part inside here)) here)
  unfolding plain_part
  after_part_legible =
      let n = plain_len inside false here in
      let all = take n here in
      let k = length all - position_or_len is_field_byte (reverse all) in
      let within = plain_len_legible inside false here in
      let size = length-take k all in
      let most = length-take n here in
      let same : take k all ≡ take k here = take-take k n here (omega (arith, most)) in
      let front : IsUtf8 (take k here) = subst IsUtf8 same (trailing_text all whole) in
      subst (λ m. IsLegible (drop m here)) (omega (arith, size)) (cut_after k here (omega (arith, within, most)) u front)

  pub colon_legible : plain_ending inside here ≡ AtColon → IsLegible (drop (plain_len inside false here + 1) here)
  unfolding plain_ending
  colon_legible e =
      let n = plain_len inside false here in
      subst IsLegible (drop-drop 1 n here) (past (drop n here) e (cut_after n here (plain_len_legible inside false here) u whole)) where
        past : (rest : List ℕ) → ending_of rest ≡ AtColon → IsLegible rest → IsLegible (drop 1 rest)
        past [] e v = v
        past (b ∷ rest) e v = onward [] rest b (small b e) v where
          small : (b : ℕ) → (if no_text b then AtNoText else (if b == 58 then AtColon else AtOther)) ≡ AtColon → b < 128
          small b e = by_test (no_text b) (b == 58) refl e where
            by_test : (x y : Bool) → (b == 58) ≡ y → (if x then AtNoText else (if y then AtColon else AtOther)) ≡ AtColon → b < 128
            by_test true y f g = absurd cc
            by_test false true f g = equal_small b 58 (lit< tt) f
            by_test false false f g = absurd cc

after_part_sound : (inside : Bool) (line : ℕ) (l : List ℕ) (more : List (List ℕ)) → IsLegible l → AreLegible more → IsLegiblePlace (after_part inside line l more)
after_part_sound inside line l more u h = record {
  here = subst IsLegible (drop-drop (length (plain_part inside (indented l))) (blanks_len l) l) (after_part_legible inside (indented l) (blanks_legible l u));
  below = h;
}

by_ending_sound : (e : Ending) (more : Scalar) (line : ℕ) (text : List ℕ) (end : Cursor) → IsSound more → IsUtf8 text → IsLegiblePlace end → IsSound (by_ending e more line text end)
by_ending_sound LineEnd more line text end h u v = h
by_ending_sound AtColon more line text end h u v = tt
by_ending_sound AtNoText more line text end h u v = tt
by_ending_sound AtOther more line text end h u v = (u, v)

pub plain_sound : (inside : Bool) (parent : Option ℕ) (text : List ℕ) (end : Cursor) (k line : ℕ) (lines : List (List ℕ)) → IsUtf8 text → IsLegiblePlace end → AreLegible lines → IsSound (plain_below inside parent text end k line lines)
unfolding plain_below
plain_sound inside parent text end k line [] u p h = (u, p)
plain_sound inside parent text end k line (l ∷ more) u p h =
    let more_text = text ++ (folded_break k ++ plain_part inside (indented l)) in
    let after = after_part inside line l more in
    let further = plain_below inside parent more_text after 0 (line + 1) more in
    let next = by_ending (plain_ending inside (indented l)) further line more_text after in
    let v = IsUtf8-append text (folded_break k ++ plain_part inside (indented l)) u (IsUtf8-append (folded_break k) (plain_part inside (indented l)) (break_text k) (part_text inside (indented l) (blanks_legible l h.0))) in
    let q = after_part_sound inside line l more h.0 h.1 in
    one_of (is_bare l) (plain_below inside parent text end (k + 1) (line + 1) more) (if goes_on inside parent l then next else Found text end)
    (λ _. plain_sound inside parent text end (k + 1) (line + 1) more u p h.1)
    (λ _. one_of (goes_on inside parent l) next (Found text end) (λ _. by_ending_sound (plain_ending inside (indented l)) further line more_text after (plain_sound inside parent more_text after 0 (line + 1) more v q h.1) v q) (λ _. (u, p)))

-- Block scalars: a row has no byte that is no text, and only spaces stand before it.
clean_line : (l : List ℕ) → has_no_text l ≡ false → legible_part l ≡ l
unfolding has_no_text
clean_line [] e = refl
clean_line (b ∷ l) e = by_test (no_text b) refl e (λ h. clean_line l h) where
  by_test : (x : Bool) → no_text b ≡ x → (x || has_no_text l) ≡ false → (has_no_text l ≡ false → legible_part l ≡ l) → (if x then [] else b ∷ legible_part l) ≡ b ∷ l
  by_test true f g again = cc
  by_test false f g again = ap (λ m. b ∷ m) (again g)

spaces_legible : (n : ℕ) (l : List ℕ) → n ≤ spaces_len l → IsLegible l → IsLegible (drop n l)
unfolding spaces_len
spaces_legible zero l h u = u
spaces_legible (suc n) [] h u = u
spaces_legible (suc n) (b ∷ l) h u = by_test (b == 32) refl h (λ g v. spaces_legible n l g v) where
  by_test : (x : Bool) → (b == 32) ≡ x → suc n ≤ cond x (1 + prefix_len is_space l) 0 → (n ≤ prefix_len is_space l → IsLegible l → IsLegible (drop n l)) → IsLegible (drop n l)
  by_test true e g again = again (omega (arith, g)) (onward [] l b (equal_small b 32 (lit< tt) e) u)
  by_test false e g again = absurd (omega (arith, g))

has_no_text_later : (n : ℕ) (l : List ℕ) → has_no_text l ≡ false → has_no_text (drop n l) ≡ false
unfolding has_no_text
has_no_text_later zero l e = e
has_no_text_later (suc n) [] e = e
has_no_text_later (suc n) (b ∷ l) e = has_no_text_later n l (second (no_text b) (has_no_text l) e) where
  second : (x y : Bool) → (x || y) ≡ false → y ≡ false
  second true y h = cc
  second false y h = h

row_text : (indent : Option ℕ) (l : List ℕ) → has_no_text l ≡ false → IsLegible l → IsUtf8 (row_of indent l)
unfolding row_of
row_text None l e u = IsUtf8-nil
row_text (Some indent) l e u =
    let n = min indent (spaces_len l) in
    subst IsUtf8 (clean_line (drop n l) (has_no_text_later n l e)) (spaces_legible n l (omega arith) u)

row_break_text : (style : Style) (earlier : Earlier) (k : ℕ) (blank : Bool) → IsUtf8 (row_break style earlier k blank)
unfolding row_break
row_break_text style Nothing k blank = feeds_text k
row_break_text Kept Blank k blank = feeds_text (k + 1)
row_break_text Kept Text k blank = feeds_text (k + 1)
row_break_text Folded Blank k blank = feeds_text (k + 1)
row_break_text Folded Text k true = feeds_text (k + 1)
row_break_text Folded Text k false = break_text k

chomped_text : (chomp : Chomp) (earlier : Earlier) (n : ℕ) → IsUtf8 (chomped chomp earlier n)
unfolding chomped
chomped_text Strip earlier n = IsUtf8-nil
chomped_text All earlier n = feeds_text n
chomped_text Clip Nothing n = IsUtf8-nil
chomped_text Clip Blank n = feeds_text (min n 1)
chomped_text Clip Text n = feeds_text (min n 1)

by_row_sound : (row : List ℕ) (x y : Scalar) → IsSound x → IsSound y → IsSound (by_row row x y)
by_row_sound [] x y h k = h
by_row_sound (b ∷ row) x y h k = k

pub block_sound : (style : Style) (chomp : Chomp) (inside : Bool) (indent : Option ℕ) (text : List ℕ) (earlier : Earlier) (k line : ℕ) (lines : List (List ℕ)) → IsUtf8 text → AreLegible lines →
    IsSound (block_lines style chomp inside indent text earlier k line lines)
unfolding block_lines
block_sound style chomp inside indent text earlier k line [] u h = (IsUtf8-append text (chomped chomp earlier (last_feeds earlier k - 1)) u (chomped_text chomp earlier (last_feeds earlier k - 1)), start_legible line [] tt)
block_sound style chomp inside indent text earlier k line (l ∷ more) u h =
    let row = row_of indent l in
    let broken = row_break style earlier k (begins_with_blank row) in
    let empty = block_lines style chomp inside indent text earlier (k + 1) (line + 1) more in
    let full = block_lines style chomp inside indent (text ++ (broken ++ row)) (earlier_of row) 0 (line + 1) more in
    let here = if has_no_text l then Broken line NotText else by_row row empty full in
    let last = Found (text ++ chomped chomp earlier (last_feeds earlier k)) (line_start line (l ∷ more)) in
    one_of (belongs inside indent l) here last
    (λ _. one_of (has_no_text l) (Broken line NotText) (by_row row empty full) (λ _. tt) (λ e. by_row_sound row empty full (block_sound style chomp inside indent text earlier (k + 1) (line + 1) more u h.1)
    (block_sound style chomp inside indent (text ++ (broken ++ row)) (earlier_of row) 0 (line + 1) more
    (IsUtf8-append text (broken ++ row) u (IsUtf8-append broken row (row_break_text style earlier k (begins_with_blank row)) (row_text indent l e h.0))) h.1)))
    (λ _. (IsUtf8-append text (chomped chomp earlier (last_feeds earlier k)) u (chomped_text chomp earlier (last_feeds earlier k)), start_legible line (l ∷ more) h))
