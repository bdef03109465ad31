-- A quoted text, one byte further.
use Rattle.std.proofs.Common.{◌≡◌, ℕ, suc, zero, ◌+◌, ◌<◌, ◌≤◌, ◌*◌, ◌^◌, ◌-◌, cond, not, Bool, true, false, nat_le, ◌&&◌, List, [], ◌∷◌, ◌++◌, length, drop, get_or, refl, sym, ap, ◌∙◌, arith, append_assoc, add_assoc, add-zero, length-drop, subst, take}
use Rattle.std.specs.Prelude.{encode_utf8}
use Rattle.std.specs.List.{list_all, prefix_len}
use Rattle.std.proofs.Math.Nat.{one-le-pow, mul-le-mul_left}
use Rattle.pr_words.specs.Strings.{fits}
use Rattle.std.specs.Char.{InScalarRange}
use Rattle.std.proofs.lemmas.List.{at_drop_more, append-nil, drop_more, drop-drop}
use Rattle.std.proofs.lemmas.Bool.Decides.{nat_tests}
use Rattle.pr_words.specs.Bytes.{is_blank}
use Rattle.pr_yaml.specs.Bytes.{is_bare, blanks_len}
use Rattle.pr_yaml.specs.private.Spots.{IsBelow}
use Rattle.pr_yaml.specs.Lines.{Cursor, along, end_line}
use Rattle.pr_yaml.proofs.Lines.{from_place}
use Rattle.pr_yaml.specs.declared.yaml_scan.scalar.Scalar.TheVariants.{Broken}
use Rattle.pr_yaml.specs.declared.yaml_scan.fault.YamlKind.{YamlKind}
use Rattle.pr_yaml.specs.declared.yaml_scan.fault.YamlKind.TheVariants.{Quote as OpenQuote}
use Rattle.pr_yaml.specs.Quoted.{quoted_line, after_bytes, byte_step, on_step, at_line_end, quoted_below, quoted_break, by_line}
use Rattle.pr_yaml.specs.declared.yaml_scan.quoted.Quote.{Quote}
use Rattle.pr_yaml.specs.declared.yaml_scan.quoted.QuotedLine.{QuotedLine}
use Rattle.pr_yaml.specs.declared.yaml_scan.quoted.QuotedLine.TheVariants.{Closed, OpenEnd, JoinedEnd, CutEnd, BadByte}
use Rattle.pr_yaml.specs.declared.yaml_scan.quoted.ByteStep.{ByteStep}
use Rattle.pr_yaml.specs.declared.yaml_scan.quoted.ByteStep.TheVariants.{Byte, Character, Mark, LineOver, QuoteOver, Bad}
use Rattle.pr_yaml.specs.declared.yaml_scan.quoted.Within.{Within}
use Rattle.pr_yaml.specs.declared.yaml_scan.quoted.Within.TheVariants.{InText}
use Rattle.pr_yaml.proofs.Shorter.{one_more}

-- what can become the number of a character is at most the last one
below : (a b : ℕ) → nat_le a b ≡ true → a ≤ b
below a b h = grind (arith, nat_tests)

pub first_true : (a b : Bool) → (a && b) ≡ true → a ≡ true
first_true true b h = refl
first_true false b h = cc

pub second_true : (a b : Bool) → (a && b) ≡ true → b ≡ true
second_true true b h = h
second_true false b h = cc

pub able_small : (left n : ℕ) → fits 0x10FFFF left n ≡ true → n ≤ 0x10FFFF
able_small left n h =
    let one : n * 1 ≤ n * 16 ^ left = mul-le-mul_left n (one-le-pow left 16 (omega arith)) in
    let two : n * 16 ^ left ≤ 0x10FFFF = below (n * 16 ^ left) 0x10FFFF (first_true (nat_le (n * 16 ^ left) 0x10FFFF) _ h) in
    omega (arith, one, two)

no_surrogate : (m : ℕ) → not (nat_le 0xD800 m && nat_le (m + 1) 0xE000) ≡ true → m ≤ 0x10FFFF → InScalarRange m
no_surrogate m h k = grind (arith, nat_tests)

-- with no digit more it is that of a character itself
pub able_scalar : (n : ℕ) → fits 0x10FFFF 0 n ≡ true → InScalarRange n
able_scalar n f =
    let is : n * 16 ^ 0 ≡ n = omega arith in
    let s : not (nat_le 0xD800 n && nat_le (n + 1) 0xE000) ≡ true = subst (λ m. not (nat_le 0xD800 m && nat_le (m + 1) 0xE000) ≡ true) is (second_true (nat_le (n * 16 ^ 0) 0x10FFFF) _ f) in
    no_surrogate n s (able_small 0 n f)

-- blanks
pub bare_later : (line : List ℕ) (n m : ℕ) → n ≤ m → is_bare (drop n line) ≡ true → is_bare (drop m line) ≡ true
unfolding is_bare
bare_later [] n zero le h = refl
bare_later [] n (suc m) le h = refl
bare_later (x ∷ line) zero zero le h = h
bare_later (x ∷ line) zero (suc m) le h = bare_later line zero m (omega arith) (and_right (is_blank x) (list_all is_blank line) h) where
  and_right : (a c : Bool) → a && c ≡ true → c ≡ true
  and_right true c e = e
  and_right false c e = absurd cc
bare_later (x ∷ line) (suc n) zero le h = absurd (omega arith)
bare_later (x ∷ line) (suc n) (suc m) le h = bare_later line n m (omega arith) h

-- where blanks end before the line does, a byte stands that is none
run_end : (xs : List ℕ) → blanks_len xs < length xs → is_bare (drop (blanks_len xs) xs) ≡ false
unfolding is_bare blanks_len
run_end [] h = absurd (omega arith)
run_end (x ∷ xs) h = by_test (is_blank x) refl h (λ k. run_end xs k) where
  by_test : (t : Bool) → is_blank x ≡ t → cond t (1 + prefix_len is_blank xs) 0 < suc (length xs) → (prefix_len is_blank xs < length xs → list_all is_blank (drop (prefix_len is_blank xs) xs) ≡ false) →
      list_all is_blank (drop (cond t (1 + prefix_len is_blank xs) 0) (x ∷ xs)) ≡ false
  by_test true e k again = rw (one_more (prefix_len is_blank xs) x xs) (again (omega (arith, k)))
  by_test false e k again = rw e refl

-- where they do not, the line has nothing else
run_whole : (xs : List ℕ) → length xs ≤ blanks_len xs → is_bare xs ≡ true
unfolding is_bare blanks_len
run_whole [] h = refl
run_whole (x ∷ xs) h = by_test (is_blank x) refl h (λ k. run_whole xs k) where
  by_test : (t : Bool) → is_blank x ≡ t → suc (length xs) ≤ cond t (1 + prefix_len is_blank xs) 0 → (length xs ≤ prefix_len is_blank xs → list_all is_blank xs ≡ true) → is_blank x && list_all is_blank xs ≡ true
  by_test true e k again = rw e (again (omega (arith, k)))
  by_test false e k again = absurd (omega (arith, k))

blanks_end : (line : List ℕ) (at k : ℕ) → at ≤ length line → at + blanks_len (drop at line) < length line → k ≤ at + blanks_len (drop at line) → is_bare (drop k line) ≡ false
blanks_end line at k w h le = by_test (is_bare (drop k line)) refl where
  solid : is_bare (drop (at + blanks_len (drop at line)) line) ≡ false
  solid = subst (λ xs. is_bare xs ≡ false) (drop-drop (blanks_len (drop at line)) at line) (run_end (drop at line) (omega (arith, h, w, length-drop at line)))

  by_test : (t : Bool) → is_bare (drop k line) ≡ t → t ≡ false
  by_test true e = sym (bare_later line k (at + blanks_len (drop at line)) le e) ∙ solid
  by_test false e = refl

blanks_whole : (line : List ℕ) (at : ℕ) → at ≤ length line → length line ≤ at + blanks_len (drop at line) → is_bare (drop at line) ≡ true
blanks_whole line at w h = run_whole (drop at line) (omega (arith, h, w, length-drop at line))

-- by the number of blanks that was counted
module _ (line : List ℕ) (at n : ℕ) (within : at < length line) (is : n ≡ blanks_len (take (length line - at) (drop at line))) where
  count : n ≡ blanks_len (drop at line)
  count = subst (λ xs. n ≡ blanks_len xs) (from_place line at) is

  pub found_end : at + n < length line → (k : ℕ) → k ≤ at + n → is_bare (drop k line) ≡ false
  found_end h k le = let e = count in blanks_end line at k (omega (arith, within)) (omega (arith, e, h)) (omega (arith, e, le))

  pub found_whole : length line ≤ at + n → is_bare (drop at line) ≡ true
  found_whole h = let e = count in blanks_whole line at (omega (arith, within)) (omega (arith, e, h))

pub after_after : (xs ys : List ℕ) (m n : ℕ) (r : QuotedLine) → after_bytes xs m (after_bytes ys n r) ≡ after_bytes (xs ++ ys) (m + n) r
after_after xs ys m n (Closed text taken) = rw (append_assoc xs ys text, add_assoc m n taken) refl
after_after xs ys m n (OpenEnd text) = ap OpenEnd (sym (append_assoc xs ys text))
after_after xs ys m n (JoinedEnd text) = ap JoinedEnd (sym (append_assoc xs ys text))
after_after xs ys m n CutEnd = refl
after_after xs ys m n (BadByte kind) = refl

-- `n` bytes are taken so far, and `m` with the next one
module _ (q : Quote) (w : Within) (text line : List ℕ) (at n m : ℕ) (lt : at < length line) (next : m ≡ n + 1) (step : ByteStep) (bare : Bool) (is : step ≡ byte_step q w bare (get_or line at 0))
    (alone : bare ≡ is_bare (drop at line)) where
  -- what the next byte makes of the rest of the line
  one : quoted_line q w (drop at line) ≡ on_step step (λ v. quoted_line q v (drop (at + 1) line))
  unfolding quoted_line
  one = at_drop_more (quoted_line q w) line at 0 lt
      ∙ ap (λ s. on_step s (λ v. quoted_line q v (drop (at + 1) line))) (ap (λ l. byte_step q w (is_bare l) (get_or line at 0)) (sym (drop_more line at 0 lt)) ∙ (ap (λ t. byte_step q w t (get_or line at 0)) (sym alone) ∙ sym is))

  pub past_byte : (b : ℕ) (more : List ℕ) → step ≡ Byte b → more ≡ text ++ b ∷ [] →
      after_bytes more m (quoted_line q InText (drop (at + 1) line)) ≡ after_bytes text n (quoted_line q w (drop at line))
  past_byte b more e k = rw (k, next, one, e) (sym (after_after text (b ∷ []) n 1 (quoted_line q InText (drop (at + 1) line))))

  pub past_character : (c : ℕ) (more : List ℕ) → step ≡ Character c → more ≡ text ++ encode_utf8 c →
      after_bytes more m (quoted_line q InText (drop (at + 1) line)) ≡ after_bytes text n (quoted_line q w (drop at line))
  past_character c more e k = rw (k, next, one, e) (sym (after_after text (encode_utf8 c) n 1 (quoted_line q InText (drop (at + 1) line))))

  pub past_mark : (v : Within) → step ≡ Mark v →
      after_bytes text m (quoted_line q v (drop (at + 1) line)) ≡ after_bytes text n (quoted_line q w (drop at line))
  past_mark v e = rw (next, one, e) (ap (λ t. after_bytes t (n + 1) (quoted_line q v (drop (at + 1) line))) (sym (append-nil text)) ∙ sym (after_after text [] n 1 (quoted_line q v (drop (at + 1) line))))

  pub line_over : step ≡ LineOver → OpenEnd text ≡ after_bytes text n (quoted_line q w (drop at line))
  line_over e = rw (one, e) (ap OpenEnd (sym (append-nil text)))

  pub quote_over : step ≡ QuoteOver → Closed text n ≡ after_bytes text n (quoted_line q w (drop at line))
  quote_over e = rw (one, e, append-nil text, add-zero n) refl

  pub bad_byte : (kind : YamlKind) → step ≡ Bad kind → BadByte kind ≡ after_bytes text n (quoted_line q w (drop at line))
  bad_byte kind e = rw (one, e) refl

-- at the line's end
dropped : (line : List ℕ) (n : ℕ) → length line ≤ n → drop n line ≡ []
dropped [] zero h = refl
dropped [] (suc n) h = refl
dropped (b ∷ line) zero h = absurd (omega arith)
dropped (b ∷ line) (suc n) h = dropped line n (omega arith)

pub at_end : (q : Quote) (w : Within) (text line : List ℕ) (at n : ℕ) → length line ≤ at → after_bytes text n (at_line_end w) ≡ after_bytes text n (quoted_line q w (drop at line))
unfolding quoted_line
at_end q w text line at n h = rw (dropped line at h) refl

-- lines below
pub end_further : (p q : Cursor) → IsBelow p q → end_line q.line q.here q.below ≡ end_line p.line p.here p.below
unfolding end_line
end_further p q b = rw (b.below, b.line) refl

module _ (q : Quote) (text : List ℕ) (joined : Bool) (k final : ℕ) (p : Cursor) where
  pub over : p.below ≡ [] → quoted_below q text joined k final (p.line + 1) p.below ≡ Broken final OpenQuote
  unfolding quoted_below
  over e = rw e refl

  pub past_bare : (r : Cursor) → IsBelow p r → is_bare r.here ≡ true → quoted_below q text joined k final (p.line + 1) p.below ≡ quoted_below q text joined (k + 1) final (r.line + 1) r.below
  unfolding quoted_below
  past_bare r b e = rw (b.below, e, b.line) refl

  pub with_line : (r : Cursor) (more : List ℕ) (found : QuotedLine) → IsBelow p r → is_bare r.here ≡ false → more ≡ text ++ quoted_break joined k →
      found ≡ after_bytes more (blanks_len r.here) (quoted_line q InText (drop (blanks_len r.here) r.here)) →
      quoted_below q text joined k final (p.line + 1) p.below ≡ by_line found final r.line r.here r.below (λ t j. quoted_below q t j 0 final (r.line + 1) r.below)
  unfolding quoted_below
  with_line r more found b e m f = rw (b.below, e, f, m, b.line) refl

pub at_column : (n : ℕ) (r : Cursor) → r.column ≡ 0 → along n r ≡ along n (record { line = r.line; column = 0; here = r.here; below = r.below })
at_column n r e = rw e refl
