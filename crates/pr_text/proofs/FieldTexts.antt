-- A line is a text where its fields are: blanks are ASCII.
use Rattle.std.proofs.Common.{◌≡◌, ℕ, ◌+◌, ◌<◌, ◌≤◌, false, List, length, take, drop, get_or, refl, sym, subst, arith}
use Rattle.std.specs.Prelude.{◌-◌, reverse}
use Rattle.std.specs.List.{position_or_len}
use Rattle.std.specs.Str.{IsUtf8}
use Rattle.std.proofs.lemmas.Bool.Decides.{nat_tests}
use Rattle.std.proofs.lemmas.List.{take-append-drop, length-take-le, length-drop, get_or-take, get_or-drop, get_or-reverse}
use Rattle.std.proofs.lemmas.List.Sums.{fails_before_first}
use Rattle.std.proofs.lemmas.Str.{IsUtf8-append, IsUtf8-from_ascii}
use Rattle.std.proofs.lemmas.Str.Ascii.{IsAscii-from_reads}
use Rattle.pr_words.specs.Fields.{is_field_byte, without_leading, without_trailing, first_field, after_field, last_field, before_last_field}
use Rattle.pr_words.proofs.Places.{within, within_back}
use Rattle.pr_words.specs.Bytes.{is_blank}

blank_byte : (b : ℕ) → is_field_byte b ≡ false → b < 128
blank_byte b h = grind (arith, nat_tests)

-- a text in two parts
in_parts : (n : ℕ) (text : List ℕ) → IsUtf8 (take n text) → IsUtf8 (drop n text) → IsUtf8 text
in_parts n text u v = subst IsUtf8 (take-append-drop n text) (IsUtf8-append (take n text) (drop n text) u v)

-- the blanks at the front
leading_blanks : (text : List ℕ) → IsUtf8 (take (position_or_len is_field_byte text) text)
leading_blanks text =
    let n : ℕ = position_or_len is_field_byte text in
    IsUtf8-from_ascii (take n text) (IsAscii-from_reads (take n text) n (omega (arith, length-take-le n text (within is_field_byte text)))
    (λ k lt. subst (λ (b : ℕ). b < 128) (sym (get_or-take n text k 0 lt)) (blank_byte (get_or text k 0) (fails_before_first is_field_byte text k 0 lt))))

pub leading_text : (text : List ℕ) → IsUtf8 (without_leading text) → IsUtf8 text
leading_text text u = in_parts (position_or_len is_field_byte text) text (leading_blanks text) u

-- the blanks at the end, from the last one on
from_end : (text : List ℕ) (n k : ℕ) → n ≤ length text → n ≡ position_or_len is_field_byte (reverse text) → k < n → get_or (drop (length text - n) text) k 0 < 128
from_end text n k le is lt =
    let at : length text - 1 - (n - 1 - k) ≡ length text - n + k = omega arith in
    let e : get_or (reverse text) (n - 1 - k) 0 ≡ get_or text (length text - 1 - (n - 1 - k)) 0 = get_or-reverse text (n - 1 - k) 0 (omega arith) in
    let blank : get_or (reverse text) (n - 1 - k) 0 < 128 = blank_byte (get_or (reverse text) (n - 1 - k) 0) (fails_before_first is_field_byte (reverse text) (n - 1 - k) 0 (omega (arith, is, lt))) in
    let there : get_or text (length text - n + k) 0 < 128 = subst (λ (i : ℕ). get_or text i 0 < 128) at (subst (λ (b : ℕ). b < 128) e blank) in
    subst (λ (b : ℕ). b < 128) (sym (get_or-drop (length text - n) text k 0)) there

trailing_blanks : (text : List ℕ) → IsUtf8 (drop (length text - position_or_len is_field_byte (reverse text)) text)
trailing_blanks text =
    let n : ℕ = position_or_len is_field_byte (reverse text) in
    let le : n ≤ length text = within_back is_field_byte text in
    IsUtf8-from_ascii (drop (length text - n) text) (IsAscii-from_reads (drop (length text - n) text) n (omega (arith, length-drop (length text - n) text))
    (λ k lt. from_end text n k le refl lt))

pub trailing_text : (text : List ℕ) → IsUtf8 (without_trailing text) → IsUtf8 text
trailing_text text u = in_parts (length text - position_or_len is_field_byte (reverse text)) text u (trailing_blanks text)

-- a text that begins with a field
pub first_text : (text : List ℕ) → IsUtf8 (first_field text) → IsUtf8 (after_field text) → IsUtf8 text
first_text text u v = in_parts (position_or_len is_blank text) text u (leading_text (drop (position_or_len is_blank text) text) v)

-- a text that ends with one
pub last_text : (text : List ℕ) → IsUtf8 (before_last_field text) → IsUtf8 (last_field text) → IsUtf8 text
last_text text u v = in_parts (length text - position_or_len is_blank (reverse text)) text (trailing_text (take (length text - position_or_len is_blank (reverse text)) text) u) v
