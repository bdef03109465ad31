-- The fields of a line: what stands between blanks.
use Rattle.std.specs.Prelude.{ℕ, ◌-◌, Bool, not, List, length, take, drop, reverse}
use Rattle.std.specs.List.{position_or_len}
use Rattle.pr_words.specs.Bytes.{is_blank}

abbrev pub is_field_byte : ℕ → Bool
is_field_byte b = not (is_blank b)

-- a text without the blanks at its front, and without those at its end
abbrev pub without_leading : List ℕ → List ℕ
without_leading text = drop (position_or_len is_field_byte text) text

abbrev pub without_trailing : List ℕ → List ℕ
without_trailing text = take (length text - position_or_len is_field_byte (reverse text)) text

-- what stands before the first blank, and what stands after it and the blanks that follow it
abbrev pub first_field : List ℕ → List ℕ
first_field text = take (position_or_len is_blank text) text

abbrev pub after_field : List ℕ → List ℕ
after_field text = without_leading (drop (position_or_len is_blank text) text)

-- what stands after the last blank, and what stands before it and the blanks that it follows
abbrev pub last_field : List ℕ → List ℕ
last_field text = drop (length text - position_or_len is_blank (reverse text)) text

abbrev pub before_last_field : List ℕ → List ℕ
before_last_field text = without_trailing (take (length text - position_or_len is_blank (reverse text)) text)
