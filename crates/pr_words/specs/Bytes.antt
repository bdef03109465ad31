-- What a byte is.
use Rattle.std.specs.Prelude.{◌≡◌, ℕ, Bool, true, ◌||◌, ◌==◌, List}
use Prim.Native.Char.{code}
use Rattle.std.specs.List.{list_all}
use Rattle.std.specs.Char.{is_ascii_alphabetic, is_ascii_digit}

-- a space, or a tab
abbrev pub is_blank : ℕ → Bool
is_blank b = b == code " " || b == code "\t"

abbrev pub AreBlanks : List ℕ → Type 0
AreBlanks text = list_all is_blank text ≡ true

-- a blank, or what ends a line: a line feed, or a carriage return
abbrev pub is_whitespace : ℕ → Bool
is_whitespace b = b == code " " || b == code "\t" || b == code "\n" || b == code "\r"

-- a letter, or an underscore
abbrev pub is_letter : ℕ → Bool
is_letter b = is_ascii_alphabetic b || b == code "_"

-- a letter, an underscore, or a digit
abbrev pub is_label_byte : ℕ → Bool
is_label_byte b = is_letter b || is_ascii_digit b
