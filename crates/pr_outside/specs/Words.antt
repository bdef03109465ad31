-- The words of the command line.
use Rattle.std.specs.Prelude.{ℕ, ◌^◌, nat_lt, cond, List, [], length}
use Rattle.std.specs.Str.{is_utf8}

-- the greatest length of a word: 1 GiB
abbrev pub word_limit : ℕ
word_limit = 2 ^ 30

-- bytes that are no text are the empty word
unfoldable pub text_of : List ℕ → List ℕ
text_of bytes = cond (is_utf8 bytes) bytes []

-- so are those that are too long
abbrev pub word_of : List ℕ → List ℕ
word_of bytes = cond (nat_lt word_limit (length bytes)) [] (text_of bytes)
