-- The bytes of a text, and what they are to its forms.
use Rattle.std.specs.Prelude.{ℕ, ◌==◌, ◌&&◌, ◌||◌, Bool, true, false, List, [], ◌∷◌, ◌++◌, take, drop, if◌then◌else◌}
use Prim.Native.Char.{code}
use Rattle.std.specs.List.{prefix_len, list_all, list_any}
use Rattle.std.specs.Str.{is_utf8}
use Rattle.std.specs.Str.Lossy.{utf8_valid_len}
use Rattle.pr_words.specs.Bytes.{is_blank}

-- the byte order mark EF BB BF
abbrev pub marked : List ℕ → Bool
marked (a ∷ b ∷ c ∷ text) = a == 0xEF && (b == 0xBB && c == 0xBF)
marked text = false

-- A byte order mark at the very start is passed over.
abbrev pub without_mark : List ℕ → List ℕ
without_mark text = if marked text then drop 3 text else text

-- What is read of a text: it up to its first byte that is not UTF-8, and 255 in the place of that
-- byte, which no UTF-8 has.
abbrev pub no_text : ℕ → Bool
no_text b = b == 0xFF

unfoldable pub legible : List ℕ → List ℕ
legible text = if is_utf8 text then text else take (utf8_valid_len text) text ++ 0xFF ∷ []

unfoldable pub has_no_text : List ℕ → Bool
has_no_text = list_any no_text

-- how many blanks, and how many spaces, a line begins with
unfoldable pub blanks_len : List ℕ → ℕ
blanks_len = prefix_len is_blank

abbrev pub is_space : ℕ → Bool
is_space b = b == code " "

unfoldable pub spaces_len : List ℕ → ℕ
spaces_len = prefix_len is_space

-- a line of blanks alone, or of no byte
unfoldable pub is_bare : List ℕ → Bool
is_bare = list_all is_blank

-- a line of spaces alone, or of no byte
unfoldable pub is_spaces : List ℕ → Bool
is_spaces = list_all is_space

abbrev pub is_tab : ℕ → Bool
is_tab b = b == code "\t"

unfoldable pub has_tab : List ℕ → Bool
has_tab = list_any is_tab

-- a blank comes next, or the line's end
unfoldable pub ends_word : List ℕ → Bool
ends_word [] = true
ends_word (b ∷ rest) = is_blank b

-- the signs of flows: , [ ] { }
unfoldable pub is_flow_sign : ℕ → Bool
is_flow_sign b = b == code "," || (b == code "[" || (b == code "]" || (b == code "{" || b == code "}")))

-- whether a comment comes next
unfoldable pub is_comment : List ℕ → Bool
is_comment [] = false
is_comment (b ∷ rest) = b == code "#"
