-- The pieces of a template's text. An escape of strings is one piece, wherever it stands, and each
-- other byte is one. So a character that an escape writes has the place of its backslash.
use Rattle.std.specs.Prelude.{Bool, ℕ, zero, suc, ◌-◌, ◌==◌, nat_le, ◌&&◌, ◌||◌, Option, Some, None, List, [], ◌∷◌, ◌++◌, length, take, drop, map, flat_map, codes, if◌then◌else◌}
use Prim.Native.Char.{code}
use Rattle.pr_tmpl.specs.declared.kind.TemplateByte.{TemplateByte}
use Rattle.pr_tmpl.specs.declared.kind.TemplateByte.TheVariants.{Quote, Feed, Blank, Open, Close, Bar, Dollar, Point, Percent, Digit, SmallE, SmallF, SmallH, SmallL, SmallP, SmallS, SmallV, CapitalD, CapitalE, CapitalL, CapitalP, CapitalU, CapitalV, OtherLetter, Other}
use Rattle.pr_labels.specs.pr_words.StringAnswer.{string_of, bad_string_place}

abbrev pub is_other_letter : ℕ → Bool
is_other_letter b = (nat_le (code "A") b && nat_le b (code "Z")) || (nat_le (code "a") b && nat_le b (code "z")) || b == code "_"

abbrev pub capital_of : ℕ → TemplateByte
capital_of b = if b == code "D" then CapitalD else (if b == code "E" then CapitalE else (if b == code "L" then CapitalL else (if b == code "P" then CapitalP else
    (if b == code "U" then CapitalU else (if b == code "V" then CapitalV else (if is_other_letter b then OtherLetter else Other))))))

abbrev pub small_of : ℕ → TemplateByte
small_of b = if b == code "e" then SmallE else (if b == code "f" then SmallF else (if b == code "h" then SmallH else (if b == code "l" then SmallL else
    (if b == code "p" then SmallP else (if b == code "s" then SmallS else (if b == code "v" then SmallV else capital_of b))))))

abbrev pub kind_of : ℕ → TemplateByte
kind_of b = if b == code "\"" then Quote else (if b == code "\n" then Feed else (if b == code " " || b == code "\t" then Blank else (if b == code "{" then Open else
    (if b == code "}" then Close else (if b == code "|" then Bar else (if b == code "$" then Dollar else (if b == code "." then Point else (if b == code "%" then Percent else
    (if nat_le (code "0") b && nat_le b (code "9") then Digit else small_of b)))))))))

-- the kind of what an escape means: of a byte, or of a longer character
abbrev pub kind_of_all : List ℕ → TemplateByte
kind_of_all (b ∷ []) = kind_of b
kind_of_all bs = Other

pub data Piece : Type 0 where
  -- a byte that begins no escape
  plain : TemplateByte → ℕ → Piece
  -- an escape: its own bytes, and those that it means with their kind
  escape : TemplateByte → List ℕ → List ℕ → Piece
  -- the backslash of an escape that breaks off, and a byte of it after that
  broken : Piece
  part : ℕ → Piece

-- the bytes of a piece
abbrev pub raw_of : Piece → List ℕ
raw_of (plain k b) = b ∷ []
raw_of (escape k raw means) = raw
raw_of broken = codes "\\"
raw_of (part b) = b ∷ []

-- How many bytes follow a backslash, by the first of them.
abbrev pub escape_length : List ℕ → ℕ
escape_length [] = 0
escape_length (b ∷ bs) = if b == code "x" then 3 else (if b == code "u" then 5 else (if b == code "U" then 9 else 1))

-- the first of so many bytes, up to one that is not ASCII: a longer character stands in no escape
abbrev pub ascii_front : ℕ → List ℕ → List ℕ
ascii_front zero text = []
ascii_front (suc n) [] = []
ascii_front (suc n) (b ∷ bs) = if nat_le 128 b then [] else b ∷ ascii_front n bs

-- the bytes after a backslash that may be an escape
abbrev pub escape_bytes : List ℕ → List ℕ
escape_bytes text = ascii_front (escape_length text) text

-- these bytes after a backslash, in double quotes
abbrev pub escape_quoted : List ℕ → List ℕ
escape_quoted bytes = codes "\"\\" ++ (bytes ++ codes "\"")

-- those of them that can go on as an escape, where they are none
abbrev pub escape_parts : List ℕ → List ℕ
escape_parts bytes = take (bad_string_place (escape_quoted bytes) - 2) bytes

-- What stands from a backslash on: an escape is one that strings have, and of one that breaks off
-- those bytes are parts that can go on.
abbrev pub escaped : (List ℕ → List Piece) → List ℕ → List ℕ → Option (List ℕ) → List Piece
escaped again bytes text (Some means) = escape (kind_of_all means) (codes "\\" ++ bytes) means ∷ again (drop (length bytes) text)
escaped again bytes text None = broken ∷ (map part (escape_parts bytes) ++ again (drop (length (escape_parts bytes)) text))

abbrev pub at_backslash : (List ℕ → List Piece) → List ℕ → List Piece
at_backslash again text = escaped again (escape_bytes text) text (string_of (escape_quoted (escape_bytes text)))

-- The pieces of a text of at most so many bytes.
abbrev pub pieces_in : ℕ → List ℕ → List Piece
pieces_in zero text = []
pieces_in (suc n) [] = []
pieces_in (suc n) (b ∷ bs) = if b == code "\\" then at_backslash (pieces_in n) bs else plain (kind_of b) b ∷ pieces_in n bs

unfoldable pub pieces : List ℕ → List Piece
pieces text = pieces_in (length text) text

-- the bytes of all pieces
abbrev pub raw_text : List Piece → List ℕ
raw_text ps = flat_map raw_of ps
