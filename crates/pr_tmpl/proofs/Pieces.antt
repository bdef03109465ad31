-- The pieces of a text are all of it, and are read one after the other.
use Rattle.std.proofs.Common.{◌≡◌, ℕ, zero, suc, ◌≤◌, Bool, true, false, Option, Some, None, List, [], ◌∷◌, ◌++◌, length, take, drop, map, refl, sym, ap, subst, ◌∙◌, arith, ◌==◌, nat_le, length-drop}
use Rattle.std.proofs.lemmas.Bool.Decides.{nat_tests}
use Rattle.std.specs.Prelude.{codes, if◌then◌else◌}
use Prim.Native.Char.{code}
use Rattle.pr_labels.specs.pr_words.StringAnswer.{string_of}
use Rattle.pr_tmpl.specs.Pieces.{Piece, plain, escape, broken, part, raw_text, kind_of, kind_of_all, ascii_front, escape_length, escape_bytes, escape_quoted, escape_parts, escaped, at_backslash, pieces_in, pieces}

same_if : (a b : ℕ) → (a == b) ≡ true → a ≡ b
same_if a b e = grind (arith, nat_tests)

ascii_is_front : (n : ℕ) (text : List ℕ) → ascii_front n text ++ drop (length (ascii_front n text)) text ≡ text
ascii_is_front zero text = refl
ascii_is_front (suc n) [] = refl
ascii_is_front (suc n) (b ∷ bs) = by_test (nat_le 128 b) (ascii_is_front n bs) where
  by_test : (t : Bool) → ascii_front n bs ++ drop (length (ascii_front n bs)) bs ≡ bs → (if t then [] else b ∷ ascii_front n bs) ++ drop (length (if t then [] else b ∷ ascii_front n bs)) (b ∷ bs) ≡ b ∷ bs
  by_test true again = refl
  by_test false again = ap (λ (xs : List ℕ). b ∷ xs) again

part_front : (k : ℕ) (bytes rest : List ℕ) → take k bytes ++ drop (length (take k bytes)) (bytes ++ rest) ≡ bytes ++ rest
part_front zero bytes rest = refl
part_front (suc k) [] rest = refl
part_front (suc k) (b ∷ bs) rest = ap (λ (xs : List ℕ). b ∷ xs) (part_front k bs rest)

-- what may be an escape, and what can go on of it, are fronts of the text
pub escape_front : (text : List ℕ) → escape_bytes text ++ drop (length (escape_bytes text)) text ≡ text
escape_front text = ascii_is_front (escape_length text) text

front_of_front : (k : ℕ) (bytes text : List ℕ) → bytes ++ drop (length bytes) text ≡ text → take k bytes ++ drop (length (take k bytes)) text ≡ text
front_of_front k bytes text e = subst (λ (t : List ℕ). take k bytes ++ drop (length (take k bytes)) t ≡ t) e (part_front k bytes (drop (length bytes) text))

pub parts_front : (bytes text : List ℕ) → bytes ++ drop (length bytes) text ≡ text → escape_parts bytes ++ drop (length (escape_parts bytes)) text ≡ text
parts_front bytes text e = front_of_front _ bytes text e

raw_parts : (bs : List ℕ) (ps : List Piece) → raw_text (map part bs ++ ps) ≡ bs ++ raw_text ps
raw_parts [] ps = refl
raw_parts (b ∷ bs) ps = ap (λ (xs : List ℕ). b ∷ xs) (raw_parts bs ps)

no_longer : (m n : ℕ) (text : List ℕ) → length text ≤ n → length (drop m text) ≤ n
no_longer m n text h = omega (arith, h, length-drop m text)

raw_escaped : (n : ℕ) (bytes text : List ℕ) (means : Option (List ℕ)) (again : List ℕ → List Piece) → bytes ++ drop (length bytes) text ≡ text → ((rest : List ℕ) → length rest ≤ n → raw_text (again rest) ≡ rest) → length text ≤ n
    → raw_text (escaped again bytes text means) ≡ codes "\\" ++ text
raw_escaped n bytes text (Some means) again front h le =
    ap (λ (xs : List ℕ). codes "\\" ++ (bytes ++ xs)) (h (drop (length bytes) text) (no_longer (length bytes) n text le))
    ∙ ap (λ (xs : List ℕ). codes "\\" ++ xs) front
raw_escaped n bytes text None again front h le =
    ap (λ (xs : List ℕ). codes "\\" ++ xs)
    (raw_parts (escape_parts bytes) (again (drop (length (escape_parts bytes)) text))
    ∙ ap (λ (xs : List ℕ). escape_parts bytes ++ xs) (h (drop (length (escape_parts bytes)) text) (no_longer (length (escape_parts bytes)) n text le))
    ∙ parts_front bytes text front)

raw_pieces : (n : ℕ) (text : List ℕ) → length text ≤ n → raw_text (pieces_in n text) ≡ text
raw_pieces zero [] h = refl
raw_pieces zero (b ∷ bs) h = absurd (omega arith)
raw_pieces (suc n) [] h = refl
raw_pieces (suc n) (b ∷ bs) h = by_test (b == code "\\") refl (λ rest le. raw_pieces n rest le) (omega arith) where
  by_test : (t : Bool) → (b == code "\\") ≡ t → ((rest : List ℕ) → length rest ≤ n → raw_text (pieces_in n rest) ≡ rest) → length bs ≤ n
      → raw_text (if t then at_backslash (pieces_in n) bs else plain (kind_of b) b ∷ pieces_in n bs) ≡ b ∷ bs
  by_test true e again le =
      raw_escaped n (escape_bytes bs) bs (string_of (escape_quoted (escape_bytes bs))) (pieces_in n) (escape_front bs) again le
      ∙ ap (λ (x : ℕ). x ∷ bs) (sym (same_if b (code "\\") e))
  by_test false e again le = ap (λ (xs : List ℕ). b ∷ xs) (again bs le)

pub pieces_are_all : (text : List ℕ) → raw_text (pieces text) ≡ text
unfolding pieces
pieces_are_all text = raw_pieces (length text) text (omega arith)

-- What stands after a backslash is the same where the pieces of what is left are.
same_escaped : (again other : List ℕ → List Piece) (bytes text : List ℕ) (means : Option (List ℕ)) → ((rest : List ℕ) → length rest ≤ length text → again rest ≡ other rest) → escaped again bytes text means ≡ escaped other bytes text means
same_escaped again other bytes text (Some means) h = ap (λ (ps : List Piece). escape (kind_of_all means) (codes "\\" ++ bytes) means ∷ ps) (h (drop (length bytes) text) (no_longer (length bytes) (length text) text (omega arith)))
same_escaped again other bytes text None h = ap (λ (ps : List Piece). broken ∷ (map part (escape_parts bytes) ++ ps)) (h (drop (length (escape_parts bytes)) text) (no_longer (length (escape_parts bytes)) (length text) text (omega arith)))

same_pieces : (n m : ℕ) (text : List ℕ) → length text ≤ n → length text ≤ m → pieces_in n text ≡ pieces_in m text
same_pieces zero zero [] h k = refl
same_pieces zero (suc m) [] h k = refl
same_pieces (suc n) zero [] h k = refl
same_pieces (suc n) (suc m) [] h k = refl
same_pieces zero m (b ∷ bs) h k = absurd (omega arith)
same_pieces (suc n) zero (b ∷ bs) h k = absurd (omega arith)
same_pieces (suc n) (suc m) (b ∷ bs) h k = by_test (b == code "\\") (λ rest le. same_pieces n m rest (omega (arith, h, le)) (omega (arith, k, le))) where
  by_test : (t : Bool) → ((rest : List ℕ) → length rest ≤ length bs → pieces_in n rest ≡ pieces_in m rest)
      → (if t then at_backslash (pieces_in n) bs else plain (kind_of b) b ∷ pieces_in n bs) ≡ (if t then at_backslash (pieces_in m) bs else plain (kind_of b) b ∷ pieces_in m bs)
  by_test true again = same_escaped (pieces_in n) (pieces_in m) (escape_bytes bs) bs (string_of (escape_quoted (escape_bytes bs))) again
  by_test false again = ap (λ (ps : List Piece). plain (kind_of b) b ∷ ps) (again bs (omega arith))

-- A byte that is no backslash is a piece, and an escape stands from a backslash on.
pub pieces_at_end : pieces [] ≡ []
unfolding pieces
pieces_at_end = refl

pub pieces_at_plain : (b : ℕ) (bs : List ℕ) → (b == code "\\") ≡ false → pieces (b ∷ bs) ≡ plain (kind_of b) b ∷ pieces bs
unfolding pieces
pieces_at_plain b bs e = rw e refl

pub pieces_at_backslash : (b : ℕ) (bs : List ℕ) → (b == code "\\") ≡ true → pieces (b ∷ bs) ≡ escaped pieces (escape_bytes bs) bs (string_of (escape_quoted (escape_bytes bs)))
unfolding pieces
pieces_at_backslash b bs e = rw e (same_escaped (pieces_in (length bs)) pieces (escape_bytes bs) bs (string_of (escape_quoted (escape_bytes bs))) (λ rest le. same_pieces (length bs) (length rest) rest le (omega arith)))
