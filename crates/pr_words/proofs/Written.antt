-- Bytes that are written in double quotes are read as those bytes.
use Rattle.std.proofs.Common.{◌≡◌, ℕ, ◌==◌, List, [], ◌∷◌, ◌++◌, Some, None, Bool, true, false, cond, refl, ap, sym, subst, arith, append_assoc, append-nil}
use Rattle.std.specs.Prelude.{flat_map, codes, if◌then◌else◌}
use Rattle.std.proofs.lemmas.Bool.Decides.{nat_tests}
use Rattle.pr_forms.specs.Form.{turns, Reads, is_token, is_pair, is_left, is_right, is_stop, is_turn, is_rule}
use Rattle.pr_words.specs.declared.strings.kind.Mark.TheVariants.{Double}
use Rattle.pr_words.specs.Strings.{production, kind_of, seen, content, byte_value, piece, joined, is_plain, IsString}
use Rattle.pr_words.specs.Quoted.{escaped_byte, quoted_text}

-- what is neither a backslash nor the quote nor a line feed stands for itself
plain_kind : (b : ℕ) → (b == 92) ≡ false → (b == 34) ≡ false → (b == 10) ≡ false → is_plain Double (kind_of b) ≡ true
plain_kind b h k l = grind (arith, nat_tests)

tested : (b n : ℕ) → (b == n) ≡ true → b ≡ n
tested b n h = grind (arith, nat_tests)

abbrev PieceReads : List ℕ → ℕ → List ℕ → Type 0
PieceReads text b rest = Reads production (piece Double) (seen (text ++ rest)) (byte_value b) (seen rest)

module _ (b : ℕ) (rest : List ℕ) where
  feed : (test : Bool) → (b == 92) ≡ false → (b == 34) ≡ false → (b == 10) ≡ test → PieceReads (cond test (codes "\\n") (b ∷ [])) b rest
  feed true h k l = subst (λ x. PieceReads (codes "\\n") x rest) (sym (tested b 10 l)) (is_right (is_pair (is_token refl) (is_rule (is_left (is_token refl)))))
  feed false h k l = is_left (is_token (ap (λ t. if t then Some (byte_value b) else None) (plain_kind b h k l)))

  quote : (test : Bool) → (b == 92) ≡ false → (b == 34) ≡ test → PieceReads (cond test (codes "\\\"") (cond (b == 10) (codes "\\n") (b ∷ []))) b rest
  quote true h k = subst (λ x. PieceReads (codes "\\\"") x rest) (sym (tested b 34 k)) (is_right (is_pair (is_token refl) (is_rule (is_left (is_token refl)))))
  quote false h k = feed (b == 10) h k refl

  backslash : (test : Bool) → (b == 92) ≡ test → PieceReads (cond test (codes "\\\\") (cond (b == 34) (codes "\\\"") (cond (b == 10) (codes "\\n") (b ∷ [])))) b rest
  backslash true h = subst (λ x. PieceReads (codes "\\\\") x rest) (sym (tested b 92 h)) (is_right (is_pair (is_token refl) (is_rule (is_left (is_token refl)))))
  backslash false h = quote (b == 34) h refl

  escaped_reads : PieceReads (escaped_byte b) b rest
  escaped_reads = backslash (b == 92) refl

pieces_read : (done bytes rest : List ℕ) →
    Reads production (turns joined (content done) (piece Double)) (seen (flat_map escaped_byte bytes ++ (34 ∷ rest))) (content (done ++ bytes)) (seen (34 ∷ rest))
pieces_read done [] rest = subst (λ x. Reads production (turns joined (content done) (piece Double)) (seen (34 ∷ rest)) (content x) (seen (34 ∷ rest))) (sym (append-nil done)) is_stop
pieces_read done (b ∷ bytes) rest =
    let text : escaped_byte b ++ (flat_map escaped_byte bytes ++ (34 ∷ rest)) ≡ flat_map escaped_byte (b ∷ bytes) ++ (34 ∷ rest) = sym (append_assoc (escaped_byte b) (flat_map escaped_byte bytes) (34 ∷ rest)) in
    subst (λ x. Reads production (turns joined (content done) (piece Double)) (seen x) (content (done ++ b ∷ bytes)) (seen (34 ∷ rest))) text
    (subst (λ x. Reads production (turns joined (content done) (piece Double)) (seen (escaped_byte b ++ (flat_map escaped_byte bytes ++ (34 ∷ rest)))) (content x) (seen (34 ∷ rest))) (append_assoc done (b ∷ []) bytes)
    (is_turn (escaped_reads b (flat_map escaped_byte bytes ++ (34 ∷ rest))) (pieces_read (done ++ b ∷ []) bytes rest)))

pub quoted_reads : (bytes rest : List ℕ) → IsString (quoted_text bytes ++ rest) bytes rest
quoted_reads bytes rest =
    let text : flat_map escaped_byte bytes ++ (34 ∷ rest) ≡ (flat_map escaped_byte bytes ++ codes "\"") ++ rest = sym (append_assoc (flat_map escaped_byte bytes) (codes "\"") rest) in
    subst (λ x. IsString (34 ∷ x) bytes rest) text (is_rule (is_left (is_pair (is_token refl) (is_rule (is_pair (pieces_read [] bytes rest) (is_token refl))))))
