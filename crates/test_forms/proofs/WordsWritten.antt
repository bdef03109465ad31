-- What is written is read back, and what is read is a function of the text.
use Rattle.std.proofs.Common.{◌≡◌, ℕ, List, [], ◌∷◌, ◌++◌, map, Option, Some, None, refl, ap, sym, subst, append_assoc}
use Rattle.pr_forms.specs.Form.{turns, rule, Reads, is_token, is_nothing, is_pair, is_left, is_right, is_stop, is_turn, is_fold, is_rule}
use Rattle.pr_forms.specs.Language.{IsFirstBad, value_in}
use Rattle.pr_forms.proofs.Ending.{given_reads, reads_given, given_place}
use Rattle.pr_forms.proofs.Within.{reads_good}
use Rattle.test_forms.specs.declared.glyph.Sort.{Sort}
use Rattle.test_forms.specs.declared.glyph.Sort.TheVariants.{Quote, Backslash, Plain}
use Rattle.test_forms.specs.private.Glyphs.{part, part_of, glyph_of, sort_of}
use Rattle.test_forms.specs.private.Quoted as quoted
use Rattle.test_forms.specs.private.Quoted.{content, byte_value, plain_at, joined, piece}
use Rattle.test_forms.specs.private.Words.{production, table, rank, steps, lists, Value, words, word, in_quotes, mark, Words, Word, appended, next_word, ReadsWords, words_in, words_of, bad_byte, escaped_as, escaped, written_word, written_after, written}
use Rattle.test_forms.proofs.WordsTable.{known, ends, strings_within}

piece_written : (s : Sort) (b : ℕ) (rest : List ℕ) → sort_of b ≡ s → Reads quoted.production piece (map part_of (escaped_as s b ++ rest)) (byte_value b) (map part_of rest)
piece_written Plain b rest e = is_right (is_token (ap (λ s. plain_at (part s b)) e))
piece_written Quote b rest e = is_left (is_pair (is_token refl) (is_token refl))
piece_written Backslash b rest e = is_left (is_pair (is_token refl) (is_token refl))

append_none : (xs : List ℕ) → xs ++ [] ≡ xs
append_none [] = refl
append_none (x ∷ xs) = ap (λ ys. x ∷ ys) (append_none xs)

pieces_written : (w bs rest : List ℕ) → Reads quoted.production (turns joined (content bs) piece) (map part_of (escaped w ++ rest)) (content (bs ++ w)) (map part_of rest)
pieces_written [] bs rest = subst (λ cs. Reads quoted.production (turns joined (content bs) piece) (map part_of rest) (content cs) (map part_of rest)) (sym (append_none bs)) is_stop
pieces_written (b ∷ w) bs rest =
    subst (λ text. Reads quoted.production (turns joined (content bs) piece) (map part_of text) (content (bs ++ b ∷ w)) (map part_of rest)) (sym (append_assoc (escaped_as (sort_of b) b) (escaped w) rest))
    (subst (λ cs. Reads quoted.production (turns joined (content bs) piece) (map part_of (escaped_as (sort_of b) b ++ (escaped w ++ rest))) (content cs) (map part_of rest)) (append_assoc bs (b ∷ []) w)
    (is_turn (piece_written (sort_of b) b (escaped w ++ rest) refl) (pieces_written w (bs ++ b ∷ []) rest)))

string_written : (w rest : List ℕ) → Reads quoted.production (rule quoted.Text) (map part_of (written_word w ++ rest)) (content w) (map part_of rest)
string_written w rest = subst (λ text. Reads quoted.production (rule quoted.Text) (map part_of (34 ∷ text)) (content w) (map part_of rest)) (sym (append_assoc (escaped w) (34 ∷ []) rest))
    (is_rule (is_pair (is_token refl) (is_rule (is_pair (pieces_written w [] (34 ∷ rest)) (is_token refl)))))

word_written : (w rest : List ℕ) → Reads production (rule Word) (map glyph_of (written_word w ++ rest)) (word w) (map glyph_of rest)
word_written w rest = is_rule (is_right (is_pair (reads_good strings_within (written_word w ++ rest) rest (string_written w rest)) is_nothing))

after_written : (ws before : List (List ℕ)) → Reads production (turns appended (words before) next_word) (map glyph_of (written_after ws)) (words (before ++ ws)) []
after_written [] before = subst (λ vs. Reads production (turns appended (words before) next_word) [] (words vs) []) (sym (none_after before)) is_stop
  where
    none_after : (vs : List (List ℕ)) → vs ++ [] ≡ vs
    none_after [] = refl
    none_after (v ∷ vs) = ap (λ us. v ∷ us) (none_after vs)
after_written (w ∷ ws) before = subst (λ vs. Reads production (turns appended (words before) next_word) (map glyph_of (written_after (w ∷ ws))) (words vs) []) (append_assoc before (w ∷ []) ws)
    (is_turn (is_pair (is_token refl) (word_written w (written_after ws))) (after_written ws (before ++ w ∷ [])))

pub written_reads : (w : List ℕ) (ws : List (List ℕ)) → ReadsWords (written (w ∷ ws)) (w ∷ ws)
written_reads w ws = is_rule (is_fold (is_pair is_nothing (word_written w (written_after ws))) (after_written ws (w ∷ [])))

-- the words of a text as a function of it
value_is : (o : Option Value) (ws : List (List ℕ)) → words_in o ≡ Some ws → o ≡ Some (words ws)
value_is None ws e = absurd (cc)
value_is (Some (words vs)) ws e = cc
value_is (Some (word v)) ws e = absurd (cc)
value_is (Some (in_quotes v)) ws e = absurd (cc)
value_is (Some mark) ws e = absurd (cc)

pub words_read : (text : List ℕ) (ws : List (List ℕ)) → words_of text ≡ Some ws → ReadsWords text ws
unfolding words_of
words_read text ws e = given_reads production table known rank steps ends Words (map glyph_of text) (words ws) (value_is (value_in lists steps Words text) ws e)

pub words_given : (text : List ℕ) (ws : List (List ℕ)) → ReadsWords text ws → words_of text ≡ Some ws
unfolding words_of
words_given text ws d = ap words_in (reads_given production table known rank steps ends Words (map glyph_of text) (words ws) d)

pub place_given : (text : List ℕ) → IsFirstBad lists Words text (bad_byte text)
unfolding bad_byte
place_given text = given_place production table known rank steps ends Words (map glyph_of text)
