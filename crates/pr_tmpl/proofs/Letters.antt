-- The letters at the front of a text.
use Rattle.std.proofs.Common.{◌≡◌, ◌<◌, ◌≤◌, ℕ, zero, suc, ◌-◌, true, false, Option, Some, None, List, [], ◌∷◌, ◌++◌, length, drop, refl, sym, ap, subst, ◌∙◌, arith, ◌==◌, nat_le, length-append, length-take, min}
use Rattle.std.proofs.lemmas.Bool.Decides.{nat_tests}
use Rattle.std.specs.Prelude.{codes}
use Rattle.pr_labels.specs.pr_words.StringAnswer.{string_of, bad_string_place}
use Rattle.pr_labels.specs.pr_words.Strings.{IsString as IsStringText, IsBadPlace, production, seen, Text, content}
use Rattle.pr_labels.specs.pr_words.private.Language.{text_strings}
use Rattle.pr_labels.proofs.WordsStringPublic.{unread}
use Rattle.pr_labels.proofs.WordsStringTable.{known as string_known}
use Rattle.pr_labels.specs.pr_forms.Language.{Gives as StringGives}
use Rattle.pr_labels.specs.pr_forms.Run.{good, bad}
use Rattle.pr_labels.specs.pr_forms.Form.{rule}
use Rattle.pr_labels.proofs.FormsPlaces.{one_place, only_reading}
use Rattle.pr_labels.proofs.WordsStringAnswers.{string_of_reading, reading_of_string, place_of_text}
use Rattle.pr_labels.specs.pr_words.StringTable.{table as string_table}
use Rattle.pr_tmpl.specs.declared.kind.TemplateByte.{TemplateByte}
use Rattle.pr_tmpl.specs.Pieces.{Piece, plain, kind_of, kind_of_all, escape_bytes, escape_quoted, escape_parts, escaped, pieces}
use Rattle.pr_tmpl.specs.declared.letter.Letter.{Letter}
use Rattle.pr_tmpl.specs.declared.letter.Letter.TheVariants.{Plain, Escape, Broken}
use Rattle.pr_tmpl.specs.private.Letters.{FollowsBackslash, IsLetter, IsPlain, NoPlain, no_piece, an_escape, a_break, HasNoPlain, IsAscii, HasNoAscii, IsNoString, IsEscape, IsBreak}
use Rattle.pr_tmpl.proofs.Pieces.{pieces_at_end, pieces_at_plain, pieces_at_backslash, escape_front, parts_front}

yes_if : (b : ℕ) → b ≡ 92 → (b == 92) ≡ true
yes_if b e = grind (arith, nat_tests)

no_if : (b : ℕ) → (b ≡ 92 → ⊥) → (b == 92) ≡ false
no_if b h = grind (arith, nat_tests)

-- where no byte is left, or a backslash comes next
pub ended : (text : List ℕ) → length text ≡ 0 → HasNoPlain text
ended [] e = subst NoPlain (sym pieces_at_end) no_piece
ended (b ∷ bs) e = absurd (omega arith)

escape_next : (again : List ℕ → List Piece) (bytes text : List ℕ) (o : Option (List ℕ)) → NoPlain (escaped again bytes text o)
escape_next again bytes text (Some means) = an_escape
escape_next again bytes text None = a_break

pub backslashed : (text rest : List ℕ) (b : ℕ) → text ≡ b ∷ rest → b ≡ 92 → HasNoPlain text
backslashed text rest b e h = subst NoPlain (sym (ap pieces e ∙ pieces_at_backslash b rest (yes_if b h))) (escape_next pieces (escape_bytes rest) rest (string_of (escape_quoted (escape_bytes rest))))

-- a byte that begins no escape
pub plainly : (text rest : List ℕ) (b : ℕ) (k : TemplateByte) → text ≡ b ∷ rest → (b ≡ 92 → ⊥) → k ≡ kind_of b → IsPlain text k b rest
plainly text rest b k e h i = record {
  pieces_are = ap pieces e ∙ (pieces_at_plain b rest (no_if b h) ∙ ap (λ (x : TemplateByte). plain x b ∷ pieces rest) (sym i));
  bytes_are = e;
  kind_is = i;
}

-- one of so many bytes
pub ascii_none : (left : ℕ) (text : List ℕ) → left ≡ 0 → HasNoAscii left text
ascii_none zero text e = refl
ascii_none (suc n) text e = absurd (omega arith)

pub ascii_end : (left : ℕ) (text : List ℕ) → length text ≡ 0 → HasNoAscii left text
ascii_end zero text e = refl
ascii_end (suc n) [] e = refl
ascii_end (suc n) (b ∷ bs) e = absurd (omega arith)

high : (b : ℕ) → 128 ≤ b → nat_le 128 b ≡ true
high b h = grind (arith, nat_tests)

low : (b : ℕ) → b < 128 → nat_le 128 b ≡ false
low b h = grind (arith, nat_tests)

pub ascii_high : (left : ℕ) (text rest : List ℕ) (b : ℕ) → text ≡ b ∷ rest → 128 ≤ b → HasNoAscii left text
ascii_high zero text rest b e h = refl
ascii_high (suc n) text rest b e h = rw (e, high b h) refl

pub ascii_low : (left : ℕ) (text rest : List ℕ) (b : ℕ) → text ≡ b ∷ rest → b < 128 → (left ≡ 0 → ⊥) → IsAscii left text b rest
ascii_low zero text rest b e h k = absurd (k refl)
ascii_low (suc n) text rest b e h k = record { some = omega arith; small = h; is = let less : suc n - 1 ≡ n = omega arith in rw (e, low b h, less) refl; shorter = rw e (omega arith) }

-- whether a text is a string, from what its reader says
zero_if : (n : ℕ) → true ≡ (n == 0) → n ≡ 0
zero_if n e = grind (arith, nat_tests)

some_if : (n : ℕ) → false ≡ (n == 0) → n ≡ 0 → ⊥
some_if n e h = grind (arith, nat_tests)

whole_of : (text bytes rest : List ℕ) → IsStringText text bytes rest → length rest ≡ 0 → string_of text ≡ Some bytes
whole_of text bytes [] d e = string_of_reading text bytes d
whole_of text bytes (b ∷ rest) d e = absurd (omega arith)

pub whole : (text bytes rest : List ℕ) → IsStringText text bytes rest → true ≡ (length rest == 0) → string_of text ≡ Some bytes
whole text bytes rest d e = whole_of text bytes rest d (zero_if (length rest) e)

pub the_place : (text : List ℕ) (n : ℕ) → IsBadPlace text n → n ≡ bad_string_place text
the_place text n p = one_place production (rule Text) (seen text) n (bad_string_place text) p (place_of_text text)

not_some : (o : Option (List ℕ)) → ((bytes : List ℕ) → o ≡ Some bytes → ⊥) → o ≡ None
not_some None h = refl
not_some (Some bytes) h = absurd (h bytes refl)

pub no_string : (text : List ℕ) → ((bytes : List ℕ) → IsStringText text bytes [] → ⊥) → string_of text ≡ None
no_string text h = not_some (string_of text) (λ bytes e. h bytes (reading_of_string text bytes e))

-- what stands after a backslash is a letter
pub an_escape_stands : (text rest after : List ℕ) (b : ℕ) (k : TemplateByte) (means : List ℕ) → text ≡ b ∷ rest → b ≡ 92
    → string_of (escape_quoted (escape_bytes rest)) ≡ Some means → k ≡ kind_of_all means → after ≡ drop (length (escape_bytes rest)) rest → IsEscape text k means after
an_escape_stands text rest after b k means e h s i d = record {
  raw = codes "\\" ++ escape_bytes rest;
  pieces_are = ap pieces e ∙ (pieces_at_backslash b rest (yes_if b h) ∙ rw (s, i, d) refl);
  kind_is = i;
  bytes_are = e ∙ (ap (λ (x : ℕ). x ∷ rest) h ∙ ap (λ (xs : List ℕ). codes "\\" ++ xs) (sym (escape_front rest) ∙ ap (λ (xs : List ℕ). escape_bytes rest ++ xs) (sym d)));
}

pub a_break_stands : (text rest after : List ℕ) (b : ℕ) → text ≡ b ∷ rest → b ≡ 92
    → string_of (escape_quoted (escape_bytes rest)) ≡ None → after ≡ drop (length (escape_parts (escape_bytes rest))) rest → IsBreak text after
a_break_stands text rest after b e h s d = record {
  parts = escape_parts (escape_bytes rest);
  pieces_are = ap pieces e ∙ (pieces_at_backslash b rest (yes_if b h) ∙ rw (s, d) refl);
  bytes_are = e ∙ (ap (λ (x : ℕ). x ∷ rest) h
      ∙ ap (λ (xs : List ℕ). codes "\\" ++ xs) (sym (parts_front (escape_bytes rest) rest (escape_front rest)) ∙ ap (λ (xs : List ℕ). escape_parts (escape_bytes rest) ++ xs) (sym d)));
}

-- what a reader of strings that stopped too early, or failed, tells
pub unread_string : (text rest : List ℕ) → StringGives text_strings (rule Text) text (bad (seen rest)) → string_of text ≡ None
unread_string text rest q = no_string text (λ bytes d. unread text rest q (content bytes) [] d)

pub read_before : (text bytes rest : List ℕ) → StringGives text_strings (rule Text) text (good (content bytes) (seen rest)) → false ≡ (length rest == 0) → string_of text ≡ None
read_before text bytes rest q h = no_string text (λ others d. not_ended rest h (good_rest _ _ _ (only_reading production string_table string_known Text (seen text) _ (content others) q d)))
  where
    good_rest : {T V : Type 0} (v w : V) (rest : List T) → good v rest ≡ good w [] → rest ≡ []
    good_rest v w rest e = cc

    not_ended : (rest : List ℕ) → false ≡ (length rest == 0) → seen rest ≡ [] → ⊥
    not_ended [] h e = some_if 0 h refl
    not_ended (b ∷ rest) h e = absurd (cc)

-- what follows a backslash
taken_is : (text q : List ℕ) (n : ℕ) → q ≡ escape_quoted (escape_bytes text) → n ≡ length q → n - 3 ≡ length (escape_bytes text)
taken_is text q n e h = let k = length-append (escape_bytes text) (codes "\"") in let l = ap length e in omega (arith, k, l, h)

pub follows_escape : (text q after means : List ℕ) (k : TemplateByte) (n : ℕ) → q ≡ escape_quoted (escape_bytes text) → n ≡ length q → string_of q ≡ Some means → k ≡ kind_of_all means → after ≡ drop (n - 3) text
    → (string_of (escape_quoted (escape_bytes text)) ≡ Some means) × (k ≡ kind_of_all means) × (after ≡ drop (length (escape_bytes text)) text)
follows_escape text q after means k n e h s i d = (subst (λ (x : List ℕ). string_of x ≡ Some means) e s, i, d ∙ ap (λ (m : ℕ). drop m text) (taken_is text q n e h))

pub follows_break : (text q after : List ℕ) (place n : ℕ) → q ≡ escape_quoted (escape_bytes text) → n ≡ length q → IsNoString q place → after ≡ drop (min (place - 2) (n - 3)) text
    → (string_of (escape_quoted (escape_bytes text)) ≡ None) × (after ≡ drop (length (escape_parts (escape_bytes text))) text)
follows_break text q after place n e h s d = (subst (λ (x : List ℕ). string_of x ≡ None) e s.is, d ∙ ap (λ (m : ℕ). drop m text) same)
  where
    at_place : place ≡ bad_string_place (escape_quoted (escape_bytes text))
    at_place = s.place_is ∙ ap bad_string_place e

    same : min (place - 2) (n - 3) ≡ length (escape_parts (escape_bytes text))
    same = rw (taken_is text q n e h, at_place) (sym (length-take (bad_string_place (escape_quoted (escape_bytes text)) - 2) (escape_bytes text)))

pub letter_follows : (text rest after : List ℕ) (b : ℕ) (l : Letter) → text ≡ b ∷ rest → b ≡ 92 → FollowsBackslash rest l after → IsLetter text l after
letter_follows text rest after b (Plain k c) e h f = absurd f
letter_follows text rest after b (Escape k means) e h f = an_escape_stands text rest after b k means.items e h f.0 f.1 f.2
letter_follows text rest after b Broken e h f = a_break_stands text rest after b e h f.0 f.1
