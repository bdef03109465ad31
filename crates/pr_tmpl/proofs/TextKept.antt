-- A text that is UTF-8 is cut around ASCII bytes alone.
use Rattle.std.proofs.Common.{◌≡◌, ◌<◌, ◌≤◌, ℕ, zero, suc, Bool, true, false, List, [], ◌∷◌, ◌++◌, length, drop, take, ◌-◌, refl, sym, ap, subst, ◌∙◌, arith, append_assoc, append-nil, lit<, Result, Ok, Err, inl, inr}
use Rattle.std.proofs.lemmas.Bool.Decides.{nat_tests}
use Rattle.std.proofs.lemmas.Str.{IsUtf8-append, IsUtf8-nil}
use Rattle.std.proofs.lemmas.Bool.{cases_lt}
use Rattle.std.specs.Prelude.{codes, nat_le, nat_lt, ◌&&◌, ◌⊎◌, IfOk, if◌then◌else◌}
use Rattle.std.specs.Str.{IsUtf8}
use Rattle.pr_labels.specs.pr_words.private.Reader.{KeepsText, KeepsFront, SplitsText}
use Rattle.pr_labels.proofs.WordsStringUtf8.{before_byte, after_byte, keeps_after, byte_text}
use Rattle.pr_tmpl.specs.declared.kind.TemplateByte.{TemplateByte}
use Rattle.pr_tmpl.specs.declared.kind.TemplateByte.TheVariants.{Open, Digit, SmallV, SmallS, Other}
use Rattle.pr_tmpl.specs.declared.letter.Letter.{Letter}
use Rattle.pr_tmpl.specs.declared.letter.Letter.TheVariants.{Plain, Escape, Broken}
use Rattle.pr_tmpl.specs.declared.quoted.Within.{Within}
use Rattle.pr_tmpl.specs.declared.quoted.Within.TheVariants.{Content, Before, After}
use Rattle.pr_tmpl.specs.Pieces.{escape, kind_of, kind_of_all, ascii_front, escape_bytes, escape_quoted, escape_length}
use Rattle.pr_tmpl.specs.private.Letters.{IsEscape, IsLetter, MeansText, LetterText, are_ascii}
use Rattle.pr_tmpl.specs.private.Reader.{KeepsTextBy, BeginsText, CutsText}
use Rattle.pr_tmpl.specs.private.Quotes.{is_own, means_of, first_byte, IsControl}
use Rattle.pr_tmpl.specs.TemplateText.{is_name_start, is_name_part}
use Rattle.pr_tmpl.specs.private.Parsed.{opens, IsWords}
use Rattle.pr_tmpl.proofs.TextWays.{take_front}

-- a byte that has a kind of its own is ASCII
high : (b : ℕ) → 128 ≤ b → kind_of b ≡ Other
high b h = grind (arith, nat_tests)

small_byte : (b : ℕ) → (kind_of b ≡ Other → ⊥) → b < 128
small_byte b h = elim (cases_lt b 128) [ inl lt ↦ lt | inr ge ↦ absurd (h (high b ge)) ]

small_kind : (k : TemplateByte) (b : ℕ) → k ≡ kind_of b → (k ≡ Other → ⊥) → b < 128
small_kind k b e h = small_byte b (λ o. h (e ∙ o))

pub kind_text : (k : TemplateByte) (text rest : List ℕ) (b : ℕ) → text ≡ b ∷ rest → k ≡ kind_of b → KeepsTextBy k text rest
kind_text Other text rest b e h = tt
kind_text k text rest b e h = keeps_after text rest b e (small_kind k b h (λ o. cc))

pub any_kind : (k : TemplateByte) (text rest : List ℕ) → KeepsText text rest → KeepsTextBy k text rest
any_kind Other text rest h = tt
any_kind k text rest h = h

pub same_kind : (k wanted : TemplateByte) (text rest : List ℕ) → k ≡ wanted → KeepsTextBy k text rest → KeepsTextBy wanted text rest
same_kind k wanted text rest e h = subst (λ (x : TemplateByte). KeepsTextBy x text rest) e h

pub letter_kind : (k : TemplateByte) (text rest : List ℕ) → is_name_start k ≡ true → KeepsTextBy k text rest → KeepsText text rest
letter_kind Other text rest e h = absurd (cc)
letter_kind k text rest e h = h

pub label_kind : (k : TemplateByte) (text rest : List ℕ) → is_name_part k ≡ true → KeepsTextBy k text rest → KeepsText text rest
label_kind Other text rest e h = absurd (cc)
label_kind k text rest e h = h

pub word_kind : (k : TemplateByte) (text rest : List ℕ) → (k ≡ SmallV) ⊎ (k ≡ SmallS) → KeepsTextBy k text rest → KeepsText text rest
word_kind k text rest e h = elim e [ inl v ↦ same_kind k SmallV text rest v h | inr s ↦ same_kind k SmallS text rest s h ]

pub kept_on : (text at rest : List ℕ) → KeepsText text at → KeepsText at rest → KeepsText text rest
kept_on text at rest h k u = k (h u)

pub handed_text : {X E : Type 0} (text at : List ℕ) (r : Result X E) (rest : X → List ℕ) → KeepsText text at → IfOk r (λ x. KeepsText at (rest x)) → IfOk r (λ x. KeepsText text (rest x))
handed_text text at (Ok x) rest k h = λ u. h (k u)
handed_text text at (Err e) rest k h = tt

-- the bytes of a word
first_small : (b : ℕ) (bs : List ℕ) → are_ascii (b ∷ bs) ≡ true → b < 128
first_small b bs e = by_test (nat_lt b 128) refl e
  where
    by_test : (t : Bool) → nat_lt b 128 ≡ t → (t && are_ascii bs) ≡ true → b < 128
    by_test true h k = grind (arith, nat_tests)
    by_test false h k = absurd (cc)

pub word_byte : (word more text rest : List ℕ) (w b : ℕ) → are_ascii word ≡ true → word ≡ w ∷ more → text ≡ b ∷ rest → b ≡ w → KeepsText text rest
word_byte word more text rest w b a e h s = keeps_after text rest b h (subst (λ (x : ℕ). x < 128) (sym s) (first_small w more (ap are_ascii (sym e) ∙ a)))

both_true : (a b : Bool) → (a && b) ≡ true → b ≡ true
both_true true b e = e
both_true false b e = absurd (cc)

more_small : (w : ℕ) (more : List ℕ) → are_ascii (w ∷ more) ≡ true → are_ascii more ≡ true
more_small w more e = both_true (nat_lt w 128) (are_ascii more) e

pub word_rest : (word more : List ℕ) (w : ℕ) → are_ascii word ≡ true → word ≡ w ∷ more → are_ascii more ≡ true
word_rest word more w a e = more_small w more (ap are_ascii (sym e) ∙ a)

-- escapes are ASCII, and so is a text around one
front_text : (n : ℕ) (text : List ℕ) → IsUtf8 (ascii_front n text)
front_text zero text = IsUtf8-nil
front_text (suc n) [] = IsUtf8-nil
front_text (suc n) (b ∷ bs) = by_test (nat_le 128 b) refl (front_text n bs)
  where
    by_test : (t : Bool) → nat_le 128 b ≡ t → IsUtf8 (ascii_front n bs) → IsUtf8 (if t then [] else b ∷ ascii_front n bs)
    by_test true e again = IsUtf8-nil
    by_test false e again = IsUtf8-append (b ∷ []) (ascii_front n bs) (byte_text b (grind (arith, nat_tests))) again

front_keeps : (n : ℕ) (text : List ℕ) → KeepsText text (drop (length (ascii_front n text)) text)
front_keeps zero text u = u
front_keeps (suc n) [] u = u
front_keeps (suc n) (b ∷ bs) u = by_test (nat_le 128 b) refl (front_keeps n bs)
  where
    by_test : (t : Bool) → nat_le 128 b ≡ t → KeepsText bs (drop (length (ascii_front n bs)) bs) → IsUtf8 (drop (length (if t then [] else b ∷ ascii_front n bs)) (b ∷ bs))
    by_test true e again = u
    by_test false e again = again (after_byte [] bs b (grind (arith, nat_tests)) u)

two_bytes : IsUtf8 (codes "\"\\")
two_bytes = IsUtf8-append (codes "\"") (codes "\\") (byte_text 34 (lit< tt)) (byte_text 92 (lit< tt))

pub quoted_text : (text quoted : List ℕ) → quoted ≡ escape_quoted (escape_bytes text) → IsUtf8 quoted
quoted_text text quoted e = subst IsUtf8 (sym e)
    (IsUtf8-append (codes "\"\\") (escape_bytes text ++ codes "\"") two_bytes (IsUtf8-append (escape_bytes text) (codes "\"") (front_text (escape_length text) text) (byte_text 34 (lit< tt))))

pub escape_keeps : (text rest : List ℕ) → rest ≡ drop (length (escape_bytes text)) text → KeepsText text rest
escape_keeps text rest e = subst (KeepsText text) (sym e) (front_keeps (escape_length text) text)

pub begins_at : (text rest : List ℕ) (b : ℕ) → text ≡ b ∷ rest → b < 128 → BeginsText text
begins_at text rest b e h front u =
    let v = subst (λ (xs : List ℕ). IsUtf8 (front ++ xs)) e u in
    (before_byte front rest b h v, subst IsUtf8 (sym e) (IsUtf8-append (b ∷ []) rest (byte_text b h) (after_byte front rest b h v)))

pub letter_text : (text at rest : List ℕ) (b : ℕ) (l : Letter) → text ≡ b ∷ at → b ≡ 92 → MeansText at l rest → LetterText text l rest
letter_text text at rest b (Escape k means) e h m =
    let small : b < 128 = omega (arith, h) in
    (m.0, λ u. m.1 (keeps_after text at b e small u), begins_at text at b e small)
letter_text text at rest b (Plain k c) e h m = tt
letter_text text at rest b Broken e h m = tt

-- letters that stand for themselves, and others
broken_not_own : (w : Within) → is_own w Broken ≡ false
broken_not_own Content = refl
broken_not_own Before = refl
broken_not_own After = refl

pub own_text : (w : Within) (l : Letter) (text rest : List ℕ) → IsLetter text l rest → LetterText text l rest → is_own w l ≡ true → KeepsFront text (means_of l) rest
own_text w (Plain k b) text rest h m e front u = subst (λ (xs : List ℕ). IsUtf8 (front ++ xs)) h.bytes_are u
own_text w (Escape k means) text rest h m e front u =
    let parts = m.2 front u in
    IsUtf8-append front (means.items ++ rest) parts.0 (IsUtf8-append means.items rest m.0 (m.1 parts.1))
own_text w Broken text rest h m e front u = absurd (let f : true ≡ false = sym e ∙ broken_not_own w in cc)

other_owns : (w : Within) (b : ℕ) → is_own w (Plain Other b) ≡ true
other_owns Content b = refl
other_owns Before b = refl
other_owns After b = refl

not_own : (w : Within) (k : TemplateByte) (b : ℕ) → is_own w (Plain k b) ≡ false → k ≡ Other → ⊥
not_own w k b e o = let t : is_own w (Plain k b) ≡ true = ap (λ (x : TemplateByte). is_own w (Plain x b)) o ∙ other_owns w b in let f : true ≡ false = sym t ∙ e in cc

pub other_begins : (w : Within) (l : Letter) (text rest : List ℕ) → IsLetter text l rest → LetterText text l rest → is_own w l ≡ false → (l ≡ Broken → ⊥) → BeginsText text
other_begins w (Plain k b) text rest h m e n = begins_at text rest b h.bytes_are (small_kind k b h.kind_is (not_own w k b e))
other_begins w (Escape k means) text rest h m e n = m.2
other_begins w Broken text rest h m e n = absurd (n refl)

pub end_begins : (text : List ℕ) → text ≡ [] → BeginsText text
end_begins text e front u = (subst IsUtf8 (ap (λ (xs : List ℕ). front ++ xs) e ∙ append-nil front) u, subst IsUtf8 (sym e) IsUtf8-nil)

pub one_letter : (now next bytes text rest : List ℕ) → next ≡ now ++ bytes → KeepsFront text bytes rest → IsUtf8 (now ++ text) → IsUtf8 (next ++ rest)
one_letter now next bytes text rest e k u = subst IsUtf8 (sym (append_assoc now bytes rest) ∙ ap (λ (xs : List ℕ). xs ++ rest) (sym e)) (k now u)

-- braces
open_small : (b : ℕ) → Open ≡ kind_of b → b < 128
open_small b e = small_kind Open b e (λ o. cc)

pub brace_cuts : (l : Letter) (text rest : List ℕ) → IsLetter text l rest → opens l ≡ true → CutsText text rest
brace_cuts (Plain Open b) text rest h e front u =
    let v = subst (λ (xs : List ℕ). IsUtf8 (front ++ xs)) h.bytes_are u in
    let small = open_small b h.kind_is in
    (before_byte front rest b small v, after_byte front rest b small v)
brace_cuts (Plain k b) text rest h e front u = absurd (cc)
brace_cuts (Escape k means) text rest h e front u = absurd (cc)
brace_cuts Broken text rest h e front u = absurd (cc)

pub two_cut : (text at rest : List ℕ) → CutsText text at → CutsText at rest → CutsText text rest
two_cut text at rest h k front u = let one = h front u in (one.0, (k [] one.1).1)

pub words_split : (text at rest words : List ℕ) → IsWords text at → CutsText at rest → words ≡ take (length text - length at) text → SplitsText text words rest
words_split text at rest words h k e u =
    let cut = k h.words (subst IsUtf8 h.bytes_are u) in
    let same : words ≡ h.words = e ∙ (ap (λ (xs : List ℕ). take (length xs - length at) xs) h.bytes_are ∙ take_front h.words at) in
    (subst IsUtf8 (sym same) cut.0, cut.1)

-- an escape as a format counts it
digit_means : (means : List ℕ) → Digit ≡ kind_of_all means → first_byte means ≤ 57
digit_means [] e = absurd (cc)
digit_means (b ∷ []) e = digit_byte b e
  where
    digit_byte : (b : ℕ) → Digit ≡ kind_of b → b ≤ 57
    digit_byte b e = grind (arith, nat_tests)
digit_means (a ∷ b ∷ bs) e = absurd (cc)

pub escape_control : (text rest means : List ℕ) (k : TemplateByte) (b : ℕ) → IsEscape text k means rest → b ≡ first_byte means → IsControl text k b rest
escape_control text rest means k b h e = record {
  piece = escape k h.raw means;
  pieces_are = h.pieces_are;
  counts = (refl, e);
  digit = λ d. subst (λ (n : ℕ). n ≤ 57) (sym e) (digit_means means (sym d ∙ h.kind_is));
}
