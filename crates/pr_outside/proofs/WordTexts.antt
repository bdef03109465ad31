-- The words of the command line, as they are asked for.
use Rattle.std.proofs.Common.{◌≡◌, ℕ, suc, ◌+◌, ◌≤◌, ◌<◌, ◌^◌, Bool, true, false, cond, nat_lt, List, [], ◌∷◌, ◌++◌, Option, Some, None, IfSome, String, Global, string_bytes, length, map, take, drop, get_or, slice_get, refl, sym, ap, ◌∙◌, append_assoc, append-nil, length-append, drop-cons, Result, Ok, Err, arith}
use Rattle.std.proofs.Math.ListN.{drop_of_length-le}
use Rattle.std.proofs.lemmas.List.{length-map, map-append}
use Rattle.std.proofs.lemmas.Option.{get_or_from_slice_get, slice_get-map, slice_get_read, slice_get_within}
use Rattle.std.specs.Option.{option_map}
use Rattle.std.specs.declared.env.FillError.{FillError}
use Rattle.std.specs.declared.env.FillError.TheVariants as fill
use Rattle.std.specs.Str.{IsUtf8, is_utf8}
use Rattle.std.proofs.lemmas.Str.{IsUtf8-from_is_utf8, is_utf8-from_IsUtf8}
use Rattle.pr_outside.specs.Words.{text_of, word_of, word_limit}
use Rattle.pr_outside.specs.private.Words.{word_bytes, held_bytes, IsCopied, IsCopiedFrom, IsTaken, IsWord}
use Rattle.pr_outside.specs.declared.status.words.HeldWord.{HeldWord}
use Rattle.pr_outside.specs.declared.status.words.Copied.TheVariants as copied

false_else : (b : Bool) → (b ≡ true → ⊥) → b ≡ false
false_else true h = absurd (h refl)
false_else false h = refl

pub told_text : (bytes text : List ℕ) → (text ≡ bytes) × IsUtf8 bytes → text ≡ text_of bytes
unfolding text_of
told_text bytes text h = h.0 ∙ sym (ap (λ (b : Bool). cond b bytes []) (is_utf8-from_IsUtf8 bytes h.1))

pub told_none : (bytes : List ℕ) → (IsUtf8 bytes → ⊥) → [] ≡ text_of bytes
unfolding text_of
told_none bytes h = sym (ap (λ (b : Bool). cond b bytes []) (false_else (is_utf8 bytes) (λ t. h (IsUtf8-from_is_utf8 bytes t))))

-- the bytes of a word were copied, of which no more fit
pub taken_word : (words : Option (List (List ℕ))) (index size n : ℕ) (buf : List ℕ) (text : String Global) → IfSome words (λ all. slice_get all index ≡ Some (take n buf))
    → length (take n buf) ≤ size → string_bytes text ≡ text_of (take n buf) → IfSome words (λ all. IsTaken all index size (copied.Word text))
taken_word None index size n buf text w le is = tt
taken_word (Some all) index size n buf text w le is = (take n buf, w, le, is)

-- a word that has no more bytes than it may is its text, and one that has is empty
within : (word : List ℕ) (longer : Bool) → nat_lt word_limit (length word) ≡ longer → longer ≡ false → text_of word ≡ word_of word
within word longer is none = sym (ap (λ (b : Bool). cond b [] (text_of word)) (is ∙ none))

above : (word : List ℕ) → nat_lt word_limit (length word) ≡ true → [] ≡ word_of word
above word is = sym (ap (λ (b : Bool). cond b [] (text_of word)) is)

no_more : (word : List ℕ) → length word ≤ word_limit → nat_lt word_limit (length word) ≡ false
no_more word le = grind (arith, le)

more : (word : List ℕ) → word_limit < length word → nat_lt word_limit (length word) ≡ true
more word lt = grind (arith, lt)

pub word_text : (words : Option (List (List ℕ))) (index size : ℕ) (text : String Global) → size ≤ 2 ^ 30 → IfSome words (λ all. IsTaken all index size (copied.Word text))
    → IfSome words (λ all. IsWord all index (Some text))
word_text None index size text le t = tt
word_text (Some all) index size text le t =
    let fits : length t.0 ≤ word_limit = omega (arith, t.2, le) in
    (t.0, t.1, t.3 ∙ within t.0 (nat_lt word_limit (length t.0)) refl (no_more t.0 fits))

pub word_long : (words : Option (List (List ℕ))) (index : ℕ) (text : String Global) → string_bytes text ≡ [] → IfSome words (λ all. IsTaken all index (2 ^ 30) copied.TooLong)
    → IfSome words (λ all. IsWord all index (Some text))
word_long None index text none t = tt
word_long (Some all) index text none t = (t.0, t.1, none ∙ above t.0 (more t.0 t.2))

-- the words so far, and those to come
abbrev pub AreTaken : List (String Global) → List (List ℕ) → Type 0
AreTaken words all = map string_bytes words ++ map word_of (drop (length words + 1) all) ≡ map word_of (drop 1 all)

next_word : (all : List (List ℕ)) (n : ℕ) (word : List ℕ) → slice_get all n ≡ Some word → drop n all ≡ word ∷ drop (n + 1) all
next_word all n word is =
    let one : suc n ≡ n + 1 = omega arith in
    drop-cons all n word (slice_get_within all n word is) ∙ ap (λ (k : ℕ). get_or all n word ∷ drop k all) one
    ∙ ap (λ (w : List ℕ). w ∷ drop (n + 1) all) (get_or_from_slice_get all n word word is)

one_more : (all : List (List ℕ)) (words : List (String Global)) (text : String Global) → AreTaken words all → IsWord all (length words + 1) (Some text) → AreTaken (words ++ text ∷ []) all
one_more all words text h w =
    let n : ℕ = length words + 1 in
    let longer : length (words ++ text ∷ []) ≡ n = length-append words (text ∷ []) in
    let rest : List (List ℕ) = map word_of (drop (n + 1) all) in
    ap (λ (k : ℕ). map string_bytes (words ++ text ∷ []) ++ map word_of (drop (k + 1) all)) longer
    ∙ ap (λ (l : List (List ℕ)). l ++ rest) (map-append string_bytes words (text ∷ []))
    ∙ append_assoc (map string_bytes words) (string_bytes text ∷ []) rest
    ∙ ap (λ (b : List ℕ). map string_bytes words ++ b ∷ rest) w.2
    ∙ ap (λ (l : List (List ℕ)). map string_bytes words ++ map word_of l) (sym (next_word all n w.0 w.1))
    ∙ h

pub words_more : (told : Option (List (List ℕ))) (words : List (String Global)) (text : String Global) → IfSome told (AreTaken words) → IfSome told (λ all. IsWord all (length words + 1) (Some text))
    → IfSome told (AreTaken (words ++ text ∷ []))
words_more None words text h w = tt
words_more (Some all) words text h w = one_more all words text h w

pub words_done : (told : Option (List (List ℕ))) (words : List (String Global)) → IfSome told (AreTaken words) → IfSome told (λ all. IsWord all (length words + 1) None)
    → IfSome told (λ all. map string_bytes words ≡ map word_of (drop 1 all))
words_done None words h w = tt
words_done (Some all) words h w =
    sym (append-nil (map string_bytes words)) ∙ ap (λ (l : List (List ℕ)). map string_bytes words ++ map word_of l) (sym (drop_of_length-le all w)) ∙ h

-- words in memory
held_at : (words : List HeldWord) (index : ℕ) (word : HeldWord) → slice_get words index ≡ Some word → slice_get (held_bytes words) index ≡ Some word.bytes.items
held_at words index word is = slice_get-map word_bytes words index ∙ ap (option_map word_bytes) is

pub held_none : (words : List HeldWord) (index : ℕ) → length words ≤ index → length (held_bytes words) ≤ index
held_none words index le = omega (arith, le, length-map words word_bytes)

pub held_copied : (words : List HeldWord) (index : ℕ) (word : HeldWord) (buf : List ℕ) (r : Result ℕ FillError) → index < length words → word ≡ get_or words index word
    → IsCopiedFrom word.bytes.items buf r → IsCopied (held_bytes words) index buf r
held_copied words index word buf r lt is c = by r c
  where
    here : slice_get (held_bytes words) index ≡ Some word.bytes.items
    here = held_at words index word (slice_get_read words (length words) index word refl lt is)

    by : (r : Result ℕ FillError) → IsCopiedFrom word.bytes.items buf r → IsCopied (held_bytes words) index buf r
    by (Ok n) c = here ∙ ap (λ (b : List ℕ). Some b) c
    by (Err fill.NotPresent) c = absurd c
    by (Err fill.TooLong) c = (word.bytes.items, here, c)
