-- The files that a text names, field by field.
use Rattle.std.proofs.Common.{◌≡◌, ℕ, zero, suc, ◌+◌, ◌<◌, ◌≤◌, ◌⊎◌, inl, inr, Bool, true, false, List, [], ◌∷◌, ◌++◌, Some, None, refl, sym, ap, subst, ◌∙◌, ◌==◌, length, take, drop, get_or, arith}
use Rattle.std.specs.Prelude.{Option}
use Rattle.std.specs.List.{position_or_len}
use Rattle.std.proofs.lemmas.Bool.Decides.{nat_tests}
use Rattle.std.proofs.lemmas.List.{length-drop, append_assoc, append-nil}
use Rattle.pr_words.specs.Bytes.{is_blank}
use Rattle.pr_words.specs.Fields.{is_field_byte, first_field, after_field}
use Rattle.spec_world.specs.Loading.{FileToLoad}
use Rattle.pr_text.specs.Reloads.{file_of, files_in, files_within, with_file}

-- How many bytes are left behind a field

left_by : (b : ℕ) (text : List ℕ) (blank : Bool) → is_blank b ≡ blank
    → (file_of (first_field (b ∷ text)) ≡ None) ⊎ (length (after_field (b ∷ text)) ≤ length text)
left_by b text true is = inl (rw is refl)
left_by b text false is =
    let k : ℕ = position_or_len is_blank (b ∷ text) in
    let one : k ≡ 1 + position_or_len is_blank text = rw is refl in
    let rest : List ℕ = drop k (b ∷ text) in
    inr (omega (arith, one, length-drop k (b ∷ text), length-drop (position_or_len is_field_byte rest) rest))

none_first : (o : Option FileToLoad) (files other : Option (List FileToLoad)) → o ≡ None → with_file o files ≡ with_file o other
none_first None files other e = refl
none_first (Some f) files other e = absurd (cc)

-- as many fields as bytes are enough
enough : (text : List ℕ) (n m : ℕ) → length text ≤ n → length text ≤ m → files_within text n ≡ files_within text m
enough [] n m h k = refl
enough (b ∷ text) zero m h k = absurd (omega (arith, h))
enough (b ∷ text) (suc n) zero h k = absurd (omega (arith, k))
enough (b ∷ text) (suc n) (suc m) h k =
    by (left_by b text (is_blank b) refl) (λ less. enough (after_field (b ∷ text)) n m (omega (arith, less, h)) (omega (arith, less, k)))
  where
    by : (file_of (first_field (b ∷ text)) ≡ None) ⊎ (length (after_field (b ∷ text)) ≤ length text)
        → (length (after_field (b ∷ text)) ≤ length text → files_within (after_field (b ∷ text)) n ≡ files_within (after_field (b ∷ text)) m)
        → files_within (b ∷ text) (suc n) ≡ files_within (b ∷ text) (suc m)
    by (inl none) more = none_first (file_of (first_field (b ∷ text))) (files_within (after_field (b ∷ text)) n) (files_within (after_field (b ∷ text)) m) none
    by (inr less) more = ap (with_file (file_of (first_field (b ∷ text)))) (more less)

pub none_named : files_in [] ≡ Some []
unfolding files_in
none_named = refl

next_by : (b : ℕ) (text : List ℕ) → (file_of (first_field (b ∷ text)) ≡ None) ⊎ (length (after_field (b ∷ text)) ≤ length text)
    → files_in (b ∷ text) ≡ with_file (file_of (first_field (b ∷ text))) (files_in (after_field (b ∷ text)))
unfolding files_in
next_by b text (inl none) =
    none_first (file_of (first_field (b ∷ text))) (files_within (after_field (b ∷ text)) (length text)) (files_within (after_field (b ∷ text)) (length (after_field (b ∷ text)))) none
next_by b text (inr less) =
    ap (with_file (file_of (first_field (b ∷ text)))) (enough (after_field (b ∷ text)) (length text) (length (after_field (b ∷ text))) less (omega arith))

pub next_named : (b : ℕ) (text : List ℕ) → files_in (b ∷ text) ≡ with_file (file_of (first_field (b ∷ text))) (files_in (after_field (b ∷ text)))
next_named b text = next_by b text (left_by b text (is_blank b) refl)

-- the files that were read, and those that are still to come
abbrev pub joined : List FileToLoad → Option (List FileToLoad) → Option (List FileToLoad)
joined files None = None
joined files (Some more) = Some (files ++ more)

-- what stands before a place, at it, and behind it
pub split_at_place : (at : ℕ) (field : List ℕ) → at < length field → take at field ++ (get_or field at 0 ∷ drop (at + 1) field) ≡ field
split_at_place at [] lt = absurd (omega (arith, lt))
split_at_place zero (b ∷ field) lt = refl
split_at_place (suc at) (b ∷ field) lt =
    let next : suc (at + 1) ≡ suc at + 1 = omega arith in
    subst (λ (k : ℕ). take (suc at) (b ∷ field) ++ (get_or (b ∷ field) (suc at) 0 ∷ drop k (b ∷ field)) ≡ b ∷ field) next
    (ap (λ (bytes : List ℕ). b ∷ bytes) (split_at_place at field (omega (arith, lt))))

joined_on : (files : List FileToLoad) (f : FileToLoad) (more : Option (List FileToLoad)) → joined (files ++ (f ∷ [])) more ≡ joined files (with_file (Some f) more)
joined_on files f None = refl
joined_on files f (Some more) = ap (λ (fs : List FileToLoad). Some fs) (append_assoc files (f ∷ []) more)

-- one file further
pub joined_next : (files : List FileToLoad) (text : List ℕ) (f : FileToLoad) → (length text == 0) ≡ false → file_of (first_field text) ≡ Some f
    → joined (files ++ (f ∷ [])) (files_in (after_field text)) ≡ joined files (files_in text)
joined_next files [] f some is = absurd (cc)
joined_next files (b ∷ text) f some is =
    joined_on files f (files_in (after_field (b ∷ text)))
    ∙ ap (λ (o : Option FileToLoad). joined files (with_file o (files_in (after_field (b ∷ text))))) (sym is)
    ∙ ap (joined files) (sym (next_named b text))

pub joined_bad : (files : List FileToLoad) (text : List ℕ) → (length text == 0) ≡ false → file_of (first_field text) ≡ None → joined files (files_in text) ≡ None
joined_bad files [] some is = absurd (cc)
joined_bad files (b ∷ text) some is =
    ap (joined files) (next_named b text) ∙ ap (λ (o : Option FileToLoad). joined files (with_file o (files_in (after_field (b ∷ text))))) is

pub joined_all : (files : List FileToLoad) (text : List ℕ) → (length text == 0) ≡ true → joined files (files_in text) ≡ Some files
joined_all files [] none = ap (joined files) none_named ∙ ap (λ (fs : List FileToLoad). Some fs) (append-nil files)
joined_all files (b ∷ text) none = absurd (grind (arith, nat_tests))

shorter_by : (b : ℕ) (text : List ℕ) (f : FileToLoad) → file_of (first_field (b ∷ text)) ≡ Some f
    → (file_of (first_field (b ∷ text)) ≡ None) ⊎ (length (after_field (b ∷ text)) ≤ length text) → length (after_field (b ∷ text)) < length (b ∷ text)
shorter_by b text f is (inl none) = absurd (cc)
shorter_by b text f is (inr less) = omega (arith, less)

-- a file less is to come
pub shorter : (text : List ℕ) (f : FileToLoad) → (length text == 0) ≡ false → file_of (first_field text) ≡ Some f → length (after_field text) < length text
shorter [] f some is = absurd (cc)
shorter (b ∷ text) f some is = shorter_by b text f is (left_by b text (is_blank b) refl)
