-- What stands before a line's first byte that is no text is UTF-8, however the line is cut at ASCII
-- bytes.
use Rattle.std.proofs.Common.{◌≡◌, ℕ, zero, suc, ◌+◌, ◌-◌, ◌<◌, ◌≤◌, ◌==◌, Bool, true, false, cond, if◌then◌else◌, List, [], ◌∷◌, ◌++◌, length, get_or, take, drop, refl, sym, subst, ap, arith, append_assoc, append-nil, length-append, take_all, inl, inr}
use Rattle.std.specs.List.{slice_split, onto_first, prefix_len, list_all}
use Rattle.std.specs.Str.{IsUtf8}
use Rattle.std.proofs.Math.Seq.{take-append_seam, get_or-append_seam}
use Rattle.std.proofs.lemmas.Bool.{cases_lt}
use Rattle.std.proofs.lemmas.Bool.Decides.{nat_tests}
use Rattle.std.proofs.lemmas.Str.{IsUtf8-take, IsUtf8-drop, IsCharBoundary-before_ascii, IsCharBoundary-from_take}
use Rattle.pr_words.specs.Lines.{is_feed, without_return, ended, text_lines}
use Rattle.pr_words.specs.Bytes.{is_blank}
use Rattle.pr_words.proofs.StringUtf8.{before_byte, after_byte}
use Rattle.pr_yaml.specs.Bytes.{no_text, is_bare, blanks_len}
use Rattle.pr_yaml.proofs.Shorter.{one_more}
use Rattle.pr_yaml.proofs.QuotedLines.{first_true}
use Rattle.pr_yaml.specs.private.Legible.{legible_part, IsLegible, AreLegible}

apart : (b : ℕ) → b < 128 → no_text b ≡ false
apart b h = grind (arith, nat_tests)

pub clean_byte : (b : ℕ) (rest : List ℕ) → no_text b ≡ false → legible_part (b ∷ rest) ≡ b ∷ legible_part rest
clean_byte b rest e = rw e refl

-- a line is cut before and after an ASCII byte
module _ (t rest : List ℕ) (b : ℕ) (small : b < 128) (u : IsUtf8 (t ++ legible_part (b ∷ rest))) where
  seam : IsUtf8 (t ++ b ∷ legible_part rest)
  seam = subst (λ l. IsUtf8 (t ++ l)) (clean_byte b rest (apart b small)) u

  pub before : IsUtf8 t
  before = before_byte t (legible_part rest) b small seam

  pub onward : IsLegible rest
  onward = after_byte t (legible_part rest) b small seam

-- what is UTF-8 is so up to a byte that is no text
cut_before : (t rest : List ℕ) (b : ℕ) → no_text b ≡ true → IsUtf8 (t ++ b ∷ rest) → IsUtf8 t
cut_before t rest b e u =
    let big : 192 ≤ b = grind (arith, nat_tests) in
    let at = get_or-append_seam t b rest 0 in
    let long = length-append t (b ∷ rest) in
    subst IsUtf8 (take-append_seam t (b ∷ rest)) (IsUtf8-take (t ++ b ∷ rest) (length t) u (omega (arith, long), λ _ _. omega (arith, at, big)))

pub front_legible : (t l : List ℕ) → IsUtf8 (t ++ l) → IsUtf8 (t ++ legible_part l)
front_legible t [] u = u
front_legible t (b ∷ l) u = by_test (no_text b) refl (front_legible (t ++ b ∷ []) l (subst IsUtf8 (sym (append_assoc t (b ∷ []) l)) u)) where
  by_test : (x : Bool) → no_text b ≡ x → IsUtf8 ((t ++ b ∷ []) ++ legible_part l) → IsUtf8 (t ++ (if x then [] else b ∷ legible_part l))
  by_test true e again = subst IsUtf8 (sym (append-nil t)) (cut_before t l b e u)
  by_test false e again = subst IsUtf8 (append_assoc t (b ∷ []) (legible_part l)) again

before_no_text : (t : List ℕ) → legible_part (t ++ 0xFF ∷ []) ≡ legible_part t
before_no_text [] = refl
before_no_text (b ∷ t) = by_test (no_text b) (before_no_text t) where
  by_test : (x : Bool) → legible_part (t ++ 0xFF ∷ []) ≡ legible_part t → (if x then [] else b ∷ legible_part (t ++ 0xFF ∷ [])) ≡ (if x then [] else b ∷ legible_part t)
  by_test true e = refl
  by_test false e = ap (λ l. b ∷ l) e

-- The parts of a text between line feeds, where `t` stands before the first of them.
abbrev Parts : List ℕ → List (List ℕ) → Type 0
Parts t [] = IsLegible t
Parts t (l ∷ ls) = IsLegible (t ++ l) × AreLegible ls

parts_onto : (t : List ℕ) (b : ℕ) (ls : List (List ℕ)) → Parts (t ++ b ∷ []) ls → Parts t (onto_first b ls)
parts_onto t b [] h = (h, tt)
parts_onto t b (l ∷ ls) h = (subst IsLegible (append_assoc t (b ∷ []) l) h.0, h.1)

all_parts : (ls : List (List ℕ)) → Parts [] ls → AreLegible ls
all_parts [] h = tt
all_parts (l ∷ ls) h = h

split_legible : (t text last : List ℕ) → ((u : List ℕ) → IsUtf8 u → Parts u (slice_split is_feed last)) → IsUtf8 (t ++ text) → Parts t (slice_split is_feed (text ++ last))
split_legible t [] last end u = end t (subst IsUtf8 (append-nil t) u)
split_legible t (b ∷ text) last end u = by_test (is_feed b) refl (λ v. split_legible [] text last end v) (λ v. split_legible (t ++ b ∷ []) text last end v) where
  by_test : (x : Bool) → is_feed b ≡ x → (IsUtf8 text → Parts [] (slice_split is_feed (text ++ last))) → (IsUtf8 ((t ++ b ∷ []) ++ text) → Parts (t ++ b ∷ []) (slice_split is_feed (text ++ last))) →
      Parts t (cond x ([] ∷ slice_split is_feed (text ++ last)) (onto_first b (slice_split is_feed (text ++ last))))
  by_test true e below beside =
      let small : b < 128 = grind (arith, nat_tests) in
      (subst IsLegible (sym (append-nil t)) (front_legible [] t (before_byte t text b small u)), all_parts (slice_split is_feed (text ++ last)) (below (after_byte t text b small u)))
  by_test false e below beside = parts_onto t b (slice_split is_feed (text ++ last)) (beside (subst IsUtf8 (sym (append_assoc t (b ∷ []) text)) u))

-- without the carriage return at a line's end
part_take : (n : ℕ) (l : List ℕ) → legible_part (take n l) ≡ take n (legible_part l)
part_take zero l = refl
part_take (suc n) [] = refl
part_take (suc n) (b ∷ l) = by_test (no_text b) (part_take n l) where
  by_test : (x : Bool) → legible_part (take n l) ≡ take n (legible_part l) → (if x then [] else b ∷ legible_part (take n l)) ≡ take (suc n) (if x then [] else b ∷ legible_part l)
  by_test true e = refl
  by_test false e = ap (λ m. b ∷ m) e

part_at : (n : ℕ) (l : List ℕ) → n < length (legible_part l) → get_or (legible_part l) n 0 ≡ get_or l n 0
part_at n [] h = absurd (omega arith)
part_at n (b ∷ l) h = by_test (no_text b) n h (λ m. part_at m l) where
  by_test : (x : Bool) (n : ℕ) → n < length (if x then [] else b ∷ legible_part l) → ((m : ℕ) → m < length (legible_part l) → get_or (legible_part l) m 0 ≡ get_or l m 0) →
      get_or (if x then [] else b ∷ legible_part l) n 0 ≡ get_or (b ∷ l) n 0
  by_test true n h again = absurd (omega (arith, h))
  by_test false zero h again = refl
  by_test false (suc n) h again = again n (omega (arith, h))

cut_at_ascii : (n : ℕ) (l : List ℕ) → get_or l n 0 < 128 → IsLegible l → IsLegible (take n l)
cut_at_ascii n l small u = subst IsUtf8 (sym (part_take n l)) (elim (cases_lt n (length (legible_part l))) [
  | inl lt ↦ let e = part_at n l lt in IsUtf8-take (legible_part l) n u (IsCharBoundary-before_ascii (legible_part l) n lt (omega (arith, e, small)))
  | inr ge ↦ subst IsUtf8 (sym (take_all n (legible_part l) ge)) u
])

return_legible : (l : List ℕ) → IsLegible l → IsLegible (without_return l)
return_legible l u = by_test (get_or l (length l - 1) 0 == 13) refl where
  by_test : (x : Bool) → (get_or l (length l - 1) 0 == 13) ≡ x → IsLegible (if x then take (length l - 1) l else l)
  by_test true e = cut_at_ascii (length l - 1) l (grind (arith, nat_tests)) u
  by_test false e = u

ended_legible : (ls : List (List ℕ)) → AreLegible ls → AreLegible (ended ls)
ended_legible [] h = tt
ended_legible (l ∷ []) h = h
ended_legible (l ∷ (m ∷ more)) h = (return_legible l h.0, ended_legible (m ∷ more) h.1)

-- the lines of a text that is UTF-8, and of one that is so up to a byte that is no text
pub whole_lines : (text : List ℕ) → IsUtf8 text → AreLegible (text_lines text)
unfolding text_lines
whole_lines text u =
    let parts = split_legible [] text [] (λ v h. (subst IsLegible (sym (append-nil v)) (front_legible [] v h), tt)) u in
    ended_legible (slice_split is_feed text) (all_parts (slice_split is_feed text) (subst (λ t. Parts [] (slice_split is_feed t)) (append-nil text) parts))

pub front_lines : (text : List ℕ) → IsUtf8 text → AreLegible (text_lines (text ++ 0xFF ∷ []))
unfolding text_lines
front_lines text u =
    ended_legible (slice_split is_feed (text ++ 0xFF ∷ [])) (all_parts (slice_split is_feed (text ++ 0xFF ∷ []))
    (split_legible [] text (0xFF ∷ []) (λ v h. (subst IsUtf8 (sym (before_no_text v)) (front_legible [] v h), tt)) u))

-- after blanks
pub blank_small : (b : ℕ) → is_blank b ≡ true → b < 128
blank_small b e = grind (arith, nat_tests)

pub blanks_legible : (l : List ℕ) → IsLegible l → IsLegible (drop (blanks_len l) l)
unfolding blanks_len
blanks_legible [] u = u
blanks_legible (b ∷ l) u = by_test (is_blank b) refl (λ v. blanks_legible l v) where
  by_test : (x : Bool) → is_blank b ≡ x → (IsLegible l → IsLegible (drop (prefix_len is_blank l) l)) → IsLegible (drop (cond x (1 + prefix_len is_blank l) 0) (b ∷ l))
  by_test true e again = subst IsLegible (sym (one_more (prefix_len is_blank l) b l)) (again (onward [] l b (blank_small b e) u))
  by_test false e again = u

-- before a line's last blanks
pub bare_front : (t l : List ℕ) → is_bare l ≡ true → IsUtf8 (t ++ legible_part l) → IsUtf8 t
unfolding is_bare
bare_front t [] e u = subst IsUtf8 (append-nil t) u
bare_front t (b ∷ l) e u = before t l b (blank_small b (first_true (is_blank b) (list_all is_blank l) e)) u

-- after a front that is UTF-8
part_drop : (n : ℕ) (l : List ℕ) → n ≤ length (legible_part l) → legible_part (drop n l) ≡ drop n (legible_part l)
part_drop zero l h = refl
part_drop (suc n) [] h = absurd (omega arith)
part_drop (suc n) (b ∷ l) h = by_test (no_text b) h (part_drop n l) where
  by_test : (x : Bool) → suc n ≤ length (if x then [] else b ∷ legible_part l) → (n ≤ length (legible_part l) → legible_part (drop n l) ≡ drop n (legible_part l)) →
      legible_part (drop n l) ≡ drop (suc n) (if x then [] else b ∷ legible_part l)
  by_test true h again = absurd (omega (arith, h))
  by_test false h again = again (omega (arith, h))

part_front : (n : ℕ) (l : List ℕ) → n ≤ length (legible_part l) → take n (legible_part l) ≡ take n l
part_front zero l h = refl
part_front (suc n) [] h = absurd (omega arith)
part_front (suc n) (b ∷ l) h = by_test (no_text b) h (part_front n l) where
  by_test : (x : Bool) → suc n ≤ length (if x then [] else b ∷ legible_part l) → (n ≤ length (legible_part l) → take n (legible_part l) ≡ take n l) →
      take (suc n) (if x then [] else b ∷ legible_part l) ≡ take (suc n) (b ∷ l)
  by_test true h again = absurd (omega (arith, h))
  by_test false h again = ap (λ m. b ∷ m) (again (omega (arith, h)))

pub cut_after : (n : ℕ) (l : List ℕ) → n ≤ length (legible_part l) → IsLegible l → IsUtf8 (take n l) → IsLegible (drop n l)
cut_after n l h u front = subst IsUtf8 (sym (part_drop n l h)) (IsUtf8-drop (legible_part l) n u (IsCharBoundary-from_take (legible_part l) n u h (subst IsUtf8 (sym (part_front n l h)) front)))
