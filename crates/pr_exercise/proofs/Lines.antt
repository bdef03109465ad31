-- The first line of a text.
use Rattle.std.proofs.Common.{◌≡◌, ◌≢◌, ℕ, ◌+◌, Bool, true, false, not, eqb, cond, List, [], ◌∷◌, take, drop, refl, sym, ap, ◌∙◌, arith, suc}
use Rattle.std.specs.List.{onto_first, position_or_len}
use Rattle.pr_outside.specs.pr_words.Lines.{is_feed, lines_of}

pub some_left : (b : ℕ) (bytes : List ℕ) → b ∷ bytes ≢ []
some_left b bytes e = absurd (cc)

front : (n : ℕ) (b : ℕ) (bytes : List ℕ) → take (1 + n) (b ∷ bytes) ≡ b ∷ take n bytes
front n b bytes = let is : 1 + n ≡ suc n = omega arith in ap (λ (k : ℕ). take k (b ∷ bytes)) is

rest : (n : ℕ) (b : ℕ) (bytes : List ℕ) → drop (1 + n) (b ∷ bytes) ≡ drop n bytes
rest n b bytes = let is : 1 + n ≡ suc n = omega arith in ap (λ (k : ℕ). drop k (b ∷ bytes)) is

-- what stands before its line feed, and what stands behind that
pub first_line : (text : List ℕ) → text ≢ [] → lines_of text ≡ take (position_or_len is_feed text) text ∷ lines_of (drop 1 (drop (position_or_len is_feed text) text))
first_line [] some = absurd (some refl)
first_line (b ∷ []) some = by (eqb b 10)
  where
    by : (t : Bool) → cond t ([] ∷ []) (onto_first b []) ≡ take (cond (not t) (1 + 0) 0) (b ∷ []) ∷ lines_of (drop 1 (drop (cond (not t) (1 + 0) 0) (b ∷ [])))
    by true = refl
    by false = refl
first_line (b ∷ c ∷ bytes) some =
    by (eqb b 10) (position_or_len is_feed (c ∷ bytes)) (lines_of (c ∷ bytes)) refl (first_line (c ∷ bytes) (some_left c bytes))
  where
    by : (t : Bool) (n : ℕ) (lines : List (List ℕ)) → lines ≡ lines_of (c ∷ bytes) → lines ≡ take n (c ∷ bytes) ∷ lines_of (drop 1 (drop n (c ∷ bytes)))
        → cond t ([] ∷ lines) (onto_first b lines) ≡ take (cond (not t) (1 + n) 0) (b ∷ c ∷ bytes) ∷ lines_of (drop 1 (drop (cond (not t) (1 + n) 0) (b ∷ c ∷ bytes)))
    by true n lines is on = ap (λ (l : List (List ℕ)). [] ∷ l) is
    by false n lines is on =
        ap (onto_first b) on
        ∙ ap (λ (l : List ℕ). l ∷ lines_of (drop 1 (drop n (c ∷ bytes)))) (sym (front n b (c ∷ bytes)))
        ∙ ap (λ (l : List ℕ). take (1 + n) (b ∷ c ∷ bytes) ∷ lines_of (drop 1 l)) (sym (rest n b (c ∷ bytes)))
