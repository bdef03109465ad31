-- The first part of a text, and the parts after the first blank.
use Rattle.std.proofs.Common.{◌≡◌, ℕ, suc, ◌+◌, Bool, true, false, not, cond, List, [], ◌∷◌, take, drop, length, Option, Some, None, refl, arith}
use Rattle.std.specs.List.{position_or_len, onto_first, slice_split}
use Rattle.pr_words.specs.Bytes.{is_blank}

-- the parts after the first blank, of what begins with it
abbrev pub after_part : List ℕ → List (List ℕ)
after_part [] = []
after_part (b ∷ rest) = slice_split is_blank rest

one_on : (n : ℕ) → 1 + n ≡ suc n
one_on n = omega arith

pub first_part : (xs : List ℕ) → slice_split is_blank xs ≡ take (position_or_len is_blank xs) xs ∷ after_part (drop (position_or_len is_blank xs) xs)
first_part [] = refl
first_part (x ∷ xs) = by (is_blank x) (first_part xs) where
  by : (b : Bool) → slice_split is_blank xs ≡ take (position_or_len is_blank xs) xs ∷ after_part (drop (position_or_len is_blank xs) xs) →
      cond b ([] ∷ slice_split is_blank xs) (onto_first x (slice_split is_blank xs))
      ≡ take (cond (not b) (1 + position_or_len is_blank xs) 0) (x ∷ xs) ∷ after_part (drop (cond (not b) (1 + position_or_len is_blank xs) 0) (x ∷ xs))
  by true h = refl
  by false h = rw (h, one_on (position_or_len is_blank xs)) refl

-- how much is left
abbrev pub room : Option (List ℕ) → ℕ
room None = 0
room (Some rest) = suc (length rest)
