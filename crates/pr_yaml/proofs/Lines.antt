-- Lines, split off one by one.
use Rattle.std.proofs.Common.{◌≡◌, ℕ, ◌+◌, ◌<◌, ◌≤◌, Bool, true, false, cond, nat_lt, List, [], ◌∷◌, ◌++◌, Some, None, length, take, drop, refl, ap, ◌∙◌, arith, not, suc, append_assoc, take_all, length-drop, ◌-◌}
use Rattle.std.specs.Prelude.{position}
use Rattle.std.specs.List.{slice_split, position_or_len, before_first, after_first, onto_first}
use Rattle.std.proofs.lemmas.List.Splits.{slice_split_first}
use Rattle.std.proofs.lemmas.Bool.Decides.{nat_tests}
use Rattle.std.proofs.lemmas.List.{replicate-append-replicate}
use Rattle.pr_words.specs.Lines.{is_feed, without_return, ended, text_lines}
use Rattle.pr_yaml.specs.Lines.{feeds}

-- the bytes of a text from a place on
pub from_place : (text : List ℕ) (place : ℕ) → take (length text - place) (drop place text) ≡ drop place text
from_place text place = take_all (length text - place) (drop place text) (omega (arith, length-drop place text))

-- the parts of a split are some
pub split_some : {X : Type 0} (p : X → Bool) (xs : List X) → 0 < length (slice_split p xs)
split_some p [] = omega arith
split_some p (x ∷ xs) = by_test (p x) (slice_split p xs) where
  some : {X : Type 0} (x : X) (ls : List (List X)) → 0 < length (onto_first x ls)
  some x [] = omega arith
  some x (l ∷ ls) = omega arith

  by_test : (b : Bool) (ls : List (List _)) → 0 < length (cond b ([] ∷ ls) (onto_first x ls))
  by_test true ls = omega arith
  by_test false ls = some x ls

pub ended_some : (l : List ℕ) (ls : List (List ℕ)) → 0 < length ls → ended (l ∷ ls) ≡ without_return l ∷ ended ls
ended_some l [] h = absurd (omega arith)
ended_some l (m ∷ more) h = refl

-- no line feed: the text is the one line
one_line : (text : List ℕ) → length text ≤ position_or_len is_feed text → slice_split is_feed text ≡ text ∷ []
one_line [] h = refl
one_line (b ∷ text) h = one_more (is_feed b) b text (position_or_len is_feed text) h (λ g. one_line text g) where
  one_more : (t : Bool) (b : ℕ) (text : List ℕ) (n : ℕ) → suc (length text) ≤ cond (not t) (1 + n) 0 → (length text ≤ n → slice_split is_feed text ≡ text ∷ []) →
      cond t ([] ∷ slice_split is_feed text) (onto_first b (slice_split is_feed text)) ≡ (b ∷ text) ∷ []
  one_more true b text n g again = absurd (omega arith)
  one_more false b text n g again = ap (onto_first b) (again (omega arith))

found : (n l at : ℕ) → cond (nat_lt n l) (Some n) None ≡ Some at → (at ≡ n) × (n < l)
found n l at e = by_test (nat_lt n l) refl e where
  by_test : (t : Bool) → nat_lt n l ≡ t → cond t (Some n) None ≡ Some at → (at ≡ n) × (n < l)
  by_test true h g = (cc, grind (arith, nat_tests))
  by_test false h g = absurd cc

missed : (n l : ℕ) → cond (nat_lt n l) (Some n) None ≡ None → l ≤ n
missed n l e = grind (arith, nat_tests)

pub feed_within : (text : List ℕ) (at : ℕ) → position is_feed text ≡ Some at → at < length text
feed_within text at e = let h = found (position_or_len is_feed text) (length text) at e in omega (arith, h.0, h.1)

pub split_at_feed : (text : List ℕ) (at : ℕ) → position is_feed text ≡ Some at → text_lines text ≡ without_return (take at text) ∷ text_lines (drop (at + 1) text)
unfolding text_lines
split_at_feed text at e =
    let h = found (position_or_len is_feed text) (length text) at e in
    rw h.0 (ap ended (slice_split_first is_feed text 0 h.1) ∙ ended_some (before_first is_feed text) (slice_split is_feed (after_first is_feed text)) (split_some is_feed (after_first is_feed text)))

pub last_line : (text : List ℕ) → position is_feed text ≡ None → text_lines text ≡ text ∷ []
unfolding text_lines
last_line text e = ap ended (one_line text (missed (position_or_len is_feed text) (length text) e))

pub feeds_more : (text : List ℕ) (k : ℕ) → (text ++ feeds k) ++ 10 ∷ [] ≡ text ++ feeds (k + 1)
feeds_more text k = append_assoc text (feeds k) (10 ∷ []) ∙ ap (λ t. text ++ t) (replicate-append-replicate k 1 10)
