-- The key by which label sets are compared: one text whose order is that of their pairs.
use Rattle.std.specs.Prelude.{◌≡◌, ℕ, Bool, true, ◌&&◌, ◌==◌, not, List, [], ◌∷◌, ◌++◌, drop}
use Rattle.std.specs.List.{flat_map, list_all, list_any}
use Rattle.pr_labels.specs.declared.pair.Pair.{Pair}

-- what stands behind each text of a key, so that a text is below those that go on behind it
abbrev pub key_end : ℕ
key_end = 0

-- the part of a pair in a key: its texts, each with its end
abbrev pub key_part : Pair → List ℕ
key_part p = p.name ++ key_end ∷ p.value ++ key_end ∷ []

-- the texts of all pairs, each with its end
abbrev pub order_key : List Pair → List ℕ
order_key pairs = flat_map key_part pairs

-- whether the byte of ends is not in a text
abbrev pub is_without_end : List ℕ → Bool
is_without_end text = not (list_any (λ b. b == key_end) text)

abbrev pub has_texts_without_end : Pair → Bool
has_texts_without_end p = is_without_end p.name && is_without_end p.value

-- A key is that of pairs, and no text of theirs has the byte of ends.
pub record IsOrderKey (key : List ℕ) (pairs : List Pair) : Type 0 where
  pub parts : key ≡ order_key pairs
  pub without_end : list_all has_texts_without_end pairs ≡ true

-- A key is that of pairs, and from one of its bytes on that of all but the first.
pub record HasOrderKeys (key : List ℕ) (begin : ℕ) (pairs : List Pair) : Type 0 where
  pub whole : IsOrderKey key pairs
  pub rest : IsOrderKey (drop begin key) (drop 1 pairs)
