-- What a window is seen as, and how it is kept.
use Rattle.std.specs.Prelude.{◌≡◌, ℕ, ◌+◌, ◌^◌, ◌<◌, ◌≤◌, Bool, List, [], ◌∷◌, ◌++◌, length, map, take, drop, fold, Option, Some, None}
use Rattle.std.specs.Fn.{Shared}
use Rattle.std.specs.List.{prefix_len}
use denote.Ref.{Bor}
use Rattle.pr_window.specs.private.Folding.{and_item, folded}
use Rattle.pr_window.specs.declared.held.Held.{Held}

-- The items in order, oldest first, and how many calls for combining were saved up for later drops.
pub record Windowed (T : Type 0) : Type 0 where
  pub items : List T
  pub saved : ℕ

-- A closure answers for each item as a test does.
pub record Decides {F T : Type 0} (g : Shared F (Bor T × Unit {0}) Bool) (f : F) (p : T → Bool) : Type 0 where
  pub gives : (x : Bor T) (b : Bool) → g.post f (x, tt) b → b ≡ p x.now

-- the rest behind the longest prefix whose items all pass a test
abbrev pub drop_while : {T : Type 0} → (T → Bool) → List T → List T
drop_while p xs = drop (prefix_len p xs) xs

-- the summary of two parts, of which either may be empty
abbrev pub joined : {A : Type 0} → (A → A → A) → Option A → Option A → Option A
joined combine None b = b
joined combine (Some a) None = Some a
joined combine (Some a) (Some b) = Some (combine a b)

-- the weights of two parts that are not empty add up to less than 2^64
abbrev pub AreLight : {A : Type 0} → (A → ℕ) → Option A → Option A → Type 0
AreLight weight (Some a) (Some b) = weight a + weight b < 2 ^ 64
AreLight weight _ _ = Unit {0}

module _ {T A : Type 0} where
  abbrev pub items_of : List (Held T A) → List T
  items_of held = map (λ h. h.item) held

  abbrev pub summaries_of : List (Held T A) → List A
  summaries_of held = map (λ h. h.summary) held

  module _ (lift : T → A) (combine : A → A → A) where
    -- for each item the summary of the part that begins with it and goes on to the end
    abbrev pub suffixes : List T → List A
    suffixes [] = []
    suffixes (x ∷ xs) = fold (and_item lift combine) (lift x) xs ∷ suffixes xs

    -- The first items, as many as `front`, are kept with the summaries of what goes on from each to
    -- the last of them, the others with their own, and `back` is the summary of those others.
    pub record IsKept (held : List (Held T A)) (front : ℕ) (back : Option A) : Type 0 where
      pub within : front ≤ length held
      pub summaries : summaries_of held ≡ suffixes (take front (items_of held)) ++ map lift (drop front (items_of held))
      pub others : back ≡ folded lift combine (drop front (items_of held))
