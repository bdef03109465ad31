-- Elements by their times.
use Rattle.std.specs.Prelude.{◌≡◌, ℕ, ◌<◌, ◌≤◌, Bool, nat_lt, List}
use Rattle.std.specs.List.{AllByRecursion}

abbrev pub sooner : {X : Type 0} → (X → ℕ) → X → X → Bool
sooner time a b = nat_lt (time a) (time b)

-- all are at a time, at it or later, later, or at it or before
abbrev pub AllAt : {X : Type 0} → (X → ℕ) → ℕ → List X → Type 0
AllAt time t xs = AllByRecursion (λ x. time x ≡ t) xs

abbrev pub AllFrom : {X : Type 0} → (X → ℕ) → ℕ → List X → Type 0
AllFrom time t xs = AllByRecursion (λ x. t ≤ time x) xs

abbrev pub AllAbove : {X : Type 0} → (X → ℕ) → ℕ → List X → Type 0
AllAbove time t xs = AllByRecursion (λ x. t < time x) xs

abbrev pub AllUntil : {X : Type 0} → (X → ℕ) → ℕ → List X → Type 0
AllUntil time t xs = AllByRecursion (λ x. time x ≤ t) xs
