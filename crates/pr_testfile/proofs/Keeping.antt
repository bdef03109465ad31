-- One more stretch, kept or not, changes nothing of what a text writes.
use Rattle.std.proofs.Common.{◌≡◌, ℕ, ◌+◌, ◌^◌, ◌<◌, ◌≤◌, Bool, true, false, List, [], ◌∷◌, ◌++◌, Option, Some, None, refl, ap, sym, arith, append_assoc}
use Rattle.std.specs.Prelude.{cond, nat_lt, nat_le, filter}
use Rattle.std.proofs.lemmas.Bool.Decides.{nat_tests}
use Rattle.std.proofs.lemmas.List.Sums.{sum_by-cons}
use Rattle.pr_testfile.specs.declared.inputs.stretch.Stretch.{Stretch}
use Rattle.pr_testfile.specs.declared.inputs.values.Values.{Values}
use Rattle.pr_testfile.specs.declared.inputs.values.Values.TheVariants.{Stretches, TooMany}
use Rattle.pr_testfile.specs.Points.{size, total}
use Rattle.pr_testfile.specs.Values.{and_stretch, are_too_many, has_places, by_stretches}
use Rattle.pr_testfile.specs.private.Kept.{places_with, kept_with, answered}

above : (n : ℕ) → 2 ^ 20 < n → nat_lt (2 ^ 20) n ≡ true
above n h = grind (arith, nat_tests)

-- so many places are too many, whatever the interval is
many : (interval : Option ℕ) (n : ℕ) → 2 ^ 20 < n → are_too_many interval n ≡ true
unfolding are_too_many
many interval n h = rw (above n h) refl

-- stretches of which the first is kept where it has places
kept_on : (b : Bool) (kept more : List Stretch) (s : Stretch) → kept ++ cond b (s ∷ more) more ≡ cond b (kept ++ s ∷ []) kept ++ more
kept_on true kept more s = sym (append_assoc kept (s ∷ []) more)
kept_on false kept more s = refl

total_more : (s : Stretch) (more : List Stretch) → total (s ∷ more) ≡ size s + total more
total_more s more = sum_by-cons size s more

abbrev chosen : Bool → List Stretch → Values
chosen b list = cond b TooMany (Stretches list)

few : (interval : Option ℕ) (kept : List Stretch) (places : ℕ) (s : Stretch) (more : List Stretch) → places + size s ≤ 2 ^ 20 →
    answered interval kept places (Some (s ∷ more)) ≡ answered interval (kept_with kept (places_with places s) s) (places_with places s) (Some more)
few interval kept places s more h =
    let n : places_with places s ≡ places + size s = omega arith in
    let fits : nat_le (places + size s) (2 ^ 20) ≡ true = grind (arith, nat_tests) in
    let sum : places + total (s ∷ more) ≡ (places + size s) + total more = omega (arith, total_more s more) in
    rw (n, fits, sum) (ap (chosen (are_too_many interval ((places + size s) + total more))) (kept_on (has_places s) kept (filter has_places more) s))

too_many : (interval : Option ℕ) (kept : List Stretch) (places : ℕ) (s : Stretch) (more : List Stretch) → 2 ^ 20 < places + size s →
    answered interval kept places (Some (s ∷ more)) ≡ answered interval (kept_with kept (places_with places s) s) (places_with places s) (Some more)
too_many interval kept places s more h =
    let a : are_too_many interval (places + total (s ∷ more)) ≡ true = many interval (places + total (s ∷ more)) (omega (arith, total_more s more)) in
    let b : are_too_many interval (places_with places s + total more) ≡ true = many interval (places_with places s + total more) (omega arith) in
    rw (a, b) refl

-- A stretch that is next is kept or not, and its places count.
pub one_stretch : (interval : Option ℕ) (kept : List Stretch) (places : ℕ) (s : Stretch) (more : Option (List Stretch)) →
    answered interval kept places (and_stretch (Some s) more) ≡ answered interval (kept_with kept (places_with places s) s) (places_with places s) more
one_stretch interval kept places s None = refl
one_stretch interval kept places s (Some more) = by (nat_le (places + size s) (2 ^ 20)) refl where
  by : (b : Bool) → nat_le (places + size s) (2 ^ 20) ≡ b →
      answered interval kept places (Some (s ∷ more)) ≡ answered interval (kept_with kept (places_with places s) s) (places_with places s) (Some more)
  by true e = few interval kept places s more (grind (arith, nat_tests))
  by false e = too_many interval kept places s more (grind (arith, nat_tests))

-- At first nothing is kept, and no place is taken.
pub at_first : (interval : Option ℕ) (all : Option (List Stretch)) → answered interval [] 0 all ≡ by_stretches interval all
at_first interval None = refl
at_first interval (Some all) = let n : 0 + total all ≡ total all = omega arith in rw n refl
