-- Values of a range have rising times.
use Rattle.std.proofs.Common.{◌≡◌, ◌<◌, ◌≤◌, ℤ, pos, ◌<ℤ◌, Bool, true, false, Some, None, Result, Ok, List, [], ◌∷◌, length, refl, sym, subst, ◌∙◌, arith}
use Rattle.std.proofs.lemmas.Int.{ints}
use Rattle.pr_head.specs.spec_history.declared.spot.Spot.{Spot}
use Rattle.spec_vectors.specs.Extrapolation.{last_two}
use Rattle.spec_vectors.specs.Spots.{last_of, of_two}
use Rattle.spec_vectors.specs.pr_num.declared.value.Num.{Num}
use Rattle.spec_vectors.specs.pr_num.declared.value.TooWide.{TooWide}
use Rattle.spec_vectors.specs.declared.range.Ask.{Ask}
use Rattle.pr_window.specs.private.Folding.{folded}
use Rattle.pr_window.specs.declared.folds.neighbours.Neighbours.{Neighbours}
use Rattle.pr_window.specs.private.Answers.{IsSpread}
use Rattle.pr_window.specs.private.Neighbours.{beside, neighbours_of, spot_alone}
use Rattle.pr_window.proofs.Summaries.{sequence_folded}
use Rattle.pr_range.specs.private.Spots.{AreWithin}

pub within_long : (from to : ℤ) (first : Spot) (rest : List Spot) → AreWithin from to (first ∷ rest) → from <ℤ to
within_long from to first rest h = let low = h.0 in let high = h.1 in omega (arith, ints)

last_up : (to : ℤ) (first : Spot) (rest : List Spot) → AreWithin (pos first.time) to rest → first.time ≤ (last_of first rest).time
last_up to first [] h = omega arith
last_up to first (y ∷ ys) h = let low = h.0 in let more = last_up to y ys h.2 in omega (arith, ints)

pub within_rising : (from to : ℤ) (first second : Spot) (rest : List Spot) → AreWithin from to (first ∷ second ∷ rest) → first.time < (last_of second rest).time
within_rising from to first second rest h = let low = h.2.0 in let more = last_up to second rest h.2.2 in omega (arith, ints)

pub within_last : (from to : ℤ) (first second : Spot) (rest : List Spot) → AreWithin from to (first ∷ second ∷ rest)
    → (last_two first (second ∷ rest)).0.time < (last_two first (second ∷ rest)).1.time
within_last from to first second [] h = let low = h.2.0 in omega (arith, ints)
within_last from to first second (third ∷ rest) h = within_last (pos first.time) to second third rest h.2

pub none_of_one : (formula : Spot → List Spot → Result Num TooWide) (first : Spot) (rest : List Spot) → length rest ≡ 0 → Ok None ≡ of_two formula first rest
none_of_one formula first [] h = refl
none_of_one formula first (y ∷ ys) h = absurd (omega arith)

pub rising_all : {P : Type 0} (from to : ℤ) (first : Spot) (rest : List Spot) (b : Bool) → AreWithin from to (first ∷ rest) → (length rest ≡ 0 → ⊥) → b ≡ false
    → (first.time < (last_of first rest).time → (last_two first rest).0.time < (last_two first rest).1.time → b ≡ true) → P
rising_all from to first [] b h some not_so all = absurd (some refl)
rising_all from to first (y ∷ ys) b h some not_so all =
    let yes = all (within_rising from to first y ys h) (within_last from to first y ys h) in
    absurd (cc (sym not_so ∙ yes))

-- what is kept of neighbours in a range
pub spread_within : (a : Ask) (spots : List Spot) (s : Neighbours) → AreWithin a.from a.to spots → folded spot_alone beside spots ≡ Some s → IsSpread a s
spread_within a [] s h k = absurd (cc)
spread_within a (first ∷ rest) s h k = subst (IsSpread a) (kept_is (neighbours_of first rest) s (sym (sequence_folded first rest) ∙ k)) (by rest h) where
  kept_is : (t u : Neighbours) → Some t ≡ Some u → t ≡ u
  kept_is t u e = cc

  by : (rest : List Spot) → AreWithin a.from a.to (first ∷ rest) → IsSpread a (neighbours_of first rest)
  by [] within = λ two. absurd (omega arith)
  by (y ∷ ys) within = λ two. (within_long a.from a.to first (y ∷ ys) within, within_rising a.from a.to first y ys within)
