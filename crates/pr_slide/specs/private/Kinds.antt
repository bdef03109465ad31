-- How the values of a window are kept.
use Rattle.std.specs.Prelude.{◌≡◌, ℕ, Bool, true, false, ◌&&◌, ◌||◌, List}
use Rattle.pr_head.specs.spec_history.declared.spot.Spot.{Spot}
use Rattle.pr_range.specs.spec_vectors.declared.range.RangeFn.{RangeFn}
use Rattle.pr_range.specs.spec_vectors.declared.range.RangeFn.TheVariants.{Rate, Increase, Delta, Changes, Resets, MaxOverTime, MinOverTime}
use Rattle.pr_range.specs.pr_window.private.Answers.{is_of_total}
use Rattle.pr_slide.specs.declared.spots.SpotStorage.{SpotStorage}
use Rattle.pr_slide.specs.declared.spots.SpotStorage.TheVariants.{Listed, Totals, Greatest, Least, Successive}
use Rattle.pr_slide.specs.private.Successions.{is_rising}

abbrev pub kept_in : SpotStorage → List Spot
kept_in (Listed spots) = spots.items
kept_in (Totals spots) = spots.items
kept_in (Greatest spots) = spots.items
kept_in (Least spots) = spots.items
kept_in (Successive spots) = spots.items

-- how many looks are saved up for later asks
abbrev pub saved_in : SpotStorage → ℕ
saved_in (Listed spots) = spots.saved
saved_in (Totals spots) = spots.saved
saved_in (Greatest spots) = spots.saved
saved_in (Least spots) = spots.saved
saved_in (Successive spots) = spots.saved

abbrev pub is_greatest : RangeFn → Bool
is_greatest MaxOverTime = true
is_greatest _ = false

abbrev pub is_least : RangeFn → Bool
is_least MinOverTime = true
is_least _ = false

-- what is counted of values one after another tells the function
abbrev pub is_successive : RangeFn → Bool
is_successive Rate = true
is_successive Increase = true
is_successive Delta = true
is_successive Changes = true
is_successive Resets = true
is_successive _ = false

-- whether what is kept with the values can tell the function
abbrev pub is_told : RangeFn → Bool
is_told f = is_of_total f || is_greatest f || is_least f || is_successive f

-- whether it does, so that the values are not gone over
abbrev pub tells : RangeFn → SpotStorage → Bool
tells f (Listed spots) = false
tells f (Totals spots) = is_of_total f
tells f (Greatest spots) = is_greatest f
tells f (Least spots) = is_least f
tells f (Successive spots) = is_successive f && spots.counted

-- Values came at the end: as long as all rise in time, what was told of the others is told of all.
pub record GoOn (before after : SpotStorage) : Type 0 where
  pub rising : is_rising (kept_in after) ≡ true → is_rising (kept_in before) ≡ true
  pub told : (f : RangeFn) → tells f before ≡ true → is_rising (kept_in after) ≡ true → tells f after ≡ true
