-- The series of a listing: one alone, or those of a map.
use Rattle.std.specs.Prelude.{ℕ, List, [], ◌∷◌}
use Rattle.pr_labels.specs.declared.pair.Pair.{Pair}
use Rattle.pr_head.specs.declared.listing.Numbers.{Numbers}
use Rattle.pr_head.specs.declared.listing.Numbers.TheVariants.{One, Many}

abbrev pub numbers_in : Numbers → List (List Pair × ℕ)
numbers_in (One labels number) = (labels, number) ∷ []
numbers_in (Many numbers) = numbers.entries
