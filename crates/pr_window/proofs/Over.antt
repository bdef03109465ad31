-- The answer over the values of a range, from what they fold to.
use Rattle.std.proofs.Common.{◌≡◌, ℕ, suc, ◌<◌, ◌≤◌, nat_lt, Bool, true, false, cond, List, [], ◌∷◌, length, fold, Option, Some, None, Result, Ok, Err, refl, sym, ap, ◌∙◌, arith}
use Rattle.std.proofs.lemmas.Grind.{common_steps}
use Rattle.pr_num.specs.declared.value.Num.{Num}
use Rattle.pr_num.specs.declared.value.TooWide.{TooWide}
use Rattle.pr_num.specs.Total.{Tally, joined}
use Rattle.spec_vectors.specs.spec_history.declared.spot.Spot.{Spot}
use Rattle.spec_vectors.specs.declared.range.Ask.{Ask}
use Rattle.spec_vectors.specs.declared.range.AskFault.TheVariants as fault
use Rattle.spec_vectors.specs.declared.range.RangeFn.TheVariants.{MaxOverTime, MinOverTime}
use Rattle.spec_vectors.specs.Ranges.{function_of, longest, over, over_some, with_fault}
use Rattle.std.specs.Option.{IfSome}
use Rattle.pr_window.specs.private.Folding.{and_item, folded}
use Rattle.pr_window.proofs.Folding.{weight_folded}
use Rattle.pr_window.specs.declared.folds.neighbours.Neighbours.{Neighbours}
use Rattle.pr_window.specs.private.Answers.{from_neighbours, from_total, is_of_neighbours, is_of_total}
use Rattle.pr_window.specs.private.Extremes.{greater, lesser, value_alone}
use Rattle.pr_window.specs.private.Neighbours.{alone_weight, beside, beside_weight, spot_alone, weight_of}
use Rattle.pr_window.specs.private.Totals.{total_alone}
use Rattle.pr_window.proofs.Answering.{greatest_answers, least_answers, sequence_answers, total_answers, total_count}

-- more values than may be
pub over_long : (a : Ask) (spots : List Spot) → longest < length spots → over a spots ≡ Err (fault.RangeTooLong (length spots))
unfolding over
over_long a spots h = let long : nat_lt longest (length spots) ≡ true = grind (arith, common_steps) in ap (λ b. cond b (Err (fault.RangeTooLong (length spots))) (over_some a spots)) long

-- none
pub over_none : {A : Type 0} (lift : Spot → A) (combine : A → A → A) (a : Ask) (spots : List Spot) → folded lift combine spots ≡ None → over a spots ≡ Ok None
unfolding over
over_none lift combine a [] h = refl
over_none lift combine a (first ∷ rest) h = absurd (cc)

-- some, but no more than may be
pub over_few : (a : Ask) (first : Spot) (rest : List Spot) (r : Result (Option Num) TooWide) → length (first ∷ rest) ≤ longest → function_of a.func a first rest ≡ r → over a (first ∷ rest) ≡ with_fault r
unfolding over
over_few a first rest r short is =
    let low : nat_lt longest (suc (length rest)) ≡ false = grind (arith, common_steps) in
    ap (λ b. cond b (Err (fault.RangeTooLong (suc (length rest)))) (with_fault (function_of a.func a first rest))) low ∙ ap with_fault is

pub over_total : (a : Ask) (spots : List Spot) (t : Tally) → is_of_total a.func ≡ true → length spots ≤ longest → folded total_alone joined spots ≡ Some t → over a spots ≡ with_fault (from_total a.func t)
over_total a [] t func short h = absurd (cc)
over_total a (first ∷ rest) t func short h = over_few a first rest (from_total a.func t) short (total_answers a.func a first rest t func h)

pub over_neighbours : (a : Ask) (spots : List Spot) (s : Neighbours) → is_of_neighbours a.func ≡ true → length spots ≤ longest → folded spot_alone beside spots ≡ Some s
    → over a spots ≡ with_fault (from_neighbours a.func a.from a.to s)
over_neighbours a [] s func short h = absurd (cc)
over_neighbours a (first ∷ rest) s func short h = over_few a first rest (from_neighbours a.func a.from a.to s) short (sequence_answers a.func a first rest s func h)

pub over_greatest : (a : Ask) (spots : List Spot) (v : Num) → a.func ≡ MaxOverTime → length spots ≤ longest → folded value_alone greater spots ≡ Some v → over a spots ≡ Ok (Some v)
over_greatest a [] v func short h = absurd (cc)
over_greatest a (first ∷ rest) v func short h = over_few a first rest (Ok (Some v)) short (ap (λ f. function_of f a first rest) func ∙ greatest_answers a first rest v h)

pub over_least : (a : Ask) (spots : List Spot) (v : Num) → a.func ≡ MinOverTime → length spots ≤ longest → folded value_alone lesser spots ≡ Some v → over a spots ≡ Ok (Some v)
over_least a [] v func short h = absurd (cc)
over_least a (first ∷ rest) v func short h = over_few a first rest (Ok (Some v)) short (ap (λ f. function_of f a first rest) func ∙ least_answers a first rest v h)

-- a total has as many values as were folded, and what is kept of neighbours weighs no more
pub total_counts : (spots : List Spot) → IfSome (folded total_alone joined spots) (λ t. t.count ≡ length spots)
total_counts [] = tt
total_counts (first ∷ rest) = total_count first rest (fold (and_item total_alone joined) (total_alone first) rest) refl

pub neighbours_light : (spots : List Spot) → IfSome (folded spot_alone beside spots) (λ s. weight_of s ≤ length spots)
neighbours_light = weight_folded spot_alone beside weight_of alone_weight beside_weight
