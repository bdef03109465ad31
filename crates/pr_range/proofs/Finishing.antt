-- What so many values answer, by what they fold to.
use Rattle.std.proofs.Common.{◌≡◌, ℕ, ◌<◌, ◌≤◌, List, length, Option, Some, None, Result, Ok, Err, true, sym, ap, subst, ◌∙◌, arith}
use Rattle.spec_vectors.specs.pr_num.declared.value.Num.{Num}
use Rattle.spec_vectors.specs.pr_num.declared.value.TooWide.{TooWide}
use Rattle.spec_vectors.specs.pr_num.Total.{Tally, joined}
use Rattle.pr_head.specs.spec_history.declared.spot.Spot.{Spot}
use Rattle.spec_vectors.specs.declared.range.Ask.{Ask}
use Rattle.spec_vectors.specs.declared.range.AskFault.TheVariants as fault
use Rattle.spec_vectors.specs.declared.range.RangeFn.TheVariants.{MaxOverTime, MinOverTime}
use Rattle.spec_vectors.specs.Ranges.{longest, over, with_fault}
use Rattle.pr_window.specs.private.Folding.{folded}
use Rattle.pr_window.specs.declared.folds.neighbours.Neighbours.{Neighbours}
use Rattle.pr_window.specs.private.Answers.{from_neighbours, from_total, is_of_neighbours, is_of_total}
use Rattle.pr_window.specs.private.Extremes.{greater, lesser, value_alone}
use Rattle.pr_window.specs.private.Neighbours.{beside, spot_alone}
use Rattle.pr_window.specs.private.Totals.{total_alone}
use Rattle.pr_window.proofs.Over.{over_greatest, over_least, over_long, over_neighbours, over_none, over_total}
use Rattle.pr_range.specs.declared.fault.RangeFault.{RangeFault}
use Rattle.pr_range.specs.private.Answers.{AnswersAsk}

pub long_answer : (a : Ask) (count : ℕ) (spots : List Spot) → longest < count → length spots ≡ count → over a spots ≡ Err (fault.RangeTooLong count)
long_answer a count spots long size =
    over_long a spots (subst (λ n. longest < n) (sym size) long) ∙ ap (λ n. Err (fault.RangeTooLong n)) size

pub none_answer : {A : Type 0} (lift : Spot → A) (combine : A → A → A) (a : Ask) (spots : List Spot) (o : Option A) → folded lift combine spots ≡ o → o ≡ None → over a spots ≡ Ok None
none_answer lift combine a spots o h e = over_none lift combine a spots (h ∙ e)

few : (count : ℕ) (spots : List Spot) → count ≤ longest → length spots ≡ count → length spots ≤ longest
few count spots short size = subst (λ n. n ≤ longest) (sym size) short

pub total_answer : (a : Ask) (count : ℕ) (spots : List Spot) (o : Option Tally) (t : Tally) (told : Result (Option Num) TooWide) (r : Result (Option Num) RangeFault) → is_of_total a.func ≡ true → count ≤ longest → length spots ≡ count
    → folded total_alone joined spots ≡ o → o ≡ Some t → told ≡ from_total a.func t → AnswersAsk (with_fault told) r → AnswersAsk (over a spots) r
total_answer a count spots o t told r func short size h e is answer =
    subst (λ m. AnswersAsk m r) (ap with_fault is ∙ sym (over_total a spots t func (few count spots short size) (h ∙ e))) answer

pub neighbours_answer : (a : Ask) (count : ℕ) (spots : List Spot) (o : Option Neighbours) (s : Neighbours) (told : Result (Option Num) TooWide) (r : Result (Option Num) RangeFault) → is_of_neighbours a.func ≡ true → count ≤ longest → length spots ≡ count
    → folded spot_alone beside spots ≡ o → o ≡ Some s → told ≡ from_neighbours a.func a.from a.to s → AnswersAsk (with_fault told) r → AnswersAsk (over a spots) r
neighbours_answer a count spots o s told r func short size h e is answer =
    subst (λ m. AnswersAsk m r) (ap with_fault is ∙ sym (over_neighbours a spots s func (few count spots short size) (h ∙ e))) answer

pub greatest_answer : (a : Ask) (count : ℕ) (spots : List Spot) (o : Option Num) (v : Num) → a.func ≡ MaxOverTime → count ≤ longest → length spots ≡ count
    → folded value_alone greater spots ≡ o → o ≡ Some v → over a spots ≡ Ok (Some v)
greatest_answer a count spots o v func short size h e = over_greatest a spots v func (few count spots short size) (h ∙ e)

pub least_answer : (a : Ask) (count : ℕ) (spots : List Spot) (o : Option Num) (v : Num) → a.func ≡ MinOverTime → count ≤ longest → length spots ≡ count
    → folded value_alone lesser spots ≡ o → o ≡ Some v → over a spots ≡ Ok (Some v)
least_answer a count spots o v func short size h e = over_least a spots v func (few count spots short size) (h ∙ e)
