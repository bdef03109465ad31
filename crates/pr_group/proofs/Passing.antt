-- After an evaluation without fault all is passed that was asked.
use Rattle.std.proofs.Common.{◌≡◌, ℕ, ◌+◌, pos, ◌-ℤ◌, true, false, List, ◌++◌, map, Some, sym, ap, ◌∙◌, cond}
use Rattle.pr_rule.specs.spec_history.declared.entry.Entry.{Entry}
use Rattle.pr_rule.specs.spec_history.private.Laws.{entries_until}
use Rattle.pr_ast.specs.Tree.{Tree, number, text, select, range, sub, neg, binary, call, aggregate, none, more}
use Rattle.pr_rule.specs.pr_types.private.Numbers.{ranges_in}
use Rattle.pr_rule.specs.spec_vectors.declared.range.RangeFn.{RangeFn}
use Rattle.pr_rule.specs.spec_vectors.declared.range.RangeFn.TheVariants.{PresentOverTime}
use Rattle.pr_rule.specs.pr_head.private.Holds.{arrivals, labels_at}
use Rattle.pr_rule.specs.spec_meaning.Selection.{chosen_by, moment_of}
use Rattle.pr_rule.specs.spec_rules.private.Passed.{ArePassed}
use Rattle.pr_rule.specs.pr_eval.private.RangeCallsAsking.{is_number_among, series_number}
use Rattle.pr_rule.specs.pr_eval.private.Asking.{asked_for, asks_in, sought}
use Rattle.pr_rule.specs.pr_eval.private.Each.{EachAt}
use Rattle.pr_rule.specs.pr_eval.private.Evaluated.{AreAllAsked, IsAsked, KeptOfRanges, asks_of, passed_outside}
use Rattle.pr_group.proofs.Each.{asks_length, first_of_one, front_each, rest_each}
use Rattle.pr_group.proofs.ReadyNumbers.{chosen_arrived, labels_back, number_among}

module _ (history : List Entry) (before after : KeptOfRanges) where
  second : (func : RangeFn) (l r : Tree) (node time : ℕ) → EachAt (IsAsked true history true before after) node (asks_in false history func l time ++ asks_in false history func r time)
      → EachAt (IsAsked true history true before after) (node + ranges_in l) (asks_in false history func r time)
  second func l r node time h =
      rest_each (IsAsked true history true before after) node (node + ranges_in l) (asks_in false history func l time) (asks_in false history func r time) (ap (λ n. node + n) (sym (asks_length false history func l time))) h

  first : (func : RangeFn) (l r : Tree) (node time : ℕ) → EachAt (IsAsked true history true before after) node (asks_in false history func l time ++ asks_in false history func r time)
      → EachAt (IsAsked true history true before after) node (asks_in false history func l time)
  first func l r node time h = front_each (IsAsked true history true before after) node (asks_in false history func l time) (asks_in false history func r time) h

  passed_at : (func : RangeFn) (t : Tree) (node time : ℕ) → EachAt (IsAsked true history true before after) node (asks_in false history func t time) → ArePassed history (passed_outside false history after.passed) t node time
  passed_at func (range p s d) node time h = λ labels there.
      let rows = first_of_one (IsAsked true history true before after) node (Some (sought history func (moment_of s time -ℤ pos d) (moment_of s time) (chosen_by s history))) h in
      let number = series_number history labels in
      let asked : is_number_among number (map (series_number history) (chosen_by s history)) ≡ true = number_among history (chosen_by s history) labels there in
      rows.passing number ∙ ap (λ b. cond b (entries_until history (labels_at (arrivals history) number) (moment_of s time)) (before.passed node number)) asked
      ∙ ap (λ l. entries_until history l (moment_of s time)) (labels_back history labels (chosen_arrived s history labels there))
  passed_at func (sub p t d i o) node time h = tt
  passed_at func (neg p t) node time h = passed_at func t node time h
  passed_at func (binary p o b m l r) node time h = (passed_at func l node time (first func l r node time h), passed_at func r (node + ranges_in l) time (second func l r node time h))
  passed_at func (call p f ts) node time h = passed_at (asked_for f) ts node time h
  passed_at func (aggregate p o g ts) node time h = passed_at func ts node time h
  passed_at func (more ts t) node time h = (passed_at func ts node time (first func ts t node time h), passed_at func t (node + ranges_in ts) time (second func ts t node time h))
  passed_at func (select p s) node time h = tt
  passed_at func (number p v) node time h = tt
  passed_at func (text p t) node time h = tt
  passed_at func none node time h = tt

pub all_passed : (history : List Entry) (t : Tree) (time : ℕ) (before after : KeptOfRanges) → AreAllAsked true history true (asks_of history t time) 0 before after → ArePassed history (passed_outside false history after.passed) t 0 time
all_passed history t time before after h = passed_at history before after PresentOverTime t 0 time h.own
