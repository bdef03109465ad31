-- How many range selectors a part asks, and what of its cost others can change.
use Rattle.std.proofs.Common.{◌≡◌, ℕ, ◌+◌, ◌<◌, ◌≤◌, ℤ, pos, ◌-ℤ◌, Bool, true, List, length, refl, ap, ◌∙◌, length-append, arith}
use Rattle.pr_labels.specs.declared.pair.Pair.{Pair}
use Rattle.pr_range.specs.spec_history.declared.entry.Entry.{Entry}
use Rattle.pr_range.specs.spec_vectors.declared.range.RangeFn.{RangeFn}
use Rattle.pr_ast.specs.Tree.{Tree, number, text, select, range, sub, neg, binary, call, aggregate, none, more}
use Rattle.spec_meaning.specs.pr_types.private.Numbers.{ranges_in}
use Rattle.spec_meaning.specs.Selection.{chosen_by, moment_of}
use Rattle.spec_meaning.specs.private.Cost.{PassedFor, cost, range_cost}
use Rattle.pr_eval.specs.private.Asking.{asked_for, asks_in}

-- as many are asked as there are range selectors
pub asks_length : (inside : Bool) (history : List Entry) (func : RangeFn) (t : Tree) (time : ℕ) → length (asks_in inside history func t time) ≡ ranges_in t
asks_length inside history func (range p s d) time = refl
asks_length inside history func (sub p t d i o) time = asks_length true history func t time
asks_length inside history func (neg p t) time = asks_length inside history func t time
asks_length inside history func (binary p o b m l r) time =
    let left = asks_length inside history func l time in
    let right = asks_length inside history func r time in
    length-append (asks_in inside history func l time) (asks_in inside history func r time) ∙ ap (λ n. n + length (asks_in inside history func r time)) left ∙ ap (λ n. ranges_in l + n) right
asks_length inside history func (call p f ts) time = asks_length inside history (asked_for f) ts time
asks_length inside history func (aggregate p o g ts) time = asks_length inside history func ts time
asks_length inside history func (more ts t) time =
    let left = asks_length inside history func ts time in
    let right = asks_length inside history func t time in
    length-append (asks_in inside history func ts time) (asks_in inside history func t time) ∙ ap (λ n. n + length (asks_in inside history func t time)) left ∙ ap (λ n. ranges_in ts + n) right
asks_length inside history func (number p v) time = refl
asks_length inside history func (text p t) time = refl
asks_length inside history func (select p s) time = refl
asks_length inside history func none time = refl

-- the numbers of the range selectors of a tree
abbrev Within : ℕ → ℕ → ℕ → Type 0
Within node n k = (node ≤ k) × (k < node + n)

range_same : (history : List Entry) (a b : ℤ) (p p' : List Pair → ℕ) (sets : List (List Pair)) → ((labels : List Pair) → p' labels ≡ p labels) → range_cost history a b p' sets ≡ range_cost history a b p sets
range_same history a b p p' sets same = λ i. range_cost history a b (λ labels. same labels i) sets

-- A cost speaks of what was passed for its own range selectors alone.
pub cost_same : (step : ℕ) (history : List Entry) (u u' : PassedFor) (t : Tree) (node time : ℕ) → ((k : ℕ) → Within node (ranges_in t) k → (labels : List Pair) → u' k labels ≡ u k labels)
    → cost step history u' t node time ≡ cost step history u t node time
cost_same step history u u' (select p s) node time same = refl
cost_same step history u u' (range p s d) node time same = range_same history (moment_of s time -ℤ pos d) (moment_of s time) (u node) (u' node) (chosen_by s history) (λ labels. same node (omega arith, omega arith) labels)
cost_same step history u u' (sub p t d i o) node time same = refl
cost_same step history u u' (neg p t) node time same = cost_same step history u u' t node time same
cost_same step history u u' (binary p o b m l r) node time same =
    let left = cost_same step history u u' l node time (λ k w. let low = w.0 in let high = w.1 in same k (omega arith, omega arith)) in
    let right = cost_same step history u u' r (node + ranges_in l) time (λ k w. let low = w.0 in let high = w.1 in same k (omega arith, omega arith)) in
    (λ i. left i + right i)
cost_same step history u u' (call p f ts) node time same = cost_same step history u u' ts node time same
cost_same step history u u' (aggregate p o g ts) node time same = cost_same step history u u' ts node time same
cost_same step history u u' (more ts t) node time same =
    let left = cost_same step history u u' ts node time (λ k w. let low = w.0 in let high = w.1 in same k (omega arith, omega arith)) in
    let right = cost_same step history u u' t (node + ranges_in ts) time (λ k w. let low = w.0 in let high = w.1 in same k (omega arith, omega arith)) in
    (λ i. left i + right i)
cost_same step history u u' (number p v) node time same = refl
cost_same step history u u' (text p t) node time same = refl
cost_same step history u u' none node time same = refl
