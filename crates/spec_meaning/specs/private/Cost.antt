-- How many samples are read for an expression.
use Rattle.std.specs.Prelude.{ℕ, ◌+◌, ◌-◌, ℤ, pos, ◌-ℤ◌, max, cond, nat_lt, List, length, sum_by, unwrap_or}
use Rattle.pr_ast.specs.pr_labels.declared.pair.Pair.{Pair}
use Rattle.spec_vectors.specs.spec_history.declared.entry.Entry.{Entry}
use Rattle.spec_vectors.specs.spec_history.private.Laws.{entries_until}
use Rattle.pr_ast.specs.Tree.{Tree, number, text, select, range, sub, neg, binary, call, aggregate, none, more}
use Rattle.pr_types.specs.private.Numbers.{ranges_in}
use Rattle.spec_vectors.specs.Ranges.{longest}
use Rattle.spec_meaning.specs.Selection.{chosen_by, moment_of}
use Rattle.spec_meaning.specs.Subqueries.{multiples}

-- How many samples of a series were passed for a range selector, which goes by its number: they are
-- not read again.
abbrev pub PassedFor : Type 0
PassedFor = ℕ → List Pair → ℕ

abbrev pub nothing_passed : PassedFor
nothing_passed k labels = 0

-- the samples of these series in the range above one moment and at most another that were not
-- passed
abbrev pub range_cost : List Entry → ℤ → ℤ → (List Pair → ℕ) → List (List Pair) → ℕ
range_cost history a b passed sets = sum_by (λ labels. entries_until history labels b - max (entries_until history labels a) (passed labels)) sets

-- an expression at each of the times of a subquery, unless there are too many
abbrev pub cost_at_each : (ℕ → ℕ) → List ℕ → ℕ
cost_at_each cost_at times = cond (nat_lt longest (length times)) 0 (sum_by cost_at times)

-- A selector reads one sample of each chosen series, a range selector those of its range that were
-- not passed, and one inside a subquery all of its range at each time; every other node reads what
-- its operands do. The first range selector has the number `node`. The step is that of subqueries
-- which give none.
abbrev pub cost : ℕ → List Entry → PassedFor → Tree → ℕ → ℕ → ℕ
cost step history u (select p s) node time = length (chosen_by s history)
cost step history u (range p s d) node time = range_cost history (moment_of s time -ℤ pos d) (moment_of s time) (u node) (chosen_by s history)
cost step history u (sub p t d i o) node time =
    cost_at_each (cost step history nothing_passed t node) (multiples (unwrap_or i step) ((pos time -ℤ pos o) -ℤ pos d) (pos time -ℤ pos o))
cost step history u (neg p t) node time = cost step history u t node time
cost step history u (binary p o b m l r) node time = cost step history u l node time + cost step history u r (node + ranges_in l) time
cost step history u (call p f ts) node time = cost step history u ts node time
cost step history u (aggregate p o g ts) node time = cost step history u ts node time
cost step history u (more ts t) node time = cost step history u ts node time + cost step history u t (node + ranges_in ts) time
cost step history u (number p v) node time = 0
cost step history u (text p t) node time = 0
cost step history u none node time = 0
