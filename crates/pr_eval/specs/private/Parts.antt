-- What is known of a part of an expression, and how a tree is made of its parts.
use Rattle.std.specs.Prelude.{◌≡◌, ℕ, ◌+◌, ◌≤◌, ◌&&◌, max, Bool, true, false, List, ◌++◌, length, slice_get, Some, Ok}
use Rattle.pr_fn.specs.pr_match.Matcher.{LabelTest}
use Rattle.pr_range.specs.spec_history.declared.entry.Entry.{Entry}
use Rattle.pr_ast.specs.Tree.{Tree}
use Rattle.pr_ast.specs.Reach.{reads_back}
use Rattle.pr_ast.specs.private.Steps.{has_steps}
use Rattle.spec_meaning.specs.pr_types.declared.kind.ValueType.{ValueType}
use Rattle.spec_meaning.specs.pr_types.declared.counting.SelectorCounts.{SelectorCounts}
use Rattle.spec_meaning.specs.pr_types.private.Built.{tests_in, patterns_in}
use Rattle.spec_meaning.specs.pr_types.private.Numbers.{ranges_in}
use Rattle.spec_meaning.specs.pr_types.declared.kind.ValueType.TheVariants.{Range}
use Rattle.spec_meaning.specs.pr_types.Signatures.{is_type}
use Rattle.spec_meaning.specs.pr_types.Typed.{typed}
use Rattle.pr_range.specs.spec_vectors.declared.range.RangeFn.{RangeFn}
use Rattle.spec_meaning.specs.private.Cost.{PassedFor, cost}
use Rattle.pr_eval.specs.private.Each.{EachAt}
use Rattle.pr_eval.specs.private.Asking.{asks_in}

-- the selectors of the part are those from a number on
abbrev pub StandAt : List (List LabelTest) → ℕ → List (List LabelTest) → Type 0
StandAt all from own = EachAt (λ k tests. slice_get all k ≡ Some tests) from own

-- so are its patterns
abbrev pub PatternsAt : List (List ℕ) → ℕ → List (List ℕ) → Type 0
PatternsAt all from own = EachAt (λ k pattern. slice_get all k ≡ Some pattern) from own

-- A part of an expression: the selectors, range selectors and patterns of the part are those of the
-- whole from these numbers on, and no step in it is 0.
pub record IsPartAt (whole : Tree) (at : SelectorCounts) (t : Tree) : Type 0 where
  pub selectors : StandAt (tests_in whole) at.selectors (tests_in t)
  pub ranges : at.ranges + ranges_in t ≤ ranges_in whole
  pub patterns : PatternsAt (patterns_in whole) at.patterns (patterns_in t)
  pub steps : has_steps t ≡ true

-- it has a type, which is not that of a range
pub record IsValued (t : Tree) : Type 0 where
  pub gives : ValueType
  pub typed_so : typed t ≡ Ok gives
  pub no_range : is_type gives Range ≡ false

-- the numbers behind a part
abbrev pub counts_after : SelectorCounts → Tree → SelectorCounts
counts_after at t = record { selectors = at.selectors + length (tests_in t); ranges = at.ranges + ranges_in t; patterns = at.patterns + length (patterns_in t) }

-- and those behind patterns alone
abbrev pub with_patterns : SelectorCounts → List (List ℕ) → SelectorCounts
with_patterns at own = record { selectors = at.selectors; ranges = at.ranges; patterns = at.patterns + length own }

-- A tree of two parts, one behind the other.
pub record AreTwo (t l r : Tree) : Type 0 where
  pub back : reads_back t ≡ max (reads_back l) (reads_back r)
  pub steps : has_steps t ≡ (has_steps l && has_steps r)
  pub selectors : tests_in t ≡ tests_in l ++ tests_in r
  pub ranges : ranges_in t ≡ ranges_in l + ranges_in r
  pub patterns : patterns_in t ≡ patterns_in l ++ patterns_in r
  pub asks : (inside : Bool) (history : List Entry) (func : RangeFn) (time : ℕ) → asks_in inside history func t time ≡ asks_in inside history func l time ++ asks_in inside history func r time
  pub costs : (step : ℕ) (history : List Entry) (u : PassedFor) (node time : ℕ) → cost step history u t node time ≡ cost step history u l node time + cost step history u r (node + ranges_in l) time

-- A tree of one part, which may have a pattern of its own behind it. Its ranges are asked for
-- another function.
pub record IsOne (t u : Tree) (own : List (List ℕ)) (func_of : RangeFn → RangeFn) : Type 0 where
  pub back : reads_back t ≡ reads_back u
  pub steps : has_steps t ≡ has_steps u
  pub selectors : tests_in t ≡ tests_in u
  pub ranges : ranges_in t ≡ ranges_in u
  pub patterns : patterns_in t ≡ patterns_in u ++ own
  pub asks : (inside : Bool) (history : List Entry) (func : RangeFn) (time : ℕ) → asks_in inside history func t time ≡ asks_in inside history (func_of func) u time
  pub costs : (step : ℕ) (history : List Entry) (p : PassedFor) (node time : ℕ) → cost step history p t node time ≡ cost step history p u node time
