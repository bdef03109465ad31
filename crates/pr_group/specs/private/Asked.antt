-- What range selectors were asked last, as it is known of a rule between its evaluations.
use Rattle.std.specs.Prelude.{◌≡◌, ℕ, ◌≤◌, pos, ◌-ℤ◌, List, [], ◌∷◌, ◌++◌, slice_get, Option, Some, None}
use Rattle.pr_ast.specs.declared.selector.Selector.{Selector}
use Rattle.pr_ast.specs.Tree.{Tree, number, text, select, range, sub, neg, binary, call, aggregate, none, more}
use Rattle.pr_rule.specs.spec_vectors.declared.range.RangeFn.{RangeFn}
use Rattle.pr_rule.specs.spec_vectors.declared.range.RangeFn.TheVariants.{PresentOverTime}
use Rattle.pr_rule.specs.spec_meaning.Selection.{moment_of}
use Rattle.pr_rule.specs.pr_range.private.Asks.{LastAsk, LastAsks}
use Rattle.pr_rule.specs.pr_eval.private.Asking.{asked_for}

-- A range selector with its span, and the function that it is asked for.
pub record RangeSelector : Type 0 where
  pub func : RangeFn
  pub selector : Selector
  pub span : ℕ

-- Those of a tree in the order of their numbers, those inside subqueries among them. A range
-- selector is asked for the function that it is an argument of.
abbrev pub selectors_under : RangeFn → Tree → List RangeSelector
selectors_under func (range p s d) = record { func = func; selector = s; span = d } ∷ []
selectors_under func (sub p t d i o) = selectors_under func t
selectors_under func (neg p t) = selectors_under func t
selectors_under func (binary p o b m l r) = selectors_under func l ++ selectors_under func r
selectors_under func (call p f ts) = selectors_under (asked_for f) ts
selectors_under func (aggregate p o g ts) = selectors_under func ts
selectors_under func (more ts t) = selectors_under func ts ++ selectors_under func t
selectors_under func (number p v) = []
selectors_under func (text p t) = []
selectors_under func (select p s) = []
selectors_under func none = []

-- those of a whole expression, which is no argument of a function
abbrev pub range_selectors : Tree → List RangeSelector
range_selectors t = selectors_under PresentOverTime t

-- what one is asked at a time
abbrev pub ask_of : RangeSelector → ℕ → LastAsk
ask_of r time = record { func = r.func; from = moment_of r.selector time -ℤ pos r.span; to = moment_of r.selector time }

-- This was asked of the range selector with a number, at some time until another one.
pub record WasAskedUntil (until : ℕ) (t : Tree) (node : ℕ) (b : LastAsk) : Type 0 where
  pub time : ℕ
  pub early : time ≤ until
  pub selector : RangeSelector
  pub named : slice_get (range_selectors t) node ≡ Some selector
  pub asked : b ≡ ask_of selector time

-- Each last ask is that of its range selector at some time until the last evaluation; before any
-- evaluation nothing was asked.
abbrev pub WasAsked : LastAsks → Tree → Option ℕ → Type 0
WasAsked last t None = (node series : ℕ) → last node series ≡ None
WasAsked last t (Some until) = (node series : ℕ) (b : LastAsk) → last node series ≡ Some b → WasAskedUntil until t node b
