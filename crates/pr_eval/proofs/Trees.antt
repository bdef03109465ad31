-- What is known of the parts of a tree.
use Rattle.std.proofs.Common.{◌≡◌, ◌≢◌, ℕ, zero, suc, ◌+◌, ◌<◌, ◌≤◌, max, pos, ◌-ℤ◌, ◌≤ℤ◌, Bool, true, false, List, [], ◌∷◌, ◌++◌, length, slice_get, Option, Some, Result, Ok, Err, is_ok, refl, sym, ap, subst, ◌∙◌, length-append, arith}
use Rattle.std.proofs.lemmas.Option.{slice_get_within}
use Rattle.pr_labels.specs.declared.pair.Pair.{Pair}
use Rattle.pr_labels.specs.declared.grouping.Grouping.{Grouping}
use Rattle.pr_labels.specs.declared.matching.Matching.{Matching}
use Rattle.pr_fn.specs.pr_match.Matcher.{LabelTest}
use Rattle.pr_range.specs.spec_history.declared.entry.Entry.{Entry}
use Rattle.pr_range.specs.pr_head.private.Stored.{Stored}
use Rattle.pr_ast.specs.declared.place.Place.{Place}
use Rattle.pr_labels.specs.Names.{is_label_name}
use Rattle.pr_ast.specs.declared.names.AggOp.{AggOp}
use Rattle.pr_ast.specs.declared.names.AggOp.TheVariants as agg
use Rattle.pr_ast.specs.declared.names.BinOp.{BinOp}
use Rattle.pr_ast.specs.declared.names.Func.{Func}
use Rattle.pr_ast.specs.declared.names.Func.TheVariants as fn
use Rattle.pr_ast.specs.declared.selector.Selector.{Selector}
use Rattle.pr_num.specs.declared.value.Num.{Num}
use Rattle.pr_labels.proofs.LabelOrder.{both}
use Rattle.pr_ast.specs.Tree.{Tree, number, text, select, range, sub, neg, binary, call, aggregate, none, more}
use Rattle.pr_ast.specs.Reach.{reads_back}
use Rattle.pr_ast.specs.private.Steps.{has_steps}
use Rattle.spec_meaning.specs.pr_types.declared.counting.SelectorCounts.{SelectorCounts}
use Rattle.spec_meaning.specs.pr_types.declared.kind.ValueType.{ValueType}
use Rattle.spec_meaning.specs.pr_types.declared.kind.ValueType.TheVariants.{Scalar, Vector, Range, Text}
use Rattle.spec_meaning.specs.pr_types.Signatures.{agg_signature, is_type, wanted}
use Rattle.spec_meaning.specs.pr_types.Operations.{is_instant}
use Rattle.spec_meaning.specs.pr_types.Selectors.{tests_of}
use Rattle.spec_meaning.specs.pr_types.private.Built.{tests_in, patterns_in, own_patterns}
use Rattle.spec_meaning.specs.pr_types.private.Numbers.{ranges_in}
use Rattle.spec_meaning.specs.pr_types.private.Parts.{AreArguments, AreOperands, arguments}
use Rattle.spec_meaning.specs.pr_types.declared.kind.TypeFault.{TypeFault}
use Rattle.spec_meaning.specs.pr_types.private.Checking.{MayEvaluate}
use Rattle.spec_meaning.specs.pr_types.Typed.{checked, content_at, typed}
use Rattle.spec_meaning.proofs.TypesWhole.{checked_says}
use Rattle.spec_meaning.proofs.TypesParts.{parts_of_aggregate, parts_of_binary, parts_of_neg, parts_of_sub, text_of_count}
use Rattle.spec_meaning.proofs.TypesCountLemmas.{ranges_are_selectors}
use Rattle.pr_range.specs.spec_vectors.declared.range.RangeFn.{RangeFn}
use Rattle.spec_meaning.specs.private.Cost.{cost}
use Rattle.spec_meaning.specs.Selection.{moment_of}
use Rattle.pr_eval.specs.private.Asking.{asked_for, takes_range}
use Rattle.pr_eval.specs.private.Looks.{KeepsAt, KeepsFor}
use Rattle.pr_eval.specs.private.Parts.{AreTwo, IsValued, IsOne, IsPartAt, PatternsAt, StandAt, counts_after, with_patterns}
use Rattle.pr_eval.proofs.Each.{first_of_one, front_each, rest_each}
use Rattle.pr_eval.proofs.Moments.{past_selector}

-- the parts of trees
nothing_more : {A : Type 0} (xs : List A) → xs ≡ xs ++ []
nothing_more [] = refl
nothing_more (x ∷ xs) = ap (λ ys. x ∷ ys) (nothing_more xs)

pub neg_of : (t : Tree) (p : Place) (u : Tree) → t ≡ neg p u → IsOne t u [] (λ f. f)
neg_of t p u is = subst (λ v. IsOne v u [] (λ f. f)) (sym is) (record {
  back = refl;
  steps = refl;
  selectors = refl;
  ranges = refl;
  patterns = nothing_more (patterns_in u);
  asks = λ inside history func time. refl;
  costs = λ step history u node time. refl;
})

pub aggregate_of : (t : Tree) (p : Place) (o : AggOp) (g : Grouping) (u : Tree) → t ≡ aggregate p o g (more none u) → IsOne t u [] (λ f. f)
aggregate_of t p o g u is = subst (λ v. IsOne v u [] (λ f. f)) (sym is) (record {
  back = omega arith;
  steps = refl;
  selectors = refl;
  ranges = omega arith;
  patterns = nothing_more (patterns_in u);
  asks = λ inside history func time. refl;
  costs = λ step history k node time.
      let same : node + 0 ≡ node = omega arith in
      let none_before : 0 + cost step history k u (node + 0) time ≡ cost step history k u (node + 0) time = omega arith in
      none_before ∙ ap (λ m. cost step history k u m time) same;
})

pub aggregate_by_of : (t : Tree) (p : Place) (o : AggOp) (g : Grouping) (l r : Tree) → t ≡ aggregate p o g (more (more none l) r) → AreTwo t l r
aggregate_by_of t p o g l r is = subst (λ v. AreTwo v l r) (sym is) (record {
  back = omega arith;
  steps = refl;
  selectors = refl;
  ranges = omega arith;
  patterns = refl;
  asks = λ inside history func time. refl;
  costs = λ step history k node time.
      let same : node + 0 ≡ node = omega arith in
      let also : node + (0 + ranges_in l) ≡ node + ranges_in l = omega arith in
      let none_before : 0 + cost step history k l (node + 0) time ≡ cost step history k l (node + 0) time = omega arith in
      (λ i. (none_before ∙ ap (λ m. cost step history k l m time) same) i + ap (λ m. cost step history k r m time) also i);
})

pub single_of : (t u : Tree) → t ≡ more none u → IsOne t u [] (λ f. f)
single_of t u is = subst (λ v. IsOne v u [] (λ f. f)) (sym is) (record {
  back = omega arith;
  steps = refl;
  selectors = refl;
  ranges = omega arith;
  patterns = nothing_more (patterns_in u);
  asks = λ inside history func time. refl;
  costs = λ step history k node time.
      let same : node + 0 ≡ node = omega arith in
      let none_before : 0 + cost step history k u (node + 0) time ≡ cost step history k u (node + 0) time = omega arith in
      none_before ∙ ap (λ m. cost step history k u m time) same;
})

pub pair_of : (t l r : Tree) → t ≡ more (more none l) r → AreTwo t l r
pair_of t l r is = subst (λ v. AreTwo v l r) (sym is) (record {
  back = omega arith;
  steps = refl;
  selectors = refl;
  ranges = omega arith;
  patterns = refl;
  asks = λ inside history func time. refl;
  costs = λ step history k node time.
      let same : node + 0 ≡ node = omega arith in
      let also : node + (0 + ranges_in l) ≡ node + ranges_in l = omega arith in
      let none_before : 0 + cost step history k l (node + 0) time ≡ cost step history k l (node + 0) time = omega arith in
      (λ i. (none_before ∙ ap (λ m. cost step history k l m time) same) i + ap (λ m. cost step history k r m time) also i);
})

pub call_of : (t : Tree) (p : Place) (f : Func) (ts : Tree) → t ≡ call p f ts → IsOne t ts (own_patterns f ts) (λ g. asked_for f)
call_of t p f ts is = subst (λ v. IsOne v ts (own_patterns f ts) (λ g. asked_for f)) (sym is) (record {
  back = refl;
  steps = refl;
  selectors = refl;
  ranges = refl;
  patterns = refl;
  asks = λ inside history func time. refl;
  costs = λ step history u node time. refl;
})

pub binary_of : (t : Tree) (p : Place) (o : BinOp) (b : Bool) (m : Option Matching) (l r : Tree) → t ≡ binary p o b m l r → AreTwo t l r
binary_of t p o b m l r is = subst (λ v. AreTwo v l r) (sym is) (record {
  back = refl;
  steps = refl;
  selectors = refl;
  ranges = refl;
  patterns = refl;
  asks = λ inside history func time. refl;
  costs = λ step history u node time. refl;
})

pub more_of : (t ts u : Tree) → t ≡ more ts u → AreTwo t ts u
more_of t ts u is = subst (λ v. AreTwo v ts u) (sym is) (record {
  back = refl;
  steps = refl;
  selectors = refl;
  ranges = refl;
  patterns = refl;
  asks = λ inside history func time. refl;
  costs = λ step history u node time. refl;
})

-- where their selectors, ranges and patterns stand

module _ (whole : Tree) (n : SelectorCounts) where
  pub one_part : (t u : Tree) (own : List (List ℕ)) (f : RangeFn → RangeFn) → IsOne t u own f → IsPartAt whole n t → IsPartAt whole n u
  one_part t u own f one h = record {
    selectors = subst (StandAt (tests_in whole) n.selectors) one.selectors h.selectors;
    ranges = (let same : ranges_in t ≡ ranges_in u = one.ranges in let within : n.ranges + ranges_in t ≤ ranges_in whole = h.ranges in omega (arith, same, within));
    patterns = front_each (λ k x. slice_get (patterns_in whole) k ≡ Some x) n.patterns (patterns_in u) own (subst (PatternsAt (patterns_in whole) n.patterns) one.patterns h.patterns);
    steps = sym one.steps ∙ h.steps;
  }

  pub first_part : (t l r : Tree) → AreTwo t l r → IsPartAt whole n t → IsPartAt whole n l
  first_part t l r two h = record {
    selectors = front_each (λ k x. slice_get (tests_in whole) k ≡ Some x) n.selectors (tests_in l) (tests_in r) (subst (StandAt (tests_in whole) n.selectors) two.selectors h.selectors);
    ranges = (let same : ranges_in t ≡ ranges_in l + ranges_in r = two.ranges in let within : n.ranges + ranges_in t ≤ ranges_in whole = h.ranges in omega (arith, same, within));
    patterns = front_each (λ k x. slice_get (patterns_in whole) k ≡ Some x) n.patterns (patterns_in l) (patterns_in r) (subst (PatternsAt (patterns_in whole) n.patterns) two.patterns h.patterns);
    steps = (both (has_steps l) (has_steps r) (sym two.steps ∙ h.steps)).0;
  }

  second_here : (t l r : Tree) → AreTwo t l r → IsPartAt whole n t → IsPartAt whole (counts_after n l) r
  second_here t l r two h = record {
    selectors = rest_each (λ k x. slice_get (tests_in whole) k ≡ Some x) n.selectors (n.selectors + length (tests_in l)) (tests_in l) (tests_in r) refl (subst (StandAt (tests_in whole) n.selectors) two.selectors h.selectors);
    ranges = (let same : ranges_in t ≡ ranges_in l + ranges_in r = two.ranges in let within : n.ranges + ranges_in t ≤ ranges_in whole = h.ranges in omega (arith, same, within));
    patterns = rest_each (λ k x. slice_get (patterns_in whole) k ≡ Some x) n.patterns (n.patterns + length (patterns_in l)) (patterns_in l) (patterns_in r) refl (subst (PatternsAt (patterns_in whole) n.patterns) two.patterns h.patterns);
    steps = (both (has_steps l) (has_steps r) (sym two.steps ∙ h.steps)).1;
  }

  pub second_part : (m : SelectorCounts) (t l r : Tree) → AreTwo t l r → m ≡ counts_after n l → IsPartAt whole n t → IsPartAt whole m r
  second_part m t l r two is h = subst (λ k. IsPartAt whole k r) (sym is) (second_here t l r two h)

-- the numbers behind them
abbrev pub counts : ℕ → ℕ → ℕ → SelectorCounts
counts s r p = record { selectors = s; ranges = r; patterns = p }

appended : {A : Type 0} (n : ℕ) (xs ys zs : List A) → zs ≡ xs ++ ys → (n + length xs) + length ys ≡ n + length zs
appended n xs ys zs is = let all : length zs ≡ length xs + length ys = ap length is ∙ length-append xs ys in omega (arith, all)

pub counts_of_two : (n m k : SelectorCounts) (t l r : Tree) → AreTwo t l r → m ≡ counts_after n l → k ≡ counts_after m r → k ≡ counts_after n t
counts_of_two n m k t l r two first second =
    second ∙ ap (λ c. counts_after c r) first ∙ joined where
      joined : counts_after (counts_after n l) r ≡ counts_after n t
      joined =
          let s = appended n.selectors (tests_in l) (tests_in r) (tests_in t) two.selectors in
          let p = appended n.patterns (patterns_in l) (patterns_in r) (patterns_in t) two.patterns in
          let same : ranges_in t ≡ ranges_in l + ranges_in r = two.ranges in
          let q : (n.ranges + ranges_in l) + ranges_in r ≡ n.ranges + ranges_in t = omega (arith, same) in
          (λ i. record { selectors = s i; ranges = q i; patterns = p i })

pub counts_of_one : (n m : SelectorCounts) (t u : Tree) (f : RangeFn → RangeFn) → IsOne t u [] f → m ≡ counts_after n u → m ≡ counts_after n t
counts_of_one n m t u f one is = is ∙ (λ i. record {
  selectors = n.selectors + length (sym one.selectors i);
  ranges = n.ranges + sym one.ranges i;
  patterns = n.patterns + length ((nothing_more (patterns_in u) ∙ sym one.patterns) i);
})

pub counts_of_own : (n m k : SelectorCounts) (t u : Tree) (own : List (List ℕ)) (f : RangeFn → RangeFn) → IsOne t u own f → m ≡ counts_after n u → k ≡ with_patterns m own → k ≡ counts_after n t
counts_of_own n m k t u own f one first second = second ∙ ap (λ c. with_patterns c own) first ∙ joined where
  joined : with_patterns (counts_after n u) own ≡ counts_after n t
  joined =
      let p = appended n.patterns (patterns_in u) own (patterns_in t) one.patterns in
      (λ i. record { selectors = n.selectors + length (sym one.selectors i); ranges = n.ranges + sym one.ranges i; patterns = p i })

counts_same : (a b c x y z : ℕ) → x ≡ a → y ≡ b → z ≡ c → counts a b c ≡ counts x y z
counts_same a b c x y z h k l = λ i. counts (sym h i) (sym k i) (sym l i)

pub counts_of_number : (n : SelectorCounts) (t : Tree) (p : Place) (v : Num) → t ≡ number p v → n ≡ counts_after n t
counts_of_number n t p v is = counts_same n.selectors n.ranges n.patterns _ _ _ (omega arith) (omega arith) (omega arith) ∙ ap (counts_after n) (sym is)

pub counts_of_none : (n : SelectorCounts) → n ≡ counts_after n none
counts_of_none n = counts_same n.selectors n.ranges n.patterns _ _ _ (omega arith) (omega arith) (omega arith)

pub counts_of_text : (n : SelectorCounts) (t : Tree) (p : Place) (u : List ℕ) → t ≡ text p u → n ≡ counts_after n t
counts_of_text n t p u is = counts_same n.selectors n.ranges n.patterns _ _ _ (omega arith) (omega arith) (omega arith) ∙ ap (counts_after n) (sym is)

pub counts_of_select : (n : SelectorCounts) (t : Tree) (p : Place) (s : Selector) → t ≡ select p s → counts (n.selectors + 1) n.ranges n.patterns ≡ counts_after n t
counts_of_select n t p s is = counts_same (n.selectors + 1) n.ranges n.patterns _ _ _ refl (omega arith) (omega arith) ∙ ap (counts_after n) (sym is)

pub counts_of_stamped : (n : SelectorCounts) (t : Tree) (p q : Place) (s : Selector) → t ≡ call p fn.Timestamp (more none (select q s)) → counts (n.selectors + 1) n.ranges n.patterns ≡ counts_after n t
counts_of_stamped n t p q s is = counts_same (n.selectors + 1) n.ranges n.patterns _ _ _ refl (omega arith) (omega arith) ∙ ap (counts_after n) (sym is)

pub counts_of_range : (n : SelectorCounts) (t : Tree) (p : Place) (s : Selector) (d : ℕ) → t ≡ range p s d → counts (n.selectors + 1) (n.ranges + 1) n.patterns ≡ counts_after n t
counts_of_range n t p s d is = counts_same (n.selectors + 1) (n.ranges + 1) n.patterns _ _ _ refl refl (omega arith) ∙ ap (counts_after n) (sym is)

-- a tree with one selector
module _ (t : Tree) (s : Selector) (is : tests_in t ≡ tests_of s ∷ []) (all : List (List LabelTest)) (n : ℕ) (h : StandAt all n (tests_in t)) where
  pub selector_stands : slice_get all n ≡ Some (tests_of s)
  selector_stands = first_of_one (λ k x. slice_get all k ≡ Some x) n (tests_of s) (subst (StandAt all n) is h)

  pub selector_within : n < length all
  selector_within = slice_get_within all n (tests_of s) selector_stands

pub tests_of_select : (t : Tree) (p : Place) (s : Selector) → t ≡ select p s → tests_in t ≡ tests_of s ∷ []
tests_of_select t p s is = ap tests_in is

pub tests_of_stamped : (t : Tree) (p q : Place) (s : Selector) → t ≡ call p fn.Timestamp (more none (select q s)) → tests_in t ≡ tests_of s ∷ []
tests_of_stamped t p q s is = ap tests_in is

pub tests_of_range : (t : Tree) (p : Place) (s : Selector) (d : ℕ) → t ≡ range p s d → tests_in t ≡ tests_of s ∷ []
tests_of_range t p s d is = ap tests_in is

-- there are no more range selectors than selectors
pub range_within : (whole t : Tree) (n : SelectorCounts) (p : Place) (s : Selector) (d : ℕ) → t ≡ range p s d → IsPartAt whole n t → n.ranges < length (tests_in whole)
range_within whole t n p s d is h =
    let one : ranges_in t ≡ 1 = ap ranges_in is in
    let within : n.ranges + ranges_in t ≤ ranges_in whole = h.ranges in
    let all : ranges_in whole ≤ length (tests_in whole) = ranges_are_selectors whole in
    omega (arith, one, within, all)

-- what a selector looks at
keeps_at : (t : Tree) (s : Selector) → reads_back t ≡ s.offset + 300000 → (head : List (List Pair × Stored)) (history : List Entry) (time : ℕ) → KeepsFor head history t time → KeepsAt head history (moment_of s time)
keeps_at t s back head history time k = record {
  lawful = k.lawful;
  holds = k.holds;
  forgotten = k.forgotten;
  whole = k.whole;
  past = past_selector k.forgotten time s.offset (subst (λ n. k.forgotten ≤ℤ (pos time -ℤ pos n)) back k.back);
}

pub select_keeps : (t : Tree) (p : Place) (s : Selector) → t ≡ select p s → (head : List (List Pair × Stored)) (history : List Entry) (time : ℕ) → KeepsFor head history t time
    → KeepsAt head history (moment_of s time)
select_keeps t p s is = keeps_at t s (ap reads_back is)

pub stamped_keeps : (t : Tree) (p q : Place) (s : Selector) → t ≡ call p fn.Timestamp (more none (select q s)) → (head : List (List Pair × Stored)) (history : List Entry) (time : ℕ) → KeepsFor head history t time
    → KeepsAt head history (moment_of s time)
stamped_keeps t p q s is = keeps_at t s (ap reads_back is ∙ none_before (s.offset + 300000)) where
  none_before : (n : ℕ) → max 0 n ≡ n
  none_before n = omega arith

-- calls of functions of ranges
no_pattern : (f : Func) (ts : Tree) → takes_range f ≡ true → own_patterns f ts ≡ []
no_pattern fn.AbsentOverTime ts h = refl
no_pattern fn.Rate ts h = refl
no_pattern fn.Increase ts h = refl
no_pattern fn.Delta ts h = refl
no_pattern fn.Irate ts h = refl
no_pattern fn.Idelta ts h = refl
no_pattern fn.Deriv ts h = refl
no_pattern fn.PredictLinear ts h = refl
no_pattern fn.Changes ts h = refl
no_pattern fn.Resets ts h = refl
no_pattern fn.SumOverTime ts h = refl
no_pattern fn.AvgOverTime ts h = refl
no_pattern fn.MinOverTime ts h = refl
no_pattern fn.MaxOverTime ts h = refl
no_pattern fn.CountOverTime ts h = refl
no_pattern fn.LastOverTime ts h = refl
no_pattern fn.PresentOverTime ts h = refl
no_pattern fn.QuantileOverTime ts h = refl
no_pattern _ ts h = absurd cc

pub range_call_of : (t : Tree) (p : Place) (f : Func) (ts : Tree) → t ≡ call p f ts → takes_range f ≡ true → IsOne t ts [] (λ g. asked_for f)
range_call_of t p f ts is h = subst (λ own. IsOne t ts own (λ g. asked_for f)) (no_pattern f ts h) (call_of t p f ts is)

-- the expression of a subquery
pub sub_valued : (t : Tree) (p : Place) (u : Tree) (d : ℕ) (i : Option ℕ) (o : ℕ) → t ≡ sub p u d i o → typed t ≡ Ok Range → IsValued u
sub_valued t p u d i o is h = record { gives = Vector; typed_so = (parts_of_sub p u d i o Range (sym (ap typed is) ∙ h)).0; no_range = refl }

-- the types of operands
no_range_of : (v : ValueType) → is_instant v ≡ true → is_type v Range ≡ false
no_range_of Scalar h = refl
no_range_of Vector h = refl
no_range_of Range h = cc
no_range_of Text h = refl

pub neg_valued : (t : Tree) (p : Place) (u : Tree) → t ≡ neg p u → IsValued t → IsValued u
neg_valued t p u is h = let k = parts_of_neg p u h.gives (sym (ap typed is) ∙ h.typed_so) in record { gives = h.gives; typed_so = k.0; no_range = h.no_range }

module _ (t : Tree) (p : Place) (o : BinOp) (b : Bool) (m : Option Matching) (l r : Tree) (is : t ≡ binary p o b m l r) (h : IsValued t) where
  operands : (x : ValueType) × ((y : ValueType) × AreOperands o b m l r h.gives x y)
  operands = parts_of_binary p o b m l r h.gives (sym (ap typed is) ∙ h.typed_so)

  pub left_valued : IsValued l
  left_valued = record { gives = operands.0; typed_so = operands.1.1.left; no_range = no_range_of operands.0 operands.1.1.left_instant }

  pub right_valued : IsValued r
  right_valued = record { gives = operands.1.0; typed_so = operands.1.1.right; no_range = no_range_of operands.1.0 operands.1.1.right_instant }

-- no aggregation has an argument that is a range
agg_no_range : (o : AggOp) (i : ℕ) → is_type (wanted (agg_signature o) i) Range ≡ false
unfolding agg_signature
agg_no_range agg.Sum zero = refl
agg_no_range agg.Sum (suc i) = refl
agg_no_range agg.Avg zero = refl
agg_no_range agg.Avg (suc i) = refl
agg_no_range agg.Min zero = refl
agg_no_range agg.Min (suc i) = refl
agg_no_range agg.Max zero = refl
agg_no_range agg.Max (suc i) = refl
agg_no_range agg.Count zero = refl
agg_no_range agg.Count (suc i) = refl
agg_no_range agg.Group zero = refl
agg_no_range agg.Group (suc i) = refl
agg_no_range agg.TopK zero = refl
agg_no_range agg.TopK (suc i) = refl
agg_no_range agg.BottomK zero = refl
agg_no_range agg.BottomK (suc i) = refl
agg_no_range agg.Quantile zero = refl
agg_no_range agg.Quantile (suc i) = refl
agg_no_range agg.CountValues zero = refl
agg_no_range agg.CountValues (suc i) = refl

argument_valued : (o : AggOp) (ts : List Tree) (i : ℕ) (u : Tree) → AreArguments (agg_signature o) ts → slice_get ts i ≡ Some u → IsValued u
argument_valued o ts i u h e = record { gives = wanted (agg_signature o) i; typed_so = h.types i u e; no_range = agg_no_range o i }

module _ (t : Tree) (p : Place) (o : AggOp) (g : Grouping) (ts : Tree) (is : t ≡ aggregate p o g ts) (h : IsValued t) where
  arguments_of : AreArguments (agg_signature o) (arguments ts)
  arguments_of = (parts_of_aggregate p o g ts h.gives (sym (ap typed is) ∙ h.typed_so)).0

  pub aggregated_valued : (i : ℕ) (u : Tree) → slice_get (arguments ts) i ≡ Some u → IsValued u
  aggregated_valued i u e = argument_valued o (arguments ts) i u arguments_of e

  pub counted_label : o ≡ agg.CountValues → is_label_name (content_at ts 0) ≡ true
  counted_label same = text_of_count p g ts h.gives (sym (ap typed is ∙ ap (λ a. typed (aggregate p a g ts)) same) ∙ h.typed_so)

two_wanted : (ts : List Tree) → AreArguments (agg_signature agg.CountValues) ts → 2 ≤ length ts
unfolding agg_signature
two_wanted ts h = h.at_least

pub counts_no_values : (t : Tree) (p : Place) (o : AggOp) (g : Grouping) (u : Tree) → t ≡ aggregate p o g (more none u) → IsValued t → o ≢ agg.CountValues
counts_no_values t p o g u is h = λ same. let two : 2 ≤ 1 = two_wanted (u ∷ []) (subst (λ a. AreArguments (agg_signature a) (u ∷ [])) same (arguments_of t p o g (more none u) is h)) in omega (arith, two)

-- a whole expression that is checked
pub whole_valued : (t : Tree) → MayEvaluate t → IsValued t
whole_valued t h = by (checked t) refl h.checked_so where
  by : (r : Result ValueType TypeFault) → checked t ≡ r → is_ok r ≡ true → IsValued t
  by (Ok v) e k = let says = checked_says t v e in record { gives = v; typed_so = says.0; no_range = no_range_of v says.1 }
  by (Err f) e k = absurd cc
