-- The parts of a tree that has a type have types.
use Rattle.std.proofs.Common.{◌≡◌, ◌≤◌, ℕ, zero, suc, nat_eq, nat_le, Bool, true, false, not, ◌&&◌, cond, List, [], ◌∷◌, ◌++◌, map, length, Option, None, Some, option_map, slice_get, Result, Ok, Err, refl, ap, sym, ◌∙◌, arith}
use Rattle.std.proofs.lemmas.Bool.Decides.{nat_tests}
use Rattle.std.proofs.lemmas.List.{map-append, length-map}
use Rattle.std.proofs.lemmas.Option.{slice_get-map}
use Rattle.pr_ast.specs.pr_labels.Names.{is_label_name}
use Rattle.pr_ast.specs.pr_labels.declared.grouping.Grouping.{Grouping}
use Rattle.pr_ast.specs.pr_labels.declared.matching.Matching.{Matching}
use Rattle.pr_match.specs.Matcher.{LabelTest}
use Rattle.pr_match.specs.Pattern.{is_pattern}
use Rattle.pr_ast.specs.declared.place.Place.{Place}
use Rattle.pr_ast.specs.declared.names.AggOp.{AggOp}
use Rattle.pr_ast.specs.declared.names.AggOp.TheVariants as agg
use Rattle.pr_ast.specs.declared.names.BinOp.{BinOp}
use Rattle.pr_ast.specs.declared.names.Func.{Func}
use Rattle.pr_ast.specs.declared.names.Func.TheVariants as func
use Rattle.pr_ast.specs.declared.selector.Selector.{Selector}
use Rattle.pr_ast.specs.private.Steps.{is_step, has_steps}
use Rattle.pr_ast.specs.Tree.{Tree, number, text, select, range, sub, neg, binary, call, aggregate, none, more}
use Rattle.pr_types.specs.declared.kind.ValueType.{ValueType}
use Rattle.pr_types.specs.declared.kind.ValueType.TheVariants.{Scalar, Vector, Range, Text}
use Rattle.pr_types.specs.declared.kind.TypeKind.{TypeKind}
use Rattle.pr_types.specs.declared.kind.TypeKind.TheVariants.{Arguments, BadLabel, BadPattern, WantVector, NoMatcher, ZeroStep}
use Rattle.pr_types.specs.declared.kind.TypeFault.{TypeFault}
use Rattle.pr_types.specs.declared.signature.Signature.{Signature}
use Rattle.pr_types.specs.declared.signature.Operand.{Operand}
use Rattle.pr_types.specs.Signatures.{fault, is_type, wanted, kind_wanting, first_wrong, wrong_operand, accepted, are_counted, no_fault, func_signature, agg_signature}
use Rattle.pr_types.specs.Selectors.{tests_of, checked_tests, are_good, is_open}
use Rattle.pr_types.specs.Operations.{is_scalar, is_instant, instant, over_times, operation_fault, operation_type}
use Rattle.pr_types.specs.private.Parts.{arguments, AreArguments, AreOperands, may_give}
use Rattle.pr_types.specs.Typed.{typed, operands, operand, start, go_on, unless, typed_operation, typed_subquery, step_fault, typed_call, typed_aggregation, content_at, label_fault, pattern_at, with_texts, replaces, joins, counts_values}

-- where the whole is well, so was the first part
pub went_on : {A B : Type 0} (next : A → Result B TypeFault) (r : Result A TypeFault) (b : B) → go_on next r ≡ Ok b → (a : A) × ((r ≡ Ok a) × (next a ≡ Ok b))
went_on next (Ok a) b h = (a, (refl, h))
went_on next (Err f) b h = cc

-- a test that was passed
passed : {A : Type 0} (t : Bool) (a v : A) (f : TypeFault) → cond t (Ok a) (Err f) ≡ Ok v → (t ≡ true) × (a ≡ v)
passed true a v f h = (refl, cc)
passed false a v f h = cc

same_type : (a b : ValueType) → is_type a b ≡ true → a ≡ b
same_type Scalar Scalar h = refl
same_type Vector Vector h = refl
same_type Range Range h = refl
same_type Text Text h = refl
same_type _ _ h = cc

type_itself : (a : ValueType) → is_type a a ≡ true
type_itself Scalar = refl
type_itself Vector = refl
type_itself Range = refl
type_itself Text = refl

-- a type that is known gives what is tested of it
as_type : (a v : ValueType) → v ≡ a → is_type v a ≡ true
as_type a v e = ap (λ x. is_type x a) e ∙ type_itself a

-- selectors

selected_is : (at : ℕ) (s : Selector) (ts : List LabelTest) → checked_tests at s ≡ Ok ts → ts ≡ tests_of s
selected_is at s ts h = by_tests (are_good s.matchers) (is_open s.name s.matchers) h
  where
    by_tests : (good empty : Bool) → cond good (cond empty (Err (fault at NoMatcher)) (Ok (tests_of s))) (Err (fault at BadPattern)) ≡ Ok ts → ts ≡ tests_of s
    by_tests true true k = cc
    by_tests true false k = cc
    by_tests false empty k = cc

selector_is : (at : ℕ) (s : Selector) (gives v : ValueType) → go_on (λ tests. Ok gives) (checked_tests at s) ≡ Ok v → (checked_tests at s ≡ Ok (tests_of s)) × (v ≡ gives)
selector_is at s gives v h =
    let w = went_on (λ (tests : List LabelTest). Ok gives) (checked_tests at s) v h in
    let same : Ok gives ≡ Ok v = w.1.1 in (w.1.0 ∙ ap Ok (selected_is at s w.0 w.1.0), cc)

pub parts_of_select : (p : Place) (s : Selector) (v : ValueType) → typed (select p s) ≡ Ok v → (checked_tests p.start s ≡ Ok (tests_of s)) × (v ≡ Vector)
parts_of_select p s v h = selector_is p.start s Vector v h

pub parts_of_range : (p : Place) (s : Selector) (span : ℕ) (v : ValueType) → typed (range p s span) ≡ Ok v → (checked_tests p.start s ≡ Ok (tests_of s)) × (v ≡ Range)
parts_of_range p s span v h = selector_is p.start s Range v h

-- signs, subqueries and operations

instant_is : (at : ℕ) (a v : ValueType) → instant (operand at a) ≡ Ok v → (a ≡ v) × (is_instant v ≡ true)
instant_is at a v h = let p = passed (is_instant a) a v (fault at WantVector) h in (p.1, ap is_instant (sym p.1) ∙ p.0)

over_times_is : (at : ℕ) (a v : ValueType) → over_times (operand at a) ≡ Ok v → (a ≡ Vector) × (Range ≡ v)
over_times_is at a v h = let p = passed (is_type a Vector) Range v (fault at WantVector) h in (same_type a Vector p.0, p.1)

unless_is : (at : ℕ) (k : Option TypeKind) (w v : ValueType) → unless at k w ≡ Ok v → (k ≡ None) × (w ≡ v)
unless_is at None w v h = (refl, cc)
unless_is at (Some k) w v h = cc

pub parts_of_neg : (p : Place) (t : Tree) (v : ValueType) → typed (neg p t) ≡ Ok v → (typed t ≡ Ok v) × (is_instant v ≡ true)
parts_of_neg p t v h =
    let w = went_on (λ a. instant (operand (start t) a)) (typed t) v h in
    let is = instant_is (start t) w.0 v w.1.1 in (w.1.0 ∙ ap Ok is.0, is.1)

subquery_is : (at : ℕ) (step : Option ℕ) (place : ℕ) (a v : ValueType) → typed_subquery at step (operand place a) ≡ Ok v → (a ≡ Vector) × (step_fault step ≡ None) × (v ≡ Range)
subquery_is at step place a v h =
    let w = went_on (unless at (step_fault step)) (over_times (operand place a)) v h in
    let over = over_times_is place a w.0 w.1.0 in
    let last = unless_is at (step_fault step) w.0 v w.1.1 in (over.0, last.0, sym (over.1 ∙ last.1))

pub parts_of_sub : (p : Place) (t : Tree) (span : ℕ) (step : Option ℕ) (offset : ℕ) (v : ValueType) → typed (sub p t span step offset) ≡ Ok v →
    (typed t ≡ Ok Vector) × (step_fault step ≡ None) × (v ≡ Range)
parts_of_sub p t span step offset v h =
    let w = went_on (λ a. typed_subquery p.start step (operand (start t) a)) (typed t) v h in
    let is = subquery_is p.start step (start t) w.0 v w.1.1 in (w.1.0 ∙ ap Ok is.0, is.1, is.2)

as_operands : (o : BinOp) (b : Bool) (m : Option Matching) (l r : Tree) (x y i j v : ValueType) → typed l ≡ Ok x → typed r ≡ Ok y → x ≡ i → y ≡ j →
    is_instant i ≡ true → is_instant j ≡ true → operation_fault o b m i j ≡ None → operation_type i j ≡ v → AreOperands o b m l r v x y
as_operands o b m l r x y i j v hx hy ex ey left right well gives = record {
  left = hx;
  right = hy;
  left_instant = rw ex left;
  right_instant = rw ey right;
  no_fault_of_its_own = rw (ex, ey) well;
  gives = rw (ex, ey) gives;
}

operation_is : (at : ℕ) (o : BinOp) (b : Bool) (m : Option Matching) (l r : Tree) (x y v : ValueType) → typed l ≡ Ok x → typed r ≡ Ok y →
    typed_operation at o b m (operand (start l) x) (operand (start r) y) ≡ Ok v → AreOperands o b m l r v x y
operation_is at o b m l r x y v hx hy h =
    let one = went_on (λ i. go_on (λ j. unless at (operation_fault o b m i j) (operation_type i j)) (instant (operand (start r) y))) (instant (operand (start l) x)) v h in
    let other = went_on (λ j. unless at (operation_fault o b m one.0 j) (operation_type one.0 j)) (instant (operand (start r) y)) v one.1.1 in
    let i = instant_is (start l) x one.0 one.1.0 in
    let j = instant_is (start r) y other.0 other.1.0 in
    let last = unless_is at (operation_fault o b m one.0 other.0) (operation_type one.0 other.0) v other.1.1 in
    as_operands o b m l r x y one.0 other.0 v hx hy i.0 j.0 i.1 j.1 last.0 last.1

pub parts_of_binary : (p : Place) (o : BinOp) (b : Bool) (m : Option Matching) (l r : Tree) (v : ValueType) → typed (binary p o b m l r) ≡ Ok v →
    (x : ValueType) × ((y : ValueType) × AreOperands o b m l r v x y)
parts_of_binary p o b m l r v h =
    let one = went_on (λ x. go_on (λ y. typed_operation p.start o b m (operand (start l) x) (operand (start r) y)) (typed r)) (typed l) v h in
    let other = went_on (λ y. typed_operation p.start o b m (operand (start l) one.0) (operand (start r) y)) (typed r) v one.1.1 in
    (one.0, (other.0, operation_is p.start o b m l r one.0 other.0 v one.1.0 other.1.0 other.1.1))

operation_instant : (a b v : ValueType) → operation_type a b ≡ v → is_instant v ≡ true
operation_instant a b v h = sym (ap is_instant h) ∙ by_test (is_scalar a && is_scalar b)
  where
    by_test : (t : Bool) → is_instant (cond t Scalar Vector) ≡ true
    by_test true = refl
    by_test false = refl

-- arguments

-- the type that an operand has
abbrev type_had : Operand → Result ValueType TypeFault
type_had o = Ok o.gives

more_is : (ts t : Tree) (os : List Operand) → operands (more ts t) ≡ Ok os →
    (before : List Operand) × ((v : ValueType) × ((operands ts ≡ Ok before) × ((typed t ≡ Ok v) × (os ≡ before ++ operand (start t) v ∷ []))))
more_is ts t os h =
    let one = went_on (λ xs. go_on (λ v. Ok (xs ++ operand (start t) v ∷ [])) (typed t)) (operands ts) os h in
    let other = went_on (λ v. Ok (one.0 ++ operand (start t) v ∷ [])) (typed t) os one.1.1 in
    let same : Ok (one.0 ++ operand (start t) other.0 ∷ []) ≡ Ok os = other.1.1 in
    (one.0, (other.0, (one.1.0, (other.1.0, cc))))

-- the operands have the types of the arguments, one by one
types_had : (ts : Tree) (os : List Operand) → operands ts ≡ Ok os → map typed (arguments ts) ≡ map type_had os
types_had none os h = let e : [] ≡ os = cc in ap (map type_had) e
types_had (more ts t) os h =
    let p = more_is ts t os h in
    let v = p.1.0 in
    map-append typed (arguments ts) (t ∷ [])
    ∙ ap (λ xs. xs ++ typed t ∷ []) (types_had ts p.0 p.1.1.0)
    ∙ ap (λ x. map type_had p.0 ++ x ∷ []) p.1.1.1.0
    ∙ sym (map-append type_had p.0 (operand (start t) v ∷ []))
    ∙ ap (map type_had) (sym p.1.1.1.1)
types_had _ os h = cc

had_at : (o : Option Operand) (r : Result ValueType TypeFault) → option_map type_had o ≡ Some r → (x : Operand) × ((o ≡ Some x) × (r ≡ Ok x.gives))
had_at None r h = cc
had_at (Some x) r h = let e : Some (type_had x) ≡ Some r = h in (x, (refl, cc))

argument_at : (ts : Tree) (os : List Operand) → operands ts ≡ Ok os → (i : ℕ) (t : Tree) → slice_get (arguments ts) i ≡ Some t →
    (x : Operand) × ((slice_get os i ≡ Some x) × (typed t ≡ Ok x.gives))
argument_at ts os h i t e =
    had_at (slice_get os i) (typed t)
    (sym (slice_get-map type_had os i) ∙ ap (λ xs. slice_get xs i) (sym (types_had ts os h)) ∙ slice_get-map typed (arguments ts) i ∙ ap (option_map typed) e)

no_more : (b : Bool) (r : Option TypeFault) (f : TypeFault) → cond b r (Some f) ≡ None → (b ≡ true) × (r ≡ None)
no_more true r f h = (refl, h)
no_more false r f h = cc

first_right : (want : ValueType) (os : List Operand) → first_wrong want os ≡ None → (i : ℕ) (o : Operand) → slice_get os i ≡ Some o → o.gives ≡ want
first_right want [] h i o e = cc
first_right want (x ∷ os) h zero o e =
    let k = no_more (is_type x.gives want) (first_wrong want os) (fault x.at (kind_wanting want)) h in
    let same : x ≡ o = cc in ap (λ y. y.gives) (sym same) ∙ same_type x.gives want k.0
first_right want (x ∷ os) h (suc i) o e = first_right want os (no_more (is_type x.gives want) (first_wrong want os) (fault x.at (kind_wanting want)) h).1 i o e

all_right : (s : Signature) (os : List Operand) → wrong_operand s os ≡ None → (i : ℕ) (o : Operand) → slice_get os i ≡ Some o → o.gives ≡ wanted s i
all_right s [] h i o e = cc
all_right s (x ∷ os) h zero o e =
    let k = no_more (is_type x.gives s.first) (first_wrong s.others os) (fault x.at (kind_wanting s.first)) h in
    let same : x ≡ o = cc in ap (λ y. y.gives) (sym same) ∙ same_type x.gives s.first k.0
all_right s (x ∷ os) h (suc i) o e = first_right s.others os (no_more (is_type x.gives s.first) (first_wrong s.others os) (fault x.at (kind_wanting s.first)) h).1 i o e

-- the number of the operands and each of their types fit the signature
accepted_is : (at : ℕ) (s : Signature) (os : List Operand) (v : ValueType) → accepted at s os ≡ Ok v → (are_counted s os ≡ true) × (wrong_operand s os ≡ None) × (s.gives ≡ v)
accepted_is at s os v h = by_count (are_counted s os) (wrong_operand s os) h
  where
    by_fault : (w : Option TypeFault) → no_fault s.gives w ≡ Ok v → (w ≡ None) × (s.gives ≡ v)
    by_fault None k = (refl, cc)
    by_fault (Some f) k = cc

    by_count : (b : Bool) (w : Option TypeFault) → cond b (no_fault s.gives w) (Err (fault at (Arguments (length os) s.least s.most))) ≡ Ok v → (b ≡ true) × (w ≡ None) × (s.gives ≡ v)
    by_count true w k = let p = by_fault w k in (refl, p.0, p.1)
    by_count false w k = cc

both_le : (a b c : ℕ) → nat_le a b && nat_le b c ≡ true → (a ≤ b) × (b ≤ c)
both_le a b c h = (grind (arith, nat_tests), grind (arith, nat_tests))

as_arguments : (at : ℕ) (s : Signature) (ts : Tree) (os : List Operand) (v : ValueType) → operands ts ≡ Ok os → accepted at s os ≡ Ok v → AreArguments s (arguments ts) × (v ≡ s.gives)
as_arguments at s ts os v h a =
    let is = accepted_is at s os v a in
    let counted = both_le s.least (length os) s.most is.0 in
    let long : length (arguments ts) ≡ length os = sym (length-map (arguments ts) typed) ∙ ap length (types_had ts os h) ∙ length-map os type_had in (
      record {
        at_least = rw long counted.0;
        at_most = rw long counted.1;
        types = λ i t e. let x = argument_at ts os h i t e in x.1.1 ∙ ap Ok (all_right s os is.1 i x.0 x.1.0);
      },
      sym is.2,
    )

-- texts

no_label_fault : (b : Bool) → cond b None (Some BadLabel) ≡ None → b ≡ true
no_label_fault true h = refl
no_label_fault false h = cc

labelled_is : (at : ℕ) (label : List ℕ) (w v : ValueType) → unless at (label_fault label) w ≡ Ok v → (is_label_name label ≡ true) × (w ≡ v)
labelled_is at label w v h = let p = unless_is at (label_fault label) w v h in (no_label_fault (is_label_name label) p.0, p.1)

pattern_is : (at : ℕ) (pattern p : List ℕ) → pattern_at at pattern ≡ Ok p → is_pattern pattern ≡ true
pattern_is at pattern p h = (passed (is_pattern pattern) pattern p (fault at BadPattern) h).0

replaced_is : (at : ℕ) (pattern label : List ℕ) (w v : ValueType) → go_on (λ p. unless at (label_fault label) w) (pattern_at at pattern) ≡ Ok v →
    (is_label_name label ≡ true) × (is_pattern pattern ≡ true) × (w ≡ v)
replaced_is at pattern label w v h =
    let p = went_on (λ (q : List ℕ). unless at (label_fault label) w) (pattern_at at pattern) v h in
    let l = labelled_is at label w v p.1.1 in (l.0, pattern_is at pattern p.0 p.1.0, l.1)

-- texts leave the type as it is
texts_leave : (at : ℕ) (f : Func) (ts : Tree) (w v : ValueType) → with_texts at f ts w ≡ Ok v → w ≡ v
texts_leave at f ts w v h = by_tests (replaces f) (joins f) h
  where
    by_tests : (r j : Bool) → cond r (go_on (λ p. unless at (label_fault (content_at ts 1)) w) (pattern_at at (content_at ts 4))) (cond j (unless at (label_fault (content_at ts 1)) w) (Ok w)) ≡ Ok v → w ≡ v
    by_tests true j k = (replaced_is at (content_at ts 4) (content_at ts 1) w v k).2
    by_tests false true k = (labelled_is at (content_at ts 1) w v k).1
    by_tests false false k = cc

label_leaves : (at : ℕ) (c : Bool) (label : List ℕ) (w v : ValueType) → cond c (unless at (label_fault label) w) (Ok w) ≡ Ok v → w ≡ v
label_leaves at true label w v h = (labelled_is at label w v h).1
label_leaves at false label w v h = cc

-- calls and aggregations

call_is : (p : Place) (f : Func) (ts : Tree) (v : ValueType) → typed (call p f ts) ≡ Ok v →
    (os : List Operand) × ((w : ValueType) × ((operands ts ≡ Ok os) × ((accepted p.start (func_signature f) os ≡ Ok w) × (with_texts p.start f ts w ≡ Ok v))))
call_is p f ts v h =
    let one = went_on (typed_call p.start f ts) (operands ts) v h in
    let other = went_on (with_texts p.start f ts) (accepted p.start (func_signature f) one.0) v one.1.1 in
    (one.0, (other.0, (one.1.0, (other.1.0, other.1.1))))

pub parts_of_call : (p : Place) (f : Func) (ts : Tree) (v : ValueType) → typed (call p f ts) ≡ Ok v → AreArguments (func_signature f) (arguments ts) × (v ≡ (func_signature f).gives)
parts_of_call p f ts v h =
    let c = call_is p f ts v h in
    let a = as_arguments p.start (func_signature f) ts c.0 c.1.0 c.1.1.0 c.1.1.1.0 in
    (a.0, sym (texts_leave p.start f ts c.1.0 v c.1.1.1.1) ∙ a.1)

aggregate_is : (p : Place) (o : AggOp) (g : Grouping) (ts : Tree) (v : ValueType) → typed (aggregate p o g ts) ≡ Ok v →
    (os : List Operand) × ((w : ValueType) × ((operands ts ≡ Ok os) × ((accepted p.start (agg_signature o) os ≡ Ok w)
    × (cond (counts_values o) (unless p.start (label_fault (content_at ts 0)) w) (Ok w) ≡ Ok v))))
aggregate_is p o g ts v h =
    let one = went_on (typed_aggregation p.start o (content_at ts 0)) (operands ts) v h in
    let other = went_on (λ w. cond (counts_values o) (unless p.start (label_fault (content_at ts 0)) w) (Ok w)) (accepted p.start (agg_signature o) one.0) v one.1.1 in
    (one.0, (other.0, (one.1.0, (other.1.0, other.1.1))))

pub parts_of_aggregate : (p : Place) (o : AggOp) (g : Grouping) (ts : Tree) (v : ValueType) → typed (aggregate p o g ts) ≡ Ok v →
    AreArguments (agg_signature o) (arguments ts) × (v ≡ (agg_signature o).gives)
parts_of_aggregate p o g ts v h =
    let c = aggregate_is p o g ts v h in
    let a = as_arguments p.start (agg_signature o) ts c.0 c.1.0 c.1.1.0 c.1.1.1.0 in
    (a.0, sym (label_leaves p.start (counts_values o) (content_at ts 0) c.1.0 v c.1.1.1.1) ∙ a.1)

pub texts_of_replace : (p : Place) (ts : Tree) (v : ValueType) → typed (call p func.LabelReplace ts) ≡ Ok v → (is_label_name (content_at ts 1) ≡ true) × (is_pattern (content_at ts 4) ≡ true)
texts_of_replace p ts v h =
    let c = call_is p func.LabelReplace ts v h in
    let is = replaced_is p.start (content_at ts 4) (content_at ts 1) c.1.0 v c.1.1.1.1 in (is.0, is.1)

pub text_of_join : (p : Place) (ts : Tree) (v : ValueType) → typed (call p func.LabelJoin ts) ≡ Ok v → is_label_name (content_at ts 1) ≡ true
text_of_join p ts v h = let c = call_is p func.LabelJoin ts v h in (labelled_is p.start (content_at ts 1) c.1.0 v c.1.1.1.1).0

pub text_of_count : (p : Place) (g : Grouping) (ts : Tree) (v : ValueType) → typed (aggregate p agg.CountValues g ts) ≡ Ok v → is_label_name (content_at ts 0) ≡ true
text_of_count p g ts v h = let c = aggregate_is p agg.CountValues g ts v h in (labelled_is p.start (content_at ts 0) c.1.0 v c.1.1.1.1).0

-- what the outermost node tells

call_instant : (f : Func) → is_instant (func_signature f).gives ≡ true
unfolding func_signature
call_instant func.Abs = refl
call_instant _ = refl

aggregate_vector : (o : AggOp) → (agg_signature o).gives ≡ Vector
unfolding agg_signature
aggregate_vector agg.Sum = refl
aggregate_vector _ = refl

same_ok : (a v : ValueType) → (let r : Result ValueType TypeFault = Ok a in r) ≡ Ok v → v ≡ a
same_ok a v h = cc

pub node_tells : (t : Tree) (v : ValueType) → typed t ≡ Ok v → may_give t v ≡ true
node_tells (number p n) v h = as_type Scalar v (same_ok Scalar v h)
node_tells (text p x) v h = as_type Text v (same_ok Text v h)
node_tells (select p s) v h = as_type Vector v (parts_of_select p s v h).1
node_tells (range p s span) v h = as_type Range v (parts_of_range p s span v h).1
node_tells (sub p t span step offset) v h = as_type Range v (parts_of_sub p t span step offset v h).2
node_tells (neg p t) v h = (parts_of_neg p t v h).1
node_tells (binary p o b m l r) v h = let w = parts_of_binary p o b m l r v h in operation_instant w.0 w.1.0 v w.1.1.gives
node_tells (call p f ts) v h = ap is_instant (parts_of_call p f ts v h).1 ∙ call_instant f
node_tells (aggregate p o g ts) v h = as_type Vector v ((parts_of_aggregate p o g ts v h).1 ∙ aggregate_vector o)
node_tells none v h = cc
node_tells (more ts t) v h = cc

-- no step is 0

both_true : (a b : Bool) → a ≡ true → b ≡ true → a && b ≡ true
both_true a b e f = rw (e, f) refl

step_is : (step : Option ℕ) → step_fault step ≡ None → is_step step ≡ true
step_is None h = refl
step_is (Some ms) h = by_test (nat_eq ms 0) h
  where
    by_test : (b : Bool) → cond b (Some ZeroStep) None ≡ None → not b ≡ true
    by_test true k = cc
    by_test false k = refl

steps_known : (t : Tree) → ((v : ValueType) → typed t ≡ Ok v → has_steps t ≡ true) × ((os : List Operand) → operands t ≡ Ok os → has_steps t ≡ true)
steps_known (number p n) = (λ v h. refl, λ os h. cc)
steps_known (text p x) = (λ v h. refl, λ os h. cc)
steps_known (select p s) = (λ v h. refl, λ os h. cc)
steps_known (range p s span) = (λ v h. refl, λ os h. cc)
steps_known (sub p t span step offset) =
    (λ v h. let q = parts_of_sub p t span step offset v h in both_true (is_step step) (has_steps t) (step_is step q.1) ((steps_known t).0 Vector q.0), λ os h. cc)
steps_known (neg p t) = (λ v h. (steps_known t).0 v (parts_of_neg p t v h).0, λ os h. cc)
steps_known (binary p o b m l r) =
    (λ v h. let w = parts_of_binary p o b m l r v h in both_true (has_steps l) (has_steps r) ((steps_known l).0 w.0 w.1.1.left) ((steps_known r).0 w.1.0 w.1.1.right), λ os h. cc)
steps_known (call p f ts) = (λ v h. let c = call_is p f ts v h in (steps_known ts).1 c.0 c.1.1.0, λ os h. cc)
steps_known (aggregate p o g ts) = (λ v h. let c = aggregate_is p o g ts v h in (steps_known ts).1 c.0 c.1.1.0, λ os h. cc)
steps_known none = (λ v h. refl, λ os h. refl)
steps_known (more ts t) =
    (λ v h. cc, λ os h. let m = more_is ts t os h in both_true (has_steps ts) (has_steps t) ((steps_known ts).1 m.0 m.1.1.0) ((steps_known t).0 m.1.0 m.1.1.1.0))

pub steps_of_typed : (t : Tree) (v : ValueType) → typed t ≡ Ok v → has_steps t ≡ true
steps_of_typed t v h = (steps_known t).0 v h
