-- The range selectors of a typed tree as a reload sees them, and as they are asked.
use Rattle.std.proofs.Common.{◌≡◌, ℕ, zero, suc, ◌+◌, ◌≤◌, true, false, List, [], ◌∷◌, ◌++◌, length, slice_get, Option, Some, None, refl, sym, ap, subst, ◌∙◌, arith}
use Rattle.std.specs.Prelude.{Result, Ok, Err, is_ok}
use Rattle.pr_ast.specs.declared.names.AggOp.{AggOp}
use Rattle.pr_ast.specs.declared.names.AggOp.TheVariants as agg
use Rattle.pr_ast.specs.declared.names.Func.{Func}
use Rattle.pr_ast.specs.private.Print.{range_text}
use Rattle.pr_ast.specs.Reach.{reads_back}
use Rattle.pr_ast.specs.Tree.{Tree, number, text, select, range, sub, neg, binary, call, aggregate, none, more}
use Rattle.pr_rule.specs.pr_types.declared.kind.ValueType.{ValueType}
use Rattle.pr_rule.specs.pr_types.declared.kind.ValueType.TheVariants.{Range, Vector}
use Rattle.pr_rule.specs.pr_types.declared.kind.TypeFault.{TypeFault}
use Rattle.pr_rule.specs.pr_types.declared.signature.Operand.{Operand}
use Rattle.pr_rule.specs.pr_types.Operations.{is_instant}
use Rattle.pr_rule.specs.pr_types.private.Checking.{MayEvaluate}
use Rattle.pr_rule.specs.pr_types.private.Parts.{AreArguments, arguments}
use Rattle.pr_rule.specs.pr_types.Signatures.{agg_signature, is_type, wanted}
use Rattle.pr_rule.specs.pr_types.Typed.{content_at, go_on, kept, operand, operands, start, typed, typed_aggregation, typed_call}
use Rattle.pr_rule.proofs.TypesParts.{parts_of_aggregate, parts_of_binary, parts_of_neg, parts_of_range, parts_of_sub, went_on}
use Rattle.pr_rule.specs.spec_vectors.declared.range.RangeFn.{RangeFn}
use Rattle.pr_rule.specs.spec_vectors.declared.range.RangeFn.TheVariants.{PresentOverTime}
use Rattle.pr_rule.specs.spec_rules.private.Carried.{RangeUse, range_uses, uses_under}
use Rattle.pr_rule.specs.pr_eval.private.Asking.{asked_for}
use Rattle.pr_group.specs.private.Asked.{RangeSelector, range_selectors, selectors_under}
use Rattle.pr_group.proofs.Lists.{front_get, seam_get}

-- the function that is asked for where this one, or none, stands above
abbrev pub asked_under : Option Func → RangeFn
asked_under None = PresentOverTime
asked_under (Some f) = asked_for f

-- A use of a range is that of a range selector, which reads no further back than that.
pub record IsUseOf (most : ℕ) (u : RangeUse) (r : RangeSelector) : Type 0 where
  pub printed : u.printed ≡ range_text r.selector r.span
  pub func : r.func ≡ asked_under u.func
  pub back : r.selector.offset + r.span ≤ most

abbrev pub AreUsesOf : ℕ → List RangeUse → List RangeSelector → Type 0
AreUsesOf most [] [] = Unit {0}
AreUsesOf most [] (r ∷ rs) = ⊥
AreUsesOf most (u ∷ us) [] = ⊥
AreUsesOf most (u ∷ us) (r ∷ rs) = IsUseOf most u r × AreUsesOf most us rs

both_uses : (most : ℕ) (us vs : List RangeUse) (rs ss : List RangeSelector) → AreUsesOf most us rs → AreUsesOf most vs ss → AreUsesOf most (us ++ vs) (rs ++ ss)
both_uses most [] vs [] ss h k = k
both_uses most [] vs (r ∷ rs) ss h k = absurd h
both_uses most (u ∷ us) vs [] ss h k = absurd h
both_uses most (u ∷ us) vs (r ∷ rs) ss h k = (h.0, both_uses most us vs rs ss h.1 k)

-- the range selector of a use
pub record UseAt (most : ℕ) (u : RangeUse) (rs : List RangeSelector) (k : ℕ) : Type 0 where
  pub selector : RangeSelector
  pub named : slice_get rs k ≡ Some selector
  pub is : IsUseOf most u selector

pub selector_of_use : (most : ℕ) (us : List RangeUse) (rs : List RangeSelector) (k : ℕ) (u : RangeUse) → AreUsesOf most us rs → slice_get us k ≡ Some u → UseAt most u rs k
selector_of_use most [] [] zero u h at = absurd (cc)
selector_of_use most [] [] (suc k) u h at = absurd (cc)
selector_of_use most [] (r ∷ rs) k u h at = absurd h
selector_of_use most (w ∷ us) [] k u h at = absurd h
selector_of_use most (w ∷ us) (r ∷ rs) zero u h at = let same : w ≡ u = cc in record { selector = r; named = refl; is = subst (λ x. IsUseOf most x r) same h.0 }
selector_of_use most (w ∷ us) (r ∷ rs) (suc k) u h at = let rest = selector_of_use most us rs k u h.1 at in record { selector = rest.selector; named = rest.named; is = rest.is }

-- Each argument that is a range is asked for the function that stands above.
abbrev AreAskedSo : RangeFn → Option Func → Tree → Type 0
AreAskedSo func above (more ts t) = AreAskedSo func above ts × (typed t ≡ Ok Range → func ≡ asked_under above)
AreAskedSo func above _ = Unit {0}

-- so it is under a function
under_call : (f : Func) (ts : Tree) → AreAskedSo (asked_for f) (Some f) ts
under_call f (more ts t) = (under_call f ts, λ h. refl)
under_call f (number p v) = tt
under_call f (text p t) = tt
under_call f (select p s) = tt
under_call f (range p s d) = tt
under_call f (sub p t d i o) = tt
under_call f (neg p t) = tt
under_call f (binary p o b m l r) = tt
under_call f (call p g ts) = tt
under_call f (aggregate p o g ts) = tt
under_call f none = tt

-- and where no argument is a range
no_ranges : (func : RangeFn) (above : Option Func) (ts : Tree) → ((i : ℕ) (u : Tree) → slice_get (arguments ts) i ≡ Some u → typed u ≡ Ok Range → ⊥) → AreAskedSo func above ts
no_ranges func above (more ts t) h = (no_ranges func above ts (λ i u at. h i u (front_get (arguments ts) (t ∷ []) i u at)), λ is. absurd (h (length (arguments ts)) t (seam_get (arguments ts) t []) is))
no_ranges func above (number p v) h = tt
no_ranges func above (text p t) h = tt
no_ranges func above (select p s) h = tt
no_ranges func above (range p s d) h = tt
no_ranges func above (sub p t d i o) h = tt
no_ranges func above (neg p t) h = tt
no_ranges func above (binary p o b m l r) h = tt
no_ranges func above (call p g ts) h = tt
no_ranges func above (aggregate p o g ts) h = tt
no_ranges func above none h = tt

agg_no_range : (o : AggOp) (i : ℕ) → is_type (wanted (agg_signature o) i) Range ≡ false
unfolding agg_signature
agg_no_range agg.Sum zero = refl
agg_no_range agg.Sum (suc i) = refl
agg_no_range _ zero = refl
agg_no_range _ (suc i) = refl

not_range : (v : ValueType) (r : Result ValueType TypeFault) → r ≡ Ok v → r ≡ Ok Range → is_type v Range ≡ false → ⊥
not_range v r e f h = let same : v ≡ Range = cc in let k : true ≡ false = sym (ap (λ u. is_type u Range) same) ∙ h in cc

under_aggregation : (func : RangeFn) (above : Option Func) (o : AggOp) (ts : Tree) → AreArguments (agg_signature o) (arguments ts) → AreAskedSo func above ts
under_aggregation func above o ts h = no_ranges func above ts (λ i u at is. not_range (wanted (agg_signature o) i) (typed u) (h.types i u at) is (agg_no_range o i))

instant_no_range : (v : ValueType) → is_instant v ≡ true → v ≡ Range → ⊥
instant_no_range v h e = let k : true ≡ false = sym h ∙ ap is_instant e in cc

vector_no_range : Vector ≡ Range → ⊥
vector_no_range e = cc

ok_same : (v w : ValueType) (r : Result ValueType TypeFault) → r ≡ Ok v → r ≡ Ok w → v ≡ w
ok_same v w r h k = cc

mutual
  pub uses_are : (most : ℕ) (func : RangeFn) (above : Option Func) (t : Tree) (v : ValueType) → typed t ≡ Ok v → (typed t ≡ Ok Range → func ≡ asked_under above) → reads_back t ≤ most
      → AreUsesOf most (uses_under above t) (selectors_under func t)
  uses_are most func above (number p n) v h so back = tt
  uses_are most func above (text p t) v h so back = tt
  uses_are most func above (select p s) v h so back = tt
  uses_are most func above (range p s d) v h so back = (record { printed = refl; func = so (h ∙ ap Ok (parts_of_range p s d v h).1); back = back }, tt)
  uses_are most func above (sub p t d i o) v h so back =
      let parts = parts_of_sub p t d i o v h in
      let inner : reads_back t ≤ most = omega arith in
      uses_are most func None t Vector parts.0 (λ is. absurd (vector_no_range (ok_same Vector Range (typed t) parts.0 is))) inner
  uses_are most func above (neg p t) v h so back =
      let parts = parts_of_neg p t v h in
      uses_are most func None t v parts.0 (λ is. absurd (instant_no_range v parts.1 (ok_same v Range (typed t) parts.0 is))) back
  uses_are most func above (binary p o b m l r) v h so back =
      let parts = parts_of_binary p o b m l r v h in
      let left : reads_back l ≤ most = omega arith in
      let right : reads_back r ≤ most = omega arith in
      both_uses most (uses_under None l) (uses_under None r) (selectors_under func l) (selectors_under func r)
      (uses_are most func None l parts.0 parts.1.1.left (λ is. absurd (instant_no_range parts.0 parts.1.1.left_instant (ok_same parts.0 Range (typed l) parts.1.1.left is))) left)
      (uses_are most func None r parts.1.0 parts.1.1.right (λ is. absurd (instant_no_range parts.1.0 parts.1.1.right_instant (ok_same parts.1.0 Range (typed r) parts.1.1.right is))) right)
  uses_are most func above (call p f ts) v h so back =
      let w = went_on (typed_call p.start f ts) (operands ts) v h in
      args_are most (asked_for f) (Some f) ts w.0 w.1.0 (under_call f ts) back
  uses_are most func above (aggregate p o g ts) v h so back =
      let w = went_on (typed_aggregation p.start o (content_at ts 0)) (operands ts) v h in
      args_are most func None ts w.0 w.1.0 (under_aggregation func None o ts (parts_of_aggregate p o g ts v h).0) back
  uses_are most func above none v h so back = absurd (cc)
  uses_are most func above (more ts t) v h so back = absurd (cc)

  args_are : (most : ℕ) (func : RangeFn) (above : Option Func) (ts : Tree) (os : List Operand) → operands ts ≡ Ok os → AreAskedSo func above ts → reads_back ts ≤ most
      → AreUsesOf most (uses_under above ts) (selectors_under func ts)
  args_are most func above (more ts t) os h so back =
      let first = went_on (λ os. go_on (λ v. Ok (os ++ operand (start t) v ∷ [])) (typed t)) (operands ts) os h in
      let last = went_on (λ v. Ok (first.0 ++ operand (start t) v ∷ [])) (typed t) os first.1.1 in
      let front : reads_back ts ≤ most = omega arith in
      let own : reads_back t ≤ most = omega arith in
      both_uses most (uses_under above ts) (uses_under above t) (selectors_under func ts) (selectors_under func t)
      (args_are most func above ts first.0 first.1.0 so.0 front) (uses_are most func above t last.0 last.1.0 so.1 own)
  args_are most func above none os h so back = tt
  args_are most func above (number p n) os h so back = absurd (cc)
  args_are most func above (text p t) os h so back = absurd (cc)
  args_are most func above (select p s) os h so back = absurd (cc)
  args_are most func above (range p s d) os h so back = absurd (cc)
  args_are most func above (sub p t d i o) os h so back = absurd (cc)
  args_are most func above (neg p t) os h so back = absurd (cc)
  args_are most func above (binary p o b m l r) os h so back = absurd (cc)
  args_are most func above (call p f ts) os h so back = absurd (cc)
  args_are most func above (aggregate p o g ts) os h so back = absurd (cc)

-- those of a whole expression that is checked
pub whole_uses : (t : Tree) → MayEvaluate t → AreUsesOf kept (range_uses t) (range_selectors t)
whole_uses t h = by (typed t) refl h.typed_so where
  by : (r : Result ValueType TypeFault) → typed t ≡ r → is_ok r ≡ true → AreUsesOf kept (range_uses t) (range_selectors t)
  by (Ok v) e k = uses_are kept PresentOverTime None t v e (λ is. refl) h.reaches
  by (Err f) e k = absurd (cc)
