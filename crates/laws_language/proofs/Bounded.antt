-- The height of the printed text of a tree with a type, by the height of the tree.
use Rattle.std.proofs.Common.{◌≡◌, ℕ, ◌+◌, ◌-◌, ◌*◌, ◌≤◌, max, Bool, true, false, ◌&&◌, ◌||◌, Option, Some, None, List, [], ◌∷◌, ◌++◌, refl, ap, sym, ◌∙◌, subst, arith, inl, inr}
use Rattle.std.specs.Prelude.{◌⊎◌, not, is_some, if◌then◌else◌, Result, Ok, Err}
use Rattle.pr_labels.specs.declared.matching.Matching.{Matching}
use Rattle.pr_ast.specs.declared.place.Place.{Place}
use Rattle.pr_ast.specs.declared.names.BinOp.{BinOp}
use Rattle.pr_ast.specs.declared.names.AggOp.{AggOp}
use Rattle.pr_ast.specs.declared.names.Func.{Func}
use Rattle.pr_ast.specs.declared.selector.Selector.{Selector}
use Rattle.pr_ast.specs.declared.selector.MatchText.{MatchText}
use Rattle.pr_labels.specs.declared.grouping.Grouping.{Grouping}
use Rattle.pr_num.specs.declared.value.Num.{Num}
use Rattle.pr_ast.specs.Tree.{Tree, number, text, select, range, sub, neg, binary, call, aggregate, none, more}
use Rattle.pr_ast.specs.private.Print.{is_operation}
use Rattle.pr_parse.specs.declared.grammar.kind.TokenClass.{TokenClass}
use Rattle.pr_parse.specs.Seen.{name_kind}
use Rattle.pr_parse.specs.Grammar.{is_metric}
use Rattle.pr_parse.specs.Deep.{is_counted}
use Rattle.pr_parse.specs.pr_types.declared.kind.ValueType.{ValueType}
use Rattle.pr_parse.specs.pr_types.declared.kind.ValueType.TheVariants.{Scalar, Vector, Range, Text}
use Rattle.pr_parse.specs.pr_types.declared.kind.TypeKind.{TypeKind}
use Rattle.pr_parse.specs.pr_types.declared.kind.TypeFault.{TypeFault}
use Rattle.pr_parse.specs.pr_types.declared.signature.Operand.{Operand}
use Rattle.pr_parse.specs.pr_types.Signatures.{is_type}
use Rattle.pr_parse.specs.pr_types.Operations.{compares, is_set, is_scalar, is_grouped, copies_key, is_instant, instant, over_times, operation_fault, operation_type}
use Rattle.pr_parse.specs.pr_types.Selectors.{checked_tests}
use Rattle.pr_parse.specs.pr_types.Typed.{go_on, unless, start, operand, content_at, typed_call, typed_aggregation, step_fault, typed_subquery, typed_operation, typed, operands}
use Rattle.laws_language.specs.private.Kinds.{opening, closing, tree_kinds}
use Rattle.laws_language.proofs.Readable.{IsMetric, metric_name, function_name, IsSelected, IsReadable, a_number, a_text, a_select, a_range, a_sub, a_neg, a_binary, a_call, an_aggregate, a_parameter, no_args, more_args}
use Rattle.laws_language.proofs.Origins.{IsNameKind, a_word, a_function, own_name, colon_name, plain_name, name_kind_is}
use Rattle.laws_language.specs.private.TreeHeight.{tree_height}
use Rattle.laws_language.proofs.Added.{Adds, Lists, HasPlainName, IsPlainName, chain, enclosed, one_part, more_parts, empty_part, in_parens, sub_adds, select_adds, range_adds, number_adds, text_adds, minus_adds, most_of, turn_adds, func_adds, agg_adds, by_adds}

abbrev pub bound : ℕ → ℕ
bound n = max 2 (3 * n - 2)

-- names of selectors are no operators
metric_plain : (k : TokenClass) → IsNameKind k → is_metric k ≡ true → is_counted k ≡ false
metric_plain _ a_word e = absurd (cc)
metric_plain _ a_function e = refl
metric_plain _ own_name e = refl
metric_plain _ colon_name e = refl
metric_plain _ plain_name e = refl

plain_name_of : {n : List ℕ} → IsMetric n → IsPlainName n
plain_name_of {n} (metric_name t e) = metric_plain (name_kind n) (name_kind_is n) e
plain_name_of {n} (function_name f t e) = ap is_counted e

selected_plain : (name : Option (List ℕ)) (ms : List MatchText) → IsSelected name ms → HasPlainName name
selected_plain (Some n) ms h = plain_name_of h.0
selected_plain None ms h = tt

-- what types say
go_inverse : {A B : Type 0} (next : A → Result B TypeFault) (r : Result A TypeFault) (b : B) → go_on next r ≡ Ok b → (a : A) × ((r ≡ Ok a) × (next a ≡ Ok b))
go_inverse next (Ok a) b e = (a, (refl, e))
go_inverse next (Err f) b e = absurd (cc)

unless_inverse : (at : ℕ) (o : Option TypeKind) (v w : ValueType) → unless at o v ≡ Ok w → (o ≡ None) × (v ≡ w)
unless_inverse at None v w e = let same : v ≡ w = cc in (refl, same)
unless_inverse at (Some k) v w e = absurd (cc)

range_by : (b : Bool) (v : ValueType) (f : TypeFault) → (if b then Ok Range else Err f) ≡ Ok v → (b ≡ true) × (v ≡ Range)
range_by true v f e = let same : Range ≡ v = cc in (refl, sym same)
range_by false v f e = absurd (cc)

over_inverse : (o : Operand) (v : ValueType) → over_times o ≡ Ok v → (is_type o.gives Vector ≡ true) × (v ≡ Range)
over_inverse o v e = range_by (is_type o.gives Vector) v _ e

given_by : (b : Bool) (v w : ValueType) (f : TypeFault) → (if b then Ok v else Err f) ≡ Ok w → (b ≡ true) × (v ≡ w)
given_by true v w f e = let same : v ≡ w = cc in (refl, same)
given_by false v w f e = absurd (cc)

instant_inverse : (o : Operand) (v : ValueType) → instant o ≡ Ok v → (is_instant o.gives ≡ true) × (o.gives ≡ v)
instant_inverse o v e = given_by (is_instant o.gives) o.gives v _ e

vector_instant : (v : ValueType) → is_type v Vector ≡ true → (is_instant v ≡ true) × (is_scalar v ≡ false)
vector_instant Scalar e = absurd (cc)
vector_instant Vector e = (refl, refl)
vector_instant Range e = absurd (cc)
vector_instant Text e = absurd (cc)

-- where an operation has no fault, names are matched between vectors alone
by_tests : (a b c d f g : Bool) (p q r s t u : TypeKind) →
    (if a then Some p else (if b then Some q else (if c then Some r else (if d then Some s else (if f then Some t else (if g then Some u else None)))))) ≡ None → f ≡ false
by_tests true b c d f g p q r s t u e = absurd (cc)
by_tests false true c d f g p q r s t u e = absurd (cc)
by_tests false false true d f g p q r s t u e = absurd (cc)
by_tests false false false true f g p q r s t u e = absurd (cc)
by_tests false false false false true g p q r s t u e = absurd (cc)
by_tests false false false false false g p q r s t u e = refl

no_scalars : (op : BinOp) (b : Bool) (m : Option Matching) (v w : ValueType) → operation_fault op b m v w ≡ None → is_some m && (is_scalar v || is_scalar w) ≡ false
unfolding operation_fault
no_scalars op b m v w e =
    by_tests (compares op && not b && (is_scalar v && is_scalar w)) (b && not (compares op)) (is_set op && (is_scalar v || is_scalar w)) (is_set op && is_grouped m) (is_some m && (is_scalar v || is_scalar w)) (copies_key m) _ _ _ _ _ _ e

neither : (a b : Bool) → a || b ≡ false → (a ≡ false) × (b ≡ false)
neither true b e = absurd (cc)
neither false b e = (refl, e)

record Sides (m : Option Matching) (v w : ValueType) : Type 0 where
  left : is_instant v ≡ true
  right : is_instant w ≡ true
  apart : is_some m && (is_scalar v || is_scalar w) ≡ false

moved : (m : Option Matching) (a b c d : ValueType) → a ≡ b → c ≡ d → is_some m && (is_scalar b || is_scalar d) ≡ false → is_some m && (is_scalar a || is_scalar c) ≡ false
moved m a b c d e h n = ap (λ v. is_some m && (is_scalar v || is_scalar c)) e ∙ ap (λ v. is_some m && (is_scalar b || is_scalar v)) h ∙ n

operation_sides : (at : ℕ) (o : BinOp) (b : Bool) (m : Option Matching) (l r : Operand) (v : ValueType) → typed_operation at o b m l r ≡ Ok v → Sides m l.gives r.gives
operation_sides at o b m l r v e =
    let x = go_inverse (λ v. go_on (λ w. unless at (operation_fault o b m v w) (operation_type v w)) (instant r)) (instant l) v e in
    let i = instant_inverse l x.0 x.1.0 in
    let y = go_inverse (λ w. unless at (operation_fault o b m x.0 w) (operation_type x.0 w)) (instant r) v x.1.1 in
    let j = instant_inverse r y.0 y.1.0 in
    let n = no_scalars o b m x.0 y.0 (unless_inverse at (operation_fault o b m x.0 y.0) (operation_type x.0 y.0) v y.1.1).0 in
    record { left = i.0; right = j.0; apart = moved m l.gives x.0 r.gives y.0 i.1 j.1 n }

-- What is known of an expression with a type.
record Low (t : Tree) : Type 0 where
  operators : ℕ
  closed : ℕ
  adds : Adds operators closed (λ ks. tree_kinds t ks)
  low : 1 + operators + closed ≤ bound (tree_height t)
  some : 1 ≤ tree_height t
  two : is_operation t ≡ true → 2 ≤ tree_height t
  own : (v : ValueType) → typed t ≡ Ok v → is_instant v ≡ true → is_operation t ≡ false → (operators ≤ 1) × (is_scalar v ≡ false → operators ≡ 0)

record LowArgs (ts : Tree) : Type 0 where
  height : ℕ
  lists : Lists height (λ ks. tree_kinds ts ks)
  low : height ≤ bound (tree_height ts)

-- an operand, in its parentheses where it has them
abbrev IsSmall : ℕ → ℕ → ℕ → Type 0
IsSmall a h n = ((a ≡ 0) × ((h ≤ bound n) × (2 ≤ n))) ⊎ ((a ≤ 1) × (1 + a + h ≤ bound n))

record LowOperand (t : Tree) (v : ValueType) : Type 0 where
  operators : ℕ
  closed : ℕ
  adds : Adds operators closed (λ ks. opening (is_operation t) (tree_kinds t (closing (is_operation t) ks)))
  small : IsSmall operators closed (tree_height t)
  some : 1 ≤ tree_height t
  vector : is_scalar v ≡ false → operators ≡ 0

low_operand : (t : Tree) (v : ValueType) → Low t → typed t ≡ Ok v → is_instant v ≡ true → (b : Bool) → is_operation t ≡ b → LowOperand t v
low_operand t v l e i true o = record {
  operators = 0;
  closed = 1 + l.operators + l.closed;
  adds = subst (λ b. Adds 0 (1 + l.operators + l.closed) (λ ks. opening b (tree_kinds t (closing b ks)))) (sym o) (enclosed l.adds);
  small = inl (refl, (l.low, l.two o));
  some = l.some;
  vector = λ s. refl;
}
low_operand t v l e i false o = let w = l.own v e i o in record {
  operators = l.operators;
  closed = l.closed;
  adds = subst (λ b. Adds l.operators l.closed (λ ks. opening b (tree_kinds t (closing b ks)))) (sym o) l.adds;
  small = inr (w.0, l.low);
  some = l.some;
  vector = w.1;
}

-- numbers alone
sub_low : (a h n : ℕ) → a ≡ 0 → IsSmall a h n → 1 ≤ n → 1 + (a + 1) + max h 0 ≤ bound (1 + n)
sub_low a h n z (inl s) k = let p = s.0 in let q = s.1.0 in let r = s.1.1 in omega (arith, p, q, r)
sub_low a h n z (inr s) k = let p = s.0 in let q = s.1 in omega (arith, p, q)

neg_low : (a h n : ℕ) → IsSmall a h n → 1 ≤ n → 1 + (1 + a) + max 0 h ≤ bound (1 + n)
neg_low a h n (inl s) k = let p = s.0 in let q = s.1.0 in let r = s.1.1 in omega (arith, p, q, r)
neg_low a h n (inr s) k = let p = s.0 in let q = s.1 in omega (arith, p, q)

binary_low : (a h n b k m g : ℕ) → IsSmall a h n → IsSmall b k m → 1 ≤ n → 1 ≤ m → (g ≡ 0) ⊎ ((g ≤ 2) × ((a ≡ 0) × (b ≡ 0))) → 1 + (a + (1 + b)) + max h (max g k) ≤ bound (1 + max n m)
binary_low a h n b k m g (inl s) (inl t) x y (inl z) = let p = s.0 in let q = s.1.0 in let r = s.1.1 in let u = t.0 in let v = t.1.0 in let w = t.1.1 in omega (arith, p, q, r, u, v, w, z)
binary_low a h n b k m g (inl s) (inr t) x y (inl z) = let p = s.0 in let q = s.1.0 in let r = s.1.1 in let u = t.0 in let v = t.1 in omega (arith, p, q, r, u, v, z)
binary_low a h n b k m g (inr s) (inl t) x y (inl z) = let p = s.0 in let q = s.1 in let u = t.0 in let v = t.1.0 in let w = t.1.1 in omega (arith, p, q, u, v, w, z)
binary_low a h n b k m g (inr s) (inr t) x y (inl z) = let p = s.0 in let q = s.1 in let u = t.0 in let v = t.1 in omega (arith, p, q, u, v, z)
binary_low a h n b k m g (inl s) (inl t) x y (inr z) = let p = s.0 in let q = s.1.0 in let r = s.1.1 in let u = t.0 in let v = t.1.0 in let w = t.1.1 in let i = z.0 in omega (arith, p, q, r, u, v, w, i)
binary_low a h n b k m g (inl s) (inr t) x y (inr z) = let p = s.0 in let q = s.1.0 in let r = s.1.1 in let u = t.1 in let i = z.0 in let j = z.1.1 in omega (arith, p, q, r, u, i, j)
binary_low a h n b k m g (inr s) (inl t) x y (inr z) = let p = s.1 in let u = t.0 in let v = t.1.0 in let w = t.1.1 in let i = z.0 in let j = z.1.0 in omega (arith, p, u, v, w, i, j)
binary_low a h n b k m g (inr s) (inr t) x y (inr z) = let p = s.1 in let u = t.1 in let i = z.0 in let j = z.1.0 in let l = z.1.1 in omega (arith, p, u, i, j, l)

-- which types trees have
is_range : (s : Selector) (p : Place) (d : ℕ) (v : ValueType) → typed (range p s d) ≡ Ok v → v ≡ Range
is_range s p d v e = let x = go_inverse (λ tests. Ok Range) (checked_tests p.start s) v e in let k = x.1.1 in let same : Range ≡ v = cc in sym same

record Subquery (t : Tree) (v : ValueType) : Type 0 where
  inner : ValueType
  typed_so : typed t ≡ Ok inner
  vector : is_type inner Vector ≡ true
  is : v ≡ Range

sub_typed : (p : Place) (t : Tree) (d : ℕ) (step : Option ℕ) (o : ℕ) (v : ValueType) → typed (sub p t d step o) ≡ Ok v → Subquery t v
sub_typed p t d step o v e =
    let x = go_inverse (λ v. typed_subquery p.start step (operand (start t) v)) (typed t) v e in
    let y = go_inverse (unless p.start (step_fault step)) (over_times (operand (start t) x.0)) v x.1.1 in
    let z = over_inverse (operand (start t) x.0) y.0 y.1.0 in
    let u = unless_inverse p.start (step_fault step) y.0 v y.1.1 in
    record { inner = x.0; typed_so = x.1.0; vector = z.0; is = sym u.1 ∙ z.1 }

no_instant_range : (v : ValueType) → v ≡ Range → is_instant v ≡ true → ⊥
no_instant_range v e i = let h : is_instant Range ≡ true = subst (λ w. is_instant w ≡ true) e i in cc

no_instant_text : (v : ValueType) → v ≡ Text → is_instant v ≡ true → ⊥
no_instant_text v e i = let h : is_instant Text ≡ true = subst (λ w. is_instant w ≡ true) e i in cc

abbrev Typing : Bool → Tree → Type 0
Typing true t = (v : ValueType) × (typed t ≡ Ok v)
Typing false ts = (os : List Operand) × (operands ts ≡ Ok os)

no_args_low : LowArgs none
no_args_low = record { height = 1; lists = empty_part; low = omega arith }

more_low : {ts : Tree} (t : Tree) → IsReadable false ts → LowArgs ts → Low t → LowArgs (more ts t)
more_low t no_args a l = let p = l.low in record { height = 1 + l.operators + l.closed; lists = one_part l.adds; low = omega (arith, p) }
more_low t (more_args {ts = us} {t = u} h k) a l = let p = l.low in let q = a.low in record { height = max a.height (1 + l.operators + l.closed); lists = more_parts a.lists l.adds; low = omega (arith, p, q) }

aggregate_low : (p : Place) (o : AggOp) (g : Grouping) (ts : Tree) → LowArgs ts → 1 ≤ tree_height ts → Low (aggregate p o g ts)
aggregate_low p o g ts a s =
    let b = by_adds g.by g.names in let few = b.few in let low = a.low in
    record {
      operators = 0;
      closed = max 0 (max b.height a.height);
      adds = chain (agg_adds o) (chain b.adds (in_parens a.lists));
      low = omega (arith, few, low, s);
      some = omega arith;
      two = λ e. absurd (cc);
      own = λ v e i k. (omega arith, λ z. refl);
    }

-- arguments are none, with a height of 1, or some
abbrev IsFilled : ℕ → ℕ → Type 0
IsFilled h n = (h ≤ 1) ⊎ (1 ≤ n)

call_number : (h n : ℕ) → IsFilled h n → h ≤ bound n → 1 + 0 + max 0 h ≤ bound (1 + n)
call_number h n (inl s) l = omega arith
call_number h n (inr s) l = omega arith

call_low : (p : Place) (f : Func) (ts : Tree) (a : LowArgs ts) → IsFilled a.height (tree_height ts) → Low (call p f ts)
call_low p f ts a e = record {
  operators = 0;
  closed = max 0 a.height;
  adds = chain (func_adds f) (in_parens a.lists);
  low = call_number a.height (tree_height ts) e a.low;
  some = omega arith;
  two = λ e. absurd (cc);
  own = λ v e i k. (omega arith, λ z. refl);
}

more_some : (ts : Tree) {t : Tree} → Low t → 1 ≤ tree_height (more ts t)
more_some ts l = let s = l.some in omega (arith, s)

neg_is : (p : Place) (t : Tree) (v : ValueType) → LowOperand t v → Low (neg p t)
neg_is p t v x = let s = x.some in record {
  operators = 1 + x.operators;
  closed = max 0 x.closed;
  adds = chain minus_adds x.adds;
  low = neg_low x.operators x.closed (tree_height t) x.small s;
  some = omega arith;
  two = λ e. omega (arith, s);
  own = λ v e i k. absurd (cc);
}

sub_is : (p : Place) (t : Tree) (span : ℕ) (step : Option ℕ) (offset : ℕ) (v : ValueType) → LowOperand t v → is_scalar v ≡ false → Low (sub p t span step offset)
sub_is p t span step offset v x k = let s = x.some in record {
  operators = x.operators + 1;
  closed = max x.closed 0;
  adds = chain x.adds (sub_adds span step offset);
  low = sub_low x.operators x.closed (tree_height t) (x.vector k) x.small s;
  some = omega arith;
  two = λ e. absurd (cc);
  own = λ w e i z. absurd (no_instant_range w (sub_typed p t span step offset w e).is i);
}

labels_by : (m : Option Matching) (v w : ValueType) (a b g : ℕ) → is_some m && (is_scalar v || is_scalar w) ≡ false → (is_scalar v ≡ false → a ≡ 0) → (is_scalar w ≡ false → b ≡ 0) → g ≤ most_of m → (g ≡ 0) ⊎ ((g ≤ 2) × ((a ≡ 0) × (b ≡ 0)))
labels_by None v w a b g e h k l = inl (omega arith)
labels_by (Some m) v w a b g e h k l = let n = neither (is_scalar v) (is_scalar w) e in inr (l, (h n.0, k n.1))

binary_is : (p : Place) (o : BinOp) (b : Bool) (m : Option Matching) (l r : Tree) (v w : ValueType) → LowOperand l v → LowOperand r w → is_some m && (is_scalar v || is_scalar w) ≡ false → Low (binary p o b m l r)
binary_is p o b m l r v w x y e =
    let t = turn_adds o b m in let s = x.some in let u = y.some in
    record {
      operators = x.operators + (1 + y.operators);
      closed = max x.closed (max t.0 y.closed);
      adds = chain x.adds (chain t.1.1 y.adds);
      low = binary_low x.operators x.closed (tree_height l) y.operators y.closed (tree_height r) t.0 x.small y.small s u (labels_by m v w x.operators y.operators t.0 e x.vector y.vector t.1.0);
      some = omega arith;
      two = λ e. omega (arith, s, u);
      own = λ v e i k. absurd (cc);
    }

number_is : (p : Place) (n : Num) → Low (number p n)
number_is p n = let x = number_adds n in let few = x.1.0 in record {
  operators = x.0;
  closed = 0;
  adds = x.1.1;
  low = omega (arith, few);
  some = omega arith;
  two = λ e. absurd (cc);
  own = λ v e i k. (few, λ z. absurd (scalar_is v e z));
}
  where
    scalar_is : (v : ValueType) → typed (number p n) ≡ Ok v → is_scalar v ≡ false → ⊥
    scalar_is v e z = let same : Scalar ≡ v = cc in let h : is_scalar Scalar ≡ false = subst (λ w. is_scalar w ≡ false) (sym same) z in cc

text_is : (p : Place) (t : List ℕ) → Low (text p t)
text_is p t = record {
  operators = 0;
  closed = 0;
  adds = text_adds t;
  low = omega arith;
  some = omega arith;
  two = λ e. absurd (cc);
  own = λ v e i k. let same : Text ≡ v = cc in absurd (no_instant_text v (sym same) i);
}

select_is : (p : Place) (s : Selector) → HasPlainName s.name → Low (select p s)
select_is p s h = let x = select_adds s h in let few = x.few in record {
  operators = 0;
  closed = x.height;
  adds = x.adds;
  low = omega (arith, few);
  some = omega arith;
  two = λ e. absurd (cc);
  own = λ v e i k. (omega arith, λ z. refl);
}

range_is : (p : Place) (s : Selector) (span : ℕ) → HasPlainName s.name → Low (range p s span)
range_is p s span h = let x = range_adds s span h in let few = x.few in record {
  operators = 0;
  closed = x.height;
  adds = x.adds;
  low = omega (arith, few);
  some = omega arith;
  two = λ e. absurd (cc);
  own = λ v e i k. absurd (no_instant_range v (is_range s p span v e) i);
}

-- an argument has a type where all have
args_typed : (ts t : Tree) (os : List Operand) → operands (more ts t) ≡ Ok os → Typing false ts × Typing true t
args_typed ts t os e =
    let x = go_inverse (λ os. go_on (λ v. Ok (os ++ operand (start t) v ∷ [])) (typed t)) (operands ts) os e in
    let y = go_inverse (λ v. Ok (x.0 ++ operand (start t) v ∷ [])) (typed t) os x.1.1 in
    ((x.0, x.1.0), (y.0, y.1.0))

record LowFilled (ts : Tree) : Type 0 where
  args : LowArgs ts
  filled : IsFilled args.height (tree_height ts)

abbrev Known : Bool → Tree → Type 0
Known true t = Low t
Known false ts = LowFilled ts

lows : {b : Bool} {t : Tree} → IsReadable b t → Typing b t → Known b t
lows (a_number {p} {v} h) y = number_is p v
lows (a_text {p} {t}) y = text_is p t
lows (a_select {p} {s} h) y = select_is p s (selected_plain s.name s.matchers h.selected)
lows (a_range {p} {s} {span} h w) y = range_is p s span (selected_plain s.name s.matchers h.selected)
lows (a_sub {p} {t} {span} {offset} {step} w s o h) y =
    let x = sub_typed p t span step offset y.0 y.1 in
    let k = vector_instant x.inner x.vector in
    sub_is p t span step offset x.inner (low_operand t x.inner (lows h (x.inner, x.typed_so)) x.typed_so k.0 (is_operation t) refl) k.1
lows (a_neg {p} {t} h) y =
    let x = go_inverse (λ v. instant (operand (start t) v)) (typed t) y.0 y.1 in
    let i = instant_inverse (operand (start t) x.0) y.0 x.1.1 in
    neg_is p t x.0 (low_operand t x.0 (lows h (x.0, x.1.0)) x.1.0 i.0 (is_operation t) refl)
lows (a_binary {p} {o} {b} {m} {l} {r} n h k) y =
    let x = go_inverse (λ v. go_on (λ w. typed_operation p.start o b m (operand (start l) v) (operand (start r) w)) (typed r)) (typed l) y.0 y.1 in
    let z = go_inverse (λ w. typed_operation p.start o b m (operand (start l) x.0) (operand (start r) w)) (typed r) y.0 x.1.1 in
    let s = operation_sides p.start o b m (operand (start l) x.0) (operand (start r) z.0) y.0 z.1.1 in
    binary_is p o b m l r x.0 z.0 (low_operand l x.0 (lows h (x.0, x.1.0)) x.1.0 s.left (is_operation l) refl) (low_operand r z.0 (lows k (z.0, z.1.0)) z.1.0 s.right (is_operation r) refl) s.apart
lows (a_call {p} {f} {ts} h) y =
    let x = go_inverse (typed_call p.start f ts) (operands ts) y.0 y.1 in
    let a = lows h (x.0, x.1.0) in
    call_low p f ts a.args a.filled
lows (an_aggregate {p} {o} {g} {t} n h) y =
    let x = go_inverse (typed_aggregation p.start o (content_at (more none t) 0)) (operands (more none t)) y.0 y.1 in
    let z = args_typed none t x.0 x.1.0 in
    let l = lows h z.1 in
    aggregate_low p o g (more none t) (more_low t no_args no_args_low l) (more_some none l)
lows (a_parameter {p} {o} {g} {t} {u} n h k) y =
    let x = go_inverse (typed_aggregation p.start o (content_at (more (more none t) u) 0)) (operands (more (more none t) u)) y.0 y.1 in
    let z = args_typed (more none t) u x.0 x.1.0 in
    let w = args_typed none t z.0.0 z.0.1 in
    let l = lows h w.1 in let q = lows k z.1 in
    aggregate_low p o g (more (more none t) u) (more_low u (more_args no_args h) (more_low t no_args no_args_low l) q) (more_some (more none t) q)
lows no_args y = record { args = record { height = 1; lists = empty_part; low = omega arith }; filled = inl (omega arith) }
lows (more_args {ts} {t} h k) y =
    let z = args_typed ts t y.0 y.1 in
    let l = lows k z.1 in let a = lows h z.0 in
    record { args = more_low t h a.args l; filled = inr (more_some ts l) }

-- the operators of the printed text, and the height of its closed parts
pub record Printed (t : Tree) : Type 0 where
  pub operators : ℕ
  pub closed : ℕ
  pub adds : Adds operators closed (λ ks. tree_kinds t ks)
  pub low : 1 + operators + closed ≤ bound (tree_height t)

pub printed : (t : Tree) (v : ValueType) → IsReadable true t → typed t ≡ Ok v → Printed t
printed t v h e = let l = lows h (v, e) in record { operators = l.operators; closed = l.closed; adds = l.adds; low = l.low }
