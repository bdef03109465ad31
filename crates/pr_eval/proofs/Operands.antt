-- What aggregations and calls make of the values of their arguments.
use Rattle.std.proofs.Common.{◌≡◌, ℕ, zero, suc, List, [], ◌∷◌, ◌++◌, take, drop, map, slice_get, append_assoc, true, false, Some, None, Result, Ok, Err, ap, subst, sym, refl, ◌∙◌}
use Rattle.pr_range.specs.spec_history.declared.entry.Entry.{Entry}
use Rattle.std.specs.Option.{option_map}
use Rattle.std.specs.Result.{IsErr, IsErrAnd}
use Rattle.pr_ast.specs.declared.tree.Expr.{Expr}
use Rattle.pr_ast.specs.Tree.{Tree, number, text, select, range, sub, neg, binary, call, aggregate, none, more, more_from, tree_of, trees_of}
use Rattle.spec_meaning.specs.pr_types.declared.kind.ValueType.{ValueType}
use Rattle.spec_meaning.specs.pr_types.declared.kind.ValueType.TheVariants.{Range}
use Rattle.spec_meaning.specs.pr_types.Signatures.{is_type}
use Rattle.spec_meaning.specs.pr_types.private.Parts.{arguments}
use Rattle.spec_meaning.proofs.TypesParts.{node_tells}
use Rattle.spec_meaning.specs.declared.fault.Fault.{Fault}
use Rattle.spec_meaning.specs.declared.value.Value.{Value}
use Rattle.spec_meaning.specs.Answers.{fault, go_on}
use Rattle.pr_eval.specs.declared.values.error.EvalError.{EvalError}
use Rattle.pr_eval.specs.declared.values.error.EvalError.TheVariants as error
use Rattle.pr_eval.specs.private.Answers.{AnswersTo}
use Rattle.pr_eval.specs.private.Plain.{all_plain}
use Rattle.pr_eval.specs.private.Operands.{AreGiven}
use Rattle.spec_meaning.specs.Given.{Given}
use Rattle.spec_meaning.specs.Meaning.{given, meaning, operands, ranges}
use Rattle.pr_eval.specs.private.Parts.{IsValued}
use Rattle.pr_eval.proofs.Fronts.{split_from}

-- What is no range gives no series.
range_gives : (v : ValueType) → is_type v Range ≡ true → is_type v Range ≡ false → {A : Type 0} → A
range_gives v h k = absurd cc

pub no_ranges : (step : ℕ) (history : List Entry) (t : Tree) (time : ℕ) → IsValued t → ranges step history t time ≡ Ok None
no_ranges step history (number p v) time h = refl
no_ranges step history (text p u) time h = refl
no_ranges step history (select p s) time h = refl
no_ranges step history (range p s d) time h = range_gives h.gives (node_tells (range p s d) h.gives h.typed_so) h.no_range
no_ranges step history (sub p u d i o) time h = range_gives h.gives (node_tells (sub p u d i o) h.gives h.typed_so) h.no_range
no_ranges step history (neg p u) time h = refl
no_ranges step history (binary p o b m l r) time h = refl
no_ranges step history (call p f ts) time h = refl
no_ranges step history (aggregate p o g ts) time h = refl
no_ranges step history none time h = refl
no_ranges step history (more ts u) time h = refl

-- one argument more that is no range
pub one_more : (step : ℕ) (history : List Entry) (ts t : Tree) (time : ℕ) → IsValued t
    → operands step history (more ts t) time ≡ go_on (λ gs. go_on (λ v. Ok (gs ++ given None v ∷ [])) (meaning step history t time)) (operands step history ts time)
one_more step history ts t time h = λ i. go_on (λ gs. go_on (λ r. go_on (λ v. Ok (gs ++ given r v ∷ [])) (meaning step history t time)) (no_ranges step history t time h i)) (operands step history ts time)

pub chained : {A B C E : Type 0} (f : A → Result B E) (g : B → Result C E) (r : Result A E) → go_on g (go_on f r) ≡ go_on (λ a. go_on g (f a)) r
chained f g (Ok a) = refl
chained f g (Err e) = refl

-- an aggregation of one argument, and of two
pub aggregate_one : (step : ℕ) (history : List Entry) (t : Tree) (time : ℕ) (next : List Given → Result Value Fault) → IsValued t
    → go_on next (operands step history (more none t) time) ≡ go_on (λ v. next (given None v ∷ [])) (meaning step history t time)
aggregate_one step history t time next h =
    ap (go_on next) (one_more step history none t time h) ∙ chained (λ v. Ok (given None v ∷ [])) next (meaning step history t time)

pub aggregate_two : (step : ℕ) (history : List Entry) (l r : Tree) (time : ℕ) (next : List Given → Result Value Fault) → IsValued l → IsValued r
    → go_on next (operands step history (more (more none l) r) time) ≡ go_on (λ v. go_on (λ w. next (given None v ∷ given None w ∷ [])) (meaning step history r time)) (meaning step history l time)
aggregate_two step history l r time next h k =
    ap (go_on next) (one_more step history (more none l) r time k ∙ ap (go_on (λ gs. go_on (λ v. Ok (gs ++ given None v ∷ [])) (meaning step history r time))) (one_more step history none l time h))
    ∙ by (meaning step history l time) (meaning step history r time) where
      by : (a b : Result Value Fault)
          → go_on next (go_on (λ gs. go_on (λ v. Ok (gs ++ given None v ∷ [])) b) (go_on (λ gs. go_on (λ v. Ok (gs ++ given None v ∷ [])) a) (Ok []))) ≡ go_on (λ v. go_on (λ w. next (given None v ∷ given None w ∷ [])) b) a
      by (Ok v) (Ok w) = refl
      by (Ok v) (Err e) = refl
      by (Err e) b = refl

-- the values of the arguments of a call, one after another
pub operand_given : (step : ℕ) (history : List Entry) (u ts t : Tree) (time : ℕ) (gs : List Given) (v : Value) → u ≡ more ts t → IsValued t → operands step history ts time ≡ Ok gs → meaning step history t time ≡ Ok v
    → operands step history u time ≡ Ok (gs ++ given None v ∷ [])
operand_given step history u ts t time gs v is h before value =
    ap (λ x. operands step history x time) is ∙ one_more step history ts t time h
    ∙ (λ i. go_on (λ xs. go_on (λ w. Ok (xs ++ given None w ∷ [])) (value i)) (before i))

pub operand_ends : (step : ℕ) (history : List Entry) (u ts t : Tree) (time : ℕ) (gs : List Given) (f : Fault) → u ≡ more ts t → IsValued t → operands step history ts time ≡ Ok gs → meaning step history t time ≡ Err f
    → operands step history u time ≡ Err f
operand_ends step history u ts t time gs f is h before ended =
    ap (λ x. operands step history x time) is ∙ one_more step history ts t time h
    ∙ (λ i. go_on (λ xs. go_on (λ w. Ok (xs ++ given None w ∷ [])) (ended i)) (before i))

-- a fault of the first arguments is that of all
fault_stays : (step : ℕ) (history : List Entry) (time : ℕ) (f : Fault) (ts : List Tree) (before : Tree) → operands step history before time ≡ Err f → operands step history (more_from before ts) time ≡ Err f
fault_stays step history time f [] before h = h
fault_stays step history time f (t ∷ ts) before h =
    fault_stays step history time f ts (more before t) (ap (λ r. go_on (λ gs. go_on (λ r. go_on (λ v. Ok (gs ++ given r v ∷ [])) (meaning step history t time)) (ranges step history t time)) r) h)

pub args_end : (step : ℕ) (history : List Entry) (time : ℕ) (f : Fault) (k : ℕ) (es : List Expr) → operands step history (trees_of (take k es)) time ≡ Err f → operands step history (trees_of es) time ≡ Err f
args_end step history time f k es h =
    ap (λ t. operands step history t time) (split_from k es none) ∙ fault_stays step history time f (map tree_of (drop k es)) (trees_of (take k es)) h

-- the arguments of a tree of arguments
arguments_from : (es : List Expr) (before : Tree) → arguments (more_from before (map tree_of es)) ≡ arguments before ++ map tree_of es
arguments_from [] before = ended (arguments before) where
  ended : (ts : List Tree) → ts ≡ ts ++ []
  ended [] = refl
  ended (t ∷ ts) = ap (λ us. t ∷ us) (ended ts)
arguments_from (e ∷ es) before = arguments_from es (more before (tree_of e)) ∙ append_assoc (arguments before) (tree_of e ∷ []) (map tree_of es)

pub arguments_are : (es : List Expr) → arguments (trees_of es) ≡ map tree_of es
arguments_are es = arguments_from es none

get_mapped : (es : List Expr) (i : ℕ) (e : Expr) → slice_get es i ≡ Some e → slice_get (map tree_of es) i ≡ Some (tree_of e)
get_mapped [] i e h = cc
get_mapped (x ∷ es) zero e h = ap (option_map tree_of) h
get_mapped (x ∷ es) (suc i) e h = get_mapped es i e h

pub argument_at : (es : List Expr) (i : ℕ) (e : Expr) → slice_get es i ≡ Some e → slice_get (arguments (trees_of es)) i ≡ Some (tree_of e)
argument_at es i e h = ap (λ ts. slice_get ts i) (arguments_are es) ∙ get_mapped es i e h

plain_push : (vs : List Value) (v : Value) → all_plain (vs ++ v ∷ []) ≡ all_plain vs ++ given None v ∷ []
plain_push [] v = refl
plain_push (w ∷ vs) v = ap (λ gs. given None w ∷ gs) (plain_push vs v)

pub plain_given : (step : ℕ) (history : List Entry) (u ts t : Tree) (time : ℕ) (vs ws : List Value) (v : Value) → u ≡ more ts t → IsValued t → operands step history ts time ≡ Ok (all_plain vs) → meaning step history t time ≡ Ok v
    → ws ≡ vs ++ v ∷ [] → operands step history u time ≡ Ok (all_plain ws)
plain_given step history u ts t time vs ws v is h before value pushed =
    operand_given step history u ts t time (all_plain vs) v is h before value ∙ ap Ok (sym (plain_push vs v)) ∙ ap (λ xs. Ok (all_plain xs)) (sym pushed)

-- the fault of an argument ends
pub operands_end : (step : ℕ) (history : List Entry) (k j : ℕ) (es : List Expr) (t : Tree) (time : ℕ) (vs ws : List Value) (e : EvalError) → trees_of (take k es) ≡ more (trees_of (take j es)) t → IsValued t
    → operands step history (trees_of (take j es)) time ≡ Ok (all_plain vs) → AnswersTo (meaning step history t time) (Err e) → AreGiven (operands step history (trees_of es) time) ws (Err e)
operands_end step history k j es t time vs ws (error.Fault p kind) is h before f =
    args_end step history time (fault p kind) k es (operand_ends step history (trees_of (take k es)) (trees_of (take j es)) t time (all_plain vs) (fault p kind) is h before f)
operands_end step history k j es t time vs ws error.Memory is h before f = tt

-- a call, by the values of its arguments
pub call_gives : (next : List Given → Result Value Fault) (meant : Result (List Given) Fault) (vs : List Value) (r : Result Value EvalError) → meant ≡ Ok (all_plain vs) → AnswersTo (next (all_plain vs)) r → AnswersTo (go_on next meant) r
call_gives next meant vs r is h = subst (λ m. AnswersTo (go_on next m) r) (sym is) h

pub call_ends : (next : List Given → Result Value Fault) (meant : Result (List Given) Fault) (vs : List Value) (e : EvalError) → AreGiven meant vs (Err e) → AnswersTo (go_on next meant) (Err e)
call_ends next meant vs (error.Fault p k) h = ap (go_on next) h
call_ends next meant vs error.Memory h = tt

-- want of memory, handed on
pub out_of_memory : {A : Type 0} (r : Result A EvalError) → IsErr r → IsErrAnd r (λ e. e ≡ error.Memory) → r ≡ Err error.Memory
out_of_memory (Ok x) h k = cc
out_of_memory (Err e) h k = ap Err k
