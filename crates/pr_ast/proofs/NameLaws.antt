-- Functions and aggregations are read by their names.
use Rattle.std.proofs.Common.{◌≡◌, ℕ, Bool, true, false, Some, None, List, [], ◌∷◌, refl, subst}
use Rattle.std.specs.Prelude.{if◌then◌else◌}
use Rattle.pr_ast.specs.Words.{word_of, words, is_word, word_text}
use Rattle.pr_labels.proofs.LabelLaws.{same_names}
use Rattle.pr_ast.specs.declared.names.Func.{Func}
use Rattle.pr_ast.specs.declared.names.Func.TheVariants.{Abs}
use Rattle.pr_ast.specs.declared.names.AggOp.{AggOp}
use Rattle.pr_ast.specs.declared.names.AggOp.TheVariants.{Sum}
use Rattle.pr_ast.specs.Names.{agg_word, agg_of, agg_text, func_text, funcs, is_func, first_func, func_of}

pub func_read : (f : Func) → func_of (func_text f) ≡ Some f
unfolding func_of funcs is_func func_text
func_read Abs = refl
func_read _ = refl

pub func_no_word : (f : Func) → word_of (func_text f) ≡ None
unfolding word_of words is_word word_text func_text
func_no_word Abs = refl
func_no_word _ = refl

pub agg_is_word : (op : AggOp) → word_of (agg_text op) ≡ Some (agg_word op)
unfolding word_of words is_word word_text
agg_is_word Sum = refl
agg_is_word _ = refl

pub agg_read : (op : AggOp) → agg_of (agg_word op) ≡ Some op
agg_read Sum = refl
agg_read _ = refl

-- the first function that has the name has it
first_step : (name : List ℕ) (g : Func) (gs : List Func) (f : Func) (b : Bool) → is_func name g ≡ b → (first_func name gs ≡ Some f → is_func name f ≡ true) →
    (if b then Some g else first_func name gs) ≡ Some f → is_func name f ≡ true
first_step name g gs f true h later e = let same : g ≡ f = cc in subst (λ x. is_func name x ≡ true) same h
first_step name g gs f false h later e = later e

first_has : (name : List ℕ) (gs : List Func) (f : Func) → first_func name gs ≡ Some f → is_func name f ≡ true
first_has name [] f e = absurd (cc)
first_has name (g ∷ gs) f e = first_step name g gs f (is_func name g) refl (first_has name gs f) e

pub func_only : (name : List ℕ) (f : Func) → func_of name ≡ Some f → name ≡ func_text f
unfolding func_of is_func
func_only name f e = same_names name (func_text f) (first_has name funcs f e)
