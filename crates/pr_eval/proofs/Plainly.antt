-- Calls of which no argument is a range.
use Rattle.std.proofs.Common.{◌≡◌, ℕ, zero, suc, ◌+◌, true, false, List, ◌++◌, length, slice_get, Some, Ok, refl, sym, ap, subst, ◌∙◌}
use Rattle.pr_labels.specs.Names.{is_label_name}
use Rattle.pr_ast.specs.declared.place.Place.{Place}
use Rattle.pr_ast.specs.declared.names.Func.{Func}
use Rattle.pr_ast.specs.declared.names.Func.TheVariants as fn
use Rattle.pr_ast.specs.declared.tree.Expr.{Expr}
use Rattle.pr_ast.specs.Tree.{Tree, call, tree_of, trees_of}
use Rattle.spec_meaning.specs.pr_types.declared.counting.SelectorCounts.{SelectorCounts}
use Rattle.spec_meaning.specs.pr_types.declared.kind.ValueType.TheVariants.{Range}
use Rattle.spec_meaning.specs.pr_types.Signatures.{func_signature, is_type, wanted}
use Rattle.spec_meaning.specs.pr_types.Typed.{content_at, typed}
use Rattle.spec_meaning.specs.pr_types.private.Built.{own_patterns, patterns_in}
use Rattle.spec_meaning.proofs.TypesParts.{parts_of_call, text_of_join, texts_of_replace}
use Rattle.pr_eval.specs.private.Calls.{is_plain_call}
use Rattle.pr_eval.specs.private.Parts.{IsPartAt, IsValued, PatternsAt, counts_after}
use Rattle.pr_eval.proofs.Each.{first_of_one, rest_each}
use Rattle.pr_eval.proofs.Operands.{argument_at}

plain_no_range : (f : Func) (ts : Tree) (i : ℕ) → is_plain_call f ts ≡ true → is_type (wanted (func_signature f) i) Range ≡ false
unfolding func_signature
plain_no_range fn.Abs ts zero h = refl
plain_no_range fn.Abs ts (suc i) h = refl
plain_no_range fn.Ceil ts zero h = refl
plain_no_range fn.Ceil ts (suc i) h = refl
plain_no_range fn.Floor ts zero h = refl
plain_no_range fn.Floor ts (suc i) h = refl
plain_no_range fn.Sgn ts zero h = refl
plain_no_range fn.Sgn ts (suc i) h = refl
plain_no_range fn.Round ts zero h = refl
plain_no_range fn.Round ts (suc i) h = refl
plain_no_range fn.Clamp ts zero h = refl
plain_no_range fn.Clamp ts (suc i) h = refl
plain_no_range fn.ClampMin ts zero h = refl
plain_no_range fn.ClampMin ts (suc i) h = refl
plain_no_range fn.ClampMax ts zero h = refl
plain_no_range fn.ClampMax ts (suc i) h = refl
plain_no_range fn.Time ts zero h = refl
plain_no_range fn.Time ts (suc i) h = refl
plain_no_range fn.Vector ts zero h = refl
plain_no_range fn.Vector ts (suc i) h = refl
plain_no_range fn.Scalar ts zero h = refl
plain_no_range fn.Scalar ts (suc i) h = refl
plain_no_range fn.Timestamp ts zero h = refl
plain_no_range fn.Timestamp ts (suc i) h = refl
plain_no_range fn.Absent ts zero h = refl
plain_no_range fn.Absent ts (suc i) h = refl
plain_no_range fn.Minute ts zero h = refl
plain_no_range fn.Minute ts (suc i) h = refl
plain_no_range fn.Hour ts zero h = refl
plain_no_range fn.Hour ts (suc i) h = refl
plain_no_range fn.DayOfWeek ts zero h = refl
plain_no_range fn.DayOfWeek ts (suc i) h = refl
plain_no_range fn.DayOfMonth ts zero h = refl
plain_no_range fn.DayOfMonth ts (suc i) h = refl
plain_no_range fn.DayOfYear ts zero h = refl
plain_no_range fn.DayOfYear ts (suc i) h = refl
plain_no_range fn.DaysInMonth ts zero h = refl
plain_no_range fn.DaysInMonth ts (suc i) h = refl
plain_no_range fn.Month ts zero h = refl
plain_no_range fn.Month ts (suc i) h = refl
plain_no_range fn.Year ts zero h = refl
plain_no_range fn.Year ts (suc i) h = refl
plain_no_range fn.LabelReplace ts zero h = refl
plain_no_range fn.LabelReplace ts (suc i) h = refl
plain_no_range fn.LabelJoin ts zero h = refl
plain_no_range fn.LabelJoin ts (suc i) h = refl
plain_no_range fn.HistogramQuantile ts zero h = refl
plain_no_range fn.HistogramQuantile ts (suc i) h = refl
plain_no_range fn.AbsentOverTime ts i h = cc
plain_no_range fn.Rate ts i h = cc
plain_no_range fn.Increase ts i h = cc
plain_no_range fn.Delta ts i h = cc
plain_no_range fn.Irate ts i h = cc
plain_no_range fn.Idelta ts i h = cc
plain_no_range fn.Deriv ts i h = cc
plain_no_range fn.PredictLinear ts i h = cc
plain_no_range fn.Changes ts i h = cc
plain_no_range fn.Resets ts i h = cc
plain_no_range fn.SumOverTime ts i h = cc
plain_no_range fn.AvgOverTime ts i h = cc
plain_no_range fn.MinOverTime ts i h = cc
plain_no_range fn.MaxOverTime ts i h = cc
plain_no_range fn.CountOverTime ts i h = cc
plain_no_range fn.LastOverTime ts i h = cc
plain_no_range fn.PresentOverTime ts i h = cc
plain_no_range fn.QuantileOverTime ts i h = cc

module _ (t : Tree) (p : Place) (f : Func) (es : List Expr) (is : t ≡ call p f (trees_of es)) where
  typed_call : (h : IsValued t) → typed (call p f (trees_of es)) ≡ Ok h.gives
  typed_call h = sym (ap typed is) ∙ h.typed_so

  pub args_valued : IsValued t → is_plain_call f (trees_of es) ≡ true → (i : ℕ) (e : Expr) → slice_get es i ≡ Some e → IsValued (tree_of e)
  args_valued h plain i e at = record {
    gives = wanted (func_signature f) i;
    typed_so = (parts_of_call p f (trees_of es) h.gives (typed_call h)).0.types i (tree_of e) (argument_at es i e at);
    no_range = plain_no_range f (trees_of es) i plain;
  }

  pub replaced_label : IsValued t → f ≡ fn.LabelReplace → is_label_name (content_at (trees_of es) 1) ≡ true
  replaced_label h same = (texts_of_replace p (trees_of es) h.gives (sym (ap (λ g. typed (call p g (trees_of es))) same) ∙ typed_call h)).0

  pub joined_label : IsValued t → f ≡ fn.LabelJoin → is_label_name (content_at (trees_of es) 1) ≡ true
  joined_label h same = text_of_join p (trees_of es) h.gives (sym (ap (λ g. typed (call p g (trees_of es))) same) ∙ typed_call h)

  -- the pattern of the call stands behind those of its arguments
  pub own_pattern : (whole : Tree) (n m : SelectorCounts) → IsPartAt whole n t → m ≡ counts_after n (trees_of es) → f ≡ fn.LabelReplace → slice_get (patterns_in whole) m.patterns ≡ Some (content_at (trees_of es) 4)
  own_pattern whole n m part after same =
      let all : PatternsAt (patterns_in whole) n.patterns (patterns_in (trees_of es) ++ own_patterns f (trees_of es)) = subst (PatternsAt (patterns_in whole) n.patterns) (ap patterns_in is) part.patterns in
      let own : PatternsAt (patterns_in whole) (n.patterns + length (patterns_in (trees_of es))) (own_patterns f (trees_of es)) =
      rest_each (λ k x. slice_get (patterns_in whole) k ≡ Some x) n.patterns (n.patterns + length (patterns_in (trees_of es))) (patterns_in (trees_of es)) (own_patterns f (trees_of es)) refl all in
      let here : slice_get (patterns_in whole) (n.patterns + length (patterns_in (trees_of es))) ≡ Some (content_at (trees_of es) 4) =
      first_of_one (λ k x. slice_get (patterns_in whole) k ≡ Some x) (n.patterns + length (patterns_in (trees_of es))) (content_at (trees_of es) 4)
      (subst (λ g. PatternsAt (patterns_in whole) (n.patterns + length (patterns_in (trees_of es))) (own_patterns g (trees_of es))) same own) in
      ap (λ (k : SelectorCounts). slice_get (patterns_in whole) k.patterns) after ∙ here
