-- What one more label set does to the label sets that are known.
use Rattle.std.proofs.Common.{◌≡◌, ℕ, List, [], ◌∷◌, Bool, true, false, cond, ◌||◌, ap, sym, ◌∙◌, refl, Option, Some, None, ◌++◌, append_assoc, subst}
use Rattle.std.specs.BTreeSet.{BTreeSet, Updates}
use Rattle.std.specs.Ordering.{is_eq}
use Rattle.pr_ast.specs.pr_labels.declared.pair.Pair.{Pair}
use Rattle.pr_ast.specs.pr_labels.Order.{labels_cmp, labels_eq, labels_tie}
use Rattle.pr_yaml.specs.Tree.{Tree}
use Rattle.pr_rulefile.specs.declared.fields.problem.Problem.{Problem}
use Rattle.pr_rulefile.specs.declared.fields.problem.ProblemKind.TheVariants.{DuplicateSeries}
use Rattle.pr_rulefile.specs.Nodes.{line_of}
use Rattle.pr_rulefile.specs.Problems.{problem}
use Rattle.pr_testfile.specs.Scalars.{labels_under}
use Rattle.pr_testfile.specs.Series.{by_labels, repeat_problems, series_of, and_series, duplicate_problems}
use Rattle.pr_testfile.specs.private.Known.{knows_labels, line_under}

one_more : (new old b : Bool) → new ≡ cond b true old → new ≡ (old || b)
one_more new true true e = e
one_more new false true e = e
one_more new true false e = e
one_more new false false e = e

pub more_known : (old new : BTreeSet (List Pair)) (key labels : List Pair) → Updates labels_cmp old new key true → knows_labels new labels ≡ (knows_labels old labels || labels_eq key labels)
more_known old new key labels u =
    let step : knows_labels new labels ≡ cond (is_eq (labels_cmp key labels)) true (knows_labels old labels) = u.0 labels in
    one_more (knows_labels new labels) (knows_labels old labels) (is_eq (labels_cmp key labels)) step ∙ ap (λ b. knows_labels old labels || b) (sym (labels_tie key labels))

-- what is told of a series, by its labels
pub told : (before : List Pair → Bool) (v : Option Tree) (o : Option (List Pair)) → labels_under v ≡ o → repeat_problems before v ≡ by_labels before (line_under v) o
told before None o h = rw (← h) refl
told before (Some t) o h = rw (← h) refl

-- What was found and what is in the series that are left stays all, where the first one of them is
-- taken.
pub one_series : (found more all : List Problem) (before after : List Pair → Bool) (t : Tree) (ts rest : List Tree) → rest ≡ t ∷ ts →
    found ++ duplicate_problems before rest ≡ all → more ≡ found ++ repeat_problems before (series_of t) → after ≡ and_series before (labels_under (series_of t)) → more ++ duplicate_problems after ts ≡ all
unfolding duplicate_problems
one_series found more all before after t ts rest r h p e =
    let Q : List Tree → Type 0 = λ us. found ++ duplicate_problems before us ≡ all in
    rw (p, e, append_assoc) (subst Q r h)
