use Rattle.std.proofs.Common.{◌≡◌, ◌++◌, Result}
use Rattle.std.specs.Map.{keys_of}
use Rattle.pr_window.specs.spec_vectors.Vectors.{label_sets}
use Rattle.pr_num.specs.declared.value.Num.{Num}
use Rattle.pr_num.specs.declared.value.TooWide.{TooWide}
use Rattle.pr_agg.specs.private.Parts.{Finishes, after_items, finished_all}
use Rattle.pr_agg.proofs.folds.finish_all.Given as goal

-- the elements so far, and those to come
abbrev pub invariant-loop-labels : goal.invariant-loop-labels
invariant-loop-labels g l = record {
  finished : (f : g.row.A.Denot → Result Num TooWide) → Finishes g.E.Fn l.finish f → after_items l.items.items (finished_all f l.labels-iterator) ≡ finished_all f l.fn.parts.entries;
  labels : label_sets l.items.items ++ keys_of l.labels-iterator ≡ keys_of l.fn.parts.entries;
}
