use Rattle.std.proofs.Common.{◌≡◌, map, take}
use Rattle.pr_match.specs.Pattern.{expanded, replacement}
use Rattle.spec_vectors.specs.LabelFunctions.{with_expansion}
use Rattle.pr_fn.specs.private.Rows.{AreRows}
use Rattle.pr_fn.proofs.label_functions.label_replace.Given as goal

-- the elements so far, with the label set; the expander is the pattern's and the template's
abbrev pub invariant-loop-item : goal.invariant-loop-item
invariant-loop-item l = record {
  expander : l.expander ≡ replacement l.pattern l.template;
  rows : AreRows (map (with_expansion l.dst l.src (λ text. expanded l.pattern text l.template)) (take l.item-index l.vector)) l.rows;
}
