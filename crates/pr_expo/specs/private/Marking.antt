-- What is seen on samples one after the other. Private contracts cite this: a reader can pass it
-- over.
use Rattle.std.specs.Prelude.{◌||◌, false, List, [], ◌∷◌, set, get_or, codes}
use Rattle.pr_expo.specs.declared.exposition.Line.{Line}
use Rattle.pr_expo.specs.declared.marks.Marks.{Marks}
use Rattle.pr_expo.specs.Lint.{has_label, is_wide}

abbrev pub no_marks : Marks
no_marks = record { le = false; quantile = false; wide = false }

abbrev pub mark_of : Line → Marks
mark_of line = record { le = has_label (codes "le") line; quantile = has_label (codes "quantile") line; wide = is_wide line }

abbrev pub both : Marks → Marks → Marks
both a b = record { le = a.le || b.le; quantile = a.quantile || b.quantile; wide = a.wide || b.wide }

-- what is seen on the samples of each family, one sample after the other
abbrev pub marked : List Marks → Line → List Marks
marked marks line = set marks line.family (both (get_or marks line.family no_marks) (mark_of line))

abbrev pub marks_after : List Marks → List Line → List Marks
marks_after marks [] = marks
marks_after marks (line ∷ lines) = marks_after (marked marks line) lines
