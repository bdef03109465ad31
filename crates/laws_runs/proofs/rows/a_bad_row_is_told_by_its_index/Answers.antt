use Rattle.std.proofs.Common.{ℕ, List, ◌++◌, codes, ap}
use Rattle.pr_top.specs.pr_text.BadRows.{bad_row_text}
use Rattle.laws_runs.proofs.Lines.{one}
use Rattle.laws_runs.proofs.rows.a_bad_row_is_told_by_its_index.Goals as goal

pub returns : goal.returns
unfolding bad_row_text
returns c = ap (λ (l : List ℕ). codes "bad row " ++ (l ++ codes "\n")) one
