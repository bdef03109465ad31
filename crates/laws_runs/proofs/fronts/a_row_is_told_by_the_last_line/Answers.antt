use Rattle.std.proofs.Common.{◌≡◌, [], Some, codes, refl}
use Rattle.pr_top.specs.pr_text.BadRows.{bad_row_text}
use Rattle.laws_runs.proofs.Lines.{not_told_so, seven}
use Rattle.laws_runs.proofs.fronts.a_row_is_told_by_the_last_line.Goals as goal

pub returns-clause-behind : goal.returns-clause-behind
unfolding bad_row_text
returns-clause-behind c = record { front = codes "opened 0\nadded\n"; text = rw seven refl }

pub returns-clause-alone : goal.returns-clause-alone
unfolding bad_row_text
returns-clause-alone c = record { front = []; text = rw seven refl }

pub returns-clause-not_told : goal.returns-clause-not_told
returns-clause-not_told c = λ t. not_told_so t
