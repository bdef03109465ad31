use Rattle.pr_time.proofs.FormsTaking.{taking}
use Rattle.pr_ast.specs.Number.{production, letter_of, point_at, mark}
use Rattle.pr_ast.proofs.lex.number.point_in.Goals as goal
use Rattle.pr_ast.specs.NumberTable.{table}

pub returns : goal.returns
returns c = taking letter_of production table point_at (λ _. mark) (λ x. x.0) (λ x. x.1.now) c.take.result _ c.take.ensures (λ x r h. h)
