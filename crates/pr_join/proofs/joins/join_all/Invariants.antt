use Rattle.std.proofs.Common.{◌≡◌, [], length, take}
use Rattle.spec_vectors.specs.Matching.{Operator, outcomes_of}
use Rattle.pr_join.specs.private.Operators.{AnswersBy}
use Rattle.pr_join.specs.private.Rows.{AreRowsTaken}
use Rattle.pr_join.proofs.joins.join_all.Given as goal

-- the elements so far have no fault, and what they give is kept
abbrev pub invariant-loop-many : goal.invariant-loop-many
invariant-loop-many g l = record {
  room : length l.rows.taken.items ≡ length l.ones;
  taken : (f : Operator) → AnswersBy g.O.Fn l.op f → AreRowsTaken l.how l.ones [] (outcomes_of l.how l.keep_name f (take l.many-index l.manys) l.ones) l.rows;
}
