use Rattle.std.proofs.Common.{◌≡◌, ◌++◌, drop, map}
use Rattle.pr_eval.specs.private.Answering.{answer_element}
use Rattle.pr_eval.proofs.range_calls.of_selector.items_of.Given as goal

-- the items so far, and those to come
abbrev pub invariant-loop-answer : goal.invariant-loop-answer
invariant-loop-answer l = l.items.items ++ map (answer_element l.head) (drop l.answer-index l.answers) ≡ map (answer_element l.head) l.answers
