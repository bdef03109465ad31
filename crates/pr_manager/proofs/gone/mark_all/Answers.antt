use Rattle.pr_manager.proofs.Remaining.{marks_taken, marks_added}
use Rattle.pr_manager.proofs.gone.mark_all.Goals as goal

pub returns-clause-taken : goal.returns-clause-taken
returns-clause-taken c = λ history holds. marks_taken c.args.head.now c.mark.new.head c.new-rows.result.items c.mark.new.rows.items history c.args.time c.args.sets.now (c.in_ok-mark.ensures.puts history holds)

pub returns-clause-added : goal.returns-clause-added
returns-clause-added c = λ history holds. marks_added c.args.head.now c.mark.new.head c.new-rows.result.items c.mark.new.rows.items history c.args.time c.args.sets.now c.new-rows.ensures.items (c.in_ok-mark.ensures.puts history holds)
