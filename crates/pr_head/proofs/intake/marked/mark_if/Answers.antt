use Rattle.spec_history.specs.Puts.{markers}
use Rattle.pr_head.proofs.IntakeIntake.{puts_told, puts_untold}
use Rattle.pr_head.proofs.intake.marked.mark_if.Goals as goal

pub returns-then-tells-clause-puts : goal.returns-then-tells-clause-puts
returns-then-tells-clause-puts c = λ history h.
    puts_told c.mark.result c.args.tells c.args.head.now c.mark.new.head c.args.rows.now.items c.mark.new.rows.items history (markers c.args.now c.args.old.now c.args.new.now) (c.mark.ensures.puts history h)

pub returns-clause-puts : goal.returns-clause-puts
returns-clause-puts c = λ history h.
    puts_untold c.args.tells c.args.head.now c.mark_untold.new.head c.args.rows.now.items c.args.rows.now.items history (markers c.args.now c.args.old.now c.args.new.now) c.if-tells.false (c.in_ok-mark_untold.ensures history h)
