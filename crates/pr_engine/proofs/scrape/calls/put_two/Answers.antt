use Rattle.std.proofs.Common.{[], ◌∷◌}
use Rattle.pr_head.specs.spec_history.Admission.{put_all}
use Rattle.pr_head.proofs.IntakeIntake.{front_if, front_more, front_then, puts_then}
use Rattle.pr_engine.proofs.scrape.calls.put_two.Goals as goal

pub returns-in_err-put-clause-front : goal.returns-in_err-put-clause-front
returns-in_err-put-clause-front c = λ history h.
    front_if c.from_residual.result c.args.head.now c.put.new.head history (c.args.first ∷ c.args.second ∷ [])
    (front_more c.args.head.now c.put.new.head history (c.args.first ∷ []) (c.args.second ∷ []) (c.in_err-put.ensures.front history h))

pub returns-in_err-put-2-clause-front : goal.returns-in_err-put-2-clause-front
returns-in_err-put-2-clause-front c = λ history h.
    let p = c.in_ok-put.ensures.puts history h in
    front_if c.from_residual-in_err-put-2.result c.args.head.now c.put-2.new.head history (c.args.first ∷ c.args.second ∷ [])
    (front_then c.args.head.now c.put.new.head c.put-2.new.head history (c.args.first ∷ []) (c.args.second ∷ []) p.taken
    (c.in_err-put-2.ensures.front (put_all history (c.args.first ∷ [])) p.taken.holds))

pub returns-clause-puts : goal.returns-clause-puts
returns-clause-puts c = λ history h.
    let p = c.in_ok-put.ensures.puts history h in
    puts_then c.args.head.now c.put.new.head c.put-2.new.head c.args.rows.now.items c.put.new.rows.items c.put-2.new.rows.items history
    (c.args.first ∷ []) (c.args.second ∷ []) p (c.in_ok-put-2.ensures.puts (put_all history (c.args.first ∷ [])) p.taken.holds)
