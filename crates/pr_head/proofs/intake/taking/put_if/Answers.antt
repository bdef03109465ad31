use Rattle.std.proofs.Common.{◌≡◌, ◌∷◌, [], IfOk, OnOk, subst}
use Rattle.spec_history.specs.declared.entry.Entry.{Entry}
use Rattle.spec_history.specs.Admission.{admit}
use Rattle.pr_head.specs.private.Holds.{entry_of}
use Rattle.pr_head.specs.private.Intake.{PutsIf}
use Rattle.pr_head.proofs.IntakeIntake.{puts_told, puts_untold_if, taken_if}
use Rattle.pr_head.proofs.intake.taking.put_if.Goals as goal

pub returns-then-tells-clause-answer : goal.returns-then-tells-clause-answer
returns-then-tells-clause-answer c = λ history h.
    subst (λ (e : Entry). IfOk c.put.result (λ a. a ≡ admit history e.labels e.time e.point)) c.in_ok-entry.ensures (c.put.ensures.answer history h)

pub returns-then-tells-clause-puts : goal.returns-then-tells-clause-puts
returns-then-tells-clause-puts c = λ history h.
    subst (λ (e : Entry). OnOk c.put.result (PutsIf c.args.tells c.args.head.now c.put.new.head c.args.rows.now.items c.put.new.rows.items history (e ∷ []))) c.in_ok-entry.ensures
    (puts_told c.put.result c.args.tells c.args.head.now c.put.new.head c.args.rows.now.items c.put.new.rows.items history (c.in_ok-entry.entry ∷ []) (c.put.ensures.puts history h))

pub returns-clause-puts : goal.returns-clause-puts
returns-clause-puts c = λ history h.
    let entries = entry_of c.args.labels.now c.args.time c.args.point ∷ [] in
    puts_untold_if c.append.result c.args.tells c.args.head.now c.append.new.self c.args.rows.now.items c.args.rows.now.items history entries c.if-tells.false
    (taken_if c.append.result c.args.head.now c.append.new.self history entries (c.append.ensures.holds history h) (λ x w. c.append.ensures.whole history x h w))
