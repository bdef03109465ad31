use Rattle.std.proofs.Common.{rules, arith, ◌≡◌, true, false, sym, ◌∙◌}
use Rattle.std.proofs.lemmas.Grind.{common_steps}
use Rattle.pr_rule.proofs.Marking.{not_marked, sends_due}
use Rattle.pr_rule.proofs.sending.send_if_due.Goals as goal

pub returns-then-not-due-clause-marked : goal.returns-then-not-due-clause-marked
returns-then-not-due-clause-marked c = λ r e.
    let no : c.due.result ≡ false = first_of (search rules, grind (arith, common_steps)) in
    not_marked c.args.at.now.time c.args.index c.args.records.now r e (sym (c.due.ensures r e) ∙ no)

pub returns-clause-sent : goal.returns-clause-sent
returns-clause-sent c = λ r e told.
    let yes : c.due.result ≡ true = first_of (search rules, grind (arith, common_steps)) in
    sends_due c.args.interval c.args.at.now.time c.args.index c.args.records.now c.list.result.now c.index-list-index.result r c.args.sent.now.items c.note_sending.new.sent.items e (sym (c.due.ensures r e) ∙ yes)
    c.list.ensures c.index-list-index.is (c.in_ok-note_sending.ensures told)
