use Rattle.std.proofs.Common.{ap, sym, subst, ◌∙◌, [], ◌∷◌, ◌++◌}
use Rattle.spec_history.specs.declared.append.Append.TheVariants.{Added}
use Rattle.pr_head.specs.private.Holds.{entry_of, timed, Holds, IsWhole}
use Rattle.pr_head.specs.private.Stored.{begun}
use Rattle.pr_head.proofs.Simulation.{new_is_added, put_added, holds_new, whole_new}
use Rattle.pr_head.proofs.head.Head.append.Goals as goal

pub returns-in-Some-clause-answer : goal.returns-in-Some-clause-answer
returns-in-Some-clause-answer c = λ history holds. c.append_at.ensures.answer history c.args.labels.now holds c.in-Some.ensures.found

pub returns-in_ok-add-in-None-clause-answer : goal.returns-in_ok-add-in-None-clause-answer
returns-in_ok-add-in-None-clause-answer c = λ history holds. sym (new_is_added c.args.self.now history c.args.labels.now c.args.time c.args.point holds c.in-None.ensures.none)

pub returns-in_ok-add-in-None-clause-holds : goal.returns-in_ok-add-in-None-clause-holds
returns-in_ok-add-in-None-clause-holds c = λ history holds.
    let e = entry_of c.args.labels.now c.args.time c.args.point in
    let is = new_is_added c.args.self.now history c.args.labels.now c.args.time c.args.point holds c.in-None.ensures.none in
    let after = holds_new c.args.self.now history e holds c.in-None.ensures.none in
    subst (λ h. Holds c.add.new.self h) (sym (put_added history e Added is (λ i. Added)))
    (subst (λ s. Holds s (history ++ e ∷ [])) (sym (c.in_ok-add-in-None.ensures.ok ∙ ap (λ l. c.args.self.now ++ (l, begun (timed e)) ∷ []) c.in_ok-copy-in-None.ensures)) after)

pub returns-in_ok-add-in-None-clause-whole : goal.returns-in_ok-add-in-None-clause-whole
returns-in_ok-add-in-None-clause-whole c = λ history x holds whole.
    let e = entry_of c.args.labels.now c.args.time c.args.point in
    let is = new_is_added c.args.self.now history c.args.labels.now c.args.time c.args.point holds c.in-None.ensures.none in
    let after = whole_new c.args.self.now history e x whole in
    subst (λ h. IsWhole c.add.new.self h x) (sym (put_added history e Added is (λ i. Added)))
    (subst (λ s. IsWhole s (history ++ e ∷ []) x) (sym (c.in_ok-add-in-None.ensures.ok ∙ ap (λ l. c.args.self.now ++ (l, begun (timed e)) ∷ []) c.in_ok-copy-in-None.ensures)) after)

pub returns-in-Some-clause-whole : goal.returns-in-Some-clause-whole
returns-in-Some-clause-whole c = λ history x holds whole. c.append_at.ensures.whole history c.args.labels.now x holds c.in-Some.ensures.found whole
