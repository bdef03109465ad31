use Rattle.std.proofs.Common.{OnOk, OnErr, IfOk, ◌≡◌}
use Rattle.pr_head.specs.private.Intake.{HasTaken, HasTakenFront}
use Rattle.pr_engine.proofs.Bodies.{by_none, by_some}
use Rattle.pr_engine.proofs.scrape.calls.scrape_known.Goals as goal

pub returns-in-Some-clause-taken : goal.returns-in-Some-clause-taken
returns-in-Some-clause-taken c = λ history h.
    by_some (λ s. OnOk c.scrape_body.result (HasTaken c.args.head.now c.scrape_body.new.head history s.entries)) c.args.target.now c.args.time c.args.known.now history c.args.body c.in-Some.bytes c.in-Some.is (c.scrape_body.ensures.taken history h)

pub returns-in-Some-clause-answer : goal.returns-in-Some-clause-answer
returns-in-Some-clause-answer c = λ history h.
    by_some (λ s. IfOk c.scrape_body.result (λ a. a ≡ s.answer)) c.args.target.now c.args.time c.args.known.now history c.args.body c.in-Some.bytes c.in-Some.is (c.scrape_body.ensures.answer history h)

pub returns-in-Some-clause-tracked : goal.returns-in-Some-clause-tracked
returns-in-Some-clause-tracked c = λ history h.
    by_some (λ s. OnOk c.scrape_body.result (c.scrape_body.new.known ≡ s.tracked)) c.args.target.now c.args.time c.args.known.now history c.args.body c.in-Some.bytes c.in-Some.is (c.scrape_body.ensures.tracked history h)

pub returns-in-Some-clause-front : goal.returns-in-Some-clause-front
returns-in-Some-clause-front c = λ history h.
    by_some (λ s. OnErr c.scrape_body.result (HasTakenFront c.args.head.now c.scrape_body.new.head history s.entries)) c.args.target.now c.args.time c.args.known.now history c.args.body c.in-Some.bytes c.in-Some.is (c.scrape_body.ensures.front history h)

pub returns-in-None-clause-taken : goal.returns-in-None-clause-taken
returns-in-None-clause-taken c = λ history h.
    by_none (λ s. OnOk c.fail.result (HasTaken c.args.head.now c.fail.new.head history s.entries)) c.args.target.now c.args.time c.args.known.now history c.args.body c.in-None.is (c.fail.ensures.taken history h)

pub returns-in-None-clause-answer : goal.returns-in-None-clause-answer
returns-in-None-clause-answer c = λ history h.
    by_none (λ s. IfOk c.fail.result (λ a. a ≡ s.answer)) c.args.target.now c.args.time c.args.known.now history c.args.body c.in-None.is (c.fail.ensures.answer history h)

pub returns-in-None-clause-tracked : goal.returns-in-None-clause-tracked
returns-in-None-clause-tracked c = λ history h.
    by_none (λ s. OnOk c.fail.result (c.fail.new.known ≡ s.tracked)) c.args.target.now c.args.time c.args.known.now history c.args.body c.in-None.is (c.fail.ensures.tracked)

pub returns-in-None-clause-front : goal.returns-in-None-clause-front
returns-in-None-clause-front c = λ history h.
    by_none (λ s. OnErr c.fail.result (HasTakenFront c.args.head.now c.fail.new.head history s.entries)) c.args.target.now c.args.time c.args.known.now history c.args.body c.in-None.is (c.fail.ensures.front history h)
