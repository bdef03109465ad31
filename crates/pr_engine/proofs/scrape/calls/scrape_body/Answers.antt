use Rattle.std.proofs.Common.{OnOk, OnErr, IfOk, ◌≡◌}
use Rattle.std.specs.declared.result.Result.TheVariants.{Err}
use Rattle.pr_manager.specs.pr_expo.declared.exposition.ExpoError.TheVariants.{Fault}
use Rattle.pr_manager.specs.pr_expo.Families.{exposition_of}
use Rattle.pr_head.specs.private.Intake.{HasTaken, HasTakenFront}
use Rattle.pr_engine.proofs.Bodies.{by_fault, by_samples}
use Rattle.pr_engine.proofs.scrape.calls.scrape_body.Goals as goal

pub returns-in-Ok-clause-taken : goal.returns-in-Ok-clause-taken
returns-in-Ok-clause-taken c = λ history h.
    by_samples (λ s. OnOk c.scrape_lines.result (HasTaken c.args.head.now c.scrape_lines.new.head history s.entries)) c.args.target.now c.args.now c.args.known.now c.args.bytes.now history c.in-Ok.exposition c.in-Ok.ensures c.as_slice-lines.result.now c.as_slice-lines.ensures (c.scrape_lines.ensures.taken history h)

pub returns-in-Ok-clause-answer : goal.returns-in-Ok-clause-answer
returns-in-Ok-clause-answer c = λ history h.
    by_samples (λ s. IfOk c.scrape_lines.result (λ a. a ≡ s.answer)) c.args.target.now c.args.now c.args.known.now c.args.bytes.now history c.in-Ok.exposition c.in-Ok.ensures c.as_slice-lines.result.now c.as_slice-lines.ensures (c.scrape_lines.ensures.answer history h)

pub returns-in-Ok-clause-tracked : goal.returns-in-Ok-clause-tracked
returns-in-Ok-clause-tracked c = λ history h.
    by_samples (λ s. OnOk c.scrape_lines.result (c.scrape_lines.new.known ≡ s.tracked)) c.args.target.now c.args.now c.args.known.now c.args.bytes.now history c.in-Ok.exposition c.in-Ok.ensures c.as_slice-lines.result.now c.as_slice-lines.ensures (c.scrape_lines.ensures.tracked history h)

pub returns-in-Ok-clause-front : goal.returns-in-Ok-clause-front
returns-in-Ok-clause-front c = λ history h.
    by_samples (λ s. OnErr c.scrape_lines.result (HasTakenFront c.args.head.now c.scrape_lines.new.head history s.entries)) c.args.target.now c.args.now c.args.known.now c.args.bytes.now history c.in-Ok.exposition c.in-Ok.ensures c.as_slice-lines.result.now c.as_slice-lines.ensures (c.scrape_lines.ensures.front history h)

pub returns-in-Err-Fault-clause-taken : goal.returns-in-Err-Fault-clause-taken
returns-in-Err-Fault-clause-taken c = λ history h.
    let is : exposition_of c.args.bytes.now ≡ Err (Fault c.in-Err-Fault.line c.in-Err-Fault.kind) = rw c.in-Err-Fault.field-0-is at c.in-Err-Fault.ensures in
    by_fault (λ s. OnOk c.fail.result (HasTaken c.args.head.now c.fail.new.head history s.entries)) c.args.target.now c.args.now c.args.known.now c.args.bytes.now history c.in-Err-Fault.line c.in-Err-Fault.kind is (c.fail.ensures.taken history h)

pub returns-in-Err-Fault-clause-answer : goal.returns-in-Err-Fault-clause-answer
returns-in-Err-Fault-clause-answer c = λ history h.
    let is : exposition_of c.args.bytes.now ≡ Err (Fault c.in-Err-Fault.line c.in-Err-Fault.kind) = rw c.in-Err-Fault.field-0-is at c.in-Err-Fault.ensures in
    by_fault (λ s. IfOk c.fail.result (λ a. a ≡ s.answer)) c.args.target.now c.args.now c.args.known.now c.args.bytes.now history c.in-Err-Fault.line c.in-Err-Fault.kind is (c.fail.ensures.answer history h)

pub returns-in-Err-Fault-clause-tracked : goal.returns-in-Err-Fault-clause-tracked
returns-in-Err-Fault-clause-tracked c = λ history h.
    let is : exposition_of c.args.bytes.now ≡ Err (Fault c.in-Err-Fault.line c.in-Err-Fault.kind) = rw c.in-Err-Fault.field-0-is at c.in-Err-Fault.ensures in
    by_fault (λ s. OnOk c.fail.result (c.fail.new.known ≡ s.tracked)) c.args.target.now c.args.now c.args.known.now c.args.bytes.now history c.in-Err-Fault.line c.in-Err-Fault.kind is (c.fail.ensures.tracked)

pub returns-in-Err-Fault-clause-front : goal.returns-in-Err-Fault-clause-front
returns-in-Err-Fault-clause-front c = λ history h.
    let is : exposition_of c.args.bytes.now ≡ Err (Fault c.in-Err-Fault.line c.in-Err-Fault.kind) = rw c.in-Err-Fault.field-0-is at c.in-Err-Fault.ensures in
    by_fault (λ s. OnErr c.fail.result (HasTakenFront c.args.head.now c.fail.new.head history s.entries)) c.args.target.now c.args.now c.args.known.now c.args.bytes.now history c.in-Err-Fault.line c.in-Err-Fault.kind is (c.fail.ensures.front history h)
