use Rattle.std.proofs.Common.{◌∙◌, Err, refl, ap}
use Rattle.pr_outside.specs.Ends.{no_row}
use Rattle.pr_outside.specs.Outside.{Outside}
use Rattle.pr_outside.specs.declared.status.status.Stop.{Stop}
use Rattle.pr_outside.proofs.Ended.{in_time_on, in_time_same}
use Rattle.pr_outside.proofs.Endings.{bad_of, calm_of, ends_late, ends_wider, row_ends}
use Rattle.pr_outside.specs.Stores.{IsBadIn}
use Rattle.pr_text.proofs.Lines.{write_row}
use Rattle.pr_exercise.proofs.running.told_stop.Goals as goal

-- the line was written

pub returns-in-Ok-clause-ends : goal.returns-in-Ok-clause-ends
returns-in-Ok-clause-ends g c = λ before others e.
    let out = g.O.Sink.means in
    let a : Outside = record before { out = out c.args.out.now } in
    let b : Outside = record others { out = out c.args.out.now } in
    let d : Outside = record others { out = out c.tell_bad_row.new.out } in
    let is = c.in-Some.ensures.some in
    let calm = calm_of Unit (IsBadIn others.store) ⊥ a b c.args.stop c.in-Some.index is e in
    let t = c.in-Ok.ensures.ends others in
    row_ends Unit (IsBadIn others.store) ⊥ a d c.args.stop c.in-Some.index is (t.cause.0 ∙ calm.0, t.cause.1 ∙ calm.1, t.cause.2 ∙ calm.2, t.cause.3 ∙ calm.3)
    (bad_of Unit (IsBadIn others.store) ⊥ a b c.args.stop c.in-Some.index is e) e.input e.files (in_time_on a.out.course d.out.course d.out.course t.out (in_time_same d.out.course))

-- it was not

pub returns-in-Err-clause-row : goal.returns-in-Err-clause-row
returns-in-Err-clause-row g c = λ at is.
    absurd (write_row Unit Unit (g.O.Sink.means c.args.out.now) (g.O.Sink.means c.tell_bad_row.new.out) (Err c.in-Err.error) c.in-Err.error at refl c.in-Err.ensures.ends
    (ap (λ (s : Stop). Err s) is))

pub returns-in-Err-clause-ends : goal.returns-in-Err-clause-ends
returns-in-Err-clause-ends g c = λ before others e.
    let out = g.O.Sink.means in
    let a : Outside = record before { out = out c.args.out.now } in
    let b : Outside = record others { out = out c.args.out.now } in
    let d : Outside = record others { out = out c.tell_bad_row.new.out } in
    let calm = calm_of Unit (IsBadIn others.store) ⊥ a b c.args.stop c.in-Some.index c.in-Some.ensures.some e in
    ends_late Unit Unit (IsBadIn others.store) ⊥ a b d (Err c.in-Err.error) c.in-Err.error refl calm e.input e.files (λ going. going)
    (ends_wider Unit no_row (IsBadIn others.store) ⊥ ⊥ b d (Err c.in-Err.error) (λ i no. absurd no) (λ never. never) (c.in-Err.ensures.ends others))
