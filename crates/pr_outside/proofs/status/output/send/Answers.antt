use Rattle.std.proofs.Common.{◌∙◌, ap, length-drop, arith, false}
use Rattle.std.proofs.lemmas.List.{take_rest}
use Rattle.pr_outside.specs.Courses.{course_after}
use Rattle.pr_outside.specs.declared.course.Course.{Course}
use Rattle.pr_outside.proofs.StatusStreams.{appends_more}
use Rattle.pr_outside.proofs.status.output.send.Goals as goal

pub writing-preserved : goal.writing-preserved
writing-preserved g c =
    let means = g.O.Sink.means in
    record {
      within = omega (arith, c.in_ok-at.ensures.bound, length-drop c.writing.at c.args.text.now);
      taken = appends_more (means c.args.out.now).taken (means c.writing.out).taken (means c.write.new.self).taken c.args.text.now c.writing.at c.in_ok-at.field-0
          c.writing.invariant.taken (rw take_rest at c.in_ok-at.ensures.bytes);
      calm = c.in_ok-at.ensures.cause ∙ c.writing.invariant.calm;
      course = λ e. c.in_ok-at.ensures.course ∙ ap (λ (k : Course). course_after k false) (c.writing.invariant.course e);
    }
