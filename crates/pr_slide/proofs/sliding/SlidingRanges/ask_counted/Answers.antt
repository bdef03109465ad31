use Rattle.std.proofs.Common.{◌≡◌, ◌≤◌, slice_get, Some, ap, sym, subst, arith}
use Rattle.pr_head.specs.private.Stored.{count_of, position_of}
use Rattle.pr_head.specs.spec_history.private.Laws.{entries_until}
use Rattle.pr_range.specs.spec_vectors.Ranges.{over}
use Rattle.pr_range.specs.private.Answers.{AnswersAsk}
use Rattle.pr_range.specs.private.Spots.{AreWithin}
use Rattle.pr_range.proofs.Reading.{placed}
use Rattle.pr_slide.specs.private.Kinds.{saved_in}
use Rattle.pr_slide.specs.private.Windows.{passed_of, saved_by, saved_of}
use Rattle.pr_slide.proofs.Keeping.{fits_put, found_put, going, moved_put, reads_later, told_after}
use Rattle.pr_slide.proofs.sliding.SlidingRanges.ask_counted.Goals as goal

pub returns-clause-answer : goal.returns-clause-answer
returns-clause-answer g c = λ history labels may fits ready.
    let p = placed c.args.head.now history c.args.series labels c.args.ask.now may c.requires.ordered in
    let go = going c.args.head.now history c.args.series labels c.args.ask.now c.args.node c.args.self.now may c.requires.ordered p fits (ready c.requires.outside) in
    let first = p.first in
    let last = p.last in
    let from_is = p.from_is in
    let to_is = p.to_is in
    let low : p.s.first ≤ position_of p.s c.args.ask.now.from = omega arith in
    let high : position_of p.s c.args.ask.now.to ≤ count_of p.s = omega arith in
    record {
      value = subst (λ l. AnswersAsk (over c.args.ask.now l) c.ask_outside.result) go.values
          (c.ask_outside.ensures.answer (labels, p.s) p.at low high (subst (AreWithin c.args.ask.now.from c.args.ask.now.to) (sym go.values) p.within));
      reads = reads_later history labels c.args.ask.now p.s (passed_of c.args.self.now c.args.node c.args.series) c.args.reads.now c.ask_outside.new.reads c.requires.outside p.from_is p.to_is
          (c.ask_outside.ensures.reads (labels, p.s) p.at);
    }

pub returns-clause-fits : goal.returns-clause-fits
returns-clause-fits g c = λ history labels may fits ready other.
    let p = placed c.args.head.now history c.args.series labels c.args.ask.now may c.requires.ordered in
    let go = going c.args.head.now history c.args.series labels c.args.ask.now c.args.node c.args.self.now may c.requires.ordered p fits (ready c.requires.outside) in
    let first = p.first in
    let last = p.last in
    let from_is = p.from_is in
    let to_is = p.to_is in
    let low : p.s.first ≤ position_of p.s c.args.ask.now.from = omega arith in
    let high : position_of p.s c.args.ask.now.to ≤ count_of p.s = omega arith in
    fits_put c.args.self.now c.ask_outside.new.self history labels p.s c.args.ask.now c.args.node c.args.series fits (ready c.requires.outside)
    (subst (λ l. slice_get l c.args.series ≡ Some labels) may.holds.numbered may.named) (subst (AreWithin c.args.ask.now.from c.args.ask.now.to) (sym go.values) p.within) go (c.ask_outside.ensures.put (labels, p.s) p.at low high other)

pub returns-clause-moved : goal.returns-clause-moved
returns-clause-moved g c = λ history labels may fits ready other.
    let p = placed c.args.head.now history c.args.series labels c.args.ask.now may c.requires.ordered in
    let first = p.first in
    let last = p.last in
    let from_is = p.from_is in
    let to_is = p.to_is in
    let low : p.s.first ≤ position_of p.s c.args.ask.now.from = omega arith in
    let high : position_of p.s c.args.ask.now.to ≤ count_of p.s = omega arith in
    moved_put c.args.self.now c.ask_outside.new.self p.s c.args.ask.now c.args.node c.args.series (entries_until history labels c.args.ask.now.to) c.requires.outside p.to_is
    (c.ask_outside.ensures.put (labels, p.s) p.at low high other)

pub returns-clause-looks : goal.returns-clause-looks
returns-clause-looks g c = λ history labels may fits ready can other.
    let p = placed c.args.head.now history c.args.series labels c.args.ask.now may c.requires.ordered in
    let go = going c.args.head.now history c.args.series labels c.args.ask.now c.args.node c.args.self.now may c.requires.ordered p fits (ready c.requires.outside) in
    let first = p.first in
    let last = p.last in
    let from_is = p.from_is in
    let to_is = p.to_is in
    let low : p.s.first ≤ position_of p.s c.args.ask.now.from = omega arith in
    let high : position_of p.s c.args.ask.now.to ≤ count_of p.s = omega arith in
    let within = subst (AreWithin c.args.ask.now.from c.args.ask.now.to) (sym go.values) p.within in
    let put = c.ask_outside.ensures.put (labels, p.s) p.at low high other in
    let found_is = found_put c.args.self.now c.ask_outside.new.self p.s c.args.ask.now c.args.node c.args.series put in
    let told = told_after c.args.self.now c.ask_outside.new.self history p.s c.args.ask.now c.args.node c.args.series fits (ready c.requires.outside) within put can in
    let few = c.ask_outside.ensures.looks put.window found_is told other in
    let saved : saved_of c.ask_outside.new.self c.args.node c.args.series ≡ saved_in put.window.spots = ap saved_by found_is in
    omega arith
