use Rattle.std.proofs.Common.{◌≡◌, ap, sym, subst, ◌∙◌, arith, w64, to_z, of_z}
use Rattle.std.proofs.lemmas.Int.{to_z-of_z}
use Rattle.pr_head.specs.private.Stored.{position_of}
use Rattle.spec_vectors.specs.Ranges.{over}
use Rattle.pr_range.specs.private.Answers.{AnswersAsk}
use Rattle.pr_range.specs.private.Spots.{AreWithin}
use Rattle.pr_range.proofs.Reading.{placed, spots_read, reads_plain}
use Rattle.pr_range.proofs.plain.ask_plainly.Goals as goal

pub returns-in-Ok : goal.returns-in-Ok
returns-in-Ok g c = λ history labels may.
    let p = placed c.args.head.now history c.args.series labels c.args.ask.now may c.requires.ordered in
    let start : to_z w64 (of_z w64 c.args.ask.now.from) ≡ c.args.ask.now.from = grind (arith, to_z-of_z) in
    let end : to_z w64 (of_z w64 c.args.ask.now.to) ≡ c.args.ask.now.to = grind (arith, to_z-of_z) in
    let from : c.position_near-from.result ≡ position_of p.s c.args.ask.now.from = c.position_near-from.ensures.known (labels, p.s) p.at ∙ ap (position_of p.s) start in
    let to : c.position_near-to.result ≡ position_of p.s c.args.ask.now.to = c.position_near-to.ensures.known (labels, p.s) p.at ∙ ap (position_of p.s) end in
    let low = p.first in
    let high = p.last in
    let from_is = p.from_is in
    let to_is = p.to_is in
    let read = c.in-Ok.ensures.spots (labels, p.s) p.at (omega arith) (omega arith) in
    let reads = c.in-Ok.ensures.reads in
    let spots = c.deref.ensures.value
    ∙ spots_read c.args.head.now history c.args.series labels c.args.ask.now p c.position_near-from.result c.position_near-to.result c.in-Ok.spots.items from to
    read in
    record {
      value = subst (λ l. AnswersAsk (over c.args.ask.now l) c.over_list.result) spots (c.over_list.ensures.answer (subst (AreWithin c.args.ask.now.from c.args.ask.now.to) (sym spots) p.within));
      reads = reads_plain history labels c.args.ask.now c.args.reads.now c.read_between.new.reads p.between (omega arith);
    }

pub returns-in-Err : goal.returns-in-Err
returns-in-Err g c = λ history labels may.
    let p = placed c.args.head.now history c.args.series labels c.args.ask.now may c.requires.ordered in
    let start : to_z w64 (of_z w64 c.args.ask.now.from) ≡ c.args.ask.now.from = grind (arith, to_z-of_z) in
    let end : to_z w64 (of_z w64 c.args.ask.now.to) ≡ c.args.ask.now.to = grind (arith, to_z-of_z) in
    let from : c.position_near-from.result ≡ position_of p.s c.args.ask.now.from = c.position_near-from.ensures.known (labels, p.s) p.at ∙ ap (position_of p.s) start in
    let to : c.position_near-to.result ≡ position_of p.s c.args.ask.now.to = c.position_near-to.ensures.known (labels, p.s) p.at ∙ ap (position_of p.s) end in
    let from_is = p.from_is in
    let to_is = p.to_is in
    let reads = c.in-Err.ensures.reads in
    record {
      value = tt;
      reads = reads_plain history labels c.args.ask.now c.args.reads.now c.read_between.new.reads p.between (omega arith);
    }
