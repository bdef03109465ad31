use Rattle.pr_words.specs.private.Reader.{bytes_of}
use Rattle.pr_words.specs.Strings.{content}
use Rattle.pr_words.proofs.StringOpen.{not_without_opening, along_start, along_step, target_length, not_past_none, not_past_break, at_place}
use Rattle.pr_words.proofs.strings.reader.is_open_at.Goals as goal

pub returns-in_default : goal.returns-in_default
returns-in_default c = not_without_opening _ c.args.place c.requires c.in_default.ensures.opens

pub loop-rest-init : goal.loop-rest-init
loop-rest-init c = along_start c.in-Some.mark c.in-Some.after.now _

pub loop-rest-preserved : goal.loop-rest-preserved
loop-rest-preserved c =
    let taken = rw c.in-Ok-Some.field-0-is at c.in-Ok-Some.ensures.read in
    along_step c.in-Some.mark c.in-Some.after.now c.loop-rest.rest.now c.in-Ok-Some.next.now _ _ (content (bytes_of c.in-Ok-Some._piece)) (target_length _ c.args.place c.requires) c.loop-rest-test.true c.loop-rest.invariant taken

pub returns-in-Ok-None : goal.returns-in-Ok-None
returns-in-Ok-None c =
    let none = rw c.in-Ok-None.field-0-is at c.in-Ok-None.ensures.read in
    not_past_none _ c.args.place c.requires c.in-Some.mark c.in-Some.after.now c.loop-rest.rest.now c.in-Some.ensures.opens c.loop-rest.invariant c.loop-rest-test.true none

pub returns-in-Err : goal.returns-in-Err
returns-in-Err c =
    not_past_break _ c.args.place c.requires c.in-Some.mark c.in-Some.after.now c.loop-rest.rest.now _ c.in-Some.ensures.opens c.loop-rest.invariant c.loop-rest-test.true c.in-Err.ensures.read

pub returns : goal.returns
returns c = at_place _ c.args.place c.requires c.in-Some.mark c.in-Some.after.now c.loop-rest.rest.now c.in-Some.ensures.opens c.loop-rest.invariant c.loop-rest-test.false
