use Rattle.pr_tmpl.proofs.TextKept.{words_split}
use Rattle.std.proofs.Common.{refl}
use Rattle.pr_tmpl.proofs.TextWays.{words_start, turn_words, turn_opens, all_words}
use Rattle.pr_tmpl.proofs.parse.words_in.Goals as goal

pub loop-pipe-init : goal.loop-pipe-init
loop-pipe-init c = words_start c.args.text.now

pub loop-pipe-preserved : goal.loop-pipe-preserved
loop-pipe-preserved c = turn_words c.args.text.now c.loop-pipe.rest.now c.in-Some.after.now c.in-Some.pipe c.loop-pipe.invariant (rw c.in-Some.is at c.in_ok-pipe.ensures.read) c.if-pipe.false

pub returns-then-pipe-clause-read : goal.returns-then-pipe-clause-read
returns-then-pipe-clause-read c = turn_opens c.args.text.now c.loop-pipe.rest.now c.in-Some.after.now _ c.in-Some.pipe c.loop-pipe.invariant (rw c.in-Some.is at c.in_ok-pipe.ensures.read) c.if-pipe.true refl

pub returns-clause-read : goal.returns-clause-read
returns-clause-read c = all_words c.args.text.now c.loop-pipe.rest.now c.loop-pipe.invariant (rw c.in_default.is at c.in_ok-pipe.ensures.read)

pub returns-then-pipe-clause-text : goal.returns-then-pipe-clause-text
returns-then-pipe-clause-text c =
    let cut = rw c.in-Some.is at c.in_ok-pipe.ensures.text in
    words_split c.args.text.now c.loop-pipe.rest.now c.in-Some.after.now _ c.loop-pipe.invariant (cut c.if-pipe.true) refl
