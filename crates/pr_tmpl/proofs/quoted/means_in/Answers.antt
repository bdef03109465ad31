use Rattle.std.proofs.Common.{arith}
use Rattle.pr_tmpl.specs.private.Quotes.{means_of}
use Rattle.pr_tmpl.proofs.QuoteWays.{reached_more}
use Rattle.pr_tmpl.proofs.TextKept.{one_letter}
use Rattle.pr_tmpl.proofs.quoted.means_in.Goals as goal

pub loop-bytes-preserved-in_ok-push_letter : goal.loop-bytes-preserved-in_ok-push_letter
loop-bytes-preserved-in_ok-push_letter c = record {
  reaches = reached_more c.args.within c.args.text.now c.loop-bytes.rest.now c.in-Some.after.now c.loop-bytes.bytes.items (means_of c.in-Some.letter) c.push_letter.new.bytes.items c.loop-bytes.invariant.reaches (rw c.in-Some.is at c.in_ok-letter.ensures.read) c.in_ok-push_letter.ensures;
  shorter = let less = rw c.in-Some.is at c.in_ok-letter.ensures.shorter in omega (arith, c.loop-bytes.invariant.shorter, less);
  text = one_letter c.loop-bytes.bytes.items c.push_letter.new.bytes.items (means_of c.in-Some.letter) c.loop-bytes.rest.now c.in-Some.after.now c.in_ok-push_letter.ensures (rw c.in-Some.is at c.in_ok-letter.ensures.text) c.loop-bytes.invariant.text;
}

pub loop-bytes-preserved : goal.loop-bytes-preserved
loop-bytes-preserved c = record {
  reaches = reached_more c.args.within c.args.text.now c.loop-bytes.rest.now c.in-Some.after.now c.loop-bytes.bytes.items (means_of c.in-Some.letter) c.push_letter.new.bytes.items c.loop-bytes.invariant.reaches (rw c.in-Some.is at c.in_ok-letter.ensures.read) c.in_ok-push_letter.ensures;
  shorter = let less = rw c.in-Some.is at c.in_ok-letter.ensures.shorter in omega (arith, c.loop-bytes.invariant.shorter, less);
  text = one_letter c.loop-bytes.bytes.items c.push_letter.new.bytes.items (means_of c.in-Some.letter) c.loop-bytes.rest.now c.in-Some.after.now c.in_ok-push_letter.ensures (rw c.in-Some.is at c.in_ok-letter.ensures.text) c.loop-bytes.invariant.text;
}

pub unwrap-means-requires : goal.unwrap-means-requires
unwrap-means-requires c =
    let begins = rw c.in_default.is at c.in_ok-letter.ensures.text in
    let parts = begins c.loop-bytes.bytes.items c.loop-bytes.invariant.text in
    c.from_utf8.ensures.succeeds parts.0

pub returns-clause-text : goal.returns-clause-text
returns-clause-text c =
    let begins = rw c.in_default.is at c.in_ok-letter.ensures.text in
    let parts = begins c.loop-bytes.bytes.items c.loop-bytes.invariant.text in
    parts.1
