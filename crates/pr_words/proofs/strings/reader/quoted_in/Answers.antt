use Rattle.std.proofs.Common.{arith}
use Rattle.pr_words.specs.private.Reader.{bytes_of}
use Rattle.pr_words.proofs.StringReading.{more_pieces, all_pieces, no_quote}
use Rattle.pr_words.proofs.StringPublic.{exit}
use Rattle.pr_words.proofs.StringUtf8.{more_text, last_text}
use Rattle.pr_words.proofs.strings.reader.quoted_in.Goals as goal

pub returns-in_err-piece-clause-read : goal.returns-in_err-piece-clause-read
returns-in_err-piece-clause-read c =
    exit _ c.args.mark _ c.loop-bytes.rest.now c.loop-bytes.bytes.items _ c.in_err-piece.field-0.0 c.from_residual.ensures.1 c.loop-bytes.invariant.pieces c.in_err-piece.ensures.read

pub loop-bytes-preserved : goal.loop-bytes-preserved
loop-bytes-preserved c =
    let taken = rw c.in-Some.is at c.in_ok-piece.ensures.read in
    let kept = rw c.in-Some.is at c.in_ok-piece.ensures.text in
    let less = rw c.in-Some.is at c.in_ok-piece.ensures.shorter in
    record {
      pieces = more_pieces c.args.mark _ c.loop-bytes.rest.now c.in-Some.after.now c.loop-bytes.bytes.items (bytes_of c.in-Some.piece) c.push_piece.new.bytes.items c.loop-bytes.invariant.pieces taken
          c.in_ok-push_piece.ensures;
      text = more_text _ c.loop-bytes.bytes.items c.loop-bytes.rest.now (bytes_of c.in-Some.piece) c.in-Some.after.now c.push_piece.new.bytes.items c.loop-bytes.invariant.text kept c.in_ok-push_piece.ensures;
      shorter = omega (arith, less, c.loop-bytes.invariant.shorter);
    }

pub returns-in-Some-quote_in-clause-read : goal.returns-in-Some-quote_in-clause-read
returns-in-Some-quote_in-clause-read c =
    let none = rw c.in_default.is at c.in_ok-piece.ensures.read in
    all_pieces c.args.mark _ c.loop-bytes.rest.now _ c.loop-bytes.bytes.items c.loop-bytes.invariant.pieces none c.in-Some-quote_in.ensures.read

pub returns-clause-read : goal.returns-clause-read
returns-clause-read c =
    let none = rw c.in_default.is at c.in_ok-piece.ensures.read in
    no_quote c.args.mark _ c.loop-bytes.rest.now c.loop-bytes.bytes.items c.loop-bytes.invariant.pieces none c.in-None.ensures.read

pub returns-in-Some-quote_in-clause-text : goal.returns-in-Some-quote_in-clause-text
returns-in-Some-quote_in-clause-text c = last_text c.args.mark _ c.loop-bytes.bytes.items c.loop-bytes.rest.now _ c.loop-bytes.invariant.text c.in-Some-quote_in.ensures.read
