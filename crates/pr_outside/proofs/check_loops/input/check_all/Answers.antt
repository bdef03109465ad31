use Rattle.std.proofs.Common.{◌∙◌, [], Result, refl}
use Rattle.std.specs.Io.KnownBytes.{Appends}
use Rattle.pr_outside.specs.Ends.{AtInput, KnowsLength, no_row}
use Rattle.pr_outside.specs.Outside.{Outside}
use Rattle.pr_outside.specs.Status.{IsTooLong}
use Rattle.pr_outside.specs.declared.status.status.Stop.{Stop}
use Rattle.pr_outside.specs.declared.status.status.Stop.TheVariants.{Memory}
use Rattle.pr_outside.specs.declared.check_loops.verdict.Verdict.{Verdict}
use Rattle.pr_outside.proofs.Ended.{ends_memory, ends_more, ends_on, known_stop, written_by}
use Rattle.pr_outside.proofs.check_loops.input.check_all.Goals as goal

pub returns-in_err-bytes-clause-ends : goal.returns-in_err-bytes-clause-ends
returns-in_err-bytes-clause-ends g c =
    let input = g.I.Source.means in
    let out = g.O.Sink.means in
    λ others.
    let read = c.in_err-bytes.ensures.ends (record others { out = out c.args.out.now }) in
    let a : Outside = record others { input = input c.args.input.now; out = out c.args.out.now } in
    ends_on Verdict _ no_row (IsTooLong (input c.args.input.now) (input c.read_all.new.input)) a a (record others { input = input c.read_all.new.input; out = out c.args.out.now })
    c.from_residual.result c.in_err-bytes.field-0.0 c.from_residual.ensures.1 (refl, refl, refl, refl) read.input (λ e. e) (λ e. e) read

pub returns-in_err-verdict-clause-ends : goal.returns-in_err-verdict-clause-ends
returns-in_err-verdict-clause-ends g c =
    let input = g.I.Source.means in
    let out = g.O.Sink.means in
    λ others.
    let read = c.in_ok-bytes.ensures.ends (record others { out = out c.args.out.now }) in
    let b : Outside = record others { input = input c.read_all.new.input; out = out c.args.out.now } in
    ends_on Verdict Verdict no_row (IsTooLong (input c.args.input.now) (input c.read_all.new.input)) (record others { input = input c.args.input.now; out = out c.args.out.now }) b b
    c.from_residual-in_err-verdict.result Memory c.from_residual-in_err-verdict.ensures.1 read.cause read.input read.files read.out
    (ends_memory Verdict no_row (IsTooLong (input c.args.input.now) (input c.read_all.new.input)) b)

pub returns-in_err-send-clause-silent : goal.returns-in_err-send-clause-silent
returns-in_err-send-clause-silent g c =
    let out = g.O.Sink.means in
    written_by _ Verdict (λ (r : Result Verdict Stop). AtInput r (Appends (out c.args.out.now).taken (out c.send.new.out).taken [])) (out c.args.out.now) (out c.send.new.out)
    c.from_residual-in_err-send.result c.in_err-send.field-0.0 c.from_residual-in_err-send.ensures.1 c.in_err-send.ensures.ends tt tt

pub returns-in_err-send-clause-long : goal.returns-in_err-send-clause-long
returns-in_err-send-clause-long g c =
    let out = g.O.Sink.means in
    written_by _ Verdict (λ (r : Result Verdict Stop). KnowsLength (g.I.Source.means c.args.input.now) (g.I.Source.means c.read_all.new.input) r) (out c.args.out.now) (out c.send.new.out)
    c.from_residual-in_err-send.result c.in_err-send.field-0.0 c.from_residual-in_err-send.ensures.1 c.in_err-send.ensures.ends tt tt

pub returns-in_err-send-clause-ends : goal.returns-in_err-send-clause-ends
returns-in_err-send-clause-ends g c =
    let input = g.I.Source.means in
    let out = g.O.Sink.means in
    λ others.
    let long = IsTooLong (input c.args.input.now) (input c.read_all.new.input) in
    let read = c.in_ok-bytes.ensures.ends (record others { out = out c.args.out.now }) in
    let sent = c.in_err-send.ensures.ends (record others { input = input c.read_all.new.input }) in
    ends_on Verdict _ no_row long (record others { input = input c.args.input.now; out = out c.args.out.now })
    (record others { input = input c.read_all.new.input; out = out c.args.out.now })
    (record others { input = input c.read_all.new.input; out = out c.send.new.out }) c.from_residual-in_err-send.result c.in_err-send.field-0.0
    c.from_residual-in_err-send.ensures.1 read.cause read.input read.files read.out
    (ends_more _ long (record others { input = input c.read_all.new.input; out = out c.args.out.now })
    (record others { input = input c.read_all.new.input; out = out c.send.new.out }) c.in_err-send.field-0.0 sent)

pub returns-clause-ends : goal.returns-clause-ends
returns-clause-ends g c =
    let input = g.I.Source.means in
    let out = g.O.Sink.means in
    λ others.
    let read = c.in_ok-bytes.ensures.ends (record others { out = out c.args.out.now }) in
    let sent = c.in_ok-send.ensures.ends (record others { input = input c.read_all.new.input }) in
    record {
      cause = (sent.cause.0 ∙ read.cause.0, sent.cause.1 ∙ read.cause.1, sent.cause.2 ∙ read.cause.2, sent.cause.3 ∙ read.cause.3);
      input = read.input;
      files = λ e. read.files e;
      out = λ e. sent.out e;
    }

pub returns-in_err-bytes-clause-long : goal.returns-in_err-bytes-clause-long
returns-in_err-bytes-clause-long g c =
    known_stop _ Verdict (g.I.Source.means c.args.input.now) (g.I.Source.means c.args.input.now) (g.I.Source.means c.read_all.new.input) c.from_residual.result
    c.in_err-bytes.field-0.0 c.from_residual.ensures.1 c.in_err-bytes.ensures.ends
