use Rattle.std.proofs.Common.{◌≡◌, ◌∙◌, ℕ, List, Bool, string_bytes, Result, ◌++◌, refl, ap, subst, length, take, arith}
use Rattle.std.specs.Io.KnownBytes.{Appends}
use Rattle.pr_outside.specs.Asks.{AsksBy}
use Rattle.pr_outside.specs.Ends.{no_row}
use Rattle.pr_outside.specs.Outside.{Outside}
use Rattle.pr_outside.specs.declared.status.status.Stop.{Stop}
use Rattle.pr_outside.specs.private.FileStops.{IsFileFront}
use Rattle.pr_outside.proofs.Ended.{ends_on, in_time_same, written_by}
use Rattle.pr_outside.proofs.check_loops.files.check_file.Goals as goal

pub returns-in_err-refused-clause-ends : goal.returns-in_err-refused-clause-ends
returns-in_err-refused-clause-ends g c =
    let files = g.F.Files.means in
    let out = g.O.Sink.means in
    λ others.
    let a : Outside = record others { files = files c.args.files.now; out = out c.args.out.now } in
    ends_on Bool Bool no_row ⊥ a a (record others { files = files c.check.new.files; out = out c.args.out.now }) c.from_residual.result c.in_err-refused.field-0.0
    c.from_residual.ensures.1 (refl, refl, refl, refl) (in_time_same others.input.course) (λ e. e) (λ e. e)
    (c.in_err-refused.ensures.ends (record others { out = out c.args.out.now }))

pub returns-in_err-send-clause-front : goal.returns-in_err-send-clause-front
returns-in_err-send-clause-front g c =
    let out = g.O.Sink.means in
    λ held asks.
    let told = g.C.FileCheck.told held (string_bytes c.args.name.now) in
    let text : c.deref.result.now ≡ told.text =
    c.deref.ensures.value ∙ c.in_ok-refused.ensures.text held asks ∙ ap (λ (l : List ℕ). l ++ told.text) c.new-text.ensures.items in
    let front = c.in_err-send.ensures.front in
    let part = subst (λ (l : List ℕ). Appends (out c.args.out.now).taken (out c.send.new.out).taken (take front.0 l)) text front.1 in
    written_by _ Bool (λ (r : Result Bool Stop). IsFileFront told (out c.args.out.now).taken (out c.send.new.out).taken r) (out c.args.out.now) (out c.send.new.out)
    c.from_residual-in_err-send.result c.in_err-send.field-0.0 c.from_residual-in_err-send.ensures.1 c.in_err-send.ensures.ends (front.0, part) (front.0, part)

pub returns-in_err-send-clause-asked : goal.returns-in_err-send-clause-asked
returns-in_err-send-clause-asked g c =
    let files = g.F.Files.means in
    let out = g.O.Sink.means in
    λ held asks.
    let told = g.C.FileCheck.told held (string_bytes c.args.name.now) in
    let asked = c.in_ok-refused.ensures.asked held asks in
    written_by _ Bool (λ (r : Result Bool Stop). AsksBy (files c.args.files.now).calls (files c.check.new.files).calls (length told.asks) r) (out c.args.out.now)
    (out c.send.new.out) c.from_residual-in_err-send.result c.in_err-send.field-0.0 c.from_residual-in_err-send.ensures.1 c.in_err-send.ensures.ends asked
    (length told.asks, asked, omega arith)

pub returns-in_err-send-clause-ends : goal.returns-in_err-send-clause-ends
returns-in_err-send-clause-ends g c =
    let files = g.F.Files.means in
    let out = g.O.Sink.means in
    λ others.
    let first = c.in_ok-refused.ensures.ends (record others { out = out c.args.out.now }) in
    ends_on Bool _ no_row ⊥ (record others { files = files c.args.files.now; out = out c.args.out.now })
    (record others { files = files c.check.new.files; out = out c.args.out.now })
    (record others { files = files c.check.new.files; out = out c.send.new.out }) c.from_residual-in_err-send.result c.in_err-send.field-0.0
    c.from_residual-in_err-send.ensures.1 first.cause (in_time_same others.input.course) first.files (λ e. e)
    (c.in_err-send.ensures.ends (record others { files = files c.check.new.files }))

pub returns-clause-ends : goal.returns-clause-ends
returns-clause-ends g c =
    let files = g.F.Files.means in
    let out = g.O.Sink.means in
    λ others.
    let first = c.in_ok-refused.ensures.ends (record others { out = out c.args.out.now }) in
    let last = c.in_ok-send.ensures.ends (record others { files = files c.check.new.files }) in
    record {
      cause = (last.cause.0 ∙ first.cause.0, last.cause.1 ∙ first.cause.1, last.cause.2 ∙ first.cause.2, last.cause.3 ∙ first.cause.3);
      input = first.input;
      files = λ e. first.files e;
      out = λ e. last.out e;
    }
